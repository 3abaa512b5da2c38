-- The members below p are renamed, those from p on are as they were; or all are done.
use Rattle.groups.proofs.WalkLaws.{Walking, left}
use Rattle.groups.proofs.rename.Given as goal

abbrev pub invariant-loop-member : goal.invariant-loop-member
invariant-loop-member l = Walking l.n l.x l.y l.initial.nodes l.nodes l.member

abbrev pub decreases-loop-member : goal.decreases-loop-member
decreases-loop-member l = left l.n l.member
