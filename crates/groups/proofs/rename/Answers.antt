-- One member more is renamed.
use Rattle.groups.proofs.WalkLaws.{walk_on}
use Rattle.groups.proofs.rename.Goals as goal

pub loop-member-preserved : goal.loop-member-preserved
loop-member-preserved c = walk_on c.requires.0 (rw c.in-Some.is at c.loop-member.invariant) c.store.ensures _ c.next_greater-member.ensures
