-- `unfolding::filling::other_members` meets its contract.
use Rattle.drawing.specs.Drawing.{Adding}
use Rattle.unfolding.specs.Filling.{column, other_bit, rest_from}
use Rattle.unfolding.proofs.filling.other_members.Given as goal

abbrev pub invariant-loop-p : goal.invariant-loop-p
invariant-loop-p l = Adding (other_bit l.n l.least) (rest_from column (other_bit l.n l.least) l.p) l.initial.members l.members
