-- `unfolding::filling::draw_members` meets its contract.
use Rattle.drawing.specs.Drawing.{Adding}
use Rattle.unfolding.specs.Filling.{drawn_bit, first_member, rest_from}
use Rattle.unfolding.proofs.filling.draw_members.Given as goal

abbrev pub invariant-loop-l : goal.invariant-loop-l
invariant-loop-l g l = Adding (drawn_bit l.n l.least l.kinds l.joined) (rest_from (first_member l.least) (drawn_bit l.n l.least l.kinds l.joined) l.l) l.initial.edges l.edges
