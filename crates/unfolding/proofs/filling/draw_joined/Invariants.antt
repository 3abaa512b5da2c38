-- `unfolding::filling::draw_joined` meets its contract.
use Rattle.drawing.specs.Drawing.{Adding}
use Rattle.unfolding.specs.Filling.{joined_to, rest_from, word_of}
use Rattle.unfolding.proofs.filling.draw_joined.Given as goal

abbrev pub invariant-loop-w : goal.invariant-loop-w
invariant-loop-w l = Adding (joined_to l.joined l.l l.set) (rest_from word_of (joined_to l.joined l.l l.set) l.w) l.initial.edges l.edges
