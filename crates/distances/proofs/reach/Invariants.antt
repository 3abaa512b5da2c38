-- `distances::reach` meets its contract.
use Rattle.drawing.specs.Drawing.{Added}
use Rattle.distances.specs.Distances.{from_any}
use Rattle.distances.specs.SetLaws.{to_word}
use Rattle.distances.proofs.reach.Given as goal

abbrev pub invariant-loop-w : goal.invariant-loop-w
invariant-loop-w l = Added (from_any (to_word l.set l.w) l.joined) l.initial.next l.next
