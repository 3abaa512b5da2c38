-- `distances::reach_word` meets its contract.
use Prim.Native.Nat.{◌^◌, ◌<◌}
use lib.ListN.{length}
use Rattle.drawing.specs.Drawing.{Adding}
use Rattle.unfolding.specs.Filling.{Room}
use Rattle.distances.specs.Distances.{from_any, in_word}
use Rattle.distances.proofs.reach_word.Given as goal

abbrev pub invariant-loop-x : goal.invariant-loop-x
invariant-loop-x l = (l.x < 2 ^ 64) × Room (length l.joined) l.w l.x × Adding (from_any (in_word l.word l.w) l.joined) (from_any (in_word l.x l.w) l.joined) l.initial.next l.next

abbrev pub decreases-loop-x : goal.decreases-loop-x
decreases-loop-x l = l.x
