-- `unfolding::filling::draw_each` meets its contract.
use Prim.Native.Nat.{◌^◌, ◌<◌}
use lib.ListN.{length}
use Rattle.drawing.specs.Drawing.{Adding}
use Rattle.unfolding.specs.Filling.{Room, each_to}
use Rattle.unfolding.proofs.filling.draw_each.Given as goal

abbrev pub invariant-loop-x : goal.invariant-loop-x
invariant-loop-x l = (l.x < 2 ^ 64) × Room (length l.initial.edges) l.w l.x × Adding (each_to l.word l.w l.set) (each_to l.x l.w l.set) l.initial.edges l.edges

abbrev pub decreases-loop-x : goal.decreases-loop-x
decreases-loop-x l = l.x
