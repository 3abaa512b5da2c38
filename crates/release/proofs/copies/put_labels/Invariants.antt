-- `release::copies::put_labels` meets its contract.
use Prim.Native.Nat.{◌-◌, ◌≤◌}
use lib.ListN.{get_or}
use Rattle.rings.specs.Steps.{LabelsPut}
use Rattle.release.specs.Fill.{class_for, mark_for}
use Rattle.release.proofs.copies.put_labels.Given as goal

abbrev pub invariant-loop-p : goal.invariant-loop-p
invariant-loop-p l = LabelsPut (λ q. mark_for (get_or l.least q 0)) (λ q. class_for l.classes (get_or l.least q 0)) l.p l.initial.nodes l.nodes
