-- The invariant: the nodes below p stand in rings, and the labels are kept.
use Rattle.rings.specs.Steps.{LabelsKept, Rings}
use Rattle.groups.proofs.build.Given as goal

abbrev pub invariant-loop-p : goal.invariant-loop-p
invariant-loop-p l = Rings l.p l.least l.nodes × LabelsKept l.initial.nodes l.nodes
