-- The invariant: the first p rows are masked.
use Rattle.masking.specs.MaskLaws.{Masking}
use Rattle.masking.proofs.mask_edges.Given as goal

abbrev pub invariant-loop-p : goal.invariant-loop-p
invariant-loop-p l = Masking l.edges l.set l.hidden l.p l.initial.masked l.masked
