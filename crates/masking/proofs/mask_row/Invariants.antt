-- The invariant: the first w words of the row are masked.
use Rattle.masking.specs.Masking.{RowPut, cut_word}
use Rattle.masking.proofs.mask_row.Given as goal

abbrev pub invariant-loop-w : goal.invariant-loop-w
invariant-loop-w l = RowPut l.p l.w (cut_word l.edges l.set l.p) l.initial.masked l.masked
