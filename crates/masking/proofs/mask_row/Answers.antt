-- The invariant: the first w words of the row are masked.
use native.Mathlib.Omega.{arith}
use Rattle.masking.specs.MaskLaws.{row_cut}
use Rattle.masking.proofs.mask_row.Goals as goal

pub loop-w-preserved : goal.loop-w-preserved
loop-w-preserved c = row_cut _ _ c.loop-w.invariant (omega (arith, c.requires.2))
