-- One law for each branch.
use Rattle.masking.specs.MaskLaws.{row_hidden, row-shown}
use Rattle.masking.proofs.mask_node.Goals as goal

pub returns-then-is_visible : goal.returns-then-is_visible
returns-then-is_visible c = row-shown _ _ _ _ _ c.is_visible.ensures c.if-is_visible.true c.mask_row.ensures

pub returns : goal.returns
returns c = row_hidden _ _ _ _ _ c.is_visible.ensures c.if-is_visible.false c.mask_row-2.ensures
