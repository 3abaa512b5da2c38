-- The mask of a node is 2 to the power of its bit.
use Rattle.rows.specs.BitLaws.{mask_at}
use Rattle.rows.proofs.mask.Goals as goal

pub returns : goal.returns
returns c = mask_at _ _ c.bit_of.ensures
