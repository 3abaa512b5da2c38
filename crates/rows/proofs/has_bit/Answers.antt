-- The bit is moved to the lowest place and masked.
use Rattle.rows.specs.BitLaws.{bit_tested}
use Rattle.rows.proofs.has_bit.Goals as goal

pub returns : goal.returns
returns c = bit_tested _ _ c.bit_of.ensures
