-- `drawing::set_bit` meets its contract.
use Rattle.drawing.specs.BitLaws.{bit-set}
use Rattle.drawing.proofs.set_bit.Goals as goal

pub returns : goal.returns
returns c = bit-set _ _ _ _ _ c.requires.1 c.requires.2 c.place-i.ensures c.mask.ensures
