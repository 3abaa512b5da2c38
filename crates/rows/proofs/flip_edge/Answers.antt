-- The word with one bit flipped is stored where the bit stands.
use Rattle.rows.specs.BitLaws.{flipped_at}
use Rattle.rows.proofs.flip_edge.Goals as goal

pub returns : goal.returns
returns c = flipped_at _ _ _ _ _ c.requires.1 c.requires.2 c.place-i.ensures c.mask.ensures
