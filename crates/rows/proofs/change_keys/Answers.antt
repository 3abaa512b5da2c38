-- The keys of one end, then those of the other.
use Rattle.rows.specs.KeyLaws.{keys_changed}
use Rattle.rows.proofs.change_keys.Goals as goal

pub returns : goal.returns
returns c =
    keys_changed _ _ _ _ _ _ c.requires.2 c.move_keys.ensures c.move_keys-2.ensures
