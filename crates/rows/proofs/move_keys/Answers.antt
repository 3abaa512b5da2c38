-- Two stores, the open key and the closed one.
use Rattle.std.proofs.Common.{refl, arith, length-set}
use Rattle.rows.specs.KeyLaws.{keys_moved}
use Rattle.rows.proofs.move_keys.Goals as goal

pub bounds-keys-i-3 : goal.bounds-keys-i-3
bounds-keys-i-3 c = simp length-set (omega arith)

pub bounds-keys-i-4 : goal.bounds-keys-i-4
bounds-keys-i-4 c = simp length-set (omega arith)

pub returns : goal.returns
returns c =
    keys_moved _ _ _ c.args.keys.now _ _ _ _ refl (omega arith) c.cube_of-x.ensures c.moved_key.ensures c.moved_key-2.ensures
