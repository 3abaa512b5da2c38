-- The closed key less the own cube, or the open key.
use Rattle.std.proofs.Common.{◌*◌, ◌+◌, arith}
use Rattle.keys.specs.TwinKeyLaws.{twin_closed, twin_open}
use Rattle.keys.proofs.twin_key.Goals as goal

pub returns-then-closed : goal.returns-then-closed
returns-then-closed c = twin_closed _ _ _ _ c.if-closed.true c.cube_of.ensures (omega arith) (omega (arith, c.type_inv.keys (2 * c.args.l + 1), c.cube_of.type_inv))

pub returns : goal.returns
returns c = twin_open _ _ _ _ c.if-closed.false
