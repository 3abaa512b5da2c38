-- `count_row` meets its contract.
use Prim.Native.Nat.{◌<◌}
use native.Mathlib.Omega.{arith}
use lib.Count.{ones-le}
use lib.ListN.{get_or}
use Rattle.buffers.specs.ScanLaws.{counting_done}
use Rattle.queries.proofs.QueryLaws.{row_counted}
use Rattle.queries.proofs.count_row.Goals as goal

pub loop-word-preserved : goal.loop-word-preserved
loop-word-preserved c =
    let f = (c.type_inv.row c.loop-word.word-index).fits in
    let k = ones-le 64 (get_or c.args.row.now c.loop-word.word-index 0) f in
    let t : c.loop-word.word-index < 8 = omega (arith, c.loop-word-test.true, c.requires) in
    (omega arith, omega arith, row_counted _ _ t c.loop-word.invariant.2 f)

pub returns : goal.returns
returns c = counting_done c.loop-word.invariant.2 (omega (arith, c.loop-word-test.false, c.requires))
