-- `queries::write_row` meets its contract.
use Prim.Native.Nat.{◌<◌}
use native.Mathlib.Omega.{arith}
use Rattle.buffers.specs.ScanLaws.{scan_end}
use Rattle.buffers.specs.WroteLaws.{left_done, left_start}
use Rattle.queries.proofs.QueryLaws.{pairs_none, row-reaches, row_room, row_written}
use Rattle.queries.proofs.write_row.Goals as goal

pub loop-w-init : goal.loop-w-init
loop-w-init c = (omega arith, c.requires.1, left_start _ _ _)

pub write_word-to-requires : goal.write_word-to-requires
write_word-to-requires c =
    let t : c.loop-w.w < 8 = omega (arith, c.loop-w-test.true, c.requires.0) in
    (omega arith, (row-reaches _ _ t c.loop-w.invariant.1).0, row_room _ _ t _ c.loop-w.invariant.2 c.requires.2)

pub loop-w-preserved : goal.loop-w-preserved
loop-w-preserved c =
    let t : c.loop-w.w < 8 = omega (arith, c.loop-w-test.true, c.requires.0) in
    (omega arith, (row-reaches _ _ t c.loop-w.invariant.1).1, row_written _ _ t _ c.loop-w.invariant.2 c.write_word-to.ensures)

pub shape_of-out : goal.shape_of-out
shape_of-out c = c.loop-w.invariant.2.size

pub returns : goal.returns
returns c = (left_done c.loop-w.invariant.2 (pairs_none _ _ (scan_end _ _ _ (omega arith)))).bytes
