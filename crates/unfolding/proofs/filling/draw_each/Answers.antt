-- `unfolding::filling::draw_each` meets its contract.
use Rattle.std.proofs.Common.{arith}
use Rattle.buffers.specs.WordBitsLaws.{cleared_less}
use Rattle.unfolding.specs.FillingLaws.{each_done, each_place, each_rest, each_room, each_step}
use Rattle.unfolding.proofs.filling.draw_each.Goals as goal

pub draw_row-requires : goal.draw_row-requires
draw_row-requires c =
    let i = c.loop-x.invariant in
    let pre = c.requires in
    (each_place _ _ i.0 c.loop-x-test.true c.lowest.ensures pre.0, each_room _ _ i.0 c.loop-x-test.true c.lowest.ensures i.1 i.2.size, pre.2)

pub loop-x-preserved : goal.loop-x-preserved
loop-x-preserved c =
    let i = c.loop-x.invariant in
    (omega (arith, cleared_less _ i.0 c.loop-x-test.true), each_rest _ _ i.0 c.loop-x-test.true c.lowest.ensures i.1, each_step _ _ i.0 c.loop-x-test.true c.lowest.ensures _ i.2 c.draw_row.ensures)

pub returns : goal.returns
returns c = each_done _ _ _ c.loop-x.invariant.2 c.loop-x-test.false
