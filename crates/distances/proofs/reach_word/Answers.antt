-- `distances::reach_word` meets its contract.
use Rattle.std.proofs.Common.{refl, arith}
use Rattle.buffers.specs.WordBitsLaws.{cleared_less}
use Rattle.unfolding.specs.FillingLaws.{each_place, each_rest, each_room}
use Rattle.distances.specs.SetLaws.{reach_done, reach_next}
use Rattle.distances.proofs.reach_word.Goals as goal

pub slice_bounds-draw_row-end : goal.slice_bounds-draw_row-end
slice_bounds-draw_row-end c =
    let i = c.loop-x.invariant in
    omega (arith, each_place _ _ i.0 c.loop-x-test.true c.lowest.ensures c.requires.0, each_room _ _ i.0 c.loop-x-test.true c.lowest.ensures i.1 refl)

pub loop-x-preserved : goal.loop-x-preserved
loop-x-preserved c =
    let i = c.loop-x.invariant in
    (omega (arith, cleared_less _ i.0 c.loop-x-test.true), each_rest _ _ i.0 c.loop-x-test.true c.lowest.ensures i.1, reach_next _ _ i.0 c.loop-x-test.true c.lowest.ensures _ (each_place _ _ i.0 c.loop-x-test.true c.lowest.ensures c.requires.0) i.2 c.draw_row.ensures)

pub returns : goal.returns
returns c = reach_done _ _ _ c.loop-x.invariant.2 c.loop-x-test.false
