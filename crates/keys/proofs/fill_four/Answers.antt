-- The invariant: the entries before 16 * b + v are there.
use Rattle.std.proofs.Common.{◌+◌, ◌*◌, arith}
use Rattle.rows.specs.KeyLaws.{cube-le}
use Rattle.keys.specs.FourLaws.{each_of_four, fours_more}
use Rattle.keys.proofs.fill_four.Goals as goal

pub loop-v-preserved : goal.loop-v-preserved
loop-v-preserved c =
    (fours_more c.loop-v.invariant c.requires.1 c.loop-v-test.true c.cube_of.ensures c.cube_of-2.ensures c.cube_of-3.ensures c.cube_of-4.ensures c.chosen_of.ensures)

pub chosen_of-requires : goal.chosen_of-requires
chosen_of-requires c =
    let p = 4 * (16 * c.args.w + c.args.b) in
    each_of_four (omega (arith, cube-le (p + 1) (omega arith))) (omega (arith, cube-le (p + 1 + 1) (omega arith))) (omega (arith, cube-le (p + 2 + 1) (omega arith))) (omega (arith, cube-le (p + 3 + 1) (omega arith)))
