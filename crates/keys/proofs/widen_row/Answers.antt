-- The invariant: the entries before 256 * i + 16 * h + l are there.
use Rattle.std.proofs.Common.{◌+◌, ◌*◌, arith}
use Rattle.keys.specs.FourLaws.{four_le, widened_more}
use Rattle.keys.proofs.widen_row.Goals as goal

pub overflow_add-sums-in-loop-l : goal.overflow_add-sums-in-loop-l
overflow_add-sums-in-loop-l c =
    let i = c.args.i in
    omega (arith, four_le (32 * i + c.loop-l.l) c.requires.3 c.requires.0 (omega arith), four_le (32 * i + 16 + c.args.h) c.requires.3 c.requires.0 (omega arith))

pub loop-l-preserved : goal.loop-l-preserved
loop-l-preserved c =
    let pre = c.requires in
    (widened_more c.loop-l.invariant pre.3 pre.1 pre.2 c.loop-l-test.true)
