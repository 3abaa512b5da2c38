-- Zero has no bits.
use native.Mathlib.Omega.{arith}
use lib.Count.{ones-le}
use Rattle.writer.specs.CountLaws.{none_added}
use Rattle.writer.proofs.add_ones.Goals as goal

pub returns-then-x-eq0 : goal.returns-then-x-eq0
returns-then-x-eq0 c = none_added _ c.if-x-eq0.true

pub overflow_cast-result : goal.overflow_cast-result
overflow_cast-result c = let k = ones-le 64 c.args.x (omega (arith, c.ranges.x)) in omega (arith, k)

pub overflow_add-result : goal.overflow_add-result
overflow_add-result c = let k = ones-le 64 c.args.x (omega (arith, c.ranges.x)) in omega (arith, k)
