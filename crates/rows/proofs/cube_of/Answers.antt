-- A cube of a number to 512 fits 32 bits.
use Rattle.std.proofs.Common.{◌+◌, arith}
use Rattle.rows.specs.KeyLaws.{cube-le, square_le}
use Rattle.rows.proofs.cube_of.Goals as goal

pub overflow_mul-result : goal.overflow_mul-result
overflow_mul-result c = omega (arith, square_le (c.args.q + 1) (omega arith))

pub overflow_mul-result-2 : goal.overflow_mul-result-2
overflow_mul-result-2 c = omega (arith, cube-le (c.args.q + 1) (omega arith))
