-- A word has at most 64 places.
use Rattle.std.proofs.Common.{arith}
use lib.Count.{trailing_le}
use Rattle.rows.proofs.lowest.Goals as goal

pub overflow_cast-result : goal.overflow_cast-result
overflow_cast-result c = omega (arith, trailing_le 64 c.args.x)
