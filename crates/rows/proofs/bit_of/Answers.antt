-- A mask of six bits.
use Rattle.std.proofs.Common.{arith}
use Rattle.rows.specs.BitLaws.{shift_and_mask}
use Rattle.rows.proofs.bit_of.Goals as goal

pub returns : goal.returns
returns c = omega (arith, (shift_and_mask c.args.q).1)
