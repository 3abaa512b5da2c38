-- A shift by six.
use Rattle.std.proofs.Common.{arith}
use Rattle.rows.specs.BitLaws.{shift_and_mask}
use Rattle.rows.proofs.word_of.Goals as goal

pub returns : goal.returns
returns c = omega (arith, (shift_and_mask c.args.q).0)
