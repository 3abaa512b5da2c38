use Rattle.std.proofs.Common.{length, ap, arith}
use Rattle.bits.specs.BitsLaws.{bits_lowest, bits_none}
use Rattle.bits.proofs.BitsIterator.next.Goals as goal

pub returns-then-x-eq0-clause-steps : goal.returns-then-x-eq0-clause-steps
returns-then-x-eq0-clause-steps c = (bits_none _ (omega arith), bits_none _ (omega arith))

pub returns-clause-steps : goal.returns-clause-steps
returns-clause-steps c = bits_lowest _ (omega arith) c.if-x-eq0.false

pub returns-clause-goes : goal.returns-clause-goes
returns-clause-goes c = record {
  on = λ _. (tt, tt, omega (arith, ap length (bits_lowest _ (omega arith) c.if-x-eq0.false)));
  keeps = tt;
  rests = λ _. tt;
}
