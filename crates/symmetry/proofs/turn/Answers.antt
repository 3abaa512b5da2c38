-- Bytes, then bits.
use native.Mathlib.Omega.{arith}
use Rattle.symmetry.specs.StripLaws.{rows_turned}
use Rattle.symmetry.proofs.turn.Goals as goal

pub returns : goal.returns
returns c = rows_turned c.turn_bytes.ensures c.turn_bits.ensures (omega arith) (omega arith) (omega arith)
