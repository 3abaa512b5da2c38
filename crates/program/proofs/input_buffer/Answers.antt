-- `program::input_buffer` meets its contract.
use Prim.Native.Nat.{ℕ}
use native.Mathlib.Omega.{arith}
use lib.ListN.{length, length-replicate, replicate}
use Rattle.program.specs.RunLaws.{front_tells}
use Rattle.program.proofs.input_buffer.Goals as goal

pub returns : goal.returns
returns c = record { size = omega (arith, length-replicate {A = ℕ} 65537 0); enough = λ input. front_tells (length (replicate {A = ℕ} 65537 0)) input (omega (arith, length-replicate {A = ℕ} 65537 0)) }
