-- The invariant: the rows before the k-th eight are exchanged.
use Prim.Native.Nat.{◌+◌, ◌*◌}
use Rattle.symmetry.specs.Symmetry.{Exchanging}
use Rattle.symmetry.proofs.turn_bits.Given as goal

abbrev pub invariant-loop-k : goal.invariant-loop-k
invariant-loop-k l = Exchanging 64 8 0 l.from l.to l.initial.b l.initial.b (64 * l.k + l.from) l.b
