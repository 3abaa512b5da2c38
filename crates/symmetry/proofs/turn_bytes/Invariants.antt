-- The invariant: the rows before the k-th eight are exchanged.
use Prim.Native.Nat.{◌+◌, ◌*◌}
use Rattle.symmetry.specs.Symmetry.{Exchanging}
use Rattle.symmetry.proofs.turn_bytes.Given as goal

abbrev pub invariant-loop-k : goal.invariant-loop-k
invariant-loop-k l = Exchanging 8 64 3 l.from l.to l.a l.initial.b (8 * l.k + l.from) l.b
