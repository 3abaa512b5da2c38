-- The invariant: the strips before i are even.
use Prim.Native.Nat.{ℕ, ◌<◌}
use Rattle.symmetry.specs.Symmetry.{Even}
use Rattle.symmetry.proofs.are_strips_even.Given as goal

abbrev pub invariant-loop-i : goal.invariant-loop-i
invariant-loop-i l = ((k : ℕ) → k < l.i → Even l.edges.n l.edges.words.now k k l.to)
