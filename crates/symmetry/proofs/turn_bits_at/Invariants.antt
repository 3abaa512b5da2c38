-- The invariant: the rows before word t are exchanged.
use mathlib.Core.Path.{◌≡◌}
use mathlib.Core.List.{List}
use Prim.Native.Nat.{ℕ, ◌+◌, ◌*◌}
use lib.ListN.{length}
use Rattle.symmetry.specs.Symmetry.{Exchanging}
use Rattle.symmetry.proofs.turn_bits_at.Given as goal

abbrev pub invariant-loop-t : goal.invariant-loop-t
invariant-loop-t l = (length l.b ≡ 512) × ((prior : List ℕ) → Exchanging 64 8 0 l.from l.to prior prior (64 * l.k + l.from) l.initial.b → Exchanging 64 8 0 l.from l.to prior prior l.t l.b)
