-- The names of the places before i are new.
use Rattle.std.proofs.Common.{◌≡◌, true, ℕ, ◌<◌}
use Rattle.places.specs.Places.{new_at}
use Rattle.places.proofs.Store.are_apart.Given as goal

abbrev pub invariant-loop-i : goal.invariant-loop-i
invariant-loop-i l = (k : ℕ) → k < l.i → new_at l.self.n l.self.words.now k ≡ true
