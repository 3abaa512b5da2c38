-- None of the places before i passes.
use Rattle.std.proofs.Common.{◌≡◌, Bool, ℕ, ◌<◌}
use Rattle.model.specs.Store.{max_states}
use Rattle.search.specs.Search.{Skipped}
use Rattle.places.proofs.first_place.Given as goal

abbrev pub invariant-loop-i : goal.invariant-loop-i
invariant-loop-i g l = (P : ℕ → Bool) → ((i : ℕ) (b : Bool) → i < max_states → goal.F-post g l.passes i b → b ≡ P i) → Skipped P l.from max_states l.i
