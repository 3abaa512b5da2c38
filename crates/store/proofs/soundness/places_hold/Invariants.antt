-- The places before i hold.
use Rattle.std.proofs.Common.{◌≡◌, true, ℕ, ◌<◌}
use Rattle.model.specs.Store.{words_at}
use Rattle.store.specs.Judging.{place_holds}
use Rattle.store.proofs.soundness.places_hold.Given as goal

abbrev pub invariant-loop-i : goal.invariant-loop-i
invariant-loop-i l = (k : ℕ) → k < l.i → place_holds l.store.n (words_at l.store.n l.store.words.now k) ≡ true
