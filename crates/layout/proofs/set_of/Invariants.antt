-- The set holds the nodes below p that pass.
use Rattle.std.proofs.Common.{◌≡◌, Bool, ℕ, ◌<◌}
use Rattle.layout.specs.Words.{Marking}
use Rattle.layout.proofs.set_of.Given as goal

abbrev pub invariant-loop-p : goal.invariant-loop-p
invariant-loop-p g l = (P : ℕ → Bool) → ((p : ℕ) (b : Bool) → p < l.n → goal.F-post g l.passes p b → b ≡ P p) → Marking P l.set l.p
