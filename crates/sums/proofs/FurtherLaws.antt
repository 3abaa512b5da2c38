-- Further laws of these definitions, which no proof here cites.
use Rattle.std.specs.Prelude.{◌≡◌, ℕ, List}
use Rattle.std.proofs.Common.{subst}
use Rattle.sums.specs.Sums.{Cubed}

pub cubed_at : {m k : ℕ} {least sums : List ℕ} → Cubed m least sums → m ≡ k → Cubed k least sums
cubed_at {least = least} {sums = sums} h e = subst (λ i. Cubed i least sums) e h
