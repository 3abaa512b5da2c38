-- A list filled from the front.
use Rattle.std.specs.Prelude.{◌≡◌, List, ℕ, ◌+◌, ◌<◌, length, get_or, set}
use Rattle.std.proofs.Common.{sym, ◌∙◌, subst, arith, length-set, get_or-set_same, get_or-set_other}
use Rattle.std.proofs.Math.Decide.{ℕ_discrete}

-- a stored number keeps the others
module _ (s : List ℕ) (m x : ℕ) (fits : m < length s) where
  pub stored-size : {l : ℕ} → length s ≡ l → length (set s m x) ≡ l
  stored-size e = length-set s m x ∙ e

  pub stored : (P : ℕ → ℕ → Type 0) → ((r : ℕ) → r < m → P r (get_or s r 0)) → P m x → (r : ℕ) → r < m + 1 → P r (get_or (set s m x) r 0)
  stored P h here r l = step (ℕ_discrete r m)
    where
      step : Dec (r ≡ m) → P r (get_or (set s m x) r 0)
      step (yes e) = subst (λ i. P i (get_or (set s m x) i 0)) (sym e) (subst (P m) (sym (get_or-set_same s m x 0 fits)) here)
      step (no d) = subst (P r) (sym (get_or-set_other s m r x 0 d)) (h r (omega arith))
