-- What numbers below n add up to.
use Rattle.std.specs.Prelude.{ℕ, zero, suc, ◌+◌, Bool, cond}

unfoldable pub sum_to : ℕ → (ℕ → ℕ) → ℕ
sum_to zero f = 0
sum_to (suc n) f = sum_to n f + f n

-- those of the numbers that pass
abbrev pub sum_of : ℕ → (ℕ → Bool) → (ℕ → ℕ) → ℕ
sum_of n P f = sum_to n (λ q. cond (P q) (f q) 0)
