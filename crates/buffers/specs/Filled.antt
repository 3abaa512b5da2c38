-- A list filled from the front.
use Rattle.std.specs.Prelude.{◌≡◌, List, ℕ, ◌<◌, length, get_or}

-- the first i numbers are those that f tells
pub record Filled (f : ℕ → ℕ) (i : ℕ) (t after : List ℕ) : Type 0 where
  pub size : length after ≡ length t
  pub numbers : (j : ℕ) → j < i → get_or after j 0 ≡ f j
