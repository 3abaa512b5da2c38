-- Numbers that pass a test, and lists put together number by number: what a loop from p to n has yet to do.
use Rattle.std.specs.Prelude.{◌≡◌, Bool, List, map, ℕ, ◌+◌, ◌-◌, length}
use Rattle.model.specs.Lists.{concat, filter, from}

-- the numbers from p to n - 1 that pass
unfoldable pub scan : (ℕ → Bool) → ℕ → ℕ → List ℕ
scan P n p = filter P (from p (n - p))

-- f p, .., f (n - 1) one after the other
unfoldable pub flat : (ℕ → List ℕ) → ℕ → ℕ → List ℕ
flat f n p = concat (map f (from p (n - p)))

-- a count that has come to c, with the numbers from p on still to be counted
pub record Counting (P : ℕ → Bool) (n total c p : ℕ) : Type 0 where
  pub sum : c + length (scan P n p) ≡ total

-- the same for a sum of lengths
pub record Summing (f : ℕ → List ℕ) (n total c p : ℕ) : Type 0 where
  pub sum : c + length (flat f n p) ≡ total
