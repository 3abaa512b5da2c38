-- Further laws of these definitions, which no proof here cites.
use Rattle.std.specs.Prelude.{◌≡◌, Bool, List, ℕ, ◌≤◌, length}
use native.Mathlib.Omega.{arith}
use Rattle.distances.specs.Distances.{SetOf}
use Rattle.distances.specs.SetLaws.{WordsOf}

pub set_begun : (P : ℕ → Bool) (row : List ℕ) → length row ≡ 8 → WordsOf P 0 row
set_begun P row e = record { size = e; bits = λ q l. absurd (omega arith) }

pub set-whole : {P : ℕ → Bool} {w : ℕ} {row : List ℕ} → 8 ≤ w → WordsOf P w row → SetOf P row
set-whole l h = record { size = h.size; bits = λ q m. h.bits q (omega arith) }
