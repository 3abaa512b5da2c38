-- Further laws of these definitions, which no proof here cites.
use Rattle.std.specs.Prelude.{◌≡◌, refl, List, ℕ, ◌-◌, ◌<◌, bit_and}
use Rattle.std.specs.Int.Count.{count_trailing_zeros}
use Rattle.keys.specs.SumLaws.{adding_less}
use Rattle.edges.specs.EdgesLaws.{Walking}

-- a walk over p's row: a word without its lowest bit is smaller
module _ {n : ℕ} {edges : List ℕ} {p : ℕ} where
  module _ {w x sum : ℕ} (h : Walking n edges p w x sum) where
    module _ (some : x ≡ 0 → ⊥) {t : ℕ} (lowest-is : t ≡ count_trailing_zeros 64 x) where
      pub walk_less : bit_and x (x - 1) < x
      walk_less = adding_less h.adding (record { some = some; lowest = lowest-is; rest = refl })
