-- Further laws of these definitions, which no proof here cites.
use Rattle.std.specs.Prelude.{◌≡◌, ◌⊎◌, true, false, List, ℕ, ◌+◌, ◌≤◌, ◌<◌, Some, None}
use Rattle.std.proofs.Common.{sym, subst, inl, inr, arith}
use borrow.Author.Tests.{lt-ltb, le-ltb}
use Rattle.search.specs.Search.{first_from, found as found_in, joins}
use Rattle.search.specs.SearchLaws.{first_cases}
use Rattle.rings.specs.UpdateLaws.{Found, at, nowhere}
use Rattle.groups.specs.Groups.{similar_in}
use Rattle.groups.specs.GroupLaws.{fits}

-- the place where a search ends, as its result
place_some : (n f : ℕ) → f < n → Some f ≡ found_in n f
unfolding found_in
place_some n f h = rw (lt-ltb f n h)

place_none : (n f : ℕ) → f ≡ n → None ≡ found_in n f
unfolding found_in
place_none n f h = rw (le-ltb f n (omega arith))

-- what the search returns
module _ (n u w : ℕ) (edges t : List ℕ) where
  pub found : {r : ℕ} → r ≡ first_from (joins n edges t u w) 0 n → Found n u w (similar_in n edges t u) t r
  found {r} e = subst (λ x. Found n u w (similar_in n edges t u) t x) (sym e) (step (first_cases (joins n edges t u w) 0 n))
    where
      f : ℕ
      f = first_from (joins n edges t u w) 0 n

      step : ((f < 0 + n) × (joins n edges t u w f ≡ true)) ⊎ ((f ≡ 0 + n) × ((p : ℕ) → 0 ≤ p → p < 0 + n → joins n edges t u w p ≡ false)) → Found n u w (similar_in n edges t u) t f
      step (inl x) = let l : f < n = omega (arith, x.0) in at l (fits n u w edges t (Some f) (place_some n f l)).1
      step (inr x) = let e : f ≡ n = omega (arith, x.0) in nowhere e (fits n u w edges t None (place_none n f e))
