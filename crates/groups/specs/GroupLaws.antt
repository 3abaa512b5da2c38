-- The search for a group finds the one to join, or there is none.
use Rattle.std.specs.Prelude.{◌≡◌, true, false, List, ℕ, ◌<◌, eqb, Option, Some, None, MatchOption}
use Rattle.std.proofs.Common.{sym, ◌∙◌, ap}
use Rattle.std.proofs.Math.Bool.{not}
use Rattle.std.proofs.Math.Decide.{ℕ_discrete}
use borrow.Author.Tests.{eqb-true, eqb-false, eq-eqb, ne_eqb, not-true}
use Rattle.model.specs.Tables.{node_number}
use Rattle.model.proofs.TestLaws.{and_fst, and_snd, and_true, differ}
use Rattle.search.specs.Search.{first_from, found, joins}
pub use Rattle.search.specs.SearchLaws.{first_cases}
use Rattle.search.specs.SearchLaws.{found_tells}
use Rattle.std.specs.Int.{from_bool}
use Rattle.rings.specs.Steps.{Fit, OthersLeft, left, stayed}
use Rattle.groups.specs.Groups.{similar_in}

-- u leaves others behind if another one follows it
pub others_left : {b u x : ℕ} → b ≡ x → OthersLeft x u (from_bool (not (eqb b u)))
others_left {b} {u} {x} e = step (ℕ_discrete b u)
  where
    step : Dec (b ≡ u) → OthersLeft x u (from_bool (not (eqb b u)))
    step (yes i) = stayed (sym e ∙ i) (rw (eq-eqb b u i))
    step (no d) = left (λ i. d (e ∙ i)) (rw (ne_eqb b u d))

-- what the search returns
module _ (n u w : ℕ) (edges t : List ℕ) where
  fit : (q : ℕ) → joins n edges t u w q ≡ true → Fit u w (similar_in n edges t u) t q
  unfolding joins
  fit q h =
      let a = and_snd (not (eqb q u)) _ h in
      let b = and_snd (not (eqb q w)) _ a in
      record {
        not_u = eqb-false q u (not-true (eqb q u) (and_fst (not (eqb q u)) _ h));
        not_w = eqb-false q w (not-true (eqb q w) (and_fst (not (eqb q w)) _ a));
        leads = eqb-true (node_number t q 0) q (and_fst (eqb (node_number t q 0) q) _ b);
        alike = and_snd (eqb (node_number t q 0) q) _ b;
      }

  unfit : (q : ℕ) → joins n edges t u w q ≡ false → ¬ Fit u w (similar_in n edges t u) t q
  unfolding joins
  unfit q h x = differ (and_true (ap not (ne_eqb q u x.not_u)) (and_true (ap not (ne_eqb q w x.not_w)) (and_true (eq-eqb (node_number t q 0) q x.leads) x.alike))) h

  pub fits : (r : Option ℕ) → r ≡ found n (first_from (joins n edges t u w) 0 n) → MatchOption r ((p : ℕ) → p < n → ¬ Fit u w (similar_in n edges t u) t p) (λ g. (g < n) × Fit u w (similar_in n edges t u) t g)
  fits r e = step r (found_tells (joins n edges t u w) n e)
    where
      step : (r : Option ℕ) → MatchOption r ((p : ℕ) → p < n → joins n edges t u w p ≡ false) (λ g. (g < n) × (joins n edges t u w g ≡ true)) → MatchOption r ((p : ℕ) → p < n → ¬ Fit u w (similar_in n edges t u) t p) (λ g. (g < n) × Fit u w (similar_in n edges t u) t g)
      step None h = λ p l. unfit p (h p l)
      step (Some g) h = (h.0, fit g h.1)
