-- A test of all nodes, one after the other.
use Rattle.std.specs.Prelude.{◌≡◌, Bool, true, false, not, ◌⊎◌, ℕ, ◌≤◌, ◌<◌}
use Rattle.std.proofs.Common.{sym, ◌∙◌, inl, inr, arith}
use Rattle.std.proofs.lemmas.Bool.{not-false, not-true}
use Rattle.model.specs.Lists.{all, nodes}
use Rattle.model.proofs.TestLaws.{decide, differ}
use Rattle.model.proofs.ListLaws.{all_elim, all_intro, nodes_in_lem, nodes_out}

-- the loop is left at the first that fails
pub passed : {x b : Bool} → b ≡ x → not b ≡ false → x ≡ true
passed {x} {b} e f = sym e ∙ not-false b f

pub failed : {x b : Bool} → b ≡ x → not b ≡ true → x ≡ false
failed {x} {b} e f = sym e ∙ not-true b f

pub all_pass_lem : (f : ℕ → Bool) (n p : ℕ) → n ≤ p → ((k : ℕ) → k < p → f k ≡ true) → true ≡ all (nodes n) f
all_pass_lem f n p l h = sym (all_intro (nodes n) f (λ k m. h k (omega (arith, nodes_out n k m))))

pub all_fail : (f : ℕ → Bool) (n p : ℕ) → p < n → f p ≡ false → false ≡ all (nodes n) f
all_fail f n p l h = step (decide (all (nodes n) f))
  where
    step : (all (nodes n) f ≡ true) ⊎ (all (nodes n) f ≡ false) → false ≡ all (nodes n) f
    step (inl t) = differ (all_elim (nodes n) f t p (nodes_in_lem n p l)) h
    step (inr t) = sym t
