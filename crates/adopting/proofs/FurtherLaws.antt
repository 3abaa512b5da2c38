-- Further laws of these definitions, which no proof here cites.
use Rattle.std.specs.Prelude.{◌≡◌, refl, Bool, true, false, cond, List, ◌⊎◌, ℕ, ◌+◌, ◌≤◌, ◌<◌, eqb, get_or, length, set, Some, None}
use Rattle.std.proofs.Common.{sym, ◌∙◌, inl, inr, arith, length-set, get_or-set_other, get_or-set_same, eqb-true, eq-eqb, ne_eqb}
use Rattle.std.proofs.lemmas.Bool.{eqb-false}
use Rattle.model.proofs.TestLaws.{decide}
use Rattle.rows.specs.Rows.{leads}
use Rattle.adopting.specs.Adopting.{First, NumbersRenamed, is_bare, is_hidden, is_isolated}

-- the first that passes
pub first_is : {P : ℕ → Bool} {n p : ℕ} → p < n → ((k : ℕ) → k < p → P k ≡ false) → P p ≡ true → First P n (Some p)
first_is l h e = (l, e, h)

pub first_no : {P : ℕ → Bool} {n p : ℕ} → n ≤ p → ((k : ℕ) → k < p → P k ≡ false) → First P n None
first_no l h = λ k a. h k (omega arith)

pub hidden_not : (first : List ℕ) (p : ℕ) → (get_or first p 0 ≡ 65535 → ⊥) → is_hidden first p ≡ false
unfolding is_hidden
hidden_not first p h = ne_eqb (get_or first p 0) 65535 h

-- a class that is not 0, and a row that is looked at
module _ (edges classes : List ℕ) (p : ℕ) where
  pub bare_not : (get_or classes p 0 ≡ 0 → ⊥) → false ≡ is_bare edges classes p
  unfolding is_bare
  bare_not d = rw (ne_eqb (get_or classes p 0) 0 d)

module _ (edges classes first : List ℕ) (p : ℕ) where
  pub isolated_not : {x : ℕ} → x ≡ get_or first p 0 → (x ≡ p → ⊥) → is_isolated edges classes first p ≡ false
  unfolding is_isolated leads
  isolated_not e h = rw (ne_eqb (get_or first p 0) p (λ z. h (e ∙ z)))

  pub isolated_if : {x : ℕ} {b : Bool} → x ≡ get_or first p 0 → x ≡ p → b ≡ is_bare edges classes p → is_isolated edges classes first p ≡ b
  unfolding is_isolated leads
  isolated_if e h z = rw (eq-eqb (get_or first p 0) p (sym e ∙ h)) (sym z)

-- the numbers below p renamed
pub record NumbersRenaming (p x y : ℕ) (t now : List ℕ) : Type 0 where
  pub size : length now ≡ length t
  pub names : (k : ℕ) → k < p → get_or now k 0 ≡ cond (eqb (get_or t k 0) x) y (get_or t k 0)
  pub rest : (k : ℕ) → p ≤ k → get_or now k 0 ≡ get_or t k 0

pub numbers_none : (x y : ℕ) (t : List ℕ) → NumbersRenaming 0 x y t t
numbers_none x y t = record { size = refl; names = λ k l. absurd (omega arith); rest = λ k l. refl }

module _ {p x y : ℕ} {t now : List ℕ} (h : NumbersRenaming p x y t now) where
  pub renaming_yes : p < length t → get_or now p 0 ≡ x → NumbersRenaming (p + 1) x y t (set now p y)
  renaming_yes l e = record { size = length-set now p y ∙ h.size; names = λ k b. at k b (decide (eqb k p)); rest = λ k b. get_or-set_other now p k y 0 (λ z. omega arith) ∙ h.rest k (omega arith) }
    where
      at : (k : ℕ) → k < p + 1 → (eqb k p ≡ true) ⊎ (eqb k p ≡ false) → get_or (set now p y) k 0 ≡ cond (eqb (get_or t k 0) x) y (get_or t k 0)
      at k b (inl s) =
          let z : k ≡ p = eqb-true k p s in
          rw (z, get_or-set_same now p y 0 (omega (arith, h.size)), eq-eqb (get_or t p 0) x (sym (h.rest p (omega arith)) ∙ e))
      at k b (inr s) = let d : k ≡ p → ⊥ = eqb-false k p s in get_or-set_other now p k y 0 d ∙ h.names k (omega arith)

  pub renaming_no : (get_or now p 0 ≡ x → ⊥) → NumbersRenaming (p + 1) x y t now
  renaming_no e = record { size = h.size; names = λ k b. at k b (decide (eqb k p)); rest = λ k b. h.rest k (omega arith) }
    where
      at : (k : ℕ) → k < p + 1 → (eqb k p ≡ true) ⊎ (eqb k p ≡ false) → get_or now k 0 ≡ cond (eqb (get_or t k 0) x) y (get_or t k 0)
      at k b (inl s) =
          let z : k ≡ p = eqb-true k p s in
          let same : get_or now p 0 ≡ get_or t p 0 = h.rest p (omega arith) in
          rw (z, ne_eqb (get_or t p 0) x (λ i. e (same ∙ i))) same
      at k b (inr s) = let d : k ≡ p → ⊥ = eqb-false k p s in h.names k (omega arith)

  pub renaming_done : {n : ℕ} → n ≤ p → NumbersRenamed n x y t now
  renaming_done l = record { size = h.size; names = λ k b. h.names k (omega arith) }
