-- What is found of a row and of a node: empty, bare, hidden, isolated.
use Rattle.std.specs.Prelude.{◌≡◌, Bool, true, List, ℕ, ◌+◌, ◌*◌, ◌-◌, ◌^◌, eqb, ltb, drop, get_or, take}
use Rattle.std.proofs.Common.{sym, ap, ◌∙◌, eq-eqb, ne_eqb}
use Rattle.model.specs.Lists.{all}
use Rattle.buffers.specs.UnionLaws.{is_none}
use Rattle.rows.specs.Rows.{leads}
use Rattle.search.specs.SearchLaws.{row_part_lem}
use Rattle.adopting.specs.Adopting.{empty_row, is_bare, is_hidden, is_isolated}

-- the words of a row united
pub empty_united : (edges : List ℕ) (p u : ℕ) → ((k : ℕ) → ltb u (2 ^ k) ≡ all (take (8 * p + 8 - 8 * p) (drop (8 * p) edges)) (λ x. ltb x (2 ^ k))) → eqb u 0 ≡ empty_row edges p
unfolding empty_row
empty_united edges p u h = is_none u ∙ h 0 ∙ ap (λ (s : List ℕ). all s (λ x. ltb x 1)) (row_part_lem edges p)

-- a node without a first member
pub hidden_here : (first : List ℕ) (p : ℕ) → get_or first p 0 ≡ 65535 → is_hidden first p ≡ true
unfolding is_hidden
hidden_here first p h = eq-eqb (get_or first p 0) 65535 h

-- a class that is not 0, and a row that is looked at
module _ (edges classes : List ℕ) (p : ℕ) where
  pub bare_not : (get_or classes p 0 ≡ 0 → ⊥) → eqb (get_or classes p 0) 0 ≡ is_bare edges classes p
  unfolding is_bare
  bare_not d = rw (ne_eqb (get_or classes p 0) 0 d)

  pub bare_if : {b : Bool} → get_or classes p 0 ≡ 0 → b ≡ empty_row edges p → b ≡ is_bare edges classes p
  unfolding is_bare
  bare_if e z = rw (eq-eqb (get_or classes p 0) 0 e) z

module _ (edges classes first : List ℕ) (p : ℕ) where
  pub isolated_not : {x : ℕ} → x ≡ get_or first p 0 → (x ≡ p → ⊥) → eqb x p ≡ is_isolated edges classes first p
  unfolding is_isolated leads
  isolated_not {x} e h = rw (ne_eqb x p h, ne_eqb (get_or first p 0) p (λ z. h (e ∙ z)))

  pub isolated_if : {x : ℕ} {b : Bool} → x ≡ get_or first p 0 → x ≡ p → b ≡ is_bare edges classes p → b ≡ is_isolated edges classes first p
  unfolding is_isolated leads
  isolated_if e h z = rw (eq-eqb (get_or first p 0) p (sym e ∙ h)) z
