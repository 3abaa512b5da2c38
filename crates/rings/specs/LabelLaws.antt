-- The loop that puts marks and classes into a node table.
use Rattle.std.specs.Prelude.{◌≡◌, refl, List, ℕ, ◌+◌, ◌*◌, ◌≤◌, ◌<◌, length, get_or, set}
use Rattle.std.proofs.Common.{◌∙◌, arith, length-set, get_or-set_same, get_or-set_other}
use Rattle.std.proofs.Math.Decide.{ℕ_discrete}
use Rattle.model.specs.Graph.{node_numbers}
use Rattle.model.specs.Tables.{node_number}
use Rattle.rings.specs.Steps.{LabelsPut}

pub put_none : (mark class : ℕ → ℕ) (t : List ℕ) → LabelsPut mark class 0 t t
put_none mark class t = record { size = refl; marks = λ p h. absurd (omega arith); classes = λ p h. absurd (omega arith) }

pub put_more : {mark class : ℕ → ℕ} {i x y : ℕ} {t t₁ : List ℕ} → LabelsPut mark class i t t₁ → node_numbers * i + node_numbers ≤ length t → x ≡ mark i → y ≡ class i
    → LabelsPut mark class (i + 1) t (set (set t₁ (node_numbers * i + 3) x) (node_numbers * i + 4) y)
unfolding node_number
put_more {mark} {class} {i} {x} {y} {t} {t₁} a l e f = record {
  size = length-set t₂ (5 * i + 4) y ∙ length-set t₁ (5 * i + 3) x ∙ a.size;
  marks = λ p h. marks p h (ℕ_discrete p i);
  classes = λ p h. classes p h (ℕ_discrete p i);
}
  where
    t₂ : List ℕ
    t₂ = set t₁ (5 * i + 3) x

    marks : (p : ℕ) → p < i + 1 → Dec (p ≡ i) → get_or (set t₂ (5 * i + 4) y) (5 * p + 3) 0 ≡ mark p
    marks p h (yes d) = get_or-set_other t₂ (5 * i + 4) (5 * p + 3) y 0 (omega arith) ∙ rw d (get_or-set_same t₁ (5 * i + 3) x 0 (omega (arith, a.size)) ∙ e)
    marks p h (no d) = get_or-set_other t₂ (5 * i + 4) (5 * p + 3) y 0 (omega arith) ∙ get_or-set_other t₁ (5 * i + 3) (5 * p + 3) x 0 (omega arith) ∙ a.marks p (omega arith)

    classes : (p : ℕ) → p < i + 1 → Dec (p ≡ i) → get_or (set t₂ (5 * i + 4) y) (5 * p + 4) 0 ≡ class p
    classes p h (yes d) = rw d (get_or-set_same t₂ (5 * i + 4) y 0 (omega (arith, a.size, length-set t₁ (5 * i + 3) x)) ∙ f)
    classes p h (no d) = get_or-set_other t₂ (5 * i + 4) (5 * p + 4) y 0 (omega arith) ∙ get_or-set_other t₁ (5 * i + 3) (5 * p + 4) x 0 (omega arith) ∙ a.classes p (omega arith)

pub put_all : {mark class : ℕ → ℕ} {n i : ℕ} {t t₁ : List ℕ} → LabelsPut mark class i t t₁ → n ≤ i → LabelsPut mark class n t t₁
put_all a h = record { size = a.size; marks = λ p l. a.marks p (omega arith); classes = λ p l. a.classes p (omega arith) }
