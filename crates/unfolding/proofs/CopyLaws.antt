-- A row copied to another, word by word.
use Rattle.std.specs.Prelude.{◌≡◌, true, List, ◌⊎◌, ℕ, ◌+◌, ◌*◌, ◌≤◌, ◌<◌, eqb, length, get_or, refl, false, set}
use Rattle.model.specs.Graph.{row_words}
use Rattle.std.proofs.Common.{◌∙◌, inl, inr, length-set, get_or-set_same, get_or-set_other}
use native.Mathlib.Omega.{arith}
use borrow.Author.Tests.{eqb-false, eqb-true}
use Rattle.model.proofs.TestLaws.{decide}

-- the first k words of row l are copied to row p
pub record RowCopied (k l p : ℕ) (t after : List ℕ) : Type 0 where
  pub size : length after ≡ length t
  pub words : (w : ℕ) → w < k → get_or after (row_words * p + w) 0 ≡ get_or t (row_words * l + w) 0
  pub others : (i : ℕ) → (i < row_words * p) ⊎ (row_words * p + k ≤ i) → get_or after i 0 ≡ get_or t i 0

-- a row copied word by word
pub row_copied_none : (l p : ℕ) (t : List ℕ) → RowCopied 0 l p t t
row_copied_none l p t = record { size = refl; words = λ w h. absurd (omega arith); others = λ i h. refl }

pub row_copied_more : {w l p x : ℕ} {t t₁ : List ℕ} → RowCopied w l p t t₁ → l < p → w < 8 → 8 * p + 8 ≤ length t → x ≡ get_or t₁ (8 * l + w) 0 → RowCopied (w + 1) l p t (set t₁ (8 * p + w) x)
row_copied_more {w} {l} {p} {x} {t} {t₁} r h k f e = record {
  size = length-set t₁ (8 * p + w) x ∙ r.size;
  words = λ v i. step v i (decide (eqb v w));
  others = λ i o. get_or-set_other t₁ (8 * p + w) i x 0 (off i o) ∙ r.others i (before i o);
}
  where
    step : (v : ℕ) → v < w + 1 → (eqb v w ≡ true) ⊎ (eqb v w ≡ false) → get_or (set t₁ (8 * p + w) x) (8 * p + v) 0 ≡ get_or t (8 * l + v) 0
    step v i (inl s) = rw (eqb-true v w s) (get_or-set_same t₁ (8 * p + w) x 0 (omega (arith, r.size)) ∙ e ∙ r.others (8 * l + w) (inl (omega arith)))
    step v i (inr s) =
        let d : v ≡ w → ⊥ = eqb-false v w s in
        get_or-set_other t₁ (8 * p + w) (8 * p + v) x 0 (omega arith) ∙ r.words v (omega arith)

    off : (i : ℕ) → (i < 8 * p) ⊎ (8 * p + (w + 1) ≤ i) → i ≡ 8 * p + w → ⊥
    off i (inl o) = λ q. omega arith
    off i (inr o) = λ q. omega arith

    before : (i : ℕ) → (i < 8 * p) ⊎ (8 * p + (w + 1) ≤ i) → (i < 8 * p) ⊎ (8 * p + w ≤ i)
    before i (inl o) = inl o
    before i (inr o) = inr (omega arith)

pub row_copied_all : {k l p : ℕ} {t after : List ℕ} → RowCopied k l p t after → 8 ≤ k → k ≤ 8 → RowCopied 8 l p t after
row_copied_all {k} {l} {p} r h i = record { size = r.size; words = λ w o. r.words w (omega arith); others = λ j o. r.others j (far j o) }
  where
    far : (j : ℕ) → (j < 8 * p) ⊎ (8 * p + 8 ≤ j) → (j < 8 * p) ⊎ (8 * p + k ≤ j)
    far j (inl o) = inl o
    far j (inr o) = inr (omega arith)
