-- Further laws of these definitions, which no proof here cites.
use Rattle.std.specs.Prelude.{◌≡◌, List, ◌⊎◌, ℕ, ◌+◌, ◌*◌, ◌≤◌, ◌<◌, eqb}
use Rattle.std.proofs.Math.Path.{refl}
use Rattle.std.proofs.Common.{◌∙◌, inl, inr}
use Rattle.std.proofs.Math.Bool.{true, false}
use native.Mathlib.Omega.{arith}
use Rattle.std.proofs.Math.ListN.{get_or}
use borrow.Author.Tests.{eqb-false, eqb-true}
use Rattle.model.proofs.TestLaws.{decide}
use Rattle.masking.specs.Masking.{RowPut, masked_word}
use Rattle.masking.specs.MaskLaws.{Masking}

-- the words of a row, one after the other
pub masked_none : (p : ℕ) (word : ℕ → ℕ) (t : List ℕ) → RowPut p 0 word t t
masked_none p word t = record { size = refl; words = λ w h. absurd (omega arith); earlier = λ i h. refl }

pub row-whole : {p k : ℕ} {word : ℕ → ℕ} {t after : List ℕ} → RowPut p k word t after → 8 ≤ k → RowPut p 8 word t after
row-whole r l = record { size = r.size; words = λ w h. r.words w (omega arith); earlier = r.earlier }

pub masking_start : (edges mask marks t : List ℕ) → Masking edges mask marks 0 t t
masking_start edges mask marks t = record { size = refl; words = λ p w h. absurd (omega arith) }

pub masking_more : {edges mask marks : List ℕ} {i : ℕ} {t t₁ t₂ : List ℕ} → Masking edges mask marks i t t₁ → RowPut i 8 (masked_word edges mask marks i) t₁ t₂ → Masking edges mask marks (i + 1) t t₂
masking_more {edges} {mask} {marks} {i} {t} {t₁} {t₂} m r = record { size = r.size ∙ m.size; words = λ p w h l. step p w h l (decide (eqb p i)) }
  where
    step : (p w : ℕ) → p < i + 1 → w < 8 → (eqb p i ≡ true) ⊎ (eqb p i ≡ false) → get_or t₂ (8 * p + w) 0 ≡ masked_word edges mask marks p w
    step p w h l (inl s) = rw (eqb-true p i s) (r.words w l)
    step p w h l (inr s) =
        let d : p ≡ i → ⊥ = eqb-false p i s in
        r.earlier (8 * p + w) (omega arith) ∙ m.words p w (omega arith) l
