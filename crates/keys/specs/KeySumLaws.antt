-- Keys summed row by row.
use Rattle.std.specs.Prelude.{◌≡◌, ℕ, zero, suc, ◌+◌, ◌*◌, ◌/◌, ◌%◌, ◌^◌, ◌<◌, ◌≤◌, true, false, ◌⊎◌, List, length, set, ◌==◌, slice_index, slice_set, refl}
use Rattle.std.proofs.Common.{sym, ap, ◌∙◌, inl, inr, arith, length-set, ext_get_or, get_or-set_other, get_or-set_same, eqb-true}
use Rattle.std.proofs.lemmas.Bool.{eqb-false}
use Rattle.model.specs.Graph.{Graph, whole}
use Rattle.model.specs.Grouping.{cube, open_key}
use Rattle.model.specs.Tables.{keys_of, graph_in}
use Rattle.model.proofs.TestLaws.{decide}
use Rattle.model.proofs.TableLaws.{length_keys}
use Rattle.search.specs.Search.{Within}
use Rattle.search.specs.SearchLaws.{within_inside}
use Rattle.rows.specs.KeyLaws.{keys_at}
use Rattle.rows.specs.Rows.{key_of}
use Rattle.keys.specs.KeySums.{KeysPut, Summed, row_cubes, words_for}
use Rattle.keys.specs.FourLaws.{dense_key}

pub summed_none : (g : Graph) (t : List ℕ) → Summed g 0 t t
summed_none g t = record { size = refl; keys = λ p k h l. absurd (omega arith) }

pub put_length : {p sum : ℕ} {t after : List ℕ} → KeysPut p sum t after → length after ≡ length t
put_length {p} {sum} {t} h = ap length h.put ∙ length-set (slice_set t (2 * p) sum) (2 * p + 1) ((sum + cube p) % 2 ^ 32) ∙ length-set t (2 * p) sum

pub summed_more : {g : Graph} {i x : ℕ} {t t₁ t₂ : List ℕ} → Summed g i t t₁ → 2 * i + 2 ≤ length t → x ≡ open_key (whole g) i → KeysPut i x t₁ t₂ → Summed g (i + 1) t t₂
unfolding open_key
summed_more {g} {i} {x} {t} {t₁} {t₂} a l ex h = record {
  size = put_length h ∙ a.size;
  keys = λ p k b m. ap (λ (s : List ℕ). slice_index s (2 * p + k)) h.put ∙ step p k b m (decide (p == i));
}
  where
    r : ℕ
    r = (x + cube i) % 2 ^ 32

    own : (k : ℕ) → k < 2 → slice_index (slice_set (slice_set t₁ (2 * i) x) (2 * i + 1) r) (2 * i + k) ≡ key_of g i k
    own zero m =
        let z : 2 * i + 0 ≡ 2 * i = omega arith in
        rw z (get_or-set_other (slice_set t₁ (2 * i) x) (2 * i + 1) (2 * i) r 0 (omega arith) ∙ get_or-set_same t₁ (2 * i) x 0 (omega (arith, a.size)) ∙ omega arith)
    own (suc zero) m = get_or-set_same (slice_set t₁ (2 * i) x) (2 * i + 1) r 0 (omega (arith, a.size, length-set t₁ (2 * i) x)) ∙ omega arith
    own (suc (suc k)) m = absurd (omega arith)

    step : (p k : ℕ) → p < i + 1 → k < 2 → ((p == i) ≡ true) ⊎ ((p == i) ≡ false) → slice_index (slice_set (slice_set t₁ (2 * i) x) (2 * i + 1) r) (2 * p + k) ≡ key_of g p k
    step p k b m (inl s) = rw (eqb-true p i s) (own k m)
    step p k b m (inr s) =
        let d : p ≡ i → ⊥ = eqb-false p i s in
        get_or-set_other (slice_set t₁ (2 * i) x) (2 * i + 1) (2 * p + k) r 0 (omega arith) ∙ get_or-set_other t₁ (2 * i) (2 * p + k) x 0 (omega arith) ∙ a.keys p k (omega arith) m

-- a row summed by a table
pub row_key_lem : {n : ℕ} {edges : List ℕ} {p x : ℕ} → Within n edges → p < n → x ≡ row_cubes edges p (words_for n) % 2 ^ 32 → x ≡ open_key (whole (graph_in n edges)) p
row_key_lem {n} {edges} {p} h hp e = e ∙ dense_key edges p n h.small hp (λ q l t. within_inside h p q hp l t)

pub summed_all : {g : Graph} {i : ℕ} {t t₁ : List ℕ} → Summed g i t t₁ → length t ≡ 2 * g.node_count → g.node_count ≤ i → t₁ ≡ keys_of g
summed_all {g} {i} {t} {t₁} a l h = ext_get_or 0 t₁ (keys_of g) (a.size ∙ l ∙ sym (length_keys g)) at
  where
    at : (j : ℕ) → j < length t₁ → slice_index t₁ j ≡ slice_index (keys_of g) j
    at j m =
        let e : j ≡ 2 * (j / 2) + j % 2 = omega arith in
        let b : j / 2 < g.node_count = omega (arith, a.size) in
        rw e (a.keys (j / 2) (j % 2) (omega arith) (omega arith) ∙ sym (keys_at g (j / 2) (j % 2) b (omega arith)))
