-- Masked words hold the edges between visible nodes.
use Rattle.std.specs.Prelude.{◌≡◌, Bool, not, cond, ◌&&◌, List, ◌⊎◌, ℕ, ◌+◌, ◌*◌, ◌/◌, ◌%◌, ◌^◌, ◌≤◌, ◌<◌, eqb, ltb, length, replicate, set}
use Rattle.std.proofs.Math.Path.{refl, sym, ap}
use Rattle.std.proofs.Common.{◌∙◌, inl, inr, length-set, pow_pos, get_or-set_other, get_or-set_same}
use Rattle.std.proofs.Math.Bool.{true, false, and-false}
use native.Mathlib.Omega.{arith}
use Rattle.std.specs.Int.Bits.{and_le_r, bit_and}
use Rattle.std.proofs.Math.ListN.{get_or-eq_default, get_or}
use Rattle.std.proofs.lemmas.List.{get_or-replicate}
use borrow.Author.Tests.{eqb-false, eqb-true, lt-ltb, ltb-false, ltb-true}
use Rattle.model.specs.Graph.{Graph, Proper, View, row_words}
use Rattle.model.specs.Grouping.{least, similar}
use Rattle.model.specs.Tables.{bit_at, edge_bit, edges_in, edges_of}
use Rattle.model.specs.Release.{is_visible, visible, visible_edge, visible_part}
use Rattle.model.specs.History.{Alike}
use Rattle.model.proofs.TestLaws.{and_fst, decide}
use Rattle.model.proofs.TableLaws.{edges_in_lem, graph_test}
use Rattle.model.proofs.ReleaseLaws.{alike-visible}
use Rattle.model.proofs.ReadBackLaws.{visible_proper}
use Rattle.layout.specs.Truth.{Truth}
use Rattle.layout.specs.Words.{Marking}
use Rattle.rows.specs.BitLaws.{bit_and_lem, bit_zero}
use Rattle.search.specs.Search.{Within}
use Rattle.rows.specs.EdgeLaws.{edges_by_bits}
use Rattle.search.specs.SearchLaws.{ready}
use Rattle.masking.specs.Masking.{Apart, Drawn, RowPut, cut_word, drawn, kept_word, masked_word, shown}

pub visible_is : (n : ℕ) (edges marks classes : List ℕ) (p : ℕ) → is_visible (drawn n edges marks classes) p ≡ (ltb p n && shown marks p)
unfolding is_visible drawn shown
visible_is n edges marks classes p = once (ltb p n) (eqb (get_or marks p 0) 1)
  where
    once : (x w : Bool) → (x && not (x && w)) ≡ (x && not w)
    once true w = refl
    once false w = refl

pub masked_more : {p w x : ℕ} {word : ℕ → ℕ} {t t₁ : List ℕ} → RowPut p w word t t₁ → 8 * p + w < length t → x ≡ word w → RowPut p (w + 1) word t (set t₁ (8 * p + w) x)
masked_more {p} {w} {x} {word} {t} {t₁} r l e = record {
  size = length-set t₁ (8 * p + w) x ∙ r.size;
  words = λ v h. step v h (decide (eqb v w));
  earlier = λ i h. get_or-set_other t₁ (8 * p + w) i x 0 (omega arith) ∙ r.earlier i h;
}
  where
    step : (v : ℕ) → v < w + 1 → (eqb v w ≡ true) ⊎ (eqb v w ≡ false) → get_or (set t₁ (8 * p + w) x) (8 * p + v) 0 ≡ word v
    step v h (inl s) = rw (eqb-true v w s) (get_or-set_same t₁ (8 * p + w) x 0 (omega (arith, r.size)) ∙ e)
    step v h (inr s) =
        let d : v ≡ w → ⊥ = eqb-false v w s in
        get_or-set_other t₁ (8 * p + w) (8 * p + v) x 0 (omega arith) ∙ r.words v (omega arith)

pub row_cut : (edges kept : List ℕ) {p w : ℕ} {t t₁ : List ℕ} → RowPut p w (cut_word edges kept p) t t₁ → 8 * p + w < length t → RowPut p (w + 1) (cut_word edges kept p) t (set t₁ (8 * p + w) (bit_and (get_or edges (8 * p + w) 0) (get_or kept w 0)))
row_cut edges kept r l = masked_more r l (unfold cut_word in refl)

row_same : {p k : ℕ} {word other : ℕ → ℕ} {t after : List ℕ} → ((w : ℕ) → w < k → word w ≡ other w) → RowPut p k word t after → RowPut p k other t after
row_same h r = record { size = r.size; words = λ w l. r.words w l ∙ h w l; earlier = r.earlier }

-- a visible node's row, and a hidden one's
pub row-shown : (edges mask marks : List ℕ) {t after : List ℕ} (p : ℕ) (b : Bool) → b ≡ shown marks p → b ≡ true → RowPut p 8 (cut_word edges mask p) t after → RowPut p 8 (masked_word edges mask marks p) t after
unfolding cut_word masked_word kept_word
row-shown edges mask marks p b e t = row_same (λ w l. rw (sym e ∙ t))

pub row_hidden : (edges mask marks : List ℕ) {t after : List ℕ} (p : ℕ) (b : Bool) → b ≡ shown marks p → b ≡ false → RowPut p 8 (cut_word edges (replicate 8 0) p) t after → RowPut p 8 (masked_word edges mask marks p) t after
unfolding cut_word masked_word kept_word
row_hidden edges mask marks p b e t = row_same (λ w l. rw (sym e ∙ t) (ap (bit_and (get_or edges (8 * p + w) 0)) (get_or-replicate 8 w 0 0 l)))

-- the first i rows are masked
pub record Masking (edges mask marks : List ℕ) (i : ℕ) (t after : List ℕ) : Type 0 where
  pub size : length after ≡ length t
  pub words : (p w : ℕ) → p < i → w < 8 → get_or after (8 * p + w) 0 ≡ masked_word edges mask marks p w

kept_lt : (mask marks : List ℕ) (p w : ℕ) → ((i : ℕ) → get_or mask i 0 < 2 ^ 64) → kept_word mask marks p w < 2 ^ 64
unfolding kept_word
kept_lt mask marks p w h = step (shown marks p)
  where
    step : (b : Bool) → cond b (get_or mask w 0) 0 < 2 ^ 64
    step true = h w
    step false = pow_pos 64

kept_bit : (mask marks : List ℕ) (p q : ℕ) → bit_at (kept_word mask marks p (q / 64)) (q % 64) ≡ (shown marks p && edge_bit mask 0 q)
unfolding kept_word edge_bit
kept_bit mask marks p q = step (shown marks p)
  where
    step : (b : Bool) → bit_at (cond b (get_or mask (q / 64) 0) 0) (q % 64) ≡ (b && bit_at (get_or mask (8 * 0 + q / 64) 0) (q % 64))
    step true = let z : 8 * 0 + q / 64 ≡ q / 64 = omega arith in rw z
    step false = bit_zero (q % 64)

module _ {n : ℕ} {edges marks mask t after : List ℕ} {i : ℕ} (size : length t ≡ row_words * n) (chosen : Marking (shown marks) mask n) (m : Masking edges mask marks i t after) (all : n ≤ i) (classes : List ℕ) where
  word_lt : (j : ℕ) → get_or after j 0 < 2 ^ 64
  unfolding masked_word
  word_lt j = step (decide (ltb j (8 * n)))
    where
      step : (ltb j (8 * n) ≡ true) ⊎ (ltb j (8 * n) ≡ false) → get_or after j 0 < 2 ^ 64
      step (inl s) =
          let l : j < 8 * n = ltb-true j (8 * n) s in
          let e : j ≡ 8 * (j / 8) + j % 8 = omega arith in
          rw e (omega (arith, m.words (j / 8) (j % 8) (omega arith) (omega arith), and_le_r (get_or edges (8 * (j / 8) + j % 8) 0) (kept_word mask marks (j / 8) (j % 8)), kept_lt mask marks (j / 8) (j % 8) chosen.words))
      step (inr s) = rw (get_or-eq_default after 0 {n = j} (omega (arith, m.size, ltb-false j (8 * n) s))) (pow_pos 64)

  bit_is : (p q : ℕ) → p < n → q < 512 → edge_bit after p q ≡ (visible (drawn n edges marks classes)).edge p q
  unfolding visible_edge drawn edges_in edge_bit masked_word
  bit_is p q hp hq = word ∙ rw (visible_is n edges marks classes p, visible_is n edges marks classes q, lt-ltb p n hp) (sorted (edge_bit edges p q) (shown marks p) (ltb q n) (shown marks q))
    where
      sorted : (b s l v : Bool) → (b && (s && (l && v))) ≡ (s && ((l && v) && (l && b)))
      sorted true true true true = refl
      sorted true true true false = refl
      sorted true true false v = refl
      sorted true false l v = refl
      sorted false true true true = refl
      sorted false true true false = refl
      sorted false true false v = refl
      sorted false false l v = refl

      kept : bit_at (kept_word mask marks p (q / 64)) (q % 64) ≡ (shown marks p && (ltb q n && shown marks q))
      kept = kept_bit mask marks p q ∙ ap (λ (b : Bool). shown marks p && b) (chosen.bits q hq)

      word : edge_bit after p q ≡ (edge_bit edges p q && (shown marks p && (ltb q n && shown marks q)))
      word =
          ap (λ (x : ℕ). bit_at x (q % 64)) (m.words p (q / 64) (omega arith) (omega arith))
          ∙ bit_and_lem (get_or edges (8 * p + q / 64) 0) (kept_word mask marks p (q / 64)) (q % 64)
          ∙ ap (λ (b : Bool). edge_bit edges p q && b) kept

  pub masking_done : after ≡ edges_of (visible_part (drawn n edges marks classes))
  unfolding visible_part drawn
  masking_done = edges_by_bits (visible_part (drawn n edges marks classes)) after (m.size ∙ size) word_lt bit_is

module _ {n : ℕ} {edges marks classes : List ℕ} (d : Drawn n edges marks classes) where
  abbrev g : Graph
  g = drawn n edges marks classes

  part-proper : Proper (visible_part (drawn n edges marks classes))
  part-proper = visible_proper g d.proper.small (graph_test g d.proper)

  -- what the masked table tells
  module _ {masked : List ℕ} (e : masked ≡ edges_of (visible_part (drawn n edges marks classes))) where
    masked-edge : edges_in n masked ≡ (visible (drawn n edges marks classes)).edge
    unfolding visible_part drawn
    masked-edge = ap (edges_in n) e ∙ edges_in_lem (visible_part g) part-proper

    masked-within : Within n masked
    unfolding visible_part drawn
    masked-within = rw e (record { small = d.small; edges_of_lem = (ready (visible_part g) part-proper).edges_of_lem })

    hidden-edge : (p q : ℕ) → shown marks q ≡ false → (visible (drawn n edges marks classes)).edge p q ≡ false
    unfolding visible_edge
    hidden-edge p q h = rw (visible_is n edges marks classes q, h, and-false (ltb q n)) (and-false (is_visible g p))

    pub masked_apart : Apart n masked marks classes
    unfolding drawn
    masked_apart = record {
      proper = record {
        small = d.small;
        symmetric = λ p q. rw masked-edge (unfold visible_part in part-proper.symmetric p q);
        irreflexive = λ p. rw masked-edge (unfold visible_part in part-proper.irreflexive p);
        inside = λ p q t. unfold edges_in in ltb-true p n (and_fst (ltb p n) _ t);
        held = λ p t. ltb-true p n (and_fst (ltb p n) _ t);
        classed = d.proper.classed;
        unclassed = d.proper.unclassed;
      };
      within = masked-within;
      marked = d.marked;
      labelled = d.labelled;
      none = λ p q h. rw masked-edge (hidden-edge p q h);
    }

    masked-alike : Alike (drawn n masked marks classes) (drawn n edges marks classes)
    unfolding drawn
    masked-alike = record { marks = record { node_count = refl; hidden = λ p h. refl }; edge = λ p q x y. rw masked-edge (both p q (told p x) (told q y)); class = λ p h. refl }
      where
        told : (p : ℕ) → is_visible (drawn n masked marks classes) p ≡ true → is_visible (drawn n edges marks classes) p ≡ true
        told p x = visible_is n edges marks classes p ∙ sym (visible_is n masked marks classes p) ∙ x

        both : (p q : ℕ) → is_visible (drawn n edges marks classes) p ≡ true → is_visible (drawn n edges marks classes) q ≡ true → (visible (drawn n edges marks classes)).edge p q ≡ edges_in n edges p q
        both p q x y = unfold visible_edge in rw (x, y)

    pub masked_truth : {lst : List ℕ} → Truth (drawn n masked marks classes) lst classes masked → Truth (drawn n edges marks classes) lst classes masked
    masked_truth {lst} t = record {
      proper = d.proper;
      size = unfold drawn in t.size;
      labelled = unfold drawn in d.labelled;
      rows = unfold drawn in t.rows;
      visible-least = λ p h. t.visible-least p (seen p ∙ h) ∙ ap (λ (v : View). least v.nodes (similar v) p) (alike-visible _ _ masked-alike);
      hidden_least = λ p l h. unfold drawn in t.hidden_least p l (seen p ∙ h);
      class_is = λ p h. unfold drawn in t.class_is p (seen p ∙ h);
      edge_is = λ p q x y. t.edge_is p q (seen p ∙ x) (seen q ∙ y) ∙ ap (λ (v : View). v.edge p q) (alike-visible _ _ masked-alike);
    }
      where
        seen : (p : ℕ) → is_visible (drawn n masked marks classes) p ≡ is_visible (drawn n edges marks classes) p
        seen p = visible_is n masked marks classes p ∙ sym (visible_is n edges marks classes p)
