-- The edge table is determined by its bits, and a changed edge makes it that of the updated graph.
use Rattle.std.specs.Prelude.{◌≡◌, ℕ, ◌+◌, ◌*◌, ◌/◌, ◌%◌, ◌^◌, ◌<◌, Bool, true, false, cond, not, ◌&&◌, ◌⊎◌, List, length, ◌==◌, nat_lt, slice_index, slice_index_or}
use Rattle.std.proofs.Math.Path.{sym, ap}
use Rattle.std.proofs.Common.{◌∙◌, inl, inr, pow_pos, ext_get_or, eqb-true, ltb-true, ltb-false}
use Rattle.std.proofs.Math.Bool.{not-not}
use native.Mathlib.Omega.{arith}
use Rattle.std.proofs.Math.ListN.{get_or-eq_default}
use Rattle.model.specs.Lists.{nodes}
use Rattle.model.specs.Graph.{Graph, Proper}
use Rattle.model.specs.Tables.{bit_at, edge_bit, edges_of, row_of, word}
use Rattle.model.specs.Updates.{Update, is_pair, on_edge, refusal, updated}
use Rattle.model.proofs.TestLaws.{and_fst, and_snd, decide, or_cases}
use Rattle.model.proofs.TableLaws.{edge_bit_lem, get_d_blocks, get_d_nodes, length_edges, length-nodes, length-row, row_at}
use Rattle.model.proofs.UpdateLaws.{edge_before}
use Rattle.rows.specs.Rows.{Words, Changed}
use Rattle.rows.specs.BitLaws.{word_bits, word_cong, word_lt}

-- word w of p's row
pub edges_at : (g : Graph) (p w : ℕ) → p < g.node_count → w < 8 → slice_index (edges_of g) (8 * p + w) ≡ word 64 (λ i. g.edge p (64 * w + i))
unfolding edges_of
edges_at g p w hp hw = rw (get_d_blocks (row_of g) 8 (length-row g) (nodes g.node_count) p w (rw length-nodes hp) hw, get_d_nodes g.node_count p hp) (row_at g p w hw)

pub edges_words : (g : Graph) → Words (edges_of g)
edges_words g i = step (decide (nat_lt i (8 * g.node_count)))
  where
    step : (nat_lt i (8 * g.node_count) ≡ true) ⊎ (nat_lt i (8 * g.node_count) ≡ false) → slice_index (edges_of g) i < 2 ^ 64
    step (inl t) =
        let e : i ≡ 8 * (i / 8) + i % 8 = omega arith in
        rw (e, edges_at g (i / 8) (i % 8) (omega (arith, ltb-true i (8 * g.node_count) t)) (omega arith)) (word_lt 64 (λ j. g.edge (i / 8) (64 * (i % 8) + j)))
    step (inr t) =
        rw (get_or-eq_default (edges_of g) 0 {n = i} (omega (arith, length_edges g, ltb-false i (8 * g.node_count) t))) (pow_pos 64)

-- the words of a table with these bits
module _ (g : Graph) (t : List ℕ) (size : length t ≡ 8 * g.node_count) (words : Words t) (bits : (p q : ℕ) → p < g.node_count → q < 512 → edge_bit t p q ≡ g.edge p q) where
  same_bit : (p w j : ℕ) → p < g.node_count → w < 8 → j < 64 → bit_at (slice_index t (8 * p + w)) j ≡ g.edge p (64 * w + j)
  unfolding edge_bit
  same_bit p w j hp hw hj =
      let x : (64 * w + j) / 64 ≡ w = omega arith in
      let y : (64 * w + j) % 64 ≡ j = omega arith in
      rw (x, y) at (bits p (64 * w + j) hp (omega arith))

  same_word : (p w : ℕ) → p < g.node_count → w < 8 → slice_index t (8 * p + w) ≡ slice_index (edges_of g) (8 * p + w)
  same_word p w hp hw =
      let own : word 64 (bit_at (slice_index t (8 * p + w))) ≡ slice_index_or t (8 * p + w) 0 = omega (arith, word_bits 64 (slice_index t (8 * p + w)), words (8 * p + w)) in
      sym own ∙ word_cong 64 (bit_at (slice_index t (8 * p + w))) (λ j. g.edge p (64 * w + j)) (λ j l. same_bit p w j hp hw l) ∙ sym (edges_at g p w hp hw)

  pub edges_by_bits : t ≡ edges_of g
  edges_by_bits = ext_get_or 0 t (edges_of g) (size ∙ sym (length_edges g)) (λ i l. at i l)
    where
      at : (i : ℕ) → i < length t → slice_index t i ≡ slice_index (edges_of g) i
      at i l =
          let e : i ≡ 8 * (i / 8) + i % 8 = omega arith in
          rw e (same_word (i / 8) (i % 8) (omega arith) (omega arith))

-- an accepted update of an edge
module _ (g : Graph) (c : Update) (h : Proper g) (ok : refusal g c ≡ 0) (two : on_edge c ≡ true) where
  abbrev insert : Bool
  insert = c.wanted == 1

  edge_pair : (p q : ℕ) → is_pair c.u c.v p q ≡ true → insert ≡ not (g.edge p q)
  edge_pair p q t = step (or_cases (p == c.u && q == c.v) (p == c.v && q == c.u) t)
    where
      now : insert ≡ not (g.edge c.u c.v)
      now = sym (not-not insert) ∙ sym (ap not (edge_before g c h ok two))

      step : ((p == c.u && q == c.v) ≡ true) ⊎ ((p == c.v && q == c.u) ≡ true) → insert ≡ not (g.edge p q)
      step (inl x) = rw (eqb-true p c.u (and_fst (p == c.u) _ x), eqb-true q c.v (and_snd (p == c.u) _ x)) now
      step (inr x) = rw (eqb-true p c.v (and_fst (p == c.v) _ x), eqb-true q c.u (and_snd (p == c.v) _ x), h.symmetric c.v c.u) now

  -- the update changes this edge alone
  pub updated_edge : (p q : ℕ) → (updated g c).edge p q ≡ cond (is_pair c.u c.v p q) (not (g.edge p q)) (g.edge p q)
  unfolding updated
  updated_edge p q = step (decide (is_pair c.u c.v p q))
    where
      step : (is_pair c.u c.v p q ≡ true) ⊎ (is_pair c.u c.v p q ≡ false)
          → cond (on_edge c && is_pair c.u c.v p q) insert (g.edge p q) ≡ cond (is_pair c.u c.v p q) (not (g.edge p q)) (g.edge p q)
      step (inl x) = rw (two, x) (edge_pair p q x)
      step (inr x) = rw (two, x)

  -- so a changed edge makes the table of g that of the updated graph
  pub edges_updated : (t : List ℕ) → Changed c.u c.v (edges_of g) t → t ≡ edges_of (updated g c)
  unfolding updated
  edges_updated t r = edges_by_bits (updated g c) t (r.size ∙ length_edges g) (r.words (edges_words g)) at
    where
      at : (p q : ℕ) → p < g.node_count → q < 512 → edge_bit t p q ≡ (updated g c).edge p q
      at p q hp hq = r.bits p q hq ∙ ap (λ (x : Bool). cond (is_pair c.u c.v p q) (not x) x) (edge_bit_lem g p q hp hq) ∙ sym (updated_edge p q)
