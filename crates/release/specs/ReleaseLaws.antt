-- The calls on releases are those of the model.
use Rattle.std.specs.Prelude.{◌≡◌, true, false, cond, ◌&&◌, ◌≢◌, ◌⊎◌, ℕ, ◌*◌, ◌≤◌, ◌<◌, eqb, ltb, length, get_or, take}
use Rattle.std.proofs.Common.{sym, ◌∙◌, inl, inr, arith, length-take-le}
use Rattle.std.proofs.Math.Path.{ap, fun_ext}
use mathlib.Core.List.{List, [], ◌∷◌}
use borrow.Author.Tests.{ltb-true, lt-ltb}
use Rattle.model.specs.Graph.{Graph, row_words}
use Rattle.model.specs.Tables.{Tables, graph_of, edge_bit, node_number, edges_in}
use Rattle.model.specs.Refusals.{Reasons, first_of}
use Rattle.model.specs.Release.{is_visible, release, visible, visible_edge}
use Rattle.model.specs.Calls.{released, release_reasons, release_refused, release_call}
use Rattle.model.proofs.TestLaws.{decide}
use Rattle.buffers.specs.Filled.{Filled}
use Rattle.tables.specs.Lent.{table_reasons, Held}
use Rattle.tables.specs.LentLaws.{table_refused, table_rest, held_sized}
use Rattle.masking.specs.Masking.{Drawn, drawn}
use Rattle.layout.specs.File.{Partition, written_file}
use Rattle.layout.specs.Truth.{Truth}
use Rattle.layout.specs.TruthLaws.{truth_partition, written_is}
use Rattle.model.proofs.ReadBackLaws.{visible_inside}
use Rattle.model.proofs.RefusalLaws.{call_done, call_refused}
use Rattle.release.specs.Release.{told}

-- the graph of edges, marks and classes, these in lists of their own, is that of the tables
pub taken-graph : (n : ℕ) (t : Tables) {hidden₀ hidden classes₀ classes : List ℕ} → Filled (λ p. node_number t.nodes p 3) n hidden₀ hidden → Filled (λ p. node_number t.nodes p 4) n classes₀ classes → drawn n t.edges hidden classes ≡ graph_of n t
unfolding drawn graph_of
taken-graph n t {hidden₀} {hidden} {classes₀} {classes} m k = λ i. record { node_count = n; edge = edges_in n t.edges; hidden = fun_ext (λ p. mark p (decide (ltb p n))) i; class = fun_ext (λ p. class p (decide (ltb p n))) i }
  where
    mark : (p : ℕ) → (ltb p n ≡ true) ⊎ (ltb p n ≡ false) → (ltb p n && eqb (get_or hidden p 0) 1) ≡ (ltb p n && eqb (node_number t.nodes p 3) 1)
    mark p (inl x) = rw (m.numbers p (ltb-true p n x))
    mark p (inr x) = rw x

    class : (p : ℕ) → (ltb p n ≡ true) ⊎ (ltb p n ≡ false) → cond (ltb p n) (get_or classes p 0) 0 ≡ cond (ltb p n) (node_number t.nodes p 4) 0
    class p (inl x) = rw (m' p (ltb-true p n x))
      where
        m' : (q : ℕ) → q < n → get_or classes q 0 ≡ node_number t.nodes q 4
        m' = k.numbers
    class p (inr x) = rw x

-- release
module _ (n : ℕ) (t : Tables) (out : List ℕ) (r : ℕ) (e : r ≡ first_of (table_reasons n t [])) where
  pub release_table : r ≢ 0 → release_refused out r ≡ release_call n t out
  unfolding release_call release_reasons
  release_table d = call_refused _ (release_refused out) _ r (table_refused n t r e _ d) d

  pub release-told : r ≡ 0 → told (graph_of n t) out ≡ release_call n t out
  unfolding release_call told
  release-told z = step (decide (ltb (length out) (length (release (graph_of n t)))))
    where
      rs : Reasons
      rs = (ltb (length out) (length (release (graph_of n t))), 18) ∷ []

      first : first_of (release_reasons n t out) ≡ first_of ((ltb (length out) (length (release (graph_of n t))), 18) ∷ [])
      first = unfold release_reasons in table_rest n t r e z ((ltb (length out) (length (release (graph_of n t))), 18) ∷ [])

      step : (ltb (length out) (length (release (graph_of n t))) ≡ true) ⊎ (ltb (length out) (length (release (graph_of n t))) ≡ false)
          → cond (ltb (length out) (length (release (graph_of n t)))) (release_refused out 18) (released (graph_of n t) out) ≡ release_call n t out
      step (inl x) = rw x (call_refused (release_reasons n t out) (release_refused out) (released (graph_of n t) out) 18 (first ∙ unfold first_of in rw x) (omega arith))
      step (inr x) = rw x (call_done (release_reasons n t out) (release_refused out) (released (graph_of n t) out) (first ∙ unfold first_of in rw x))

-- the writer looks at edges of visible nodes only, so it may have the table before masking
pub truth_whole : (n : ℕ) {edges : List ℕ} (hidden classes : List ℕ) {lst masked : List ℕ} → length edges ≡ row_words * n → Truth (drawn n edges hidden classes) lst classes masked → Truth (drawn n edges hidden classes) lst classes edges
truth_whole n {edges} hidden classes {lst} {masked} l t = record {
  proper = t.proper;
  size = t.size;
  labelled = t.labelled;
  rows = unfold drawn in omega (arith, l);
  visible-least = t.visible-least;
  hidden_least = t.hidden_least;
  class_is = t.class_is;
  edge_is = λ p q x y. bit p q x y;
}
  where
    below : (p : ℕ) → is_visible (drawn n edges hidden classes) p ≡ true → p < n
    below p x = unfold drawn in visible_inside (drawn n edges hidden classes) p x

    bit : (p q : ℕ) → is_visible (drawn n edges hidden classes) p ≡ true → is_visible (drawn n edges hidden classes) q ≡ true → edge_bit edges p q ≡ (visible (drawn n edges hidden classes)).edge p q
    bit p q x y = sym (shown ∙ inside)
      where
        shown : (visible (drawn n edges hidden classes)).edge p q ≡ (drawn n edges hidden classes).edge p q
        shown = unfold visible_edge in rw (x, y)

        inside : (drawn n edges hidden classes).edge p q ≡ edge_bit edges p q
        inside = unfold drawn edges_in in rw (lt-ltb p n (below p x), lt-ltb q n (below q y))

-- tables that hold a graph, with their marks and classes apart
pub drawn-held : {n : ℕ} {t : Tables} {hidden₀ hidden classes₀ classes : List ℕ} → Held n t → n ≤ length hidden₀ → n ≤ length classes₀
    → Filled (λ p. node_number t.nodes p 3) n hidden₀ hidden → Filled (λ p. node_number t.nodes p 4) n classes₀ classes → Drawn n t.edges hidden classes
drawn-held {n} {t} h l l' m k =
    let s = held_sized h in
    record { small = s.small; proper = rw (taken-graph n t m k) h.proper; size = s.edges; marked = omega (arith, m.size); labelled = omega (arith, k.size) }

-- the file that is written from such least members
module _ (n : ℕ) (edges hidden classes : List ℕ) {lst : List ℕ} (w : Truth (drawn n edges hidden classes) lst classes edges) where
  pub visible_parts : Partition n lst edges
  visible_parts = unfold drawn in truth_partition (drawn n edges hidden classes) lst classes edges w

  pub visible_labelled : n ≤ length classes
  visible_labelled = unfold drawn in w.labelled

  pub visible_told : (t : Tables) {hidden₀ classes₀ : List ℕ} → t.edges ≡ edges → Filled (λ p. node_number t.nodes p 3) n hidden₀ hidden → Filled (λ p. node_number t.nodes p 4) n classes₀ classes → (out : List ℕ)
      → written_file n lst classes edges out ≡ told (graph_of n t) out
  visible_told t e m k out =
      let file : written_file n lst classes edges out ≡ told (drawn n edges hidden classes) out = unfold told drawn in written_is (drawn n edges hidden classes) lst classes edges w out in
      file ∙ ap (λ (g : Graph). told g out) (ap (λ (x : List ℕ). drawn n x hidden classes) (sym e) ∙ taken-graph n t m k)

-- a prefix that is lent has its length
pub prefix_length : (k : ℕ) (s : List ℕ) → k ≤ length s → k ≡ length (take k s)
prefix_length k s h = sym (length-take-le k s h)
