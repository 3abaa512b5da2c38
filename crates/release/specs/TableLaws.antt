-- Tables filled from a graph held by its groups are that graph's.
use Rattle.std.specs.Prelude.{◌≡◌, Bool, true, false, cond, not, ◌&&◌, List, ℕ, ◌*◌, ◌<◌, length, get_or}
use Rattle.std.proofs.Math.Path.{refl}
use Rattle.std.proofs.Common.{sym, ◌∙◌, arith}
use Rattle.std.proofs.Math.Dec.{eqb, ltb}
use borrow.Author.Tests.{eq-eqb, lt-ltb, ne_eqb}
use Rattle.model.specs.Graph.{Graph, node_numbers}
use Rattle.model.specs.Grouping.{closed_key, open_key}
use Rattle.model.specs.Tables.{edges_in, edges_of, graph_in, key_pair, keys_of, row_of, tables_of}
use Rattle.rows.specs.Rows.{lent, no_node}
use Rattle.rings.specs.Steps.{Built, LabelsPut, Leading}
use Rattle.groups.specs.FillLaws.{filled_keys, filled-leading as leading, filled_proper as proper, filled_tables as tables, filled_within as within, same_edge as edges-same}
use Rattle.keys.specs.KeySums.{LeastTold}
use Rattle.compressed.specs.Compressed.{class_in, placed, unfolded}
use Rattle.judging.specs.Judging.{Exact, held}
use Rattle.adopting.specs.Adopting.{VisibleTold, hiding}
use Rattle.release.specs.Fill.{class_for, mark_for}

-- a node's mark by its first member
pub mark_none : (x : ℕ) → x ≡ no_node → 1 ≡ mark_for x
unfolding mark_for
mark_none x e = rw (eq-eqb x no_node e)

pub mark_some : (x : ℕ) → (x ≡ no_node → ⊥) → 0 ≡ mark_for x
unfolding mark_for
mark_some x e = rw (ne_eqb x no_node e)

pub class_none : (classes : List ℕ) (x : ℕ) → x ≡ no_node → 0 ≡ class_for classes x
unfolding class_for
class_none classes x e = rw (eq-eqb x no_node e)

pub class_some : (classes : List ℕ) (x : ℕ) → (x ≡ no_node → ⊥) → get_or classes x 0 ≡ class_for classes x
unfolding class_for
class_some classes x e = rw (ne_eqb x no_node e)

-- the class of a node by its group is the one by its first member
class_by : (n : ℕ) (first classes : List ℕ) (p : ℕ) → p < n → class_for classes (get_or first p 0) ≡ class_in n first classes p
unfolding class_for class_in placed
class_by n first classes p l = rw (lt-ltb p n l) (step (eqb (get_or first p 0) no_node))
  where
    step : (b : Bool) → cond b 0 (get_or classes (get_or first p 0) 0) ≡ cond (not b) (get_or classes (get_or first p 0) 0) 0
    step true = refl
    step false = refl

module _ (n : ℕ) {first kinds classes joined : List ℕ} (h : Exact n first kinds classes joined) {es₁ : List ℕ} (filled : es₁ ≡ edges_of (unfolded n first kinds joined)) where
  abbrev g : Graph
  g = held n first kinds classes joined

  -- edges do not depend on classes
  filled-held : es₁ ≡ edges_of (held n first kinds classes joined)
  unfolding edges_of row_of
  filled-held = filled

  same_edge : edges_in n es₁ ≡ (unfolded n first kinds joined).edge
  same_edge = unfold unfolded in edges-same g h.proper filled-held

  -- the same graph, by the edge table and the first members
  same_graph : hiding n es₁ first classes ≡ held n first kinds classes joined
  unfolding hiding unfolded
  same_graph = λ i. record { node_count = n; edge = same_edge i; hidden = λ p. ltb p n && eqb (get_or first p 0) no_node; class = class_in n first classes }

  pub filled-visible : VisibleTold n es₁ first classes
  filled-visible = record {
    within = unfold unfolded in within g h.proper filled-held;
    proper = unfold unfolded in proper g h.proper filled-held;
    classed = h.proper.classed;
    size = omega (arith, h.compressed.nodes, h.compressed.small);
    labelled = omega (arith, h.labels, h.compressed.small);
    told = λ p v. rw same_graph (h.told p (rw same_graph at v));
    none = λ p q l e. rw same_edge (unfold unfolded placed in rw (e, lt-ltb p n l));
  }

  -- keys by groups are keys by rows
  pub grouped_keys : {ks₁ : List ℕ} → ks₁ ≡ keys_of (unfolded n first kinds joined) → ks₁ ≡ keys_of (graph_in n es₁)
  grouped_keys k = k ∙ keys-held ∙ sym (unfold unfolded in filled_keys g h.proper filled-held)
    where
      keys-held : keys_of (unfolded n first kinds joined) ≡ keys_of (held n first kinds classes joined)
      keys-held = unfold keys_of key_pair open_key closed_key in refl

  module _ {ns ns₁ lst : List ℕ} (ln : length ns ≡ node_numbers * n) (m : LabelsPut (λ p. mark_for (get_or first p 0)) (λ p. class_for classes (get_or first p 0)) n ns ns₁) (t : LeastTold n es₁ (class_in n first classes) lst) where
    marked : (p : ℕ) → p < n → mark_for (get_or first p 0) ≡ cond ((unfolded n first kinds joined).hidden p) 1 0
    marked p l = unfold unfolded mark_for in rw (lt-ltb p n l)

    -- the labels as they are told
    put : LabelsPut (λ p. mark_for (get_or first p 0)) (class_in n first classes) n ns ns₁
    put = record { size = m.size; marks = m.marks; classes = λ p l. m.classes p l ∙ class_by n first classes p l }

    pub filled-leading : Leading n lst
    filled-leading = unfold unfolded in leading g h.proper filled-held t.told ln put marked (λ p l. refl) t.size

    pub filled_tables : {ks₁ ns₂ : List ℕ} → ks₁ ≡ keys_of (graph_in n es₁) → Built n lst ns₁ ns₂ → lent es₁ ns₂ ks₁ ≡ tables_of (held n first kinds classes joined)
    filled_tables k b = unfold unfolded in tables g h.proper filled-held t.told ln put marked (λ p l. refl) k b

  -- a first member is a place among the classes
  pub first_labelled : (p : ℕ) → p < n → (get_or first p 0 ≡ no_node → ⊥) → get_or first p 0 < length classes
  first_labelled p l d =
      let b : placed n first p ≡ true = unfold placed in rw (lt-ltb p n l, ne_eqb (get_or first p 0) no_node d) in
      omega (arith, h.compressed.before p b, h.labels, h.compressed.small)
