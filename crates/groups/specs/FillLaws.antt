-- Tables filled from a graph's edges, marks and classes and the least members of its groups are that graph's.
use Rattle.std.specs.Prelude.{◌≡◌, Bool, ◌&&◌, cond, List, ℕ, ◌*◌, ◌≤◌, ◌<◌, eqb, length, get_or}
use Rattle.std.proofs.Math.Path.{refl, ap}
use Rattle.std.proofs.Common.{sym, ap₂, subst, ◌∙◌, arith}
use Rattle.model.specs.Lists.{head_or, nodes}
use Rattle.model.specs.Graph.{Graph, Proper, node_numbers, whole}
use Rattle.model.specs.Grouping.{group, least, similar}
use Rattle.model.specs.Tables.{classed_in, edges_in, edges_of, graph_in, keys_of, tables_of}
use Rattle.model.proofs.TestLaws.{differ}
use Rattle.model.proofs.ListLaws.{filter_cong, nodes_out}
use Rattle.model.proofs.TwinLaws.{similar_split}
use Rattle.model.proofs.TableLaws.{edges_in_lem}
use Rattle.rows.specs.Rows.{lent}
use Rattle.search.specs.Search.{Within}
use Rattle.search.specs.SearchLaws.{ready}
use Rattle.rings.specs.Steps.{Built, LabelsPut, Leading, LeastAndLabels}
use Rattle.rings.specs.BuildLaws.{grouped-leading}

module _ (g : Graph) (h : Proper g) {edges : List ℕ} (filled : edges ≡ edges_of g) where
  pub same_edge : edges_in g.node_count edges ≡ g.edge
  same_edge = ap (edges_in g.node_count) filled ∙ edges_in_lem g h

  pub filled_within : Within g.node_count edges
  filled_within = record { small = h.small; edges_of_lem = subst (λ (e : List ℕ). e ≡ edges_of (graph_in g.node_count e)) (sym filled) (ready g h).edges_of_lem }

  pub filled_proper : Proper (graph_in g.node_count edges)
  filled_proper = record {
    small = h.small;
    symmetric = λ p q. rw same_edge (h.symmetric p q);
    irreflexive = λ p. rw same_edge (h.irreflexive p);
    inside = λ p q. rw same_edge (h.inside p q);
    held = λ p x. absurd (differ x refl);
    classed = λ p. omega arith;
    unclassed = λ p l. refl;
  }

  -- who is similar by the edges and the classes
  pub similar-told : {class : ℕ → ℕ} → ((p : ℕ) → p < g.node_count → class p ≡ g.class p) → (p q : ℕ) → p < g.node_count → q < g.node_count → similar (whole (classed_in g.node_count edges class)) p q ≡ similar (whole g) p q
  similar-told {class} classes p q hp hq =
      similar_split (whole (classed_in g.node_count edges class)) p q
      ∙ ap₂ ◌&&◌ (ap₂ eqb (classes p hp) (classes q hq)) (ap (λ (f : ℕ → ℕ → Bool). similar (record { nodes = nodes g.node_count; edge = f; class = λ p. 0 }) p q) same_edge)
      ∙ sym (similar_split (whole g) p q)

  least-same : {class : ℕ → ℕ} → ((p : ℕ) → p < g.node_count → class p ≡ g.class p) → (p : ℕ) → p < g.node_count
      → least (nodes g.node_count) (similar (whole (classed_in g.node_count edges class))) p ≡ least (nodes g.node_count) (similar (whole g)) p
  unfolding least group
  least-same classes p l = ap (head_or p) (filter_cong _ _ (nodes g.node_count) (λ q m. similar-told classes p q l (nodes_out g.node_count q m)))

  pub filled_keys : keys_of (graph_in g.node_count edges) ≡ keys_of g
  filled_keys = ap (λ (e : List ℕ). keys_of (graph_in g.node_count e)) filled ∙ sym (ready g h).keys_of_lem

  -- marks and classes are put into the node table, which is then built from the least members
  module _ {mark class : ℕ → ℕ} {lst ns ns₁ : List ℕ}
      (told : (p : ℕ) → p < g.node_count → get_or lst p 0 ≡ least (nodes g.node_count) (similar (whole (classed_in g.node_count edges class))) p)
      (size : length ns ≡ node_numbers * g.node_count) (m : LabelsPut mark class g.node_count ns ns₁)
      (marks : (p : ℕ) → p < g.node_count → mark p ≡ cond (g.hidden p) 1 0) (classes : (p : ℕ) → p < g.node_count → class p ≡ g.class p) where
    grouped : LeastAndLabels g lst ns₁
    grouped = record {
      proper = h;
      least = λ p l. told p l ∙ least-same classes p l;
      size = m.size ∙ size;
      labels = record { marks = λ p l. m.marks p l ∙ marks p l; classes = λ p l. m.classes p l ∙ classes p l };
    }

    pub filled-leading : g.node_count ≤ length lst → Leading g.node_count lst
    filled-leading = grouped-leading grouped

    pub filled_tables : {ns₂ ks : List ℕ} → ks ≡ keys_of (graph_in g.node_count edges) → Built g.node_count lst ns₁ ns₂ → lent edges ns₂ ks ≡ tables_of g
    unfolding tables_of
    filled_tables k b =
        let e = b.nodes g refl grouped in
        let d = k ∙ filled_keys in
        λ i. record { edges = filled i; nodes = e i; keys = d i }
