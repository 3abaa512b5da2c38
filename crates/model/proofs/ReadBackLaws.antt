-- A release is read as the visible part of the graph that it was made of, and only releases pass for releases.
use Rattle.std.specs.Prelude.{◌≡◌, Bool, ◌&&◌, List, ◌⊎◌, ℕ, ◌≤◌, ◌<◌, leb}
use Rattle.std.proofs.Math.Path.{refl, ap, ap₂, fun_ext}
use Rattle.std.proofs.Common.{sym, ◌∙◌, inl, inr, arith, ltb-true, lt-ltb, le-ltb, leb-true, le-leb}
use Rattle.std.proofs.Math.Bool.{true, false, not, cond}
use Rattle.std.proofs.Math.Dec.{ltb}
use Rattle.model.specs.Lists.{filter, member, nodes}
use Rattle.model.specs.Graph.{Graph, Proper, max_classes, max_nodes}
use Rattle.model.specs.Grouping.{algorithm1}
use Rattle.model.specs.Tables.{is_graph, simple}
use Rattle.model.specs.Release.{is_visible, release, visible, visible_class, visible_edge, visible_part}
use Rattle.model.specs.Reading.{decode, graph_by, is_release}
use Rattle.model.specs.History.{Alike}
use Rattle.model.proofs.TestLaws.{and_fst, and_snd, and_true, decide, iff_eq}
use Rattle.model.proofs.ListLaws.{filter_elim, filter_intro, member_elim, member_intro, nodes_in_lem, same_eq, same_refl}
use Rattle.model.proofs.TableLaws.{graph_class, graph-simple, graph_test, simple_edge, simple_loop}
use Rattle.model.proofs.ReleaseLaws.{non_interference, visible_ascending, visible-simple}
use Rattle.model.proofs.ReadingLaws.{count-encode, read_class, read_edge, read_placed, summary_encode}

pub visible_inside : (b : Graph) (p : ℕ) → is_visible b p ≡ true → p < b.node_count
unfolding is_visible
visible_inside b p t = ltb-true p b.node_count (and_fst (ltb p b.node_count) (not (b.hidden p)) t)

pub member-visible : (b : Graph) (p : ℕ) → member p (visible b).nodes ≡ is_visible b p
member-visible b p = iff_eq (member p (filter (is_visible b) (nodes b.node_count))) (is_visible b p) (λ t. (filter_elim (is_visible b) (nodes b.node_count) p (member_elim p (filter (is_visible b) (nodes b.node_count)) t)).1) (λ t. member_intro p _ (filter_intro (is_visible b) (nodes b.node_count) p (nodes_in_lem b.node_count p (visible_inside b p t)) t))

module _ (b : Graph) (h : Proper b) where
  edge-back : (p q : ℕ) → (member p (visible b).nodes && (member q (visible b).nodes && (visible b).edge p q)) ≡ (visible b).edge p q
  unfolding visible_edge
  edge-back p q = rw (member-visible b p, member-visible b q) (twice (is_visible b p) (is_visible b q) (b.edge p q))
    where
      twice : (x y t : Bool) → (x && (y && (x && (y && t)))) ≡ (x && (y && t))
      twice true true t = refl
      twice true false t = refl
      twice false y t = refl

  held_back : (p : ℕ) → (ltb p b.node_count && not (member p (visible b).nodes)) ≡ (ltb p b.node_count && b.hidden p)
  held_back p = rw (member-visible b p) (unfold is_visible in flip (ltb p b.node_count) (b.hidden p))
    where
      flip : (x w : Bool) → (x && not (x && not w)) ≡ (x && w)
      flip true true = refl
      flip true false = refl
      flip false w = refl

  class_back : (p : ℕ) → cond (member p (visible b).nodes) ((visible b).class p) 0 ≡ visible_class b p
  class_back p = rw (member-visible b p) (unfold visible_class in twice (is_visible b p))
    where
      twice : (x : Bool) → cond x (cond x (b.class p) 0) 0 ≡ cond x (b.class p) 0
      twice true = refl
      twice false = refl

  pub decode-release : decode (release b) ≡ visible_part b
  unfolding release visible_part graph_by decode
  decode-release =
      ap₂ graph_by (count-encode b.node_count (visible b) (algorithm1 (visible b))) (summary_encode b.node_count (visible b) (algorithm1 (visible b)))
      ∙ (λ i. record {
        node_count = b.node_count;
        edge = fun_ext (λ p. fun_ext (λ q. read_edge (visible b) (visible-simple b h) (visible_ascending b) p q ∙ edge-back p q)) i;
        hidden = fun_ext (λ p. ap (λ (t : Bool). ltb p b.node_count && not t) (read_placed (visible b) (visible-simple b h) (visible_ascending b) p) ∙ held_back p) i;
        class = fun_ext (λ p. read_class (visible b) (visible-simple b h) (visible_ascending b) p ∙ class_back p) i;
      })

-- the visible part is alike, and proper where the graph is one
pub visible-alike : (b : Graph) → Alike (visible_part b) b
unfolding visible_part visible_edge
visible-alike b = record {
  marks = record { node_count = refl; hidden = λ p l. ap (λ (t : Bool). t && b.hidden p) (lt-ltb p b.node_count l) };
  edge = λ p q x y. ap₂ (λ (s t : Bool). s && (t && b.edge p q)) (sym (same p) ∙ x) (sym (same q) ∙ y);
  class = λ p x. unfold visible_class in ap (λ (t : Bool). cond t (b.class p) 0) (sym (same p) ∙ x);
}
  where
    flip : (x w : Bool) → (x && not (x && w)) ≡ (x && not w)
    flip true w = refl
    flip false w = refl

    same : (p : ℕ) → is_visible (visible_part b) p ≡ is_visible b p
    same p = unfold visible_part is_visible in flip (ltb p b.node_count) (b.hidden p)

pub visible_proper : (b : Graph) → b.node_count ≤ max_nodes → is_graph b ≡ true → Proper (visible_part b)
unfolding visible_part visible_edge visible_class
visible_proper b small k = record {
  small = small;
  symmetric = λ p q. turn p q (decide (is_visible b p)) (decide (is_visible b q));
  irreflexive = λ p. self p (decide (is_visible b p));
  inside = λ p q t. visible_inside b p (and_fst (is_visible b p) _ t);
  held = λ p t. ltb-true p b.node_count (and_fst (ltb p b.node_count) (b.hidden p) t);
  classed = λ p. bound p (is_visible b p) refl;
  unclassed = λ p l. ap (λ (t : Bool). cond t (b.class p) 0) (outside p l);
}
  where
    h : simple b ≡ true
    h = graph-simple b k

    outside : (p : ℕ) → b.node_count ≤ p → is_visible b p ≡ false
    outside p l = unfold is_visible in ap (λ (t : Bool). t && not (b.hidden p)) (le-ltb p b.node_count l)

    bound : (p : ℕ) (x : Bool) → is_visible b p ≡ x → cond x (b.class p) 0 < max_classes
    bound p true e = graph_class b k p (visible_inside b p e)
    bound p false e = omega arith

    turn : (p q : ℕ) → (is_visible b p ≡ true) ⊎ (is_visible b p ≡ false) → (is_visible b q ≡ true) ⊎ (is_visible b q ≡ false)
        → (is_visible b p && (is_visible b q && b.edge p q)) ≡ (is_visible b q && (is_visible b p && b.edge q p))
    turn p q (inl x) (inl y) = rw (x, y) (simple_edge b h p q (visible_inside b p x) (visible_inside b q y))
    turn p q (inl x) (inr y) = rw (x, y)
    turn p q (inr x) (inl y) = rw (x, y)
    turn p q (inr x) (inr y) = rw (x, y)

    self : (p : ℕ) → (is_visible b p ≡ true) ⊎ (is_visible b p ≡ false) → (is_visible b p && (is_visible b p && b.edge p p)) ≡ false
    self p (inl x) = rw x (simple_loop b h p (visible_inside b p x))
    self p (inr x) = rw x

-- 19: the bytes pass exactly if they are the release of a graph, for some n to 512
pub release_is : (b : Graph) → Proper b → is_release (release b) ≡ true
unfolding is_release
release_is b h =
    let v = visible_proper b h.small (graph_test b h) in
    rw (decode-release b h) (and_true (le-leb (visible_part b).node_count max_nodes v.small) (and_true (graph_test (visible_part b) v) (rw (non_interference (visible_part b) b (visible-alike b)) (same_refl (release b)))))

pub only_releases : (s : List ℕ) → is_release s ≡ true → (b : Graph) × Proper b × (s ≡ release b)
unfolding is_release
only_releases s t =
    let b : Graph = decode s in
    let u = and_snd (leb b.node_count max_nodes) _ t in
    (visible_part b, visible_proper b (leb-true b.node_count max_nodes (and_fst (leb b.node_count max_nodes) _ t)) (and_fst (is_graph b) _ u), same_eq s (release b) (and_snd (is_graph b) _ u) ∙ sym (non_interference (visible_part b) b (visible-alike b)))
