-- Hidden nodes without edges: the groups of all nodes by those of the visible ones.
use Rattle.std.specs.Prelude.{◌≡◌, Bool, ◌&&◌, ◌||◌, List, ◌⊎◌, ℕ, ◌≤◌, ◌<◌, ltb}
use Rattle.std.proofs.Common.{sym, ◌∙◌, inl, inr, arith}
use Rattle.std.proofs.Math.Path.{ap}
use Rattle.std.proofs.Math.Bool.{true, false}
use Rattle.std.proofs.Math.Dec.{eqb}
use borrow.Author.Tests.{eqb-false, eqb-true, ltb-false, ltb-true, ne_eqb}
use Rattle.model.specs.Lists.{◌∈◌, nodes}
use Rattle.model.specs.Graph.{Graph, Proper, whole}
use Rattle.model.specs.Grouping.{closed, false_twins, least, similar, true_twins}
use Rattle.model.specs.Release.{is_visible, visible, visible_class, visible_edge}
use Rattle.model.proofs.TestLaws.{decide, differ, iff_eq}
use Rattle.model.proofs.ListLaws.{Ascending, filter_elim, filter_intro, nodes_ascending, nodes_in_lem, nodes_out}
use Rattle.model.proofs.TwinLaws.{Simple, false_twins_at, false_twins_by, similar_N, similar_N+, similar_cases, similar_class, true_twins_at, true_twins_by, true_twins_edge}
use Rattle.model.proofs.ClassLaws.{Equivalence, least_in, least-le, least_rel}
use Rattle.model.proofs.SummaryLaws.{equivalence}
use Rattle.model.proofs.ReleaseLaws.{visible_ascending, visible-simple}
use Rattle.model.proofs.ReadBackLaws.{visible_inside}
use Rattle.model.proofs.TableLaws.{edge_below, proper_simple}

pub seen_in : (g : Graph) (p : ℕ) → is_visible g p ≡ true → p ∈ (visible g).nodes
seen_in g p h = filter_intro (is_visible g) (nodes g.node_count) p (nodes_in_lem g.node_count p (visible_inside g p h)) h

pub seen_out : (g : Graph) (p : ℕ) → p ∈ (visible g).nodes → is_visible g p ≡ true
seen_out g p m = (filter_elim (is_visible g) (nodes g.node_count) p m).1

pub seen_equivalence : (g : Graph) → Proper g → Equivalence (visible g).nodes (similar (visible g))
seen_equivalence g proper = equivalence (visible g) (visible-simple g proper) (visible_ascending g)

-- a graph whose hidden nodes have no edges
module _ (g : Graph) (none : (p q : ℕ) → is_visible g q ≡ false → g.edge p q ≡ false) where
  -- the edges of a visible node
  pub edge_seen : (p q : ℕ) → is_visible g p ≡ true → (visible g).edge p q ≡ g.edge p q
  unfolding visible_edge
  edge_seen p q h = step (decide (is_visible g q))
    where
      step : (is_visible g q ≡ true) ⊎ (is_visible g q ≡ false) → (is_visible g p && (is_visible g q && g.edge p q)) ≡ g.edge p q
      step (inl k) = rw (h, k)
      step (inr k) = rw (h, k, none p q k)

  pub class_seen : (p : ℕ) → is_visible g p ≡ true → (visible g).class p ≡ g.class p
  unfolding visible_class
  class_seen p h = rw h

  -- similar among all nodes is similar among the visible
  module _ (u q : ℕ) (hu : is_visible g u ≡ true) (hq : is_visible g q ≡ true) where
    to-false : false_twins (whole g) u q ≡ true → false_twins (visible g) u q ≡ true
    to-false t = false_twins_by (visible g) u q (λ x m. edge_seen u x hu ∙ false_twins_at (whole g) u q t x (nodes_in_lem g.node_count x (visible_inside g x (seen_out g x m))) ∙ sym (edge_seen q x hq))

    to-true : true_twins (whole g) u q ≡ true → true_twins (visible g) u q ≡ true
    unfolding closed
    to-true t =
        true_twins_by (visible g) u q
        (λ x m. ap (λ (b : Bool). b || eqb u x) (edge_seen u x hu) ∙ true_twins_at (whole g) u q t x (nodes_in_lem g.node_count x (visible_inside g x (seen_out g x m))) ∙ ap (λ (b : Bool). b || eqb q x) (sym (edge_seen q x hq)))

    of-false : false_twins (visible g) u q ≡ true → false_twins (whole g) u q ≡ true
    of-false t = false_twins_by (whole g) u q (λ x m. at x (decide (is_visible g x)))
      where
        at : (x : ℕ) → (is_visible g x ≡ true) ⊎ (is_visible g x ≡ false) → g.edge u x ≡ g.edge q x
        at x (inl v) = sym (edge_seen u x hu) ∙ false_twins_at (visible g) u q t x (seen_in g x v) ∙ edge_seen q x hq
        at x (inr v) = none u x v ∙ sym (none q x v)

    of-true : true_twins (visible g) u q ≡ true → true_twins (whole g) u q ≡ true
    unfolding closed
    of-true t = true_twins_by (whole g) u q (λ x m. at x (decide (is_visible g x)))
      where
        other : (p x : ℕ) → is_visible g p ≡ true → is_visible g x ≡ false → eqb p x ≡ false
        other p x hp v = ne_eqb p x (λ z. differ hp (ap (is_visible g) z ∙ v))

        at : (x : ℕ) → (is_visible g x ≡ true) ⊎ (is_visible g x ≡ false) → (g.edge u x || eqb u x) ≡ (g.edge q x || eqb q x)
        at x (inl v) = ap (λ (b : Bool). b || eqb u x) (sym (edge_seen u x hu)) ∙ true_twins_at (visible g) u q t x (seen_in g x v) ∙ ap (λ (b : Bool). b || eqb q x) (edge_seen q x hq)
        at x (inr v) = rw (none u x v, none q x v, other u x hu v, other q x hq v)

    pub similar_seen : similar (whole g) u q ≡ similar (visible g) u q
    similar_seen = iff_eq (similar (whole g) u q) (similar (visible g) u q) (λ h. there (class_seen u hu ∙ similar_class (whole g) u q h ∙ sym (class_seen q hq)) (similar_cases (whole g) u q h)) (λ h. back (sym (class_seen u hu) ∙ similar_class (visible g) u q h ∙ class_seen q hq) (similar_cases (visible g) u q h))
      where
        there : (visible g).class u ≡ (visible g).class q → (false_twins (whole g) u q ≡ true) ⊎ (true_twins (whole g) u q ≡ true) → similar (visible g) u q ≡ true
        there e (inl t) = similar_N (visible g) u q e (to-false t)
        there e (inr t) = similar_N+ (visible g) u q e (to-true t)

        back : g.class u ≡ g.class q → (false_twins (visible g) u q ≡ true) ⊎ (true_twins (visible g) u q ≡ true) → similar (whole g) u q ≡ true
        back e (inl t) = similar_N (whole g) u q e (of-false t)
        back e (inr t) = similar_N+ (whole g) u q e (of-true t)

-- and that is proper
module _ (g : Graph) (proper : Proper g) where
  abbrev vs : List ℕ
  vs = (visible g).nodes

  abbrev r : ℕ → ℕ → Bool
  r = similar (visible g)

  abbrev R : ℕ → ℕ → Bool
  R = similar (whole g)

  asc : Ascending (visible g).nodes
  asc = visible_ascending g

  eq : Equivalence (visible g).nodes (similar (visible g))
  eq = seen_equivalence g proper

  simple-all : Simple (whole g)
  simple-all = proper_simple g proper

  asc-all : Ascending (nodes g.node_count)
  asc-all = nodes_ascending g.node_count

  eq-all : Equivalence (nodes g.node_count) (similar (whole g))
  eq-all = equivalence (whole g) simple-all asc-all

  -- p has no edge, and is of class 0
  abbrev Lone : ℕ → Type 0
  Lone p = ((q : ℕ) → g.edge p q ≡ false) × (g.class p ≡ 0)

  edge-outside : (p q : ℕ) → g.node_count ≤ q → g.edge p q ≡ false
  edge-outside p q l = step (decide (g.edge p q))
    where
      step : (g.edge p q ≡ true) ⊎ (g.edge p q ≡ false) → g.edge p q ≡ false
      step (inl t) = absurd (omega (arith, edge_below g proper p q t))
      step (inr t) = t

  pub isolated_similar : (p q : ℕ) → Lone p → Lone q → similar (whole g) p q ≡ true
  isolated_similar p q a b = similar_N (whole g) p q (a.1 ∙ sym b.1) (false_twins_by (whole g) p q (λ x m. a.0 x ∙ sym (b.0 x)))

  pub similar_isolated : (p q : ℕ) → q < g.node_count → Lone p → similar (whole g) p q ≡ true → Lone q
  similar_isolated p q hq a h = (λ x. step x (decide (ltb x g.node_count)) (decide (eqb p q)) (similar_cases (whole g) p q h), sym (similar_class (whole g) p q h) ∙ a.1)
    where
      step : (x : ℕ) → (ltb x g.node_count ≡ true) ⊎ (ltb x g.node_count ≡ false) → (eqb p q ≡ true) ⊎ (eqb p q ≡ false) → (false_twins (whole g) p q ≡ true) ⊎ (true_twins (whole g) p q ≡ true) → g.edge q x ≡ false
      step x (inr b) e t = edge-outside q x (ltb-false x g.node_count b)
      step x (inl b) (inl e) t = ap (λ (z : ℕ). g.edge z x) (sym (eqb-true p q e)) ∙ a.0 x
      step x (inl b) (inr e) (inl t) = sym (false_twins_at (whole g) p q t x (nodes_in_lem g.node_count x (ltb-true x g.node_count b))) ∙ a.0 x
      step x (inl b) (inr e) (inr t) = differ (true_twins_edge (whole g) simple-all p q (nodes_in_lem g.node_count q hq) (eqb-false p q e) t) (a.0 q)

  -- a visible node's group is the same, if all of its group among all nodes are visible
  pub least-visible : ((p q : ℕ) → is_visible g q ≡ false → g.edge p q ≡ false) → (p : ℕ) → is_visible g p ≡ true → ((q : ℕ) → q < g.node_count → similar (whole g) p q ≡ true → is_visible g q ≡ true)
      → least (visible g).nodes (similar (visible g)) p ≡ least (nodes g.node_count) (similar (whole g)) p
  least-visible none p v all-visible =
      let n = g.node_count in
      let mp = nodes_in_lem n p (visible_inside g p v) in
      let a = least vs r p in
      let b = least (nodes n) R p in
      let va = seen_out g a (least_in vs r eq asc p (seen_in g p v)) in
      let lb = nodes_out n b (least_in (nodes n) R eq-all asc-all p mp) in
      let rb = least_rel (nodes n) R eq-all asc-all p mp in
      let vb = all-visible b lb rb in
      omega (
        arith,
        least-le (nodes n) R eq-all asc-all p a (nodes_in_lem n a (visible_inside g a va)) (similar_seen g none p a v va ∙ least_rel vs r eq asc p (seen_in g p v)),
        least-le vs r eq asc p b (seen_in g b vb) (sym (similar_seen g none p b v vb) ∙ rb),
      )

  -- the least of these is the least member of the group of each
  pub least_isolated : (p m : ℕ) → p < g.node_count → Lone p → m < g.node_count → Lone m → ((q : ℕ) → q < g.node_count → Lone q → m ≤ q) → m ≡ least (nodes g.node_count) (similar (whole g)) p
  least_isolated p m hp a hm b low =
      let n = g.node_count in
      let mp = nodes_in_lem n p hp in
      let l = least (nodes n) R p in
      let hl = nodes_out n l (least_in (nodes n) R eq-all asc-all p mp) in
      omega (
        arith,
        least-le (nodes n) R eq-all asc-all p m (nodes_in_lem n m hm) (isolated_similar p m a b),
        low l hl (similar_isolated p l hl a (least_rel (nodes n) R eq-all asc-all p mp)),
      )
