-- Each visible node's group is found among the leaders below it.
use Rattle.std.specs.Prelude.{◌≡◌, ℕ, ◌+◌, ◌<◌, ◌≤◌, Bool, true, false, cond, ◌&&◌, ◌⊎◌, List, length, ◌==◌, nat_eq, nat_lt, slice_index, slice_set, Option, None, Some, unwrap_or}
use Rattle.std.proofs.Math.Path.{refl, sym, ap}
use Rattle.std.proofs.Common.{◌∙◌, inl, arith, length-set, get_or-set_other, get_or-set_same}
use Rattle.std.proofs.Math.Bool.{and-false}
use Rattle.std.proofs.Math.Logic.{inr}
use borrow.Author.Tests.{eqb-false, eqb-true, eq-eqb, lt-ltb, ltb-false, ltb-true}
use Rattle.model.specs.Lists.{◌∈◌}
use Rattle.model.specs.Graph.{Graph, View, whole}
use Rattle.model.specs.Grouping.{closed, false_twins, least, similar, true_twins}
use Rattle.model.specs.Tables.{edge_bit, keys_of, edges_in, graph_in}
use Rattle.model.specs.Release.{is_visible, visible}
use Rattle.model.proofs.TestLaws.{and_fst, and_snd, and_true, decide, differ}
use Rattle.model.proofs.ListLaws.{Ascending}
use Rattle.model.proofs.TwinLaws.{similar_N, similar_N+, similar_cases, similar_class, similar_refl}
use Rattle.model.proofs.ClassLaws.{Equivalence, least_eq, least_in, least-le, least-least, least_rel}
use Rattle.model.proofs.ReleaseLaws.{visible_ascending}
use Rattle.model.proofs.ReadBackLaws.{visible_inside}
use Rattle.model.proofs.HiddenLaws.{edge_seen, seen_equivalence, seen_in, seen_out, similar_seen}
use Rattle.layout.specs.Truth.{Truth}
use Rattle.rows.specs.Rows.{Words}
use Rattle.search.specs.Search.{Ready}
use Rattle.search.specs.SearchLaws.{meets_by, meets_words, within-length}
use Rattle.search.specs.TwinRowLaws.{false_meet, meet_false, meet_true, true_meet, word_small}
use Rattle.masking.specs.Masking.{Apart, drawn, shown}
use Rattle.grouping.specs.Least.{leading, least_visible}
use Rattle.compressed.specs.Compressed.{alike}
use Rattle.grouping.specs.declared.Leaders.{Leaders}
use Rattle.grouping.specs.Chains.{Entered, Links, Met, SlotsTell, Sought, class_alike}
use Rattle.masking.specs.MaskLaws.{visible_is}
use Rattle.grouping.specs.ChainLaws.{chains_none}

module _ {n : ℕ} {edges marks classes : List ℕ} (a : Apart n edges marks classes) where
  abbrev g : Graph
  g = drawn n edges marks classes

  abbrev w : View
  w = whole (drawn n edges marks classes)

  abbrev vs : List ℕ
  vs = (visible (drawn n edges marks classes)).nodes

  abbrev r : ℕ → ℕ → Bool
  r = similar (visible (drawn n edges marks classes))

  asc : Ascending (visible (drawn n edges marks classes)).nodes
  asc = visible_ascending g

  eq : Equivalence (visible (drawn n edges marks classes)).nodes (similar (visible (drawn n edges marks classes)))
  eq = seen_equivalence g a.proper

  in-vs : (p : ℕ) → is_visible (drawn n edges marks classes) p ≡ true → p ∈ (visible (drawn n edges marks classes)).nodes
  in-vs p h = seen_in g p h

  out-vs : (p : ℕ) → p ∈ (visible (drawn n edges marks classes)).nodes → is_visible (drawn n edges marks classes) p ≡ true
  out-vs p m = seen_out g p m

  inside : (p : ℕ) → is_visible (drawn n edges marks classes) p ≡ true → p < n
  unfolding drawn
  inside p h = visible_inside g p h

  -- hidden nodes have no edges
  no_edge : (p q : ℕ) → is_visible (drawn n edges marks classes) q ≡ false → (drawn n edges marks classes).edge p q ≡ false
  unfolding drawn
  no_edge p q k = step (decide (nat_lt q n)) (sym (visible_is n edges marks classes q) ∙ k)
    where
      step : (nat_lt q n ≡ true) ⊎ (nat_lt q n ≡ false) → (nat_lt q n && shown marks q) ≡ false → edges_in n edges p q ≡ false
      step (inl x) z = a.none p q (rw x at z)
      step (inr x) z = unfold edges_in in rw (x, and-false (nat_lt p n))

  edge_is : (p q : ℕ) → is_visible (drawn n edges marks classes) p ≡ true → (visible (drawn n edges marks classes)).edge p q ≡ edges_in n edges p q
  unfolding drawn
  edge_is p q h = edge_seen g no_edge p q h

  -- similar among all nodes is similar among the visible
  similar-visible : (u q : ℕ) → is_visible (drawn n edges marks classes) u ≡ true → is_visible (drawn n edges marks classes) q ≡ true → similar (whole (drawn n edges marks classes)) u q ≡ similar (visible (drawn n edges marks classes)) u q
  unfolding drawn
  similar-visible u q hu hq = similar_seen g no_edge u q hu hq

  -- rows that agree are those of similar nodes
  apart_ready : Ready n edges (keys_of (graph_in n edges))
  apart_ready = record { small = a.within.small; loops = λ p. unfold drawn in a.proper.irreflexive p; edges_of_lem = a.within.edges_of_lem; keys_of_lem = refl }

  class_at_lem : (p : ℕ) → p < n → (drawn n edges marks classes).class p ≡ slice_index classes p
  unfolding drawn
  class_at_lem p h = rw (lt-ltb p n h)

  similar-alike : (closed : Bool) (u q : ℕ) → u < n → q < n → class_alike edges classes closed u q ≡ true → similar (whole (drawn n edges marks classes)) u q ≡ true
  unfolding class_alike alike
  similar-alike closed u q hu hq h = step closed (and_snd same (alike edges closed u q) h)
    where
      same : Bool
      same = slice_index classes u == slice_index classes q

      one : (drawn n edges marks classes).class u ≡ (drawn n edges marks classes).class q
      one = class_at_lem u hu ∙ eqb-true (slice_index classes u) (slice_index classes q) (and_fst same (alike edges closed u q) h) ∙ sym (class_at_lem q hq)

      step : (c : Bool) → alike edges c u q ≡ true → similar (whole (drawn n edges marks classes)) u q ≡ true
      step true t = similar_N+ w u q one (unfold drawn true_twins in meet_true n edges (keys_of (graph_in n edges)) apart_ready u q hu hq (meets_words true u q edges t))
      step false t = similar_N w u q one (unfold drawn false_twins in meet_false n edges (keys_of (graph_in n edges)) apart_ready u q hu hq (meets_words false u q edges t))

  alike-similar : (u q : ℕ) → u < n → q < n → similar (whole (drawn n edges marks classes)) u q ≡ true → (class_alike edges classes false u q ≡ true) ⊎ (class_alike edges classes true u q ≡ true)
  unfolding class_alike alike
  alike-similar u q hu hq h = step (similar_cases w u q h)
    where
      one : nat_eq (slice_index classes u) (slice_index classes q) ≡ true
      one = eq-eqb (slice_index classes u) (slice_index classes q) (sym (class_at_lem u hu) ∙ similar_class w u q h ∙ class_at_lem q hq)

      step : (false_twins w u q ≡ true) ⊎ (true_twins w u q ≡ true) → (class_alike edges classes false u q ≡ true) ⊎ (class_alike edges classes true u q ≡ true)
      step (inl t) = inl (and_true one (meets_by false u q edges (false_meet n edges (keys_of (graph_in n edges)) apart_ready u q hu hq (unfold drawn false_twins in t))))
      step (inr t) = inr (and_true one (meets_by true u q edges (true_meet n edges (keys_of (graph_in n edges)) apart_ready u q hu hq (unfold drawn true_twins in t))))

  -- a leader is visible
  leads-out : (q : ℕ) → q < n → leading (drawn n edges marks classes) q ≡ true → (is_visible (drawn n edges marks classes) q ≡ true) × (least (visible (drawn n edges marks classes)).nodes (similar (visible (drawn n edges marks classes))) q ≡ q)
  unfolding leading least_visible
  leads-out q hq h = at (decide (is_visible g q)) (eqb-true _ q h)
    where
      at : (is_visible g q ≡ true) ⊎ (is_visible g q ≡ false) → cond (is_visible g q) (least vs r q) 65535 ≡ q → (is_visible g q ≡ true) × (least vs r q ≡ q)
      at (inl k) t = (k, rw k at t)
      at (inr k) t = let z : 65535 ≡ q = rw k at t in absurd (omega (arith, a.within.small))

  leads-in : (q : ℕ) → is_visible (drawn n edges marks classes) q ≡ true → least (visible (drawn n edges marks classes)).nodes (similar (visible (drawn n edges marks classes))) q ≡ q → leading (drawn n edges marks classes) q ≡ true
  unfolding leading least_visible
  leads-in q v h = eq-eqb _ q (rw v h)

  -- the group of a visible u
  module _ (u : ℕ) (v : is_visible (drawn n edges marks classes) u ≡ true) where
    leader-low : least (visible (drawn n edges marks classes)).nodes (similar (visible (drawn n edges marks classes))) u ≤ u
    leader-low = least-le vs r eq asc u u (in-vs u v) (similar_refl (visible g) u)

    leader-visible : is_visible (drawn n edges marks classes) (least (visible (drawn n edges marks classes)).nodes (similar (visible (drawn n edges marks classes))) u) ≡ true
    leader-visible = out-vs (least vs r u) (least_in vs r eq asc u (in-vs u v))

    leader-leads : leading (drawn n edges marks classes) (least (visible (drawn n edges marks classes)).nodes (similar (visible (drawn n edges marks classes))) u) ≡ true
    leader-leads = leads-in (least vs r u) leader-visible (least-least vs r eq asc u (in-vs u v))

    leader-similar : similar (whole (drawn n edges marks classes)) u (least (visible (drawn n edges marks classes)).nodes (similar (visible (drawn n edges marks classes))) u) ≡ true
    leader-similar = similar-visible u (least vs r u) v leader-visible ∙ least_rel vs r eq asc u (in-vs u v)

    -- a leader below u whose row agrees with u's
    least-met : (closed : Bool) (q : ℕ) → q < u → leading (drawn n edges marks classes) q ≡ true → class_alike edges classes closed u q ≡ true → q ≡ least_visible (drawn n edges marks classes) u
    unfolding least_visible
    least-met closed q l h t =
        let hu = inside u v in
        let k = leads-out q (omega arith) h in
        let same : r u q ≡ true = sym (similar-visible u q v k.0) ∙ similar-alike closed u q hu (omega arith) t in
        rw v (sym (least_eq vs r eq asc u q (in-vs u v) (in-vs q k.0) same ∙ k.1))

    -- no leader below u whose row agrees
    least-alone : ((closed : Bool) (q : ℕ) → q < u → leading (drawn n edges marks classes) q ≡ true → class_alike edges classes closed u q ≡ false) → u ≡ least_visible (drawn n edges marks classes) u
    unfolding least_visible
    least-alone none = rw v (at (decide (nat_lt (least vs r u) u)))
      where
        twins : (class_alike edges classes false u (least vs r u) ≡ true) ⊎ (class_alike edges classes true u (least vs r u) ≡ true)
        twins = alike-similar u (least vs r u) (inside u v) (inside (least vs r u) leader-visible) leader-similar

        clash : least vs r u < u → (class_alike edges classes false u (least vs r u) ≡ true) ⊎ (class_alike edges classes true u (least vs r u) ≡ true) → u ≡ least vs r u
        clash b (inl t) = differ t (none false (least vs r u) b leader-leads)
        clash b (inr t) = differ t (none true (least vs r u) b leader-leads)

        at : (nat_lt (least vs r u) u ≡ true) ⊎ (nat_lt (least vs r u) u ≡ false) → u ≡ least vs r u
        at (inl b) = clash (ltb-true (least vs r u) u b) twins
        at (inr b) = omega (arith, ltb-false (least vs r u) u b, leader-low)

-- its words fit
pub apart_words : {n : ℕ} {edges marks classes : List ℕ} → Apart n edges marks classes → Words edges
apart_words {n} {edges} a = word_small n edges (keys_of (graph_in n edges)) (apart_ready a)

-- the steps of the search
module _ {n : ℕ} {edges marks classes : List ℕ} (a : Apart n edges marks classes) {u : ℕ} (hu : u < n) (b : Bool) (e : b ≡ shown marks u) where
  abbrev g₁ : Graph
  g₁ = drawn n edges marks classes

  abbrev L : ℕ → Bool
  L = leading (drawn n edges marks classes)

  seen : is_visible (drawn n edges marks classes) u ≡ b
  seen = visible_is n edges marks classes u ∙ ap (λ (x : Bool). x && shown marks u) (lt-ltb u n hu) ∙ sym e

  pub least_hidden : b ≡ false → 65535 ≡ least_visible (drawn n edges marks classes) u
  unfolding least_visible
  least_hidden t = rw (seen ∙ t)

  module _ (t : b ≡ true) (slot : Bool → ℕ → ℕ) where
    pub least-met_by : (closed : Bool) {l : ℕ} → Met (slot closed) (leading (drawn n edges marks classes)) (class_alike edges classes closed u) u (Some l) → l ≡ least_visible (drawn n edges marks classes) u
    least-met_by closed {l} m = let h = m.hit l refl in least-met a u (seen ∙ t) closed l h.0 h.1 h.2

    pub least-closed : SlotsTell edges classes slot u → Met (slot false) (leading (drawn n edges marks classes)) (class_alike edges classes false u) u None
        → (r : Option ℕ) → Met (slot true) (leading (drawn n edges marks classes)) (class_alike edges classes true u) u r → unwrap_or r u ≡ least_visible (drawn n edges marks classes) u
    least-closed tell m (Some l) k = least-met_by true k
    least-closed tell m None k = least-alone a u (seen ∙ t) none
      where
        miss : (c : Bool) → Met (slot c) L (class_alike edges classes c u) u None → (p : ℕ) → p < u → L p ≡ true → class_alike edges classes c u p ≡ false
        miss c i p l h = at (decide (class_alike edges classes c u p))
          where
            at : (class_alike edges classes c u p ≡ true) ⊎ (class_alike edges classes c u p ≡ false) → class_alike edges classes c u p ≡ false
            at (inl w) = i.miss refl p l h (tell.same c p l w)
            at (inr w) = w

        none : (c : Bool) (p : ℕ) → p < u → L p ≡ true → class_alike edges classes c u p ≡ false
        none false p l h = miss false m p l h
        none true p l h = miss true k p l h

pub least_fits : {n : ℕ} {edges marks classes : List ℕ} {u x : ℕ} → Apart n edges marks classes → u < n → x ≡ least_visible (drawn n edges marks classes) u → x < 65536
unfolding least_visible
least_fits {n} {edges} {marks} {classes} {u} {x} a hu e = step (decide (is_visible (drawn n edges marks classes) u))
  where
    step : (is_visible (drawn n edges marks classes) u ≡ true) ⊎ (is_visible (drawn n edges marks classes) u ≡ false) → x < 65536
    step (inl v) = let y = rw v at e in omega (arith, inside a _ (out-vs a _ (least_in (visible (drawn n edges marks classes)).nodes _ (eq a) (asc a) u (in-vs a u v))), a.within.small)
    step (inr v) = let y : x ≡ 65535 = rw v at e in omega arith

-- u led or not, the chains go on
pub sought_more : {slot : Bool → ℕ → ℕ} {n : ℕ} {edges marks classes : List ℕ} {u l s s' : ℕ} {opens closeds opens₁ closeds₁ : Leaders} → Sought slot n edges marks classes u opens closeds → l ≡ least_visible (drawn n edges marks classes) u
    → SlotsTell edges classes slot u → s ≡ slot false u → s' ≡ slot true u → Entered u s l opens opens₁ → Entered u s' l closeds closeds₁ → Sought slot n edges marks classes (u + 1) opens₁ closeds₁
sought_more {slot} {n} {edges} {marks} {classes} {u} {l} h e tell es es' x y = record {
  open_links = x.links;
  closed_links = y.links;
  open_chains = x.chains (slot false) (leading (drawn n edges marks classes)) (tell.small false) (sym es) led h.open_chains;
  closed_chains = y.chains (slot true) (leading (drawn n edges marks classes)) (tell.small true) (sym es') led h.closed_chains;
}
  where
    led : leading (drawn n edges marks classes) u ≡ (l == u)
    led = unfold leading in ap (λ (z : ℕ). nat_eq z u) (sym e)

pub sought_none : (slot : Bool → ℕ → ℕ) (n : ℕ) (edges marks classes : List ℕ) {opens closeds : Leaders} → Links 0 opens → Links 0 closeds → Sought slot n edges marks classes 0 opens closeds
sought_none slot n edges marks classes x y = record { open_links = x; closed_links = y; open_chains = chains_none (slot false) (leading (drawn n edges marks classes)) x; closed_chains = chains_none (slot true) (leading (drawn n edges marks classes)) y }

-- the nodes below u are told
pub record Telling (g : Graph) (u : ℕ) (t after : List ℕ) : Type 0 where
  pub size : length after ≡ length t
  pub told : (q : ℕ) → q < u → slice_index after q ≡ least_visible g q

pub telling_none : (g : Graph) (t : List ℕ) → Telling g 0 t t
telling_none g t = record { size = refl; told = λ q h. absurd (omega arith) }

pub telling_more : {g : Graph} {u x : ℕ} {t t₁ : List ℕ} → Telling g u t t₁ → u < length t → x ≡ least_visible g u → Telling g (u + 1) t (slice_set t₁ u x)
telling_more {g} {u} {x} {t} {t₁} h l e = record { size = length-set t₁ u x ∙ h.size; told = λ q k. at q k (decide (q == u)) }
  where
    at : (q : ℕ) → q < u + 1 → ((q == u) ≡ true) ⊎ ((q == u) ≡ false) → slice_index (slice_set t₁ u x) q ≡ least_visible g q
    at q k (inl s) = rw (eqb-true q u s) (get_or-set_same t₁ u x 0 (omega (arith, h.size)) ∙ e)
    at q k (inr s) =
        let d : q ≡ u → ⊥ = eqb-false q u s in
        get_or-set_other t₁ u q x 0 d ∙ h.told q (omega arith)

pub telling_done : {n : ℕ} {edges marks classes : List ℕ} {u : ℕ} {t lst : List ℕ} → Apart n edges marks classes → Telling (drawn n edges marks classes) u t lst → n ≤ u → n ≤ length t → Truth (drawn n edges marks classes) lst classes edges
unfolding least_visible
telling_done {n} {edges} {marks} {classes} {u} {t} {lst} a h k s = record {
  proper = a.proper;
  size = unfold drawn in omega (arith, h.size);
  labelled = unfold drawn in a.labelled;
  rows = unfold drawn in omega (arith, within-length a.within);
  visible-least = λ p v. h.told p (omega (arith, inside a p v)) ∙ rw v;
  hidden_least = λ p b v. unfold drawn in omega (arith, hidden p b v, a.within.small);
  class_is = λ p v. sym (class_at_lem a p (inside a p v));
  edge_is = λ p q v w. bit p q (inside a p v) (inside a q w) ∙ sym (edge_is a p q v);
}
  where
    hidden : (p : ℕ) → p < (drawn n edges marks classes).node_count → is_visible (drawn n edges marks classes) p ≡ false → slice_index lst p ≡ 65535
    hidden p b v = unfold drawn in (h.told p (omega arith) ∙ rw v)

    bit : (p q : ℕ) → p < n → q < n → edge_bit edges p q ≡ edges_in n edges p q
    bit p q hp hq = unfold edges_in in rw (lt-ltb p n hp, lt-ltb q n hq)
