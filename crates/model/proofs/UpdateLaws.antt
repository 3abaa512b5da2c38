-- Updates keep a graph proper, leave the rows of other nodes as they are, and move the number of groups by at most two.
use Rattle.std.proofs.Math.Path.{◌≡◌, refl, sym, ap, ap₂, fun_ext}
use Rattle.std.proofs.Common.{◌∙◌, inl, inr, arith, drop-cons}
use Rattle.std.specs.Prelude.{Bool, true, not, ◌&&◌, ◌||◌, cond, List, [], ◌∷◌, ◌⊎◌, ltb, ℤ, pos, nat_abs, length, get_or, drop}
use Rattle.std.proofs.Math.Bool.{false, and-false, and_comm, or_comm}
use Prim.Native.Nat.{ℕ, suc, ◌+◌, ◌-◌, ◌≤◌, ◌<◌}
use Rattle.std.proofs.Math.Dec.{eqb}
use Rattle.std.proofs.Math.IntN.{sub_ℕ}
use borrow.Author.Tests.{eqb-true, eqb-false, eq-eqb, ne_eqb, lt-ltb, le-ltb, ltb-true, ltb-false, not-false}
use Rattle.model.specs.Graph.{Graph, Proper, empty_graph, max_classes, max_nodes, whole}
use Rattle.model.specs.Updates.{Update, answer, answers, asked, batch_graph, group_count, is_frozen, is_pair, on_class, on_edge, on_mark, refusal, refusal_in, update_reasons, updated, there, update, update_count, update_numbers, update_refused, updates_in, wrong_value}
use Rattle.model.specs.Grouping.{algorithm1}
use Rattle.model.specs.Refusals.{first_of}
use Rattle.model.specs.Lists.{all}
use Rattle.model.specs.Steps.{Stepped, run}
use Rattle.model.proofs.TestLaws.{and_fst, and_snd, decide, differ, or_cases, or_none}
use Rattle.model.proofs.RefusalLaws.{first_none, first_passes, judged_done, judged_refused, judged_related}
use Rattle.model.proofs.StepLaws.{run_keeps, run_length}
use Rattle.model.proofs.ListLaws.{nodes_ascending}
use Rattle.model.proofs.TableLaws.{proper_simple}
use Rattle.model.proofs.BoundLaws.{SameAt, at_most_one, at_most_two, view_with}

pub proper_empty : (n : ℕ) → n ≤ max_nodes → Proper (empty_graph n)
unfolding empty_graph
proper_empty n h = record { small = h; symmetric = λ p q. refl; irreflexive = λ p. refl; inside = λ p q t. differ t refl; held = λ p t. differ t refl; classed = λ p. omega arith; unclassed = λ p l. refl }

-- the nodes of an update that is not refused with 14
module _ (n : ℕ) (c : Update) (h : (not (ltb c.u n) || (on_edge c && not (ltb c.v n))) ≡ false) where
  pub below_u : c.u < n
  below_u = ltb-true c.u n (not-false _ (or_none (not (ltb c.u n)) _ h).0)

  pub below_v : on_edge c ≡ true → c.v < n
  below_v t = ltb-true c.v n (not-false _ (sym (ap (λ (x : Bool). x && not (ltb c.v n)) t) ∙ (or_none (not (ltb c.u n)) _ h).1))

-- what is known of an accepted update
module _ (g : Graph) (c : Update) (ok : refusal g c ≡ 0) where
  facts : (not (on_edge c || (on_mark c || on_class c)) ≡ false) × ((not (ltb c.u g.node_count) || (on_edge c && not (ltb c.v g.node_count))) ≡ false) × (wrong_value c ≡ false) × (is_frozen g c ≡ false) × (eqb (there g c) (asked c) ≡ false)
  unfolding refusal update_reasons
  facts =
      let a = first_none _ 13 _ refl ok in
      let d = first_none _ 14 _ refl a.1 in
      let e = first_none _ 15 _ refl d.1 in
      let f = first_none _ 24 _ refl e.1 in
      (a.0, d.0, e.0, f.0, (first_none _ 16 _ refl f.1).0)

  pub not_frozen : is_frozen g c ≡ false
  not_frozen = facts.3

  -- its kind is one of three
  kinds : (c.kind ≡ 1) ⊎ ((c.kind ≡ 2) ⊎ (c.kind ≡ 3))
  kinds = step (or_cases (on_edge c) _ (not-false _ facts.0))
    where
      rest : (on_mark c ≡ true) ⊎ (on_class c ≡ true) → (c.kind ≡ 1) ⊎ ((c.kind ≡ 2) ⊎ (c.kind ≡ 3))
      rest (inl t) = inr (inl (eqb-true c.kind 2 t))
      rest (inr t) = inr (inr (eqb-true c.kind 3 t))

      step : (on_edge c ≡ true) ⊎ ((on_mark c || on_class c) ≡ true) → (c.kind ≡ 1) ⊎ ((c.kind ≡ 2) ⊎ (c.kind ≡ 3))
      step (inl t) = inl (eqb-true c.kind 1 t)
      step (inr t) = rest (or_cases (on_mark c) (on_class c) t)

  -- what its numbers say, by its kind
  edge-value : c.kind ≡ 1 → (ltb 1 c.wanted || eqb c.u c.v) ≡ false
  edge-value e = rw e at facts.2

  mark-value : c.kind ≡ 2 → (ltb 1 c.wanted || not (eqb c.v 0)) ≡ false
  mark-value e = rw e at facts.2

  class-value : c.kind ≡ 3 → (not (ltb c.v max_classes) || not (eqb c.wanted 0)) ≡ false
  class-value e = rw e at facts.2

  pub class_below : on_class c ≡ true → c.v < max_classes
  class_below t = ltb-true c.v max_classes (not-false _ (or_none (not (ltb c.v max_classes)) _ (class-value (eqb-true c.kind 3 t))).0)

  pub class_zero : on_class c ≡ true → c.wanted ≡ 0
  class_zero t = eqb-true c.wanted 0 (not-false _ (or_none (not (ltb c.v max_classes)) _ (class-value (eqb-true c.kind 3 t))).1)

  wanted-below : c.wanted ≤ 1
  wanted-below = step kinds
    where
      step : (c.kind ≡ 1) ⊎ ((c.kind ≡ 2) ⊎ (c.kind ≡ 3)) → c.wanted ≤ 1
      step (inl e) = ltb-false 1 c.wanted (or_none (ltb 1 c.wanted) _ (edge-value e)).0
      step (inr (inl e)) = ltb-false 1 c.wanted (or_none (ltb 1 c.wanted) _ (mark-value e)).0
      step (inr (inr e)) = omega (arith, class_zero (eq-eqb c.kind 3 e))

-- and what it does to a proper graph
module _ (g : Graph) (c : Update) (h : Proper g) (ok : refusal g c ≡ 0) where
  pub u_inside : c.u < g.node_count
  u_inside = below_u g.node_count c (facts g c ok).1

  pub v_inside : on_edge c ≡ true → c.v < g.node_count
  v_inside = below_v g.node_count c (facts g c ok).1

  pub apart : on_edge c ≡ true → c.u ≡ c.v → ⊥
  apart t = eqb-false c.u c.v (or_none (ltb 1 c.wanted) _ (edge-value g c ok (eqb-true c.kind 1 t))).1

  pub wanted_bit : cond (eqb c.wanted 1) 1 0 ≡ c.wanted
  wanted_bit = step (decide (eqb c.wanted 1))
    where
      step : (eqb c.wanted 1 ≡ true) ⊎ (eqb c.wanted 1 ≡ false) → cond (eqb c.wanted 1) 1 0 ≡ c.wanted
      step (inl x) = rw x (sym (eqb-true c.wanted 1 x))
      step (inr x) = rw x (omega (arith, wanted-below g c ok, eqb-false c.wanted 1 x))

  -- an edge is there before exactly if it is not wanted
  pub edge_before : on_edge c ≡ true → g.edge c.u c.v ≡ not (eqb c.wanted 1)
  edge_before t = step (g.edge c.u c.v) (rw (eqb-true c.kind 1 t) at (facts g c ok).4)
    where
      step : (b : Bool) → eqb (cond b 1 0) c.wanted ≡ false → b ≡ not (eqb c.wanted 1)
      step true x = rw (ne_eqb c.wanted 1 (λ e. eqb-false 1 c.wanted x (sym e)))
      step false x = rw (eq-eqb c.wanted 1 (omega (arith, wanted-below g c ok, eqb-false 0 c.wanted x)))

  pair-sym : (p q : ℕ) → is_pair c.u c.v p q ≡ is_pair c.u c.v q p
  pair-sym p q = ap₂ ◌||◌ (and_comm (eqb p c.u) (eqb q c.v)) (and_comm (eqb p c.v) (eqb q c.u)) ∙ or_comm (eqb q c.v && eqb p c.u) (eqb q c.u && eqb p c.v)

  no_self : (p : ℕ) → (on_edge c && is_pair c.u c.v p p) ≡ true → ⊥
  no_self p t = both (or_cases (eqb p c.u && eqb p c.v) (eqb p c.v && eqb p c.u) (and_snd (on_edge c) _ t))
    where
      meet : eqb p c.u ≡ true → eqb p c.v ≡ true → ⊥
      meet x y = apart (and_fst (on_edge c) _ t) (sym (eqb-true p c.u x) ∙ eqb-true p c.v y)

      both : ((eqb p c.u && eqb p c.v) ≡ true) ⊎ ((eqb p c.v && eqb p c.u) ≡ true) → ⊥
      both (inl x) = meet (and_fst (eqb p c.u) _ x) (and_snd (eqb p c.u) _ x)
      both (inr x) = meet (and_snd (eqb p c.v) _ x) (and_fst (eqb p c.v) _ x)

  pub proper_updated : Proper (updated g c)
  unfolding updated
  proper_updated = record {
    small = h.small;
    symmetric = λ p q. rw (pair-sym p q, h.symmetric p q, updated);
    irreflexive = λ p. self p (decide (on_edge c && is_pair c.u c.v p p));
    inside = λ p q t. edge p q (decide (on_edge c && is_pair c.u c.v p q)) t;
    held = λ p t. mark p (decide (on_mark c && eqb p c.u)) t;
    classed = λ p. class p (decide (on_class c && eqb p c.u));
    unclassed = λ p l. rw (ne_eqb p c.u (λ e. omega (arith, u_inside)), and-false (on_class c)) (h.unclassed p l);
  }
    where
      self : (p : ℕ) → ((on_edge c && is_pair c.u c.v p p) ≡ true) ⊎ ((on_edge c && is_pair c.u c.v p p) ≡ false)
          → (updated g c).edge p p ≡ false
      self p (inl x) = absurd (no_self p x)
      self p (inr x) = rw (x, updated) (h.irreflexive p)

      ends : (p q : ℕ) → on_edge c ≡ true → ((eqb p c.u && eqb q c.v) ≡ true) ⊎ ((eqb p c.v && eqb q c.u) ≡ true) → p < g.node_count
      ends p q k (inl x) = omega (arith, u_inside, eqb-true p c.u (and_fst (eqb p c.u) _ x))
      ends p q k (inr x) = omega (arith, v_inside k, eqb-true p c.v (and_fst (eqb p c.v) _ x))

      edge : (p q : ℕ) → ((on_edge c && is_pair c.u c.v p q) ≡ true) ⊎ ((on_edge c && is_pair c.u c.v p q) ≡ false)
          → (updated g c).edge p q ≡ true → p < g.node_count
      edge p q (inl x) t = ends p q (and_fst (on_edge c) _ x) (or_cases (eqb p c.u && eqb q c.v) (eqb p c.v && eqb q c.u) (and_snd (on_edge c) _ x))
      edge p q (inr x) t = h.inside p q (rw (x, updated) at t)

      mark : (p : ℕ) → ((on_mark c && eqb p c.u) ≡ true) ⊎ ((on_mark c && eqb p c.u) ≡ false)
          → (updated g c).hidden p ≡ true → p < g.node_count
      mark p (inl x) t = omega (arith, u_inside, eqb-true p c.u (and_snd (on_mark c) _ x))
      mark p (inr x) t = h.held p (rw (x, updated) at t)

      class : (p : ℕ) → ((on_class c && eqb p c.u) ≡ true) ⊎ ((on_class c && eqb p c.u) ≡ false) → (updated g c).class p < max_classes
      class p (inl x) = rw (x, updated) (class_below g c ok (and_fst (on_class c) _ x))
      class p (inr x) = rw (x, updated) (h.classed p)

  pub rows_kept : (p r : ℕ) → (p ≡ c.u → ⊥) → (p ≡ c.v → ⊥) → (updated g c).edge p r ≡ g.edge p r
  unfolding updated
  rows_kept p r x y = rw (ne_eqb p c.u x, ne_eqb p c.v y, and-false (on_edge c))

  pub class_kept : (p : ℕ) → (p ≡ c.u → ⊥) → (updated g c).class p ≡ g.class p
  unfolding updated
  class_kept p x = rw (ne_eqb p c.u x, and-false (on_class c))

  pub same_at : (p : ℕ) → (p ≡ c.u → ⊥) → (p ≡ c.v → ⊥) → SameAt (whole g) (whole (updated g c)) p
  same_at p x y = record { edge = λ r. sym (rows_kept p r x y); class = sym (class_kept p x) }

  -- what is asked holds after it
  pub asked-holds : there (updated g c) c ≡ asked c
  unfolding updated
  asked-holds = rw (eq-eqb c.u c.u refl, eq-eqb c.v c.v refl) (step (kinds g c ok))
    where
      step : (c.kind ≡ 1) ⊎ ((c.kind ≡ 2) ⊎ (c.kind ≡ 3))
          → ◌≡◌ {A = ℕ} (cond (on_class c) (cond (on_class c && true) c.v (g.class c.u)) (cond (cond (on_edge c) (cond (on_edge c && true) (eqb c.wanted 1) (g.edge c.u c.v)) (cond (on_mark c && true) (eqb c.wanted 1) (g.hidden c.u))) 1 0)) (asked c)
      step (inl e) = rw e wanted_bit
      step (inr (inl e)) = rw e wanted_bit
      step (inr (inr e)) = rw e refl

  pub answer_range : (group_count (updated g c) ≤ 2 + group_count g) × (group_count g ≤ 2 + group_count (updated g c))
  unfolding group_count updated
  answer_range = (
    at_most_two (whole (updated g c)) g.edge g.class (proper_simple (updated g c) proper_updated) (proper_simple g h) (nodes_ascending g.node_count) c.u c.v (λ p x y. let s = same_at p x y in record { edge = λ r. sym (s.edge r); class = sym s.class }),
    at_most_two (whole g) (updated g c).edge (updated g c).class (proper_simple g h) (proper_simple (updated g c) proper_updated) (nodes_ascending g.node_count) c.u c.v same_at,
  )

  -- a class moves it by at most one
  pub class_range : on_class c ≡ true → (group_count (updated g c) ≤ 1 + group_count g) × (group_count g ≤ 1 + group_count (updated g c))
  unfolding group_count updated
  class_range t = (
    at_most_one (whole (updated g c)) g.edge g.class (proper_simple (updated g c) proper_updated) (proper_simple g h) (nodes_ascending g.node_count) c.u c.u (λ p x y. let s = kept p x in record { edge = λ r. sym (s.edge r); class = sym s.class }) refl,
    at_most_one (whole g) (updated g c).edge (updated g c).class (proper_simple g h) (proper_simple (updated g c) proper_updated) (nodes_ascending g.node_count) c.u c.u (λ p x y. kept p x) refl,
  )
    where
      no_edge : on_edge c ≡ false
      no_edge = ap (λ (k : ℕ). eqb k 1) (eqb-true c.kind 3 t)

      kept : (p : ℕ) → (p ≡ c.u → ⊥) → SameAt (whole g) (whole (updated g c)) p
      kept p x = record { edge = λ r. unfold updated in rw no_edge; class = sym (class_kept p x) }

pub updated-count : (g : Graph) (c : Update) → (updated g c).node_count ≡ g.node_count
unfolding updated
updated-count g c = refl

-- marks are not frozen
pub reveal_accepted : (g : Graph) → Proper g → (p : ℕ) → g.hidden p ≡ true → refusal g (record { kind = 2; u = p; v = 0; wanted = 0 }) ≡ 0
unfolding refusal update_reasons first_of
reveal_accepted g h p t = rw (lt-ltb p g.node_count (h.held p t), t)

-- the numbers of refusals are below 25, and none is an accepted update's answer
pub refusal_below : (g : Graph) (c : Update) → refusal g c < 25
unfolding refusal update_reasons all
refusal_below g c = ltb-true (refusal g c) 25 (first_passes (λ r. ltb r 25) (update_reasons g c) refl refl)

refusal_above : (g : Graph) (c : Update) → (refusal g c ≡ 0 → ⊥) → 2 < refusal g c
unfolding refusal update_reasons all
refusal_above g c d = step (or_cases (eqb (refusal g c) 0) _ (first_passes (λ r. eqb r 0 || ltb 2 r) (update_reasons g c) refl refl))
  where
    step : (eqb (refusal g c) 0 ≡ true) ⊎ (ltb 2 (refusal g c) ≡ true) → 2 < refusal g c
    step (inl t) = absurd (d (eqb-true (refusal g c) 0 t))
    step (inr t) = ltb-true 2 (refusal g c) t

-- an update of a batch, accepted and refused
pub update-accepted : (g : Graph) (c : Update) → refusal g c ≡ 0 → update g c ≡ record { outcome = sub_ℕ (group_count (updated g c)) (group_count g); after = updated g c }
unfolding update refusal
update-accepted g c = judged_done (update_reasons g c) (update_refused g) _

pub update_refused_lem : (g : Graph) (c : Update) → (refusal g c ≡ 0 → ⊥) → update g c ≡ update_refused g (refusal g c)
unfolding update refusal
update_refused_lem g c = judged_refused (update_reasons g c) (update_refused g) _

-- so one of the two is to be shown
pub update_cases : (g : Graph) (c : Update) (P : Stepped Graph ℤ → Type 0) → ((refusal g c ≡ 0 → ⊥) → P (update_refused g (refusal g c)))
    → (refusal g c ≡ 0 → P (record { outcome = sub_ℕ (group_count (updated g c)) (group_count g); after = updated g c })) → P (update g c)
unfolding update refusal
update_cases g c P refuses ok = judged_related (λ x y. P x) (update_reasons g c) (update_reasons g c) (update_refused g) (update_refused g) _ (update_refused g 0) refl refuses ok

-- a batch, update by update
pub proper_stepped : (g : Graph) (c : Update) → Proper g → Proper (update g c).after × ((update g c).after.node_count ≡ g.node_count)
proper_stepped g c h = update_cases g c (λ x. Proper x.after × (x.after.node_count ≡ g.node_count)) (λ z. (h, refl)) (λ ok. (proper_updated g c h ok, updated-count g c))

pub batch_next : (g : Graph) (c : Update) (cs : List Update) → batch_graph g (c ∷ cs) ≡ batch_graph (update g c).after cs
unfolding batch_graph run
batch_next g c cs = refl

pub answers_next : (g : Graph) (c : Update) (cs : List Update) → answers g (c ∷ cs) ≡ (answer g c ∷ answers (update g c).after cs)
unfolding answers run
answers_next g c cs = refl

pub proper_batch : (cs : List Update) (g : Graph) → Proper g → Proper (batch_graph g cs) × ((batch_graph g cs).node_count ≡ g.node_count)
unfolding batch_graph
proper_batch cs g h =
    run_keeps update (λ d. Proper d × (d.node_count ≡ g.node_count)) (λ d c k. let r = proper_stepped d c k.0 in (r.0, r.1 ∙ k.1)) cs g (h, refl)

pub length-answers : (cs : List Update) (g : Graph) → length (answers g cs) ≡ length cs
unfolding answers
length-answers = run_length update

-- an accepted update answers from -2 to 2
near : (d a b : ℕ) → a ≤ d + b → b ≤ d + a → nat_abs (sub_ℕ a b) ≤ d
near d a b h k = step (decide (ltb a b))
  where
    step : (ltb a b ≡ true) ⊎ (ltb a b ≡ false) → nat_abs (sub_ℕ a b) ≤ d
    step (inl t) = rw t (omega (arith, ltb-true a b t))
    step (inr t) = rw t (omega (arith, ltb-false a b t))

pub answer-accepted : (g : Graph) (c : Update) → refusal g c ≡ 0 → answer g c ≡ sub_ℕ (group_count (updated g c)) (group_count g)
answer-accepted g c ok = ap (λ (x : Stepped Graph ℤ). x.outcome) (update-accepted g c ok)

pub answer_near : (g : Graph) (c : Update) → Proper g → refusal g c ≡ 0 → nat_abs (answer g c) ≤ 2
answer_near g c h ok = rw (answer-accepted g c ok) (near 2 (group_count (updated g c)) (group_count g) (answer_range g c h ok).0 (answer_range g c h ok).1)

pub class_near : (g : Graph) (c : Update) → Proper g → refusal g c ≡ 0 → on_class c ≡ true → nat_abs (answer g c) ≤ 1
class_near g c h ok t = let r = class_range g c h ok t in rw (answer-accepted g c ok) (near 1 (group_count (updated g c)) (group_count g) r.0 r.1)

-- the answer tells the number of the refusal
none_told : (z : ℤ) → nat_abs z ≤ 2 → refusal_in z ≡ 0
unfolding refusal_in
none_told z h = rw (le-ltb 2 (nat_abs z) h)

number-told : (r : ℕ) → 2 < r → refusal_in (pos r) ≡ r
unfolding refusal_in
number-told r h = rw (lt-ltb 2 r h)

pub answer-told : (g : Graph) (c : Update) → Proper g → refusal_in (answer g c) ≡ refusal g c
answer-told g c h = step (decide (eqb (refusal g c) 0))
  where
    step : (eqb (refusal g c) 0 ≡ true) ⊎ (eqb (refusal g c) 0 ≡ false) → refusal_in (answer g c) ≡ refusal g c
    step (inl t) = let z = eqb-true (refusal g c) 0 t in none_told (answer g c) (answer_near g c h z) ∙ sym z
    step (inr t) = let z = eqb-false (refusal g c) 0 t in ap (λ (x : Stepped Graph ℤ). refusal_in x.outcome) (update_refused_lem g c z) ∙ number-told (refusal g c) (refusal_above g c z)

-- what an update is not about stays
module _ (g : Graph) (c : Update) where
  pub edges_kept : on_edge c ≡ false → (updated g c).edge ≡ g.edge
  unfolding updated
  edges_kept e = fun_ext (λ p. fun_ext (λ q. rw e))

  pub marks_kept : on_mark c ≡ false → (updated g c).hidden ≡ g.hidden
  unfolding updated
  marks_kept e = fun_ext (λ p. rw e)

  pub classes_kept : on_class c ≡ false → (updated g c).class ≡ g.class
  unfolding updated
  classes_kept e = fun_ext (λ p. rw e)

  -- so an update of a mark leaves the groups of the whole graph
  pub mark_answer : on_mark c ≡ true → refusal g c ≡ 0 → answer g c ≡ pos 0
  unfolding group_count updated
  mark_answer t ok = answer-accepted g c ok ∙ ap₂ (λ (e : ℕ → ℕ → Bool) (k : ℕ → ℕ). sub_ℕ (length (algorithm1 (view_with (whole g) e k))) (group_count g)) (edges_kept (rw kind)) (classes_kept (rw kind)) ∙ none (group_count g)
    where
      kind : c.kind ≡ 2
      kind = eqb-true c.kind 2 t

      none : (x : ℕ) → sub_ℕ x x ≡ pos 0
      none x = let z : x - x ≡ 0 = omega arith in rw (le-ltb x x (omega arith), z)

-- the updates in a list of numbers: how many, and the next one
pub length_updates : (xs : List ℕ) → length (updates_in xs) ≡ update_count xs
unfolding updates_in update_count
length_updates [] = refl
length_updates (k ∷ []) = refl
length_updates (k ∷ (u ∷ [])) = refl
length_updates (k ∷ (u ∷ (v ∷ []))) = refl
length_updates (k ∷ (u ∷ (v ∷ (w ∷ rest)))) = omega (arith, length_updates rest)

pub updates_next : (xs : List ℕ) (a : ℕ) → a + update_numbers ≤ length xs → updates_in (drop a xs) ≡ (record { kind = get_or xs a 0; u = get_or xs (a + 1) 0; v = get_or xs (a + 2) 0; wanted = get_or xs (a + 3) 0 } ∷ updates_in (drop (a + update_numbers) xs))
unfolding updates_in
updates_next xs a h =
    let e₁ : a + 1 ≡ suc a = omega arith in
    let e₂ : a + 2 ≡ suc (suc a) = omega arith in
    let e₃ : a + 3 ≡ suc (suc (suc a)) = omega arith in
    let e₄ : a + 4 ≡ suc (suc (suc (suc a))) = omega arith in
    rw (e₁, e₂, e₃, e₄, drop-cons xs a 0 (omega arith), drop-cons xs (suc a) 0 (omega arith), drop-cons xs (suc (suc a)) 0 (omega arith), drop-cons xs (suc (suc (suc a))) 0 (omega arith))
