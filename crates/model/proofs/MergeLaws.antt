-- A file with groups and superedges in order is a release exactly if no two of its groups could be one.
use Rattle.std.specs.Prelude.{◌≡◌, Bool, ◌&&◌, ◌⊎◌, ℕ, ◌≤◌, ◌<◌, leb}
use Rattle.std.proofs.Math.Path.{refl, sym, ap}
use Rattle.std.proofs.Common.{ap₂, ◌∙◌, inl, inr}
use Rattle.std.proofs.Math.Bool.{true, false, not, ◌||◌, or-false}
use mathlib.Core.List.Memᴰ
use mathlib.Core.List.{List, [], ◌∷◌, map}
use native.Mathlib.Omega.{arith}
use Rattle.std.proofs.Math.Dec.{eqb}
use Rattle.std.proofs.Math.ListN.{length}
use Rattle.std.proofs.lemmas.List.{length-map}
use borrow.Author.Tests.{eqb-true, eqb-false, eq-eqb, ne_eqb, le-leb, not-true}
use Rattle.model.specs.Lists.{◌∈◌, any, head_or, nodes, same_list}
use Rattle.model.specs.Graph.{Graph, Proper, View, max_nodes}
use Rattle.model.specs.Grouping.{adjacent, algorithm1, closed, false_twins, group, is_clique, kind_of, leaders, least, similar, true_twins}
use Rattle.model.specs.Summary.{Summarises, position, reconstruct}
use Rattle.model.specs.Tables.{is_graph}
use Rattle.model.specs.Release.{release, superedges, visible}
use Rattle.model.specs.Reading.{Head, graph_by, has_pair, is_release, summary_by}
use Rattle.model.specs.InOrder.{class_at, clique_at, closed_at, could_merge, file_by, group_view, groups_fit, in_order, irreducible, members_at, open_at, pair_key, superedges_fit, told_groups}
use Rattle.model.proofs.TestLaws.{and_fst, and_snd, and_true, decide, differ, iff_eq, or_cases, or_left, or_right}
use Rattle.model.proofs.ListLaws.{Ascending, all_elim, all_intro, any_elim, any_intro, filter_ascending, head_or-le, nodes_in_lem, nodes_out, same_ascending, same_eq, same_refl}
use Rattle.model.proofs.TwinLaws.{Simple, false_twins_at, false_twins_by, false_twins_no_edge, similar_N, similar_N+, similar_cases, similar_class, true_twins_at, true_twins_by, true_twins_edge}
use Rattle.model.proofs.ClassLaws.{Equivalence, group_in_lem, group_out, leader_in_lem, leader_out, leaders_ascending, least_in, least-le, least_rel}
use Rattle.model.proofs.SummaryLaws.{algorithm1-classes, equivalence, kind_clique, position-similar}
use Rattle.model.proofs.FewestLaws.{inside_ours}
use Rattle.model.proofs.TableLaws.{graph_test}
use Rattle.model.proofs.ReleaseLaws.{visible_ascending, visible-simple}
use Rattle.model.proofs.ReadingLaws.{all_at, marked, members_back}
use Rattle.model.proofs.InOrderLaws.{clique_two, file_told_groups, first_in, firsts, firsts_ascend, firsts_ascending, firsts_in, firsts_out, groups_by_firsts, groups_by_members, groups_few, in_order_parts, members_ascend, members_one, pair_fits, place_in, place_of_lem, place_of, same_pairs}
use Rattle.model.proofs.ReleaseOrderLaws.{release_file, superedges_fit_lem}
use Rattle.model.proofs.ToldGraphLaws.{decode_file, file_summarises, told_node, told_place, told_proper}

-- one of two or more members has another, and of one there is no other
other_member : (p : ℕ) (l : List ℕ) → Ascending l → 2 ≤ length l → (q : ℕ) × (q ∈ l) × (p ≡ q → ⊥)
other_member p [] a h = absurd (omega arith)
other_member p (x ∷ []) a h = absurd (omega arith)
other_member p (x ∷ y ∷ l) a h = step (decide (eqb p x))
  where
    step : (eqb p x ≡ true) ⊎ (eqb p x ≡ false) → (q : ℕ) × (q ∈ (x ∷ y ∷ l)) × (p ≡ q → ⊥)
    step (inl t) = (y, Memᴰ.tail (Memᴰ.head refl), λ z. omega (arith, eqb-true p x t, a.0 y (Memᴰ.head refl)))
    step (inr t) = (x, Memᴰ.head refl, eqb-false p x t)

pub only_member : (p q : ℕ) (l : List ℕ) → length l ≡ 1 → p ∈ l → q ∈ l → p ≡ q
only_member p q [] h a b = elim a [ ]
only_member p q (x ∷ []) h (Memᴰ.head a) (Memᴰ.tail x19) = elim x19 [ ]
only_member p q (x ∷ []) h (Memᴰ.tail x18) b = elim x18 [ ]
only_member p q (x ∷ []) h (Memᴰ.head a) (Memᴰ.head b) = a ∙ sym b
only_member p q (x ∷ y ∷ l) h a b = absurd (omega arith)

-- groups and superedges in order that summarise a graph, all of whose members are its nodes
module _ (v : View) (g : Simple v) (n : ℕ) (gs : List (Head × List ℕ)) (js : List (ℕ × ℕ))
    (fits : groups_fit n (λ p. false) 0 gs ≡ true)
    (ordered : superedges_fit (length gs) 0 js ≡ true)
    (s : Summarises v (summary_by gs js))
    (whole : (p : ℕ) → place_of gs p < length gs → p ∈ v.nodes) where
  abbrev place : ℕ → ℕ
  place p = place_of gs p

  abbrev joined : ℕ → ℕ → Bool
  joined i j = (group_view gs js).edge i j

  at : (p : ℕ) → p ∈ v.nodes → place p < length gs
  at p m = unfold summary_by in s.placed p m

  inhabitant : (i : ℕ) → i < length gs → (p : ℕ) × (p ∈ v.nodes) × (place p ≡ i)
  inhabitant i l = unfold summary_by in s.inhabited i l

  member-node : (i p : ℕ) → i < length gs → p ∈ members_at gs i → p ∈ v.nodes
  member-node i p l m = whole p (omega (arith, place_of_lem n gs fits i p l m))

  -- edges inside a group and across two
  inner-edge : (p q : ℕ) → p ∈ v.nodes → q ∈ v.nodes → place p ≡ place q → v.edge p q ≡ (clique_at gs (place p) && not (eqb p q))
  unfolding reconstruct summary_by clique_at
  inner-edge p q mp mq e = sym (s.exact p q mp mq) ∙ rw (eq-eqb (place p) (place q) e)

  outer-edge : (p q : ℕ) → p ∈ v.nodes → q ∈ v.nodes → (place p ≡ place q → ⊥) → v.edge p q ≡ joined (place p) (place q)
  unfolding reconstruct summary_by
  outer-edge p q mp mq e = sym (s.exact p q mp mq) ∙ rw (ne_eqb (place p) (place q) e)

  class-of : (p : ℕ) → p ∈ v.nodes → class_at gs (place p) ≡ v.class p
  class-of p m = unfold summary_by class_at in s.classed p m

  no_loop : (i : ℕ) → joined i i ≡ false
  no_loop i = rw (eq-eqb i i refl)

  another : (p : ℕ) → p ∈ v.nodes → 2 ≤ length (members_at gs (place p)) → (q : ℕ) × (q ∈ v.nodes) × (place p ≡ place q) × (p ≡ q → ⊥)
  another p m h =
      let o = other_member p (members_at gs (place p)) (members_ascend n gs fits (place p) (at p m)) h in
      (o.0, member-node (place p) o.0 (at p m) o.1, sym (place_of_lem n gs fits (place p) o.0 (at p m) o.1), o.2)

  -- a node's neighbourhood, by its group's: N where the group is open, N+ where it is closed
  open_row : (p x : ℕ) → p ∈ v.nodes → x ∈ v.nodes → open_at gs (place p) ≡ true → v.edge p x ≡ joined (place p) (place x)
  unfolding open_at
  open_row p x mp mx o = step (decide (eqb (place p) (place x)))
    where
      step : (eqb (place p) (place x) ≡ true) ⊎ (eqb (place p) (place x) ≡ false) → v.edge p x ≡ joined (place p) (place x)
      step (inl t) =
          let e = eqb-true (place p) (place x) t in
          inner-edge p x mp mx e ∙ ap (λ (b : Bool). b && not (eqb p x)) (not-true (clique_at gs (place p)) o) ∙ sym (no_loop (place p)) ∙ ap (joined (place p)) e
      step (inr t) = outer-edge p x mp mx (eqb-false (place p) (place x) t)

  closed-row : (p x : ℕ) → p ∈ v.nodes → x ∈ v.nodes → closed_at gs (place p) ≡ true → closed v.edge p x ≡ closed joined (place p) (place x)
  unfolding closed_at closed
  closed-row p x mp mx c = step (decide (eqb (place p) (place x)))
    where
      inside : place p ≡ place x → (clique_at gs (place p) ≡ true) ⊎ (eqb (length (members_at gs (place p))) 1 ≡ true) → (v.edge p x || eqb p x) ≡ true
      inside e (inl t) = rw (inner-edge p x mp mx e, t) (either (eqb p x))
        where
          either : (b : Bool) → (not b || b) ≡ true
          either true = refl
          either false = refl
      inside e (inr t) = or_right (v.edge p x) (eq-eqb p x (only_member p x (members_at gs (place p)) (eqb-true (length (members_at gs (place p))) 1 t) (place_in n gs fits p (at p mp)) (rw e (place_in n gs fits x (at x mx)))))

      step : (eqb (place p) (place x) ≡ true) ⊎ (eqb (place p) (place x) ≡ false) → (v.edge p x || eqb p x) ≡ (joined (place p) (place x) || eqb (place p) (place x))
      step (inl t) = inside (eqb-true (place p) (place x) t) (or_cases (clique_at gs (place p)) (eqb (length (members_at gs (place p))) 1) c) ∙ sym (or_right (joined (place p) (place x)) t)
      step (inr t) =
          let e = eqb-false (place p) (place x) t in
          ap₂ ◌||◌ (outer-edge p x mp mx e) (ne_eqb p x (λ z. e (ap place z)) ∙ sym t)

  -- nodes of different groups with one N have open groups, with one N+ closed groups
  module _ (p q : ℕ) (mp : p ∈ v.nodes) (mq : q ∈ v.nodes) (apart : place p ≡ place q → ⊥) where
    -- q has an edge to one member of p's group as to another
    same-to : (x : ℕ) → x ∈ v.nodes → place p ≡ place x → v.edge q x ≡ v.edge p q
    same-to x mx e = outer-edge q x mq mx (λ z. apart (e ∙ sym z)) ∙ ap (joined (place q)) (sym e) ∙ sym (outer-edge q p mq mp (λ z. apart (sym z))) ∙ g.symmetric q p mq mp

    open_of : false_twins v p q ≡ true → open_at gs (place p) ≡ true
    unfolding open_at
    open_of t = step (decide (clique_at gs (place p)))
      where
        step : (clique_at gs (place p) ≡ true) ⊎ (clique_at gs (place p) ≡ false) → not (clique_at gs (place p)) ≡ true
        step (inl c) =
            let o = another p mp (clique_two n gs fits (place p) (at p mp) c) in
            let edge : v.edge p o.0 ≡ true = inner-edge p o.0 mp o.1 o.2 ∙ and_true c (ap not (ne_eqb p o.0 o.3)) in
            differ (sym (same-to o.0 o.1 o.2) ∙ sym (false_twins_at v p q t o.0 o.1) ∙ edge) (false_twins_no_edge v g p q mq t)
        step (inr c) = ap not c

    closed_of : true_twins v p q ≡ true → closed_at gs (place p) ≡ true
    unfolding closed_at closed
    closed_of t = step (decide (clique_at gs (place p))) (decide (eqb (length (members_at gs (place p))) 1))
      where
        step : (clique_at gs (place p) ≡ true) ⊎ (clique_at gs (place p) ≡ false) → (eqb (length (members_at gs (place p))) 1 ≡ true) ⊎ (eqb (length (members_at gs (place p))) 1 ≡ false) → (clique_at gs (place p) || eqb (length (members_at gs (place p))) 1) ≡ true
        step (inl c) k = or_left _ c
        step (inr c) (inl k) = or_right (clique_at gs (place p)) k
        step (inr c) (inr k) =
            let o = another p mp (omega (arith, eqb-false (length (members_at gs (place p))) 1 k, members_one n gs fits (place p) (at p mp))) in
            let none : v.edge p o.0 ≡ false = inner-edge p o.0 mp o.1 o.2 ∙ ap (λ (b : Bool). b && not (eqb p o.0)) c in
            let tied : v.edge q o.0 ≡ true = same-to o.0 o.1 o.2 ∙ true_twins_edge v g p q mq (λ z. apart (ap place z)) t in
            differ (true_twins_at v p q t o.0 o.1 ∙ or_left (eqb q o.0) tied) (ap₂ ◌||◌ none (ne_eqb p o.0 o.3))

  merge-N : (p q : ℕ) → p ∈ v.nodes → q ∈ v.nodes → open_at gs (place p) ≡ true → open_at gs (place q) ≡ true → false_twins v p q ≡ true → false_twins (group_view gs js) (place p) (place q) ≡ true
  unfolding summary_by
  merge-N p q mp mq a b t = false_twins_by (group_view gs js) (place p) (place q) (λ k m. by k (inhabitant k (nodes_out (length gs) k m)))
    where
      by : (k : ℕ) → (x : ℕ) × (x ∈ v.nodes) × (place x ≡ k) → joined (place p) k ≡ joined (place q) k
      by k x = rw (← x.2) (sym (open_row p x.0 mp x.1 a) ∙ false_twins_at v p q t x.0 x.1 ∙ open_row q x.0 mq x.1 b)

  merge-N+ : (p q : ℕ) → p ∈ v.nodes → q ∈ v.nodes → closed_at gs (place p) ≡ true → closed_at gs (place q) ≡ true → true_twins v p q ≡ true → true_twins (group_view gs js) (place p) (place q) ≡ true
  unfolding summary_by
  merge-N+ p q mp mq a b t = true_twins_by (group_view gs js) (place p) (place q) (λ k m. by k (inhabitant k (nodes_out (length gs) k m)))
    where
      by : (k : ℕ) → (x : ℕ) × (x ∈ v.nodes) × (place x ≡ k) → closed joined (place p) k ≡ closed joined (place q) k
      by k x = rw (← x.2) (sym (closed-row p x.0 mp x.1 a) ∙ true_twins_at v p q t x.0 x.1 ∙ closed-row q x.0 mq x.1 b)

  -- two groups could be one exactly if members of the one are similar to those of the other
  pub merge_similar : (p q : ℕ) → p ∈ v.nodes → q ∈ v.nodes → (place p ≡ place q → ⊥) → could_merge gs js (place p) (place q) ≡ similar v p q
  unfolding could_merge summary_by
  merge_similar p q mp mq apart = iff_eq _ (similar v p q) (λ t. there (same (and_fst _ _ t)) (or_cases _ _ (and_snd (eqb (class_at gs (place p)) (class_at gs (place q))) _ t))) (λ t. and_true (classes (similar_class v p q t)) (back (similar_cases v p q t)))
    where
      same : eqb (class_at gs (place p)) (class_at gs (place q)) ≡ true → v.class p ≡ v.class q
      same t = sym (class-of p mp) ∙ eqb-true (class_at gs (place p)) (class_at gs (place q)) t ∙ class-of q mq

      classes : v.class p ≡ v.class q → eqb (class_at gs (place p)) (class_at gs (place q)) ≡ true
      classes e = eq-eqb (class_at gs (place p)) (class_at gs (place q)) (class-of p mp ∙ e ∙ sym (class-of q mq))

      at_row : (x : ℕ) → x ∈ v.nodes → place x ∈ nodes (length gs)
      at_row x m = nodes_in_lem (length gs) (place x) (at x m)

      there : v.class p ≡ v.class q → ((open_at gs (place p) && (open_at gs (place q) && false_twins (group_view gs js) (place p) (place q))) ≡ true) ⊎ ((closed_at gs (place p) && (closed_at gs (place q) && true_twins (group_view gs js) (place p) (place q))) ≡ true) → similar v p q ≡ true
      there e (inl t) =
          let a = and_fst (open_at gs (place p)) _ t in
          let u = and_snd (open_at gs (place p)) _ t in
          let b = and_fst (open_at gs (place q)) _ u in
          let c = and_snd (open_at gs (place q)) _ u in
          similar_N v p q e (false_twins_by v p q (λ x m. open_row p x mp m a ∙ false_twins_at (group_view gs js) (place p) (place q) c (place x) (at_row x m) ∙ sym (open_row q x mq m b)))
      there e (inr t) =
          let a = and_fst (closed_at gs (place p)) _ t in
          let u = and_snd (closed_at gs (place p)) _ t in
          let b = and_fst (closed_at gs (place q)) _ u in
          let c = and_snd (closed_at gs (place q)) _ u in
          similar_N+ v p q e (true_twins_by v p q (λ x m. closed-row p x mp m a ∙ true_twins_at (group_view gs js) (place p) (place q) c (place x) (at_row x m) ∙ sym (closed-row q x mq m b)))

      back : (false_twins v p q ≡ true) ⊎ (true_twins v p q ≡ true) → ((open_at gs (place p) && (open_at gs (place q) && false_twins (group_view gs js) (place p) (place q))) || (closed_at gs (place p) && (closed_at gs (place q) && true_twins (group_view gs js) (place p) (place q)))) ≡ true
      back (inl t) =
          let a = open_of p q mp mq apart t in
          let b = open_of q p mq mp (λ z. apart (sym z)) (false_twins_by v q p (λ x m. sym (false_twins_at v p q t x m))) in
          or_left _ (and_true a (and_true b (merge-N p q mp mq a b t)))
      back (inr t) =
          let a = closed_of p q mp mq apart t in
          let b = closed_of q p mq mp (λ z. apart (sym z)) (true_twins_by v q p (λ x m. sym (true_twins_at v p q t x m))) in
          or_right (open_at gs (place p) && (open_at gs (place q) && false_twins (group_view gs js) (place p) (place q))) (and_true a (and_true b (merge-N+ p q mp mq a b t)))

  -- the marks and the superedges are those of the graph
  mark-kind : Ascending v.nodes → (i : ℕ) → i < length gs → is_clique (kind_of v.edge (members_at gs i)) ≡ clique_at gs i
  unfolding adjacent
  mark-kind asc i l = kind_clique v g asc (members_at gs i) (λ x m. member-node i x l m) ∙ iff_eq _ (clique_at gs i) there back
    where
      there : any (members_at gs i) (λ x. any (members_at gs i) (v.edge x)) ≡ true → clique_at gs i ≡ true
      there t =
          let a = any_elim (members_at gs i) (λ x. any (members_at gs i) (v.edge x)) t in
          let b = any_elim (members_at gs i) (v.edge a.0) a.2 in
          let x = a.0 in
          let y = b.0 in
          let px = place_of_lem n gs fits i x l a.1 in
          let py = place_of_lem n gs fits i y l b.1 in
          let z : clique_at gs (place x) ≡ true = and_fst (clique_at gs (place x)) (not (eqb x y)) (sym (inner-edge x y (member-node i x l a.1) (member-node i y l b.1) (px ∙ sym py)) ∙ b.2) in
          ap (clique_at gs) (sym px) ∙ z

      back : clique_at gs i ≡ true → any (members_at gs i) (λ x. any (members_at gs i) (v.edge x)) ≡ true
      back t =
          let x = head_or 0 (members_at gs i) in
          let mx = first_in n gs fits i l in
          let o = other_member x (members_at gs i) (members_ascend n gs fits i l) (clique_two n gs fits i l t) in
          let px = place_of_lem n gs fits i x l mx in
          let py = place_of_lem n gs fits i o.0 l o.1 in
          any_intro (members_at gs i) _ x mx (any_intro (members_at gs i) (v.edge x) o.0 o.1
          (inner-edge x o.0 (member-node i x l mx) (member-node i o.0 l o.1) (px ∙ sym py) ∙ and_true (ap (clique_at gs) px ∙ t) (ap not (ne_eqb x o.0 o.2))))

  class_first : (i : ℕ) → i < length gs → v.class (head_or 0 (members_at gs i)) ≡ class_at gs i
  class_first i l =
      let m = first_in n gs fits i l in
      let x = head_or 0 (members_at gs i) in
      sym (class-of x (member-node i x l m)) ∙ ap (class_at gs) (place_of_lem n gs fits i x l m)

  pair-adjacent : (i j : ℕ) → i < j → j < length gs → adjacent v.edge (members_at gs i) (members_at gs j) ≡ has_pair js i j
  unfolding adjacent summary_by
  pair-adjacent i j l h = iff_eq _ (has_pair js i j) there back
    where
      k : i < length gs
      k = omega arith

      none : has_pair js j i ≡ false
      none = step (decide (has_pair js j i))
        where
          step : (has_pair js j i ≡ true) ⊎ (has_pair js j i ≡ false) → has_pair js j i ≡ false
          step (inl t) = absurd (omega (arith, (pair_fits (length gs) 0 js ordered j i t).0))
          step (inr t) = t

      one : joined i j ≡ has_pair js i j
      one = rw (ne_eqb i j (λ z. omega arith), none) (or-false (has_pair js i j))

      edge : (x y : ℕ) → x ∈ members_at gs i → y ∈ members_at gs j → v.edge x y ≡ has_pair js i j
      edge x y mx my =
          let px = place_of_lem n gs fits i x k mx in
          let py = place_of_lem n gs fits j y h my in
          outer-edge x y (member-node i x k mx) (member-node j y h my) (λ z. omega arith) ∙ ap₂ joined px py ∙ one

      there : any (members_at gs i) (λ x. any (members_at gs j) (v.edge x)) ≡ true → has_pair js i j ≡ true
      there t =
          let a = any_elim (members_at gs i) (λ x. any (members_at gs j) (v.edge x)) t in
          let b = any_elim (members_at gs j) (v.edge a.0) a.2 in
          sym (edge a.0 b.0 a.1 b.1) ∙ b.2

      back : has_pair js i j ≡ true → any (members_at gs i) (λ x. any (members_at gs j) (v.edge x)) ≡ true
      back t =
          let mx = first_in n gs fits i k in
          let my = first_in n gs fits j h in
          any_intro (members_at gs i) _ (head_or 0 (members_at gs i)) mx (any_intro (members_at gs j) (v.edge (head_or 0 (members_at gs i))) (head_or 0 (members_at gs j)) my (edge (head_or 0 (members_at gs i)) (head_or 0 (members_at gs j)) mx my ∙ t))

  -- where only members of one group are similar, the groups are Algorithm 1's
  module _ (asc : Ascending v.nodes) (few : length gs ≤ 65536) (ours : (p q : ℕ) → p ∈ v.nodes → q ∈ v.nodes → similar v p q ≡ true → place p ≡ place q) where
    abbrev vs : List ℕ
    vs = v.nodes

    abbrev r : ℕ → ℕ → Bool
    r = similar v

    abbrev first : ℕ → ℕ
    first i = head_or 0 (members_at gs i)

    eq : Equivalence v.nodes (similar v)
    eq = equivalence v g asc

    together : (i p q : ℕ) → i < length gs → p ∈ members_at gs i → q ∈ members_at gs i → similar v p q ≡ true
    together i p q l mp mq = inside_ours v g asc (summary_by gs js) s p q (member-node i p l mp) (member-node i q l mq) (unfold summary_by in (place_of_lem n gs fits i p l mp ∙ sym (place_of_lem n gs fits i q l mq)))

    alike-in : (i p q : ℕ) → i < length gs → p ∈ members_at gs i → q ∈ v.nodes → similar v p q ≡ true → q ∈ members_at gs i
    alike-in i p q l mp mq h =
        let e : place q ≡ i = sym (ours p q (member-node i p l mp) mq h) ∙ place_of_lem n gs fits i p l mp in
        rw e at (place_in n gs fits q (at q mq))

    group-is : (i : ℕ) → i < length gs → group vs r (first i) ≡ members_at gs i
    group-is i l =
        let m = first_in n gs fits i l in
        same_ascending (group vs r (first i)) (members_at gs i) (unfold group in filter_ascending (r (first i)) vs asc) (members_ascend n gs fits i l)
        (λ q k. let o = group_out vs r (first i) q k in alike-in i (first i) q l m o.0 o.1)
        (λ q k. group_in_lem vs r (first i) q (member-node i q l k) (together i (first i) q l m k))

    least_is : (i : ℕ) → i < length gs → least vs r (first i) ≡ first i
    least_is i l =
        let m = first_in n gs fits i l in
        let f = member-node i (first i) l m in
        let a = least-le vs r eq asc (first i) (first i) f (eq.reflexive (first i)) in
        let b = head_or-le 0 (members_at gs i) (least vs r (first i)) (members_ascend n gs fits i l) (alike-in i (first i) (least vs r (first i)) l m (least_in vs r eq asc (first i) f) (least_rel vs r eq asc (first i) f)) in
        omega arith

    leaders-are : leaders vs r ≡ firsts gs
    leaders-are = same_ascending (leaders vs r) (firsts gs) (leaders_ascending vs r eq asc) (firsts_ascending gs (firsts_ascend n gs fits)) there back
      where
        there : (p : ℕ) → p ∈ leaders vs r → p ∈ firsts gs
        there p m =
            let o = leader_out vs r eq asc p m in
            let l = at p o.0 in
            let f = first_in n gs fits (place p) l in
            let mine = place_in n gs fits p l in
            let a = least-le vs r eq asc p (first (place p)) (member-node (place p) (first (place p)) l f) (together (place p) p (first (place p)) l mine f) in
            let b = head_or-le 0 (members_at gs (place p)) p (members_ascend n gs fits (place p) l) mine in
            let e : p ≡ first (place p) = omega (arith, o.1) in
            Memᴰ.cast e (firsts_in gs (place p) l)

        back : (p : ℕ) → p ∈ firsts gs → p ∈ leaders vs r
        back p m =
            let o = firsts_out gs p m in
            Memᴰ.cast o.2 (leader_in_lem vs r eq asc (first o.0) (member-node o.0 (first o.0) o.1 (first_in n gs fits o.0 o.1)) (least_is o.0 o.1))

    groups_are : algorithm1 v ≡ map (λ g. g.1) gs
    groups_are = algorithm1-classes v g asc ∙ ap (map (group vs r)) leaders-are ∙ groups_by_firsts (group vs r) gs group-is

    pub marked_are : map (marked v) (algorithm1 v) ≡ gs
    marked_are = ap (map (marked v)) groups_are ∙ groups_by_members (λ l. is_clique (kind_of v.edge l)) (λ l. v.class (head_or 0 l)) gs (mark-kind asc) class_first

    pub superedges_are : superedges v.edge 0 (algorithm1 v) ≡ js
    superedges_are = ap (superedges v.edge 0) groups_are ∙ same_pairs (length gs) few 0 0 told js in_order_lem ordered there back
      where
        told : List (ℕ × ℕ)
        told = superedges v.edge 0 (map (λ g. g.1) gs)

        size : length (map (λ (g : Head × List ℕ). g.1) gs) ≡ length gs
        size = length-map gs (λ g. g.1)

        in_order_lem : superedges_fit (length gs) 0 told ≡ true
        in_order_lem = superedges_fit_lem v.edge (length gs) few (map (λ g. g.1) gs) 0 0 (omega (arith, size)) (unfold pair_key in omega arith)

        same : (i j : ℕ) → i < j → j < length gs → has_pair told i j ≡ has_pair js i j
        same i j l h = all_at v.edge (map (λ g. g.1) gs) 0 i j i j (omega arith) (omega arith) l (omega (arith, size)) ∙ (unfold members_at in pair-adjacent i j l h)

        there : (i j : ℕ) → has_pair told i j ≡ true → has_pair js i j ≡ true
        there i j t = let f = pair_fits (length gs) 0 told in_order_lem i j t in sym (same i j f.0 f.1) ∙ t

        back : (i j : ℕ) → has_pair js i j ≡ true → has_pair told i j ≡ true
        back i j t = let f = pair_fits (length gs) 0 js ordered i j t in same i j f.0 f.1 ∙ t

-- no two groups that could be one
pub irreducible_out : (gs : List (Head × List ℕ)) (js : List (ℕ × ℕ)) → irreducible gs js ≡ true → (i j : ℕ) → i < length gs → j < length gs → could_merge gs js i j ≡ true → i ≡ j
unfolding irreducible
irreducible_out gs js t i j a b c = step (or_cases (eqb i j) (not (could_merge gs js i j)) (all_elim (nodes (length gs)) (λ j. eqb i j || not (could_merge gs js i j)) (all_elim (nodes (length gs)) _ t i (nodes_in_lem (length gs) i a)) j (nodes_in_lem (length gs) j b)))
  where
    step : (eqb i j ≡ true) ⊎ (not (could_merge gs js i j) ≡ true) → i ≡ j
    step (inl e) = eqb-true i j e
    step (inr e) = differ c (not-true (could_merge gs js i j) e)

pub irreducible_in : (gs : List (Head × List ℕ)) (js : List (ℕ × ℕ)) → ((i j : ℕ) → i < length gs → j < length gs → (i ≡ j → ⊥) → could_merge gs js i j ≡ false) → irreducible gs js ≡ true
unfolding irreducible
irreducible_in gs js h = all_intro (nodes (length gs)) _ (λ i m. all_intro (nodes (length gs)) _ (λ j k. step i j m k (decide (eqb i j))))
  where
    step : (i j : ℕ) → i ∈ nodes (length gs) → j ∈ nodes (length gs) → (eqb i j ≡ true) ⊎ (eqb i j ≡ false) → (eqb i j || not (could_merge gs js i j)) ≡ true
    step i j m k (inl e) = or_left _ e
    step i j m k (inr e) = or_right (eqb i j) (ap not (h i j (nodes_out (length gs) i m) (nodes_out (length gs) j k) (eqb-false i j e)))

module _ (n : ℕ) (gs : List (Head × List ℕ)) (js : List (ℕ × ℕ)) (small : n ≤ max_nodes) (fits : groups_fit n (λ p. false) 0 gs ≡ true) (ordered : superedges_fit (length gs) 0 js ≡ true) where
  abbrev G : Graph
  G = graph_by n (summary_by gs js)

  abbrev v : View
  v = visible (graph_by n (summary_by gs js))

  proper : Proper (graph_by n (summary_by gs js))
  proper = told_proper n gs js small fits

  view-simple : Simple (visible (graph_by n (summary_by gs js)))
  view-simple = visible-simple G proper

  asc : Ascending (visible (graph_by n (summary_by gs js))).nodes
  asc = visible_ascending G

  summarised : Summarises (visible (graph_by n (summary_by gs js))) (summary_by gs js)
  summarised = file_summarises n gs js small fits

  merging : (p q : ℕ) → p ∈ v.nodes → q ∈ v.nodes → (place_of gs p ≡ place_of gs q → ⊥) → could_merge gs js (place_of gs p) (place_of gs q) ≡ similar v p q
  merging = merge_similar v view-simple n gs js fits ordered summarised (told_node n gs js small fits)

  -- a file that is the release of its graph has the groups of Algorithm 1, no two of which could be one
  pub released_groups : file_by n gs js ≡ release (graph_by n (summary_by gs js)) → map (λ g. g.1) gs ≡ algorithm1 (visible (graph_by n (summary_by gs js)))
  released_groups e = ap (map (λ (g : Head × List ℕ). g.1)) same ∙ members_back v view-simple asc (algorithm1 v)
    where
      same : gs ≡ map (marked v) (algorithm1 v)
      same = sym (file_told_groups n gs js) ∙ ap told_groups (e ∙ release_file G proper) ∙ file_told_groups G.node_count (map (marked v) (algorithm1 v)) (superedges v.edge 0 (algorithm1 v))

  released-irreducible : file_by n gs js ≡ release G → irreducible gs js ≡ true
  released-irreducible e = irreducible_in gs js (λ i j a b ne. unfold summary_by in by i j ne (summarised.inhabited i a) (summarised.inhabited j b))
    where
      members : map (λ g. g.1) gs ≡ algorithm1 v
      members = released_groups e

      by : (i j : ℕ) → (i ≡ j → ⊥) → (p : ℕ) × (p ∈ v.nodes) × (place_of gs p ≡ i) → (q : ℕ) × (q ∈ v.nodes) × (place_of gs q ≡ j) → could_merge gs js i j ≡ false
      by i j ne p q =
          let apart : place_of gs p.0 ≡ place_of gs q.0 → ⊥ = λ z. ne (sym p.2 ∙ z ∙ q.2) in
          ap₂ (could_merge gs js) (sym p.2) (sym q.2)
          ∙ merging p.0 q.0 p.1 q.1 apart
          ∙ sym (position-similar v view-simple asc p.0 q.0 p.1 q.1)
          ∙ ap₂ eqb (ap (position p.0) (sym members)) (ap (position q.0) (sym members))
          ∙ ne_eqb (place_of gs p.0) (place_of gs q.0) apart

  -- where no two groups could be one, the file is the release of its graph
  irreducible-released : irreducible gs js ≡ true → release G ≡ file_by n gs js
  irreducible-released t =
      release_file G proper
      ∙ ap₂ (file_by G.node_count)
      (marked_are v view-simple n gs js fits ordered summarised (told_node n gs js small fits) asc few ours)
      (superedges_are v view-simple n gs js fits ordered summarised (told_node n gs js small fits) asc few ours)
      ∙ (unfold graph_by in refl)
    where
      few : length gs ≤ 65536
      few = omega (arith, groups_few n gs fits)

      ours : (p q : ℕ) → p ∈ v.nodes → q ∈ v.nodes → similar v p q ≡ true → place_of gs p ≡ place_of gs q
      ours p q mp mq h = step (decide (eqb (place_of gs p) (place_of gs q)))
        where
          step : (eqb (place_of gs p) (place_of gs q) ≡ true) ⊎ (eqb (place_of gs p) (place_of gs q) ≡ false) → place_of gs p ≡ place_of gs q
          step (inl e) = eqb-true (place_of gs p) (place_of gs q) e
          step (inr e) = irreducible_out gs js t (place_of gs p) (place_of gs q) (told_place n gs js small fits p mp) (told_place n gs js small fits q mq) (merging p q mp mq (eqb-false (place_of gs p) (place_of gs q) e) ∙ h)

  -- a file is a release exactly if it is that of its graph
  release-test : is_release (file_by n gs js) ≡ (leb G.node_count max_nodes && (is_graph G && same_list (file_by n gs js) (release G)))
  unfolding is_release
  release-test = rw (decode_file n gs js)

  pub release_same : is_release (file_by n gs js) ≡ true → file_by n gs js ≡ release (graph_by n (summary_by gs js))
  release_same t = same_eq (file_by n gs js) (release G) (and_snd (is_graph G) _ (and_snd (leb G.node_count max_nodes) _ (sym release-test ∙ t)))

  release-irreducible : is_release (file_by n gs js) ≡ irreducible gs js
  release-irreducible = iff_eq (is_release (file_by n gs js)) (irreducible gs js) (λ t. released-irreducible (release_same t)) back
    where
      back : irreducible gs js ≡ true → is_release (file_by n gs js) ≡ true
      back t = release-test ∙ and_true (le-leb G.node_count max_nodes proper.small) (and_true (graph_test G proper) (rw (irreducible-released t) (same_refl (file_by n gs js))))

pub in_order-release : (n : ℕ) (gs : List (Head × List ℕ)) (js : List (ℕ × ℕ)) → in_order n gs js ≡ true → is_release (file_by n gs js) ≡ irreducible gs js
in_order-release n gs js o = let s = in_order_parts n gs js o in release-irreducible n gs js s.0 s.1 s.2
