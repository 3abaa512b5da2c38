-- Algorithm 1's groups are the classes of line 6, and their summary reconstructs the edges that they came from.
use Rattle.std.specs.Prelude.{◌≡◌, Bool, not, ◌&&◌, ◌||◌, cond, ◌⊎◌, ℕ, ◌<◌, eqb, length, get_or}
use Rattle.std.proofs.Math.Path.{refl}
use Rattle.std.proofs.Common.{sym, ap, ◌∙◌, inl, inr, arith}
use Rattle.std.proofs.Math.Bool.{true, false, and-false}
use mathlib.Core.List.Memᴰ
use mathlib.Core.List.{List, [], ◌∷◌}
use borrow.Author.Tests.{eqb-true, eqb-false, lt-leb}
use Rattle.model.specs.Lists.{◌∈◌, any, head_or}
use Rattle.model.specs.Graph.{View}
use Rattle.model.specs.Grouping.{adjacent, algorithm1, clique, closed, false_twins, group, independent, is_clique, kind_of, leaders, least, similar, true_twins}
use Rattle.model.specs.Summary.{Share, Summarises, position, reconstruct, summary_of}
use Rattle.model.proofs.TestLaws.{and_one, decide, differ, iff_eq, or_cases, or_left, or_same}
use Rattle.model.proofs.ListLaws.{Ascending, any_elim, any_intro, head_or_in, map_in, map_out}
use Rattle.model.proofs.TwinLaws.{Simple, false_twins_at, false_twins_no_edge, never_mixed, similar_cases, similar_class, similar_refl, similar_sym, similar_trans, true_twins_at, true_twins_edge}
use Rattle.model.proofs.ClassLaws.{Equivalence, class_group, class_in_lem, class_inhabited, classes, greedy-leaders, group_in_lem, group_out, leader_out, least_in, least-leads, least_rel, length-classes, position_same}

module _ (v : View) (g : Simple v) (asc : Ascending v.nodes) where
  abbrev r : ℕ → ℕ → Bool
  r = similar v

  pub equivalence : Equivalence v.nodes (similar v)
  equivalence = record { reflexive = similar_refl v; symmetric = similar_sym v; transitive = similar_trans v g }

  pub algorithm1-classes : algorithm1 v ≡ classes v.nodes (similar v)
  unfolding algorithm1
  algorithm1-classes = greedy-leaders v.nodes (similar v) equivalence asc

  -- two nodes share a group of Algorithm 1 exactly if they are similar
  pub share_similar : (p q : ℕ) → p ∈ v.nodes → q ∈ v.nodes → Share (algorithm1 v) p q → similar v p q ≡ true
  share_similar p q mp mq s =
      let t = map_out (group v.nodes r) (leaders v.nodes r) s.0 (rw algorithm1-classes at s.1) in
      let l = t.0 in
      let lin : l ∈ v.nodes = (leader_out v.nodes r equivalence asc l t.1).0 in
      let a : similar v l p ≡ true = (group_out v.nodes r l p (rw t.2 at s.2)).1 in
      let b : similar v l q ≡ true = (group_out v.nodes r l q (rw t.2 at s.3)).1 in
      similar_trans v g p l q mp lin mq (similar_sym v l p a) b

  pub similar_share : (p q : ℕ) → p ∈ v.nodes → q ∈ v.nodes → similar v p q ≡ true → Share (algorithm1 v) p q
  similar_share p q mp mq h =
      let l : ℕ = least v.nodes r p in
      let lin : l ∈ v.nodes = least_in v.nodes r equivalence asc p mp in
      let lp : similar v l p ≡ true = similar_sym v p l (least_rel v.nodes r equivalence asc p mp) in
      (group v.nodes r l, rw algorithm1-classes (map_in (group v.nodes r) (leaders v.nodes r) l (least-leads v.nodes r equivalence asc p mp)), group_in_lem v.nodes r l p mp lp, group_in_lem v.nodes r l q mq (similar_trans v g l p q lin mp mq lp h))

  -- edges across two groups: if one pair has an edge, every pair has
  pub swap : (p x q : ℕ) → p ∈ v.nodes → x ∈ v.nodes → q ∈ v.nodes → r p x ≡ true → r p q ≡ false → v.edge x q ≡ true → v.edge p q ≡ true
  unfolding closed
  swap p x q mp mx mq h apart t = step (similar_cases v p x h)
    where
      cases : (v.edge p q ≡ true) ⊎ (eqb p q ≡ true) → v.edge p q ≡ true
      cases (inl k) = k
      cases (inr k) = differ (rw (← eqb-true p q k) (similar_refl v p)) apart

      step : (false_twins v p x ≡ true) ⊎ (true_twins v p x ≡ true) → v.edge p q ≡ true
      step (inl n) = false_twins_at v p x n q mq ∙ t
      step (inr n) = cases (or_cases (v.edge p q) (eqb p q) (true_twins_at v p x n q mq ∙ or_left (eqb x q) t))

  pub adjacent_law : (p q : ℕ) → p ∈ v.nodes → q ∈ v.nodes → r p q ≡ false → adjacent v.edge (group v.nodes r p) (group v.nodes r q) ≡ v.edge p q
  unfolding adjacent
  adjacent_law p q mp mq apart = iff_eq _ (v.edge p q) there back
    where
      own : (x : ℕ) → x ∈ v.nodes → x ∈ group v.nodes r x
      own x m = group_in_lem v.nodes r x x m (similar_refl v x)

      back : v.edge p q ≡ true → any (group v.nodes r p) (λ x. any (group v.nodes r q) (v.edge x)) ≡ true
      back t = any_intro (group v.nodes r p) _ p (own p mp) (any_intro (group v.nodes r q) (v.edge p) q (own q mq) t)

      no-yx : (y : ℕ) → y ∈ v.nodes → r q y ≡ true → r q p ≡ false
      no-yx y m h = step (decide (r q p))
        where
          step : (r q p ≡ true) ⊎ (r q p ≡ false) → r q p ≡ false
          step (inl k) = differ (similar_sym v q p k) apart
          step (inr k) = k

      no-xq : (x : ℕ) → x ∈ v.nodes → r p x ≡ true → (y : ℕ) → y ∈ v.nodes → r q y ≡ true → r p y ≡ false
      no-xq x mx hx y my hy = step (decide (r p y))
        where
          step : (r p y ≡ true) ⊎ (r p y ≡ false) → r p y ≡ false
          step (inl k) = differ (similar_trans v g p y q mp my mq k (similar_sym v q y hy)) apart
          step (inr k) = k

      there : any (group v.nodes r p) (λ x. any (group v.nodes r q) (v.edge x)) ≡ true → v.edge p q ≡ true
      there t =
          let a = any_elim (group v.nodes r p) (λ x. any (group v.nodes r q) (v.edge x)) t in
          let x = a.0 in
          let b = any_elim (group v.nodes r q) (v.edge x) a.2 in
          let y = b.0 in
          let gx = group_out v.nodes r p x a.1 in
          let gy = group_out v.nodes r q y b.1 in
          let py : v.edge p y ≡ true = swap p x y mp gx.0 gy.0 gx.1 (no-xq x gx.0 gx.1 y gy.0 gy.1) b.2 in
          let qp : v.edge q p ≡ true = swap q y p mq gy.0 mp gy.1 (no-yx y gy.0 gy.1) (g.symmetric y p gy.0 mp ∙ py) in
          g.symmetric p q mp mq ∙ qp

  -- edges inside a group: if one pair has an edge, every pair has
  pub never : {X : Type 0} (p q s : ℕ) → p ∈ v.nodes → q ∈ v.nodes → s ∈ v.nodes → (p ≡ q → ⊥) → (q ≡ s → ⊥) → false_twins v p q ≡ true → true_twins v q s ≡ true → X
  never p q s mp mq ms pq qs n c =
      let ps : p ≡ s = never_mixed v g p q s mp mq ms pq qs n c in
      let edge : v.edge q p ≡ true = rw ps (true_twins_edge v g q s ms qs c) in
      differ (g.symmetric p q mp mq ∙ edge) (false_twins_no_edge v g p q mq n)

  pub uniform : (p q a b : ℕ) → p ∈ v.nodes → q ∈ v.nodes → a ∈ v.nodes → b ∈ v.nodes → (p ≡ q → ⊥) → r p q ≡ true → r q a ≡ true → r a b ≡ true → v.edge a b ≡ true → v.edge p q ≡ true
  uniform p q a b mp mq ma mb pq rpq rqa rab t = kind (similar_cases v p q rpq) (similar_cases v a b rab)
    where
      ab : a ≡ b → ⊥
      ab x = differ (rw (← x) at t) (g.irreflexive a ma)

      middle : false_twins v p q ≡ true → true_twins v a b ≡ true → (q ≡ a → ⊥) → (false_twins v q a ≡ true) ⊎ (true_twins v q a ≡ true) → v.edge p q ≡ true
      middle n c ne (inl k) = never q a b mq ma mb ne ab k c
      middle n c ne (inr k) = never p q a mp mq ma pq ne n k

      meet : false_twins v p q ≡ true → true_twins v a b ≡ true → (eqb q a ≡ true) ⊎ (eqb q a ≡ false) → v.edge p q ≡ true
      meet n c (inl x) = never p q b mp mq mb pq (λ y. ab (sym (eqb-true q a x) ∙ y)) n (rw (eqb-true q a x) c)
      meet n c (inr x) = middle n c (eqb-false q a x) (similar_cases v q a rqa)

      kind : (false_twins v p q ≡ true) ⊎ (true_twins v p q ≡ true) → (false_twins v a b ≡ true) ⊎ (true_twins v a b ≡ true) → v.edge p q ≡ true
      kind (inr c) y = true_twins_edge v g p q mq pq c
      kind (inl n) (inl m) = differ t (false_twins_no_edge v g a b mb m)
      kind (inl n) (inr c) = meet n c (decide (eqb q a))

  inner-law : (p q : ℕ) → p ∈ v.nodes → q ∈ v.nodes → (p ≡ q → ⊥) → r p q ≡ true → adjacent v.edge (group v.nodes r p) (group v.nodes r p) ≡ v.edge p q
  unfolding adjacent
  inner-law p q mp mq pq h = iff_eq _ (v.edge p q) there back
    where
      back : v.edge p q ≡ true → any (group v.nodes r p) (λ x. any (group v.nodes r p) (v.edge x)) ≡ true
      back t = any_intro (group v.nodes r p) _ p (group_in_lem v.nodes r p p mp (similar_refl v p)) (any_intro (group v.nodes r p) (v.edge p) q (group_in_lem v.nodes r p q mq h) t)

      there : any (group v.nodes r p) (λ x. any (group v.nodes r p) (v.edge x)) ≡ true → v.edge p q ≡ true
      there t =
          let s = any_elim (group v.nodes r p) (λ x. any (group v.nodes r p) (v.edge x)) t in
          let a = s.0 in
          let u = any_elim (group v.nodes r p) (v.edge a) s.2 in
          let b = u.0 in
          let ga = group_out v.nodes r p a s.1 in
          let gb = group_out v.nodes r p b u.1 in
          uniform p q a b mp mq ga.0 gb.0 pq h
          (similar_trans v g q p a mq mp ga.0 (similar_sym v p q h) ga.1)
          (similar_trans v g a p b ga.0 mp gb.0 (similar_sym v p a ga.1) gb.1)
          u.2

  -- the same of a group's kind, whose members are nodes of the graph
  pub kind_clique : (l : List ℕ) → ((x : ℕ) → x ∈ l → x ∈ v.nodes) → is_clique (kind_of v.edge l) ≡ adjacent v.edge l l
  unfolding kind_of is_clique adjacent any
  kind_clique [] sub = refl
  kind_clique (x ∷ []) sub = rw (g.irreflexive x (sub x (Memᴰ.head refl)))
  kind_clique (x ∷ (y ∷ l)) sub = rw (lt-leb (length (x ∷ (y ∷ l))) 1 (omega arith)) (step (adjacent v.edge (x ∷ (y ∷ l)) (x ∷ (y ∷ l))))
    where
      step : (b : Bool) → is_clique (cond b clique independent) ≡ b
      step true = refl
      step false = refl

  pub clique_law : (p q : ℕ) → p ∈ v.nodes → q ∈ v.nodes → (p ≡ q → ⊥) → r p q ≡ true → is_clique (kind_of v.edge (group v.nodes r p)) ≡ v.edge p q
  clique_law p q mp mq pq h = kind_clique (group v.nodes r p) (λ x m. (group_out v.nodes r p x m).0) ∙ inner-law p q mp mq pq h

  -- the position of a node's group
  pub position_in : (p : ℕ) → p ∈ v.nodes → position p (algorithm1 v) < length (algorithm1 v)
  position_in p m = rw algorithm1-classes (class_in_lem v.nodes r equivalence asc p m)

  pub position-group : (p : ℕ) → p ∈ v.nodes → get_or (algorithm1 v) (position p (algorithm1 v)) [] ≡ group v.nodes r p
  position-group p m = rw algorithm1-classes (class_group v.nodes r equivalence asc p m)

  pub position-similar : (p q : ℕ) → p ∈ v.nodes → q ∈ v.nodes → eqb (position p (algorithm1 v)) (position q (algorithm1 v)) ≡ r p q
  position-similar p q mp mq = rw algorithm1-classes (position_same v.nodes r equivalence asc p q mp mq)

  pub reconstruct_exact : (p q : ℕ) → p ∈ v.nodes → q ∈ v.nodes → reconstruct (summary_of v (algorithm1 v)) p q ≡ v.edge p q
  unfolding reconstruct summary_of
  reconstruct_exact p q mp mq = rw (position-similar p q mp mq, position-group p mp, position-group q mq) (step (decide (r p q)) (decide (eqb p q)))
    where
      other : r p q ≡ false → r q p ≡ false
      other h = turn (decide (r q p))
        where
          turn : (r q p ≡ true) ⊎ (r q p ≡ false) → r q p ≡ false
          turn (inl k) = differ (similar_sym v q p k) h
          turn (inr k) = k

      step : (r p q ≡ true) ⊎ (r p q ≡ false) → (eqb p q ≡ true) ⊎ (eqb p q ≡ false)
          → cond (r p q) (is_clique (kind_of v.edge (group v.nodes r p)) && not (eqb p q)) (adjacent v.edge (group v.nodes r p) (group v.nodes r q) || adjacent v.edge (group v.nodes r q) (group v.nodes r p)) ≡ v.edge p q
      step (inl h) (inl x) = rw (h, x) (and-false (is_clique (kind_of v.edge (group v.nodes r p))) ∙ sym (g.irreflexive p mp) ∙ ap (v.edge p) (eqb-true p q x))
      step (inl h) (inr x) = rw (h, x) (and_one (is_clique (kind_of v.edge (group v.nodes r p))) ∙ clique_law p q mp mq (eqb-false p q x) h)
      step (inr h) x = rw (h, adjacent_law p q mp mq h, adjacent_law q p mq mp (other h), g.symmetric q p mq mp) (or_same (v.edge p q))

  -- the first member of a node's group is of its class
  pub group_class : (p : ℕ) → p ∈ v.nodes → v.class (head_or 0 (group v.nodes r p)) ≡ v.class p
  group_class p m = sym (similar_class v p _ (group_out v.nodes r p _ (head_or_in 0 (group v.nodes r p) p (group_in_lem v.nodes r p p m (similar_refl v p)))).1)

  pub position_class : (p : ℕ) → p ∈ v.nodes → v.class (head_or 0 (get_or (algorithm1 v) (position p (algorithm1 v)) [])) ≡ v.class p
  position_class p m = rw (position-group p m) (group_class p m)

  pub length_groups : length (algorithm1 v) ≡ length (leaders v.nodes r)
  length_groups = rw algorithm1-classes (length-classes v.nodes r equivalence asc)

  pub algorithm1_summarises : Summarises v (summary_of v (algorithm1 v))
  unfolding summary_of
  algorithm1_summarises = record { placed = position_in; inhabited = rw algorithm1-classes (class_inhabited v.nodes r equivalence asc); exact = reconstruct_exact; classed = position_class }
