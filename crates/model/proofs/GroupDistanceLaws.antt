-- The distance of two nodes is told by their groups, over any summary that unfolds to the edges between them.
use Rattle.std.specs.Prelude.{◌≡◌, refl, false, not, ◌&&◌, ◌⊎◌, ℕ, suc, zero, ◌≤◌, ◌<◌, eqb}
use Rattle.std.proofs.Math.Path.{sym, ap}
use Rattle.std.proofs.Common.{◌∙◌, inr}
use Rattle.std.proofs.Math.Bool.{true, or_comm}
use Rattle.std.proofs.Math.Logic.{inl}
use native.Mathlib.Omega.{arith}
use borrow.Author.Tests.{eqb-true, eqb-false, eq-eqb, ne_eqb, not-true}
use Rattle.model.specs.Lists.{◌∈◌, nodes}
use Rattle.model.specs.Graph.{View}
use Rattle.model.specs.Summary.{Summarises, Summary, groups_of, reconstruct}
use Rattle.model.specs.Distance.{Shortest, distance, distance_by, is_joined, unreachable, walk}
use Rattle.model.proofs.TestLaws.{and_fst, and_snd, and_true, decide, differ, fails}
use Rattle.model.proofs.ListLaws.{any_elim, any_intro, nodes_in_lem, nodes_out}
use Rattle.model.proofs.DistanceLaws.{walk_by, walk_step, distance_shortest, no_walk, shortest_distance}

-- d unfolds to what is seen; a group without a member may be counted, but has no superedge
pub record Unfolds (v : View) (d : Summary) : Type 0 where
  pub placed : (p : ℕ) → p ∈ v.nodes → d.group_of p < d.count
  pub met : (i j : ℕ) → i < d.count → j < d.count → (groups_of d).edge i j ≡ true → (p : ℕ) × (p ∈ v.nodes) × (d.group_of p ≡ i)
  pub exact : (p q : ℕ) → p ∈ v.nodes → q ∈ v.nodes → reconstruct d p q ≡ v.edge p q

-- a summary without empty groups is one that unfolds to what is seen
pub summarises_unfolds : (v : View) (d : Summary) → Summarises v d → Unfolds v d
summarises_unfolds v d s = record { placed = s.placed; met = λ i j l m e. s.inhabited i l; exact = s.exact }

-- walks of no edge and of one
walk_same : (v : View) (p q : ℕ) → p ≡ q → walk v 0 p q ≡ true
unfolding walk
walk_same v p q e = eq-eqb p q e

same_walk : (v : View) (p q : ℕ) → walk v 0 p q ≡ true → p ≡ q
unfolding walk
same_walk v p q c = eqb-true p q c

walk_edge : (v : View) (p q : ℕ) → p ∈ v.nodes → v.edge p q ≡ true → walk v 1 p q ≡ true
walk_edge v p q m e = walk_step v 0 p p q m (walk_same v p p refl) e

edge_walk : (v : View) (p q : ℕ) → walk v 1 p q ≡ true → v.edge p q ≡ true
edge_walk v p q c =
    let a = walk_by v 0 p q c in
    ap (λ (r : ℕ). v.edge r q) (same_walk v p a.0 a.2) ∙ a.3

-- different nodes are one edge or more apart, two or more without an edge between them
module _ (v : View) (p q : ℕ) (other : p ≡ q → ⊥) where
  some : (k : ℕ) → walk v k p q ≡ true → 1 ≤ k
  some zero c = absurd (other (same_walk v p q c))
  some (suc k) c = omega arith

  two : v.edge p q ≡ false → (k : ℕ) → walk v k p q ≡ true → 2 ≤ k
  two t zero c = absurd (other (same_walk v p q c))
  two t (suc zero) c = differ (edge_walk v p q c) t
  two t (suc (suc k)) c = omega arith

module _ (v : View) (d : Summary) (u : Unfolds v d) where
  abbrev groups : View
  groups = groups_of d

  -- a superedge joins different groups, both ways
  apart : (i j : ℕ) → groups.edge i j ≡ true → eqb i j ≡ false
  apart i j e = not-true (eqb i j) (and_fst (not (eqb i j)) _ e)

  back : (i j : ℕ) → groups.edge i j ≡ true → groups.edge j i ≡ true
  back i j e =
      and_true
      (ap not (ne_eqb j i (λ z. eqb-false i j (apart i j e) (sym z))))
      (or_comm (d.superedges j i) (d.superedges i j) ∙ and_snd (not (eqb i j)) _ e)

  -- an edge across groups is a superedge, one inside a group is a clique's
  across : (p q : ℕ) → p ∈ v.nodes → q ∈ v.nodes → eqb (d.group_of p) (d.group_of q) ≡ false → v.edge p q ≡ groups.edge (d.group_of p) (d.group_of q)
  unfolding reconstruct
  across p q mp mq t = sym (u.exact p q mp mq) ∙ rw t

  inside : (p q : ℕ) → p ∈ v.nodes → q ∈ v.nodes → eqb (d.group_of p) (d.group_of q) ≡ true → v.edge p q ≡ (d.cliques (d.group_of p) && not (eqb p q))
  unfolding reconstruct
  inside p q mp mq t = sym (u.exact p q mp mq) ∙ rw t

  down : (p q : ℕ) → p ∈ v.nodes → q ∈ v.nodes → groups.edge (d.group_of p) (d.group_of q) ≡ true → v.edge p q ≡ true
  down p q mp mq e = across p q mp mq (apart (d.group_of p) (d.group_of q) e) ∙ e

  node : (p : ℕ) → p ∈ v.nodes → d.group_of p ∈ groups.nodes
  node p m = nodes_in_lem d.count (d.group_of p) (u.placed p m)

  -- a walk over groups is one of any of their members
  walk-down : (k p q : ℕ) → p ∈ v.nodes → q ∈ v.nodes → walk groups (suc k) (d.group_of p) (d.group_of q) ≡ true → walk v (suc k) p q ≡ true
  walk-down zero p q mp mq c = walk_edge v p q mp (down p q mp mq (edge_walk groups (d.group_of p) (d.group_of q) c))
  walk-down (suc k) p q mp mq c =
      let a = walk_by groups (suc k) (d.group_of p) (d.group_of q) c in
      let x = u.met a.0 (d.group_of q) (nodes_out d.count a.0 a.1) (u.placed q mq) a.3 in
      walk_step v (suc k) p x.0 q x.1
      (walk-down k p x.0 mp x.1 (ap (walk groups (suc k) (d.group_of p)) x.2 ∙ a.2))
      (down x.0 q x.1 mq (ap (λ (i : ℕ). groups.edge i (d.group_of q)) x.2 ∙ a.3))

  -- a walk over nodes gives one of their groups, of as many edges or fewer
  walk_up : (k p q : ℕ) → p ∈ v.nodes → q ∈ v.nodes → walk v k p q ≡ true → (j : ℕ) × (j ≤ k) × (walk groups j (d.group_of p) (d.group_of q) ≡ true)
  walk_up zero p q mp mq c = (0, omega arith, walk_same groups (d.group_of p) (d.group_of q) (ap d.group_of (same_walk v p q c)))
  walk_up (suc k) p q mp mq c =
      let a = walk_by v k p q c in
      step a.0 a.1 a.3 (walk_up k p a.0 mp a.1 a.2) (decide (eqb (d.group_of a.0) (d.group_of q)))
    where
      step : (r : ℕ) → r ∈ v.nodes → v.edge r q ≡ true → (j : ℕ) × (j ≤ k) × (walk groups j (d.group_of p) (d.group_of r) ≡ true) → (eqb (d.group_of r) (d.group_of q) ≡ true) ⊎ (eqb (d.group_of r) (d.group_of q) ≡ false)
          → (j : ℕ) × (j ≤ suc k) × (walk groups j (d.group_of p) (d.group_of q) ≡ true)
      step r m e (j, l, b) (inl t) = (j, omega arith, ap (walk groups j (d.group_of p)) (sym (eqb-true (d.group_of r) (d.group_of q) t)) ∙ b)
      step r m e (j, l, b) (inr t) = (suc j, omega arith, walk_step groups j (d.group_of p) (d.group_of r) (d.group_of q) (node r m) b (sym (across r q m mq t) ∙ e))

  -- the shortest walk: that of different groups; in one group by its kind and superedges
  module _ (p q : ℕ) (mp : p ∈ v.nodes) (mq : q ∈ v.nodes) where
    across-shortest : eqb (d.group_of p) (d.group_of q) ≡ false → {x : ℕ} → Shortest groups (d.group_of p) (d.group_of q) x → Shortest v p q x
    across-shortest t {x} s = record { there = step x s.there; least = λ k c. let a = walk_up k p q mp mq c in omega (arith, s.least a.0 a.2, a.1) }
      where
        step : (x : ℕ) → (walk groups x (d.group_of p) (d.group_of q) ≡ true) ⊎ ((x ≡ unreachable) × ((k : ℕ) → walk groups k (d.group_of p) (d.group_of q) ≡ false)) → (walk v x p q ≡ true) ⊎ ((x ≡ unreachable) × ((k : ℕ) → walk v k p q ≡ false))
        step zero (inl c) = absurd (eqb-false (d.group_of p) (d.group_of q) t (same_walk groups (d.group_of p) (d.group_of q) c))
        step (suc k) (inl c) = inl (walk-down k p q mp mq c)
        step x (inr (e, h)) = inr (e, λ k. fails (walk v k p q) (λ c. let a = walk_up k p q mp mq c in differ a.2 (h a.0)))

    module _ (other : eqb p q ≡ false) (one : eqb (d.group_of p) (d.group_of q) ≡ true) where
      clique-shortest : d.cliques (d.group_of p) ≡ true → Shortest v p q 1
      clique-shortest c = record { there = inl (walk_edge v p q mp (inside p q mp mq one ∙ rw (c, other))); least = some v p q (eqb-false p q other) }

      -- there and back over a superedge
      joined-shortest : d.cliques (d.group_of p) ≡ false → is_joined d (d.group_of p) ≡ true → Shortest v p q 2
      unfolding is_joined
      joined-shortest c h = record { there = inl there; least = two v p q (eqb-false p q other) (inside p q mp mq one ∙ rw c) }
        where
          there : walk v 2 p q ≡ true
          there =
              let a = any_elim (nodes d.count) (groups.edge (d.group_of p)) h in
              let x = u.met a.0 (d.group_of p) (nodes_out d.count a.0 a.1) (u.placed p mp) (back (d.group_of p) a.0 a.2) in
              let e = ap (groups.edge (d.group_of p)) x.2 ∙ a.2 in
              walk_step v 1 p x.0 q x.1
              (walk_edge v p x.0 mp (down p x.0 mp x.1 e))
              (down x.0 q x.1 mq (ap (groups.edge (d.group_of x.0)) (sym (eqb-true (d.group_of p) (d.group_of q) one)) ∙ back (d.group_of p) (d.group_of x.0) e))

      -- no edge at all
      alone-shortest : d.cliques (d.group_of p) ≡ false → is_joined d (d.group_of p) ≡ false → Shortest v p q unreachable
      unfolding is_joined
      alone-shortest c h = no_walk v p q none
        where
          same : d.group_of p ≡ d.group_of q
          same = eqb-true (d.group_of p) (d.group_of q) one

          bare : (r : ℕ) → r ∈ v.nodes → v.edge r q ≡ true → (eqb (d.group_of r) (d.group_of q) ≡ true) ⊎ (eqb (d.group_of r) (d.group_of q) ≡ false) → ⊥
          bare r m e (inl t) = differ e (inside r q m mq t ∙ rw (eqb-true (d.group_of r) (d.group_of q) t, ← same, c))
          bare r m e (inr t) = differ (any_intro (nodes d.count) (groups.edge (d.group_of p)) (d.group_of r) (nodes_in_lem d.count (d.group_of r) (u.placed r m)) (rw same (back (d.group_of r) (d.group_of q) (sym (across r q m mq t) ∙ e)))) h

          none : (k : ℕ) → walk v k p q ≡ true → ⊥
          none zero t = eqb-false p q other (same_walk v p q t)
          none (suc k) t = let a = walk_by v k p q t in bare a.0 a.1 a.3 (decide (eqb (d.group_of a.0) (d.group_of q)))

    shortest-by : Shortest v p q (distance_by d p q)
    unfolding distance_by
    shortest-by = step (decide (eqb p q)) (decide (eqb (d.group_of p) (d.group_of q))) (decide (d.cliques (d.group_of p))) (decide (is_joined d (d.group_of p)))
      where
        step : (eqb p q ≡ true) ⊎ (eqb p q ≡ false) → (eqb (d.group_of p) (d.group_of q) ≡ true) ⊎ (eqb (d.group_of p) (d.group_of q) ≡ false)
            → (d.cliques (d.group_of p) ≡ true) ⊎ (d.cliques (d.group_of p) ≡ false) → (is_joined d (d.group_of p) ≡ true) ⊎ (is_joined d (d.group_of p) ≡ false) → Shortest v p q (distance_by d p q)
        step (inl e) g c j = rw e (record { there = inl (walk_same v p q (eqb-true p q e)); least = λ k z. omega arith })
        step (inr e) (inr g) c j = rw (e, g) (across-shortest g (distance_shortest groups (d.group_of p) (d.group_of q) (node p mp) (node q mq)))
        step (inr e) (inl g) (inl c) j = rw (e, g, c) (clique-shortest e g c)
        step (inr e) (inl g) (inr c) (inl j) = rw (e, g, c, j) (joined-shortest e g c j)
        step (inr e) (inl g) (inr c) (inr j) = rw (e, g, c, j) (alone-shortest e g c j)

    -- the distance of nodes is that of their groups
    pub distance_by_groups : distance v p q ≡ distance_by d p q
    distance_by_groups = sym (shortest_distance v p q mp mq shortest-by)
