-- Edges counted: a summary has at most one superedge for each edge, and an update adds at most one edge.
use Rattle.std.specs.Prelude.{◌≡◌, Bool, true, false, ◌&&◌, cond, ◌⊎◌, length}
use Rattle.std.proofs.Math.Path.{refl, ap₂}
use Rattle.std.proofs.Common.{sym, ap, ◌∙◌, inl, inr, eqb-true}
use Rattle.std.proofs.Math.Bool.{and-false}
use mathlib.Core.List.Memᴰ
use mathlib.Core.List.{List, [], ◌∷◌, map}
use Prim.Native.Nat.{ℕ, suc, ◌+◌, ◌*◌, ◌≤◌, ◌<◌}
use native.Mathlib.Omega.{arith}
use Rattle.std.proofs.Math.Dec.{eqb}
use Rattle.std.proofs.Math.ListN.{length-append}
use Rattle.std.proofs.lemmas.Bool.{eqb-false}
use Rattle.model.specs.Lists.{◌∈◌, filter, nodes}
use Rattle.model.specs.Graph.{Graph, Proper, View, empty_graph, whole}
use Rattle.model.specs.Grouping.{adjacent, algorithm1, group, leaders, least, similar}
use Rattle.model.specs.Updates.{Update, batch_graph, is_pair, on_edge, update, updated}
use Rattle.model.specs.Steps.{run}
use Rattle.model.specs.Release.{is_visible, release, superedge_count, superedges, superedges_from, visible, visible_edge, visible_groups}
use Rattle.model.proofs.TestLaws.{decide}
use Rattle.model.proofs.ListLaws.{Ascending, filter_cong, filter_elim, length-filter, nodes_ascending}
use Rattle.model.proofs.TwinLaws.{Simple}
use Rattle.model.proofs.ClassLaws.{leader_out, leaders-apart, leaders_ascending}
use Rattle.model.proofs.SummaryLaws.{adjacent_law, algorithm1-classes, equivalence, length_groups}
use Rattle.model.proofs.TableLaws.{length-nodes}
use Rattle.model.proofs.ReleaseLaws.{length-release, visible_ascending, visible-simple}
use Rattle.model.proofs.UpdateLaws.{update_cases}

-- the number of edges among the nodes of an ascending list
unfoldable pub edge_count : (ℕ → ℕ → Bool) → List ℕ → ℕ
edge_count e [] = 0
edge_count e (p ∷ ps) = length (filter (e p) ps) + edge_count e ps

pub edge_count_cong : (e f : ℕ → ℕ → Bool) (l : List ℕ) → ((p q : ℕ) → p ∈ l → q ∈ l → e p q ≡ f p q) → edge_count e l ≡ edge_count f l
unfolding edge_count
edge_count_cong e f [] h = refl
edge_count_cong e f (p ∷ ps) h =
    ap₂ ◌+◌
    (ap length (filter_cong (e p) (f p) ps (λ q m. h p q (Memᴰ.head refl) (Memᴰ.tail m))))
    (edge_count_cong e f ps (λ a b ma mb. h a b (Memᴰ.tail ma) (Memᴰ.tail mb)))

-- some of the nodes have at most as many edges
filter-filter : (f h : ℕ → Bool) (l : List ℕ) → length (filter f (filter h l)) ≤ length (filter f l)
unfolding filter
filter-filter f h [] = omega arith
filter-filter f h (x ∷ xs) = step (h x) (filter-filter f h xs)
  where
    Fewer : List ℕ → List ℕ → Type 0
    Fewer a b = length a ≤ length b

    kept : (c : Bool) → Fewer (filter f (filter h xs)) (filter f xs) → Fewer (cond c (x ∷ filter f (filter h xs)) (filter f (filter h xs))) (cond c (x ∷ filter f xs) (filter f xs))
    kept true below = omega arith
    kept false below = below

    gone : (c : Bool) → Fewer (filter f (filter h xs)) (filter f xs) → Fewer (filter f (filter h xs)) (cond c (x ∷ filter f xs) (filter f xs))
    gone true below = omega arith
    gone false below = below

    step : (b : Bool) → Fewer (filter f (filter h xs)) (filter f xs) → Fewer (filter f (cond b (x ∷ filter h xs) (filter h xs))) (cond (f x) (x ∷ filter f xs) (filter f xs))
    step true below = kept (f x) below
    step false below = gone (f x) below

pub edge_count-filter : (e : ℕ → ℕ → Bool) (h : ℕ → Bool) (l : List ℕ) → edge_count e (filter h l) ≤ edge_count e l
unfolding edge_count filter
edge_count-filter e h [] = omega arith
edge_count-filter e h (p ∷ ps) = step (h p) (edge_count-filter e h ps)
  where
    step : (b : Bool) → edge_count e (filter h ps) ≤ edge_count e ps → edge_count e (cond b (p ∷ filter h ps) (filter h ps)) ≤ length (filter (e p) ps) + edge_count e ps
    step true below = omega (arith, filter-filter (e p) h ps)
    step false below = omega arith

-- the superedges among groups are the edges among their leaders
length-superedges_from : (e : ℕ → ℕ → Bool) (group_of : ℕ → List ℕ) (i p : ℕ) (ls : List ℕ) (j : ℕ) → ((q : ℕ) → q ∈ ls → adjacent e (group_of p) (group_of q) ≡ e p q)
    → length (superedges_from e i (group_of p) j (map group_of ls)) ≡ length (filter (e p) ls)
unfolding superedges_from filter
length-superedges_from e group_of i p [] j h = refl
length-superedges_from e group_of i p (q ∷ qs) j h = rw (h q (Memᴰ.head refl)) (step (e p q) (length-superedges_from e group_of i p qs (suc j) (λ x m. h x (Memᴰ.tail m))))
  where
    rest : List (ℕ × ℕ)
    rest = superedges_from e i (group_of p) (suc j) (map group_of qs)

    step : (b : Bool) → length rest ≡ length (filter (e p) qs) → length (cond b ((i, j) ∷ rest) rest) ≡ length (cond b (q ∷ filter (e p) qs) (filter (e p) qs))
    step true below = ap suc below
    step false below = below

module _ (v : View) (g : Simple v) (asc : Ascending v.nodes) where
  abbrev r : ℕ → ℕ → Bool
  r = similar v

  apart : (x y : ℕ) → x ∈ v.nodes → y ∈ v.nodes → least v.nodes r x ≡ x → least v.nodes r y ≡ y → x < y → r x y ≡ false
  apart x y mx my lx ly l = step (decide (r x y))
    where
      step : (r x y ≡ true) ⊎ (r x y ≡ false) → r x y ≡ false
      step (inl t) = let z : x ≡ y = leaders-apart v.nodes r (equivalence v g asc) asc x y mx my lx ly t in absurd (omega arith)
      step (inr t) = t

  length-superedges : (ls : List ℕ) (i : ℕ) → Ascending ls → ((x : ℕ) → x ∈ ls → (x ∈ v.nodes) × (least v.nodes r x ≡ x)) → length (superedges v.edge i (map (group v.nodes r) ls)) ≡ edge_count v.edge ls
  unfolding superedges edge_count
  length-superedges [] i a led = refl
  length-superedges (p ∷ ps) i a led =
      length-append (superedges_from v.edge i (group v.nodes r p) (suc i) (map (group v.nodes r) ps)) (superedges v.edge (suc i) (map (group v.nodes r) ps))
      ∙ ap₂ ◌+◌ (length-superedges_from v.edge (group v.nodes r) i p ps (suc i) edge) (length-superedges ps (suc i) a.1 (λ x m. led x (Memᴰ.tail m)))
    where
      edge : (q : ℕ) → q ∈ ps → adjacent v.edge (group v.nodes r p) (group v.nodes r q) ≡ v.edge p q
      edge q m =
          let lp = led p (Memᴰ.head refl) in
          let lq = led q (Memᴰ.tail m) in
          adjacent_law v g asc p q lp.0 lq.0 (apart p q lp.0 lq.0 lp.1 lq.1 (a.0 q m))

  pub superedges-le_edges : length (superedges v.edge 0 (algorithm1 v)) ≤ edge_count v.edge v.nodes
  unfolding leaders
  superedges-le_edges =
      rw (algorithm1-classes v g asc)
      (omega (
        arith,
        length-superedges (leaders v.nodes r) 0 (leaders_ascending v.nodes r (equivalence v g asc) asc) (leader_out v.nodes r (equivalence v g asc) asc),
        edge_count-filter v.edge (λ p. eqb (least v.nodes r p) p) v.nodes,
      ))

-- the visible part has at most as many edges as the graph
pub edge_count-visible : (g : Graph) → edge_count (visible g).edge (visible g).nodes ≤ edge_count (whole g).edge (whole g).nodes
unfolding visible_edge
edge_count-visible g = omega (arith, edge_count_cong (visible g).edge g.edge (visible g).nodes same, edge_count-filter g.edge (is_visible g) (nodes g.node_count))
  where
    shown : (p : ℕ) → p ∈ (visible g).nodes → is_visible g p ≡ true
    shown p m = (filter_elim (is_visible g) (nodes g.node_count) p m).1

    same : (p q : ℕ) → p ∈ (visible g).nodes → q ∈ (visible g).nodes → (visible g).edge p q ≡ g.edge p q
    same p q mp mq = rw (shown p mp, shown q mq)

-- two tests that agree but at x, on an ascending list
filter_one : (f h : ℕ → Bool) (x : ℕ) (l : List ℕ) → Ascending l → ((q : ℕ) → q ∈ l → (q ≡ x → ⊥) → f q ≡ h q) → length (filter f l) ≤ 1 + length (filter h l)
unfolding filter
filter_one f h x [] a same = omega arith
filter_one f h x (y ∷ ys) a same = step (filter_one f h x ys a.1 (λ q m. same q (Memᴰ.tail m))) (decide (eqb y x))
  where
    here : (b c : Bool) → filter f ys ≡ filter h ys → length (cond b (y ∷ filter f ys) (filter f ys)) ≤ 1 + length (cond c (y ∷ filter h ys) (filter h ys))
    here true true q = omega (arith, ap length q)
    here true false q = omega (arith, ap length q)
    here false true q = omega (arith, ap length q)
    here false false q = omega (arith, ap length q)

    past : (c : Bool) → length (filter f ys) ≤ 1 + length (filter h ys) → length (cond c (y ∷ filter f ys) (filter f ys)) ≤ 1 + length (cond c (y ∷ filter h ys) (filter h ys))
    past true below = omega arith
    past false below = below

    step : length (filter f ys) ≤ 1 + length (filter h ys) → (eqb y x ≡ true) ⊎ (eqb y x ≡ false) → length (cond (f y) (y ∷ filter f ys) (filter f ys)) ≤ 1 + length (cond (h y) (y ∷ filter h ys) (filter h ys))
    step below (inl t) = here (f y) (h y) (filter_cong f h ys (λ q m. same q (Memᴰ.tail m) (λ z. omega (arith, a.0 q m, eqb-true y x t))))
    step below (inr t) = rw (same y (Memᴰ.head refl) (eqb-false y x t)) (past (h y) below)

-- no pair: neither order fits
not_both : (p u q v : ℕ) → (p ≡ u → q ≡ v → ⊥) → (eqb p u && eqb q v) ≡ false
not_both p u q v h = step (decide (eqb p u)) (decide (eqb q v))
  where
    step : (eqb p u ≡ true) ⊎ (eqb p u ≡ false) → (eqb q v ≡ true) ⊎ (eqb q v ≡ false) → (eqb p u && eqb q v) ≡ false
    step (inl s) (inl t) = absurd (h (eqb-true p u s) (eqb-true q v t))
    step (inl s) (inr t) = rw (s, t)
    step (inr s) t = rw s

not_pair : (u v p q : ℕ) → (p ≡ u → q ≡ v → ⊥) → (p ≡ v → q ≡ u → ⊥) → is_pair u v p q ≡ false
not_pair u v p q one other = rw (not_both p u q v one, not_both p v q u other)

-- two graphs that agree but on the pair u, v differ by at most one edge
pub edge_count_pair : (e f : ℕ → ℕ → Bool) (u v : ℕ) (l : List ℕ) → Ascending l → ((p q : ℕ) → is_pair u v p q ≡ false → e p q ≡ f p q) → edge_count e l ≤ 1 + edge_count f l
unfolding edge_count
edge_count_pair e f u v [] a same = omega arith
edge_count_pair e f u v (p ∷ ps) a same = step (edge_count_pair e f u v ps a.1 same) (decide (eqb p u)) (decide (eqb p v))
  where
    Goal : Type 0
    Goal = length (filter (e p) ps) + edge_count e ps ≤ 1 + (length (filter (f p) ps) + edge_count f ps)

    agree : (x y : ℕ) → (x ≡ u → y ≡ v → ⊥) → (x ≡ v → y ≡ u → ⊥) → e x y ≡ f x y
    agree x y one other = same x y (not_pair u v x y one other)

    -- p is one of the two and x the other: p's row differs at x alone, and no later row does
    ends : (x : ℕ) → ((q : ℕ) → (q ≡ x → ⊥) → e p q ≡ f p q) → ((b c : ℕ) → (b ≡ p → ⊥) → (c ≡ p → ⊥) → e b c ≡ f b c) → Goal
    ends x row rest =
        omega (
          arith,
          filter_one (e p) (f p) x ps a.1 (λ q m. row q),
          edge_count_cong e f ps (λ b c mb mc. rest b c (λ z. omega (arith, a.0 b mb)) (λ z. omega (arith, a.0 c mc))),
        )

    step : edge_count e ps ≤ 1 + edge_count f ps → (eqb p u ≡ true) ⊎ (eqb p u ≡ false) → (eqb p v ≡ true) ⊎ (eqb p v ≡ false) → Goal
    step below (inl s) t = let z : p ≡ u = eqb-true p u s in ends v (λ q n. agree p q (λ x y. n y) (λ x y. n (y ∙ sym z ∙ x))) (λ b c nb nc. agree b c (λ x y. nb (x ∙ sym z)) (λ x y. nc (y ∙ sym z)))
    step below (inr s) (inl t) = let z : p ≡ v = eqb-true p v t in ends u (λ q n. agree p q (λ x y. eqb-false p u s x) (λ x y. n y)) (λ b c nb nc. agree b c (λ x y. nc (y ∙ sym z)) (λ x y. nb (x ∙ sym z)))
    step below (inr s) (inr t) = omega (arith, ap length (filter_cong (e p) (f p) ps (λ q m. agree p q (λ x y. eqb-false p u s x) (λ x y. eqb-false p v t x))))

-- an update adds at most one edge, a batch at most one for each update
pub edge_count-updated : (g : Graph) (c : Update) (l : List ℕ) → Ascending l → edge_count (updated g c).edge l ≤ 1 + edge_count g.edge l
unfolding updated
edge_count-updated g c l a = edge_count_pair (updated g c).edge g.edge c.u c.v l a (λ p q h. rw (h, and-false (on_edge c)))

edge_count_stepped : (g : Graph) (c : Update) (l : List ℕ) → Ascending l → edge_count (update g c).after.edge l ≤ 1 + edge_count g.edge l
edge_count_stepped g c l a = update_cases g c (λ x. edge_count x.after.edge l ≤ 1 + edge_count g.edge l) (λ z. omega arith) (λ ok. edge_count-updated g c l a)

batch_adds : (cs : List Update) (g : Graph) (l : List ℕ) → Ascending l → edge_count (batch_graph g cs).edge l ≤ length cs + edge_count g.edge l
unfolding batch_graph run
batch_adds [] g l a = omega arith
batch_adds (c ∷ cs) g l a = omega (arith, batch_adds cs (update g c).after l a, edge_count_stepped g c l a)

-- no edges at first
filter_none : (l : List ℕ) → filter (λ q. false) l ≡ []
unfolding filter
filter_none [] = refl
filter_none (x ∷ xs) = filter_none xs

edge_count_none : (l : List ℕ) → edge_count (λ p q. false) l ≡ 0
unfolding edge_count
edge_count_none [] = refl
edge_count_none (p ∷ ps) = omega (arith, ap length (filter_none ps), edge_count_none ps)

pub edge_count_batch : (n : ℕ) (cs : List Update) → edge_count (batch_graph (empty_graph n) cs).edge (nodes n) ≤ length cs
unfolding empty_graph
edge_count_batch n cs = omega (arith, batch_adds cs (empty_graph n) (nodes n) (nodes_ascending n), edge_count_none (nodes n))

-- so few edges make a short release
pub release-le : (g : Graph) → Proper g → length (release g) ≤ 10 + 8 * g.node_count + 6 * edge_count (whole g).edge (whole g).nodes
unfolding visible_groups superedge_count leaders
release-le g h =
    omega (
      arith,
      length-release g h,
      length_groups (visible g) (visible-simple g h) (visible_ascending g),
      length-filter (λ p. eqb (least (visible g).nodes (similar (visible g)) p) p) (visible g).nodes,
      length-filter (is_visible g) (nodes g.node_count),
      length-nodes g.node_count,
      superedges-le_edges (visible g) (visible-simple g h) (visible_ascending g),
      edge_count-visible g,
    )
