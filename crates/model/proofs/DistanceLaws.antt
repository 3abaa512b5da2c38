-- Laws of distances: nodes within k edges, walks that can be cut short, the distance as the shortest walk's length.
use Rattle.std.specs.Prelude.{◌≡◌, refl, Bool, true, false, ◌&&◌, ◌||◌, cond, ◌⊎◌, ℕ, suc, zero, ◌≤◌, ◌<◌, eqb, ltb}
use Rattle.std.proofs.Common.{sym, ap, ap₂, ◌∙◌, inl, inr}
use mathlib.Core.List.Memᴰ
use mathlib.Core.List.{List, [], ◌∷◌}
use native.Mathlib.Omega.{arith}
use Rattle.std.proofs.Math.ListN.{length}
use borrow.Author.Tests.{eq-eqb, ltb-true, ltb-false}
use Rattle.model.specs.Lists.{◌∈◌, any, filter, head_or, nodes}
use Rattle.model.specs.Graph.{View}
use Rattle.model.specs.Distance.{walk, unreachable, Shortest, distance}
use Rattle.model.proofs.TestLaws.{and_fst, and_snd, and_true, decide, differ, fails, or_cases, or_left, or_right}
use Rattle.model.proofs.ListLaws.{Ascending, any_cong, any_intro, any_elim, filter_intro, filter_elim, filter_cong, filter_ascending, length-filter, head_or-le, nodes_in_lem, nodes_ascending}

-- q is at most k edges away from p
unfoldable pub within : View → ℕ → ℕ → ℕ → Bool
within v zero p q = eqb p q
within v (suc k) p q = within v k p q || any v.nodes (λ r. within v k p r && v.edge r q)

pub within_more : (v : View) (k p q : ℕ) → within v k p q ≡ true → within v (suc k) p q ≡ true
unfolding within
within_more v k p q h = or_left _ h

pub within_step : (v : View) (k p r q : ℕ) → r ∈ v.nodes → within v k p r ≡ true → v.edge r q ≡ true → within v (suc k) p q ≡ true
unfolding within
within_step v k p r q m h e = or_right (within v k p q) (any_intro v.nodes (λ r. within v k p r && v.edge r q) r m (and_true h e))

pub within_by : (v : View) (k p q : ℕ) → within v (suc k) p q ≡ true → (within v k p q ≡ true) ⊎ ((r : ℕ) × (r ∈ v.nodes) × (within v k p r ≡ true) × (v.edge r q ≡ true))
unfolding within
within_by v k p q h = step (or_cases (within v k p q) _ h)
  where
    step : (within v k p q ≡ true) ⊎ (any v.nodes (λ r. within v k p r && v.edge r q) ≡ true) → (within v k p q ≡ true) ⊎ ((r : ℕ) × (r ∈ v.nodes) × (within v k p r ≡ true) × (v.edge r q ≡ true))
    step (inl w) = inl w
    step (inr a) = let t = any_elim v.nodes (λ r. within v k p r && v.edge r q) a in inr (t.0, t.1, and_fst (within v k p t.0) (v.edge t.0 q) t.2, and_snd (within v k p t.0) (v.edge t.0 q) t.2)

-- the last edge of a walk
pub walk_step : (v : View) (k p r q : ℕ) → r ∈ v.nodes → walk v k p r ≡ true → v.edge r q ≡ true → walk v (suc k) p q ≡ true
unfolding walk
walk_step v k p r q m h e = any_intro v.nodes (λ r. walk v k p r && v.edge r q) r m (and_true h e)

pub walk_by : (v : View) (k p q : ℕ) → walk v (suc k) p q ≡ true → (r : ℕ) × (r ∈ v.nodes) × (walk v k p r ≡ true) × (v.edge r q ≡ true)
unfolding walk
walk_by v k p q h = let t = any_elim v.nodes (λ r. walk v k p r && v.edge r q) h in (t.0, t.1, and_fst (walk v k p t.0) (v.edge t.0 q) t.2, and_snd (walk v k p t.0) (v.edge t.0 q) t.2)

-- within k edges: by a walk of at most k
pub within-walk : (v : View) (k p q : ℕ) → within v k p q ≡ true → (j : ℕ) × (j ≤ k) × (walk v j p q ≡ true)
within-walk v zero p q h = (zero, omega arith, unfold within in unfold walk in h)
within-walk v (suc k) p q h = step (within-walk v k p) (within_by v k p q h)
  where
    step : ((r : ℕ) → within v k p r ≡ true → (j : ℕ) × (j ≤ k) × (walk v j p r ≡ true)) → (within v k p q ≡ true) ⊎ ((r : ℕ) × (r ∈ v.nodes) × (within v k p r ≡ true) × (v.edge r q ≡ true))
        → (j : ℕ) × (j ≤ suc k) × (walk v j p q ≡ true)
    step below (inl w) = let t = below q w in (t.0, omega (arith, t.1), t.2)
    step below (inr (r, m, w, e)) = let t = below r w in (suc t.0, omega (arith, t.1), walk_step v t.0 p r q m t.2 e)

pub walk-within : (v : View) (k j p q : ℕ) → j ≤ k → walk v j p q ≡ true → within v k p q ≡ true
walk-within v zero zero p q l h = unfold within in unfold walk in h
walk-within v zero (suc j) p q l h = absurd (omega arith)
walk-within v (suc k) zero p q l h = within_more v k p q (walk-within v k zero p q (omega arith) h)
walk-within v (suc k) (suc j) p q l h = let t = walk_by v j p q h in within_step v k p t.0 q t.1 (walk-within v k j p t.0 (omega arith) t.2) t.3

-- not reached: every walk is longer
pub within-least : (v : View) (d k p q : ℕ) → within v d p q ≡ false → walk v k p q ≡ true → d < k
within-least v d k p q a c = step (decide (ltb d k))
  where
    step : (ltb d k ≡ true) ⊎ (ltb d k ≡ false) → d < k
    step (inl t) = ltb-true d k t
    step (inr t) = differ (walk-within v d k p q (omega (arith, ltb-false d k t)) c) a

-- one step further changes nothing: then nothing further is reached
pub within_stable : (v : View) (k p : ℕ) → ((q : ℕ) → q ∈ v.nodes → within v (suc k) p q ≡ true → within v k p q ≡ true) → (j q : ℕ) → q ∈ v.nodes → walk v j p q ≡ true → within v k p q ≡ true
within_stable v k p stop zero q m h = walk-within v k zero p q (omega arith) h
within_stable v k p stop (suc j) q m h = let t = walk_by v j p q h in stop q m (within_step v k p t.0 q t.1 (within_stable v k p stop j t.0 t.1 t.2) t.3)

-- a wider test passes more members, or the same
wider : (f g : ℕ → Bool) (l : List ℕ) → ((q : ℕ) → f q ≡ true → g q ≡ true) → (length (filter f l) < length (filter g l)) ⊎ (filter f l ≡ filter g l)
unfolding filter
wider f g [] h = inr refl
wider f g (x ∷ xs) h = step (f x) (g x) (h x) (wider f g xs h)
  where
    step : (a b : Bool) → (a ≡ true → b ≡ true) → (length (filter f xs) < length (filter g xs)) ⊎ (filter f xs ≡ filter g xs)
        → (length (cond a (x ∷ filter f xs) (filter f xs)) < length (cond b (x ∷ filter g xs) (filter g xs))) ⊎ (cond a (x ∷ filter f xs) (filter f xs) ≡ cond b (x ∷ filter g xs) (filter g xs))
    step true true i (inl l) = inl (omega arith)
    step true true i (inr e) = inr (ap (x ∷◌) e)
    step true false i r = differ (i refl) refl
    step false true i (inl l) = inl (omega arith)
    step false true i (inr e) = inl (omega (arith, ap length e))
    step false false i r = r

-- a step reaches nothing new
abbrev Stops : View → ℕ → ℕ → Type 0
Stops v p k = (q : ℕ) → q ∈ v.nodes → within v (suc k) p q ≡ true → within v k p q ≡ true

-- more than k nodes are within k edges, unless a step before reached nothing new
layers : (v : View) (p k : ℕ) → p ∈ v.nodes → (k < length (filter (within v k p) v.nodes)) ⊎ ((j : ℕ) × (j < k) × Stops v p j)
layers v p zero m = inl (some _ (filter_intro (within v zero p) v.nodes p m (unfold within in eq-eqb p p refl)))
  where
    some : (l : List ℕ) → p ∈ l → 0 < length l
    some [] i = absurd (Memᴰ.not-nil i)
    some (x ∷ xs) i = omega arith
layers v p (suc k) m = step (layers v p k m) (wider (within v k p) (within v (suc k) p) v.nodes (within_more v k p))
  where
    Layer : ℕ → List ℕ
    Layer k = filter (within v k p) v.nodes

    step : (k < length (Layer k)) ⊎ ((j : ℕ) × (j < k) × Stops v p j) → (length (Layer k) < length (Layer (suc k))) ⊎ (Layer k ≡ Layer (suc k))
        → (suc k < length (Layer (suc k))) ⊎ ((j : ℕ) × (j < suc k) × Stops v p j)
    step (inl l) (inl g) = inl (omega arith)
    step (inl l) (inr e) = inr (k, omega arith, λ q i h. (filter_elim (within v k p) v.nodes q (rw e (filter_intro (within v (suc k) p) v.nodes q i h))).1)
    step (inr (j, l, s)) r = inr (j, omega arith, s)

-- a walk can be cut to fewer edges than there are nodes
pub walk_short : (v : View) (k p q : ℕ) → p ∈ v.nodes → q ∈ v.nodes → walk v k p q ≡ true → (j : ℕ) × (j < length v.nodes) × (j ≤ k) × (walk v j p q ≡ true)
walk_short v k p q mp mq h = step (decide (ltb k (length v.nodes))) (layers v p (length v.nodes) mp)
  where
    N : ℕ
    N = length v.nodes

    Goal : Type 0
    Goal = (j : ℕ) × (j < N) × (j ≤ k) × (walk v j p q ≡ true)

    step : (ltb k N ≡ true) ⊎ (ltb k N ≡ false) → (N < length (filter (within v N p) v.nodes)) ⊎ ((j : ℕ) × (j < N) × Stops v p j) → Goal
    step (inl t) r = (k, ltb-true k N t, omega arith, h)
    step (inr t) (inl g) = absurd (omega (arith, length-filter (within v N p) v.nodes))
    step (inr t) (inr (j, l, s)) = let c = within-walk v j p q (within_stable v j p s k q mq h) in (c.0, omega (arith, c.1), omega (arith, c.1, ltb-false k N t), c.2)

-- the head of a list is in it, or the list is empty
head_cases : (d : ℕ) (l : List ℕ) → (head_or d l ∈ l) ⊎ ((head_or d l ≡ d) × ((p : ℕ) → p ∈ l → ⊥))
head_cases d [] = inr (refl, λ p m. Memᴰ.not-nil m)
head_cases d (x ∷ xs) = inl (Memᴰ.head refl)

-- the distance is the length of the shortest walk
pub distance_shortest : (v : View) (p q : ℕ) → p ∈ v.nodes → q ∈ v.nodes → Shortest v p q (distance v p q)
unfolding distance
distance_shortest v p q mp mq = record { there = there (head_cases unreachable ks); least = λ k h. let t = walk_short v k p q mp mq h in omega (arith, t.2, head_or-le unreachable ks t.0 ascending (passes k h)) }
  where
    N : ℕ
    N = length v.nodes

    test : ℕ → Bool
    test k = walk v k p q

    ks : List ℕ
    ks = filter test (nodes N)

    ascending : Ascending ks
    ascending = filter_ascending test (nodes N) (nodes_ascending N)

    passes : (k : ℕ) (h : walk v k p q ≡ true) → (walk_short v k p q mp mq h).0 ∈ ks
    passes k h = let t = walk_short v k p q mp mq h in filter_intro test (nodes N) t.0 (nodes_in_lem N t.0 t.1) t.3

    there : (head_or unreachable ks ∈ ks) ⊎ ((head_or unreachable ks ≡ unreachable) × ((j : ℕ) → j ∈ ks → ⊥)) → (walk v (head_or unreachable ks) p q ≡ true) ⊎ ((head_or unreachable ks ≡ unreachable) × ((k : ℕ) → walk v k p q ≡ false))
    there (inl m) = inl (filter_elim test (nodes N) _ m).1
    there (inr (e, f)) = inr (e, λ k. fails (walk v k p q) (λ h. f _ (passes k h)))

-- no walk at all
pub no_walk : (v : View) (p q : ℕ) → ((k : ℕ) → walk v k p q ≡ true → ⊥) → Shortest v p q unreachable
no_walk v p q f = record { there = inr (refl, λ k. fails (walk v k p q) (f k)); least = λ k c. absurd (f k c) }

-- there is one shortest length
pub shortest_one : (v : View) (p q : ℕ) {a b : ℕ} → Shortest v p q a → Shortest v p q b → a ≡ b
shortest_one v p q {a} {b} s t = step s.there t.there
  where
    step : (walk v a p q ≡ true) ⊎ ((a ≡ unreachable) × ((k : ℕ) → walk v k p q ≡ false)) → (walk v b p q ≡ true) ⊎ ((b ≡ unreachable) × ((k : ℕ) → walk v k p q ≡ false)) → a ≡ b
    step (inl h) (inl i) = omega (arith, s.least b i, t.least a h)
    step (inl h) (inr r) = differ h (r.1 a)
    step (inr r) (inl i) = differ i (r.1 b)
    step (inr r) (inr u) = r.0 ∙ sym u.0

pub shortest_distance : (v : View) (p q : ℕ) {d : ℕ} → p ∈ v.nodes → q ∈ v.nodes → Shortest v p q d → d ≡ distance v p q
shortest_distance v p q mp mq s = shortest_one v p q s (distance_shortest v p q mp mq)

walk_cong : (v w : View) → v.nodes ≡ w.nodes → ((p q : ℕ) → p ∈ v.nodes → q ∈ v.nodes → v.edge p q ≡ w.edge p q) → (k p q : ℕ) → q ∈ v.nodes → walk v k p q ≡ walk w k p q
unfolding walk
walk_cong v w e f zero p q m = refl
walk_cong v w e f (suc k) p q m =
    any_cong (λ r. walk v k p r && v.edge r q) (λ r. walk w k p r && w.edge r q) v.nodes (λ r i. ap₂ ◌&&◌ (walk_cong v w e f k p r i) (f r q i m))
    ∙ ap (λ l. any l (λ r. walk w k p r && w.edge r q)) e

-- distances look at edges between nodes alone
pub distance_cong : (v w : View) → v.nodes ≡ w.nodes → ((p q : ℕ) → p ∈ v.nodes → q ∈ v.nodes → v.edge p q ≡ w.edge p q) → (p q : ℕ) → q ∈ v.nodes → distance v p q ≡ distance w p q
unfolding distance
distance_cong v w e f p q m =
    ap (head_or unreachable)
    (filter_cong (λ k. walk v k p q) (λ k. walk w k p q) (nodes (length v.nodes)) (λ k i. walk_cong v w e f k p q m)
    ∙ ap (λ l. filter (λ k. walk w k p q) (nodes (length l))) e)
