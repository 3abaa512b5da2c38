-- Keys after a change of an edge.
use Rattle.std.specs.Prelude.{◌≡◌, ℕ, zero, suc, ◌+◌, ◌*◌, ◌/◌, ◌%◌, ◌^◌, ◌<◌, ◌≤◌, Bool, true, false, cond, not, ◌&&◌, ◌⊎◌, List, [], ◌∷◌, length, ◌==◌, ◌≢◌, slice_index, slice_set, refl}
use Rattle.std.proofs.Common.{sym, ap, ◌∙◌, inl, inr, mul-le-mul_left, mul-le-mul_right, arith, length-set, ext_get_or, get_or-set_same, get_or-set_other, eqb-true, eq-eqb, ne_eqb}
use Rattle.std.proofs.Math.Bool.{and-false, or_comm, not-not}
use mathlib.Core.List.Memᴰ
use Rattle.std.proofs.lemmas.Bool.{eqb-false}
use Rattle.model.specs.Lists.{◌∈◌, filter, nodes}
use Rattle.model.specs.Graph.{Graph, Proper}
use Rattle.model.specs.Grouping.{closed_key, cube, open_key, sum_cubes}
use Rattle.model.specs.Tables.{key_pair, keys_of}
use Rattle.model.specs.Updates.{Update, is_pair, on_edge, refusal, updated}
use Rattle.model.proofs.TestLaws.{decide}
use Rattle.model.proofs.ListLaws.{Ascending, nodes_ascending, nodes_in_lem}
use Rattle.model.proofs.TableLaws.{get_d_blocks, get_d_nodes, length_keys, length-nodes}
use Rattle.model.proofs.UpdateLaws.{apart, edge_before, rows_kept, u_inside, updated-count, v_inside}
use Rattle.rows.specs.Rows.{KeysChanged, KeysMoved, key_of, moved_key}
use Rattle.rows.specs.EdgeLaws.{updated_edge}

-- squares and cubes of nodes counted from 1
pub square_le : (x : ℕ) → x ≤ 512 → x * x ≤ 262144
square_le x h = omega (arith, mul-le-mul_left x h)

pub cube-le : (x : ℕ) → x ≤ 512 → x * x * x ≤ 134217728
cube-le x h = omega (arith, mul-le-mul_right x (square_le x h))

-- what std's wrapping sum and difference promise
pub moved_in : (insert : Bool) (k x r : ℕ) → insert ≡ true → r ≡ (k + x) % 2 ^ 32 → r ≡ moved_key insert k x
unfolding moved_key
moved_in insert k x r t e = rw t e

pub moved_out : (insert : Bool) (k x r : ℕ) → insert ≡ false → r < 2 ^ 32 → (r + x) % 2 ^ 32 ≡ k → r ≡ moved_key insert k x
unfolding moved_key
moved_out insert k x r t h e = rw t (omega arith)

-- the cubes of the chosen nodes, with one more chosen
pub cubes_cong : (l : List ℕ) (f h : ℕ → Bool) → ((j : ℕ) → j ∈ l → f j ≡ h j) → sum_cubes (filter f l) ≡ sum_cubes (filter h l)
unfolding filter sum_cubes
cubes_cong [] f h s = refl
cubes_cong (x ∷ xs) f h s = rw (s x (Memᴰ.head refl)) (pick (h x) (cubes_cong xs f h (λ j m. s j (Memᴰ.tail m))))
  where
    pick : (t : Bool) → sum_cubes (filter f xs) ≡ sum_cubes (filter h xs) → sum_cubes (cond t (x ∷ filter f xs) (filter f xs)) ≡ sum_cubes (cond t (x ∷ filter h xs) (filter h xs))
    pick true e = ap (λ (n : ℕ). cube x + n) e
    pick false e = e

pub cubes_set : (l : List ℕ) → Ascending l → (f h : ℕ → Bool) (i : ℕ) → i ∈ l → f i ≡ false → h i ≡ true → ((j : ℕ) → (j ≢ i) → f j ≡ h j) → sum_cubes (filter h l) ≡ cube i + sum_cubes (filter f l)
unfolding filter sum_cubes
cubes_set [] asc f h i x5 a b s = elim x5 [ ]
cubes_set (x ∷ xs) asc f h i (Memᴰ.head q) a b s =
    rw (ap f (sym q) ∙ a, ap h (sym q) ∙ b, q) (ap (λ (n : ℕ). cube x + n) (sym (cubes_cong xs f h (λ j m. s j (λ k. omega (arith, asc.0 j m))))))
cubes_set (x ∷ xs) asc f h i (Memᴰ.tail m) a b s = rw (s x (λ k. omega (arith, asc.0 i m))) (pick (h x) (cubes_set xs asc.1 f h i m a b s))
  where
    pick : (t : Bool) → sum_cubes (filter h xs) ≡ cube i + sum_cubes (filter f xs) → sum_cubes (cond t (x ∷ filter h xs) (filter h xs)) ≡ cube i + sum_cubes (cond t (x ∷ filter f xs) (filter f xs))
    pick true e = omega arith
    pick false e = e

-- a sum of cubes d apart from the key's own, moved
moved_sum : (insert : Bool) (s after x d : ℕ) → (insert ≡ true → after ≡ x + s) → (insert ≡ false → s ≡ x + after) → moved_key insert ((s + d) % 2 ^ 32) x ≡ (after + d) % 2 ^ 32
unfolding moved_key
moved_sum true s after x d a b = omega (arith, a refl)
moved_sum false s after x d a b = omega (arith, b refl)

-- f with i put in or taken out is h
module _ (n : ℕ) (f h : ℕ → Bool) (i : ℕ) (insert : Bool) (inside : i < n) (was : f i ≡ not insert) (is : h i ≡ insert) (same : (j : ℕ) → (j ≢ i) → f j ≡ h j) where
  sum-in : insert ≡ true → sum_cubes (filter h (nodes n)) ≡ cube i + sum_cubes (filter f (nodes n))
  sum-in e = cubes_set (nodes n) (nodes_ascending n) f h i (nodes_in_lem n i inside) (was ∙ ap not e) (is ∙ e) same

  sum-out : insert ≡ false → sum_cubes (filter f (nodes n)) ≡ cube i + sum_cubes (filter h (nodes n))
  sum-out e = cubes_set (nodes n) (nodes_ascending n) h f i (nodes_in_lem n i inside) (is ∙ e) (was ∙ ap not e) (λ j d. sym (same j d))

  pub moved_cubes : (d : ℕ) → moved_key insert ((sum_cubes (filter f (nodes n)) + d) % 2 ^ 32) (cube i) ≡ (sum_cubes (filter h (nodes n)) + d) % 2 ^ 32
  moved_cubes d = moved_sum insert (sum_cubes (filter f (nodes n))) (sum_cubes (filter h (nodes n))) (cube i) d sum-in sum-out

pair_at : (g : Graph) (p k : ℕ) → k < 2 → slice_index (key_pair g p) k ≡ key_of g p k
unfolding key_pair open_key closed_key
pair_at g p zero h = omega arith
pair_at g p (suc zero) h = omega arith
pair_at g p (suc (suc k)) h = absurd (omega arith)

length_pair : (g : Graph) (p : ℕ) → length (key_pair g p) ≡ 2
unfolding key_pair
length_pair g p = refl

pub keys_at : (g : Graph) (p k : ℕ) → p < g.node_count → k < 2 → slice_index (keys_of g) (2 * p + k) ≡ key_of g p k
unfolding keys_of
keys_at g p k hp hk =
    get_d_blocks (key_pair g) 2 (length_pair g) (nodes g.node_count) p k (rw length-nodes hp) hk
    ∙ ap (λ (x : ℕ). slice_index (key_pair g x) k) (get_d_nodes g.node_count p hp)
    ∙ pair_at g p k hk

no_pair : (p q r : ℕ) → (p ≢ q) → (r ≢ q) → is_pair p q p r ≡ false
no_pair p q r a b = rw (ne_eqb p q a, ne_eqb r q b, and-false (p == p))

pair : (p q : ℕ) → is_pair p q p q ≡ true
pair p q = rw (eq-eqb p p refl, eq-eqb q q refl)

-- an accepted update of an edge
module _ (g : Graph) (c : Update) (h : Proper g) (ok : refusal g c ≡ 0) (two : on_edge c ≡ true) where
  abbrev insert : Bool
  insert = c.wanted == 1

  -- at one end p, with the other end q
  end-key : (p q k : ℕ) → q < g.node_count → (p ≢ q) → ((a b : ℕ) → is_pair c.u c.v a b ≡ is_pair p q a b) → g.edge p q ≡ not insert → moved_key insert (key_of g p k) (cube q) ≡ key_of (updated g c) p k
  end-key p q k inside differ-ends ends was =
      moved_cubes g.node_count (g.edge p) ((updated g c).edge p) q insert inside was is same (k * cube p)
      ∙ ap (λ (n : ℕ). (sum_cubes (filter ((updated g c).edge p) (nodes n)) + k * cube p) % 2 ^ 32) (sym (updated-count g c))
    where
      at : (r : ℕ) → (updated g c).edge p r ≡ cond (is_pair p q p r) (not (g.edge p r)) (g.edge p r)
      at r = updated_edge g c h ok two p r ∙ ap (λ (x : Bool). cond x (not (g.edge p r)) (g.edge p r)) (ends p r)

      is : (updated g c).edge p q ≡ insert
      is = at q ∙ ap (λ (x : Bool). cond x (not (g.edge p q)) (g.edge p q)) (pair p q) ∙ ap not was ∙ not-not insert

      same : (j : ℕ) → (j ≢ q) → g.edge p j ≡ (updated g c).edge p j
      same j d = sym (at j ∙ ap (λ (x : Bool). cond x (not (g.edge p j)) (g.edge p j)) (no_pair p q j differ-ends d))

  other_key : (p k : ℕ) → (p ≢ c.u) → (p ≢ c.v) → key_of g p k ≡ key_of (updated g c) p k
  other_key p k a b =
      ap (λ (s : ℕ). (s + k * cube p) % 2 ^ 32) (cubes_cong (nodes g.node_count) (g.edge p) ((updated g c).edge p) (λ j m. sym (rows_kept g c h ok p j a b)))
      ∙ ap (λ (n : ℕ). (sum_cubes (filter ((updated g c).edge p) (nodes n)) + k * cube p) % 2 ^ 32) (sym (updated-count g c))

  pub keys_updated : (t : List ℕ) → KeysChanged insert c.u c.v (keys_of g) t → t ≡ keys_of (updated g c)
  keys_updated t r = ext_get_or 0 t (keys_of (updated g c)) size at
    where
      size : length t ≡ length (keys_of (updated g c))
      size = r.size ∙ length_keys g ∙ ap (λ (n : ℕ). 2 * n) (sym (updated-count g c)) ∙ sym (length_keys (updated g c))

      moved : (p k : ℕ) → ((p == c.u) ≡ true) ⊎ ((p == c.u) ≡ false) → ((p == c.v) ≡ true) ⊎ ((p == c.v) ≡ false)
          → cond (p == c.u) (moved_key insert (key_of g p k) (cube c.v)) (cond (p == c.v) (moved_key insert (key_of g p k) (cube c.u)) (key_of g p k)) ≡ key_of (updated g c) p k
      moved p k (inl x) y =
          rw (x, eqb-true p c.u x) (end-key c.u c.v k (v_inside g c h ok two) (apart g c h ok two) (λ a b. refl) (edge_before g c h ok two))
      moved p k (inr x) (inl y) =
          rw (x, y, eqb-true p c.v y)
          (end-key c.v c.u k (u_inside g c h ok) (λ e. apart g c h ok two (sym e)) (λ a b. or_comm (a == c.u && b == c.v) (a == c.v && b == c.u)) (h.symmetric c.v c.u ∙ edge_before g c h ok two))
      moved p k (inr x) (inr y) = rw (x, y) (other_key p k (eqb-false p c.u x) (eqb-false p c.v y))

      key : (p k : ℕ) → p < g.node_count → k < 2 → slice_index t (2 * p + k) ≡ slice_index (keys_of (updated g c)) (2 * p + k)
      key p k hp hk =
          r.keys p k hk
          ∙ ap (λ (x : ℕ). cond (p == c.u) (moved_key insert x (cube c.v)) (cond (p == c.v) (moved_key insert x (cube c.u)) x)) (keys_at g p k hp hk)
          ∙ moved p k (decide (p == c.u)) (decide (p == c.v))
          ∙ sym (keys_at (updated g c) p k (rw updated-count hp) hk)

      at : (i : ℕ) → i < length t → slice_index t i ≡ slice_index (keys_of (updated g c)) i
      at i l =
          let e : i ≡ 2 * (i / 2) + i % 2 = omega arith in
          rw e (key (i / 2) (i % 2) (omega (arith, r.size, length_keys g)) (omega arith))

-- two keys of a node stored one after the other, then those of the other end
pub keys_moved : (insert : Bool) (p q : ℕ) (t : List ℕ) (i x a b : ℕ) → i ≡ 2 * p → i + 1 < length t → x ≡ cube q → a ≡ moved_key insert (slice_index t i) x → b ≡ moved_key insert (slice_index (slice_set t i a) (i + 1)) x → KeysMoved insert p q t (slice_set (slice_set t i a) (i + 1) b)
keys_moved insert p q t i x a b place inside cubed first second = record {
  size = length-set (slice_set t i a) (i + 1) b ∙ length-set t i a;
  keys = λ r k l. at r k l (decide (r == p));
}
  where
    fits : i + 1 < length (slice_set t i a)
    fits = omega (arith, length-set t i a)

    second_is : b ≡ moved_key insert (slice_index t (i + 1)) (cube q)
    second_is = second ∙ ap (λ (y : ℕ). moved_key insert y x) (get_or-set_other t i (i + 1) a 0 (omega arith)) ∙ ap (moved_key insert (slice_index t (i + 1))) cubed

    own : (k : ℕ) → k < 2 → slice_index (slice_set (slice_set t i a) (i + 1) b) (i + k) ≡ moved_key insert (slice_index t (i + k)) (cube q)
    own zero l =
        let e : i + 0 ≡ i = omega arith in
        rw (e, get_or-set_other (slice_set t i a) (i + 1) i b 0 (omega arith), get_or-set_same t i a 0 (omega arith)) (first ∙ ap (moved_key insert (slice_index t i)) cubed)
    own (suc zero) l = get_or-set_same (slice_set t i a) (i + 1) b 0 fits ∙ second_is
    own (suc (suc k)) l = absurd (omega arith)

    at : (r k : ℕ) → k < 2 → ((r == p) ≡ true) ⊎ ((r == p) ≡ false)
        → slice_index (slice_set (slice_set t i a) (i + 1) b) (2 * r + k) ≡ cond (r == p) (moved_key insert (slice_index t (2 * r + k)) (cube q)) (slice_index t (2 * r + k))
    at r k l (inl e) =
        let f : 2 * r + k ≡ i + k = omega (arith, eqb-true r p e) in
        rw (e, f) (own k l)
    at r k l (inr e) =
        let d : r ≡ p → ⊥ = eqb-false r p e in
        rw (e, get_or-set_other (slice_set t i a) (i + 1) (2 * r + k) b 0 (omega arith), get_or-set_other t i (2 * r + k) a 0 (omega arith))

two_moves : (x y : Bool) (f : ℕ → ℕ) (a b : ℕ) → (x ≡ true → y ≢ true) → cond y (f (cond x a b)) (cond x a b) ≡ cond x a (cond y (f b) b)
two_moves true true f a b h = absurd (h refl refl)
two_moves true false f a b h = refl
two_moves false true f a b h = refl
two_moves false false f a b h = refl

pub keys_changed : (insert : Bool) (u v : ℕ) (s t r : List ℕ) → (u ≢ v) → KeysMoved insert u v s t → KeysMoved insert v u t r → KeysChanged insert u v s r
keys_changed insert u v s t r differ-ends f g = record {
  size = g.size ∙ f.size;
  keys =
      λ a k l.
      g.keys a k l
      ∙ ap (λ (y : ℕ). cond (a == v) (moved_key insert y (cube u)) y) (f.keys a k l)
      ∙ two_moves (a == u) (a == v) (λ y. moved_key insert y (cube u)) (moved_key insert (slice_index s (2 * a + k)) (cube v)) (slice_index s (2 * a + k)) (λ x y. differ-ends (sym (eqb-true a u x) ∙ eqb-true a v y));
}

-- no nodes, no cubes
pub no_cubes : (l : List ℕ) → sum_cubes (filter (λ q. false) l) ≡ 0
unfolding filter sum_cubes
no_cubes [] = refl
no_cubes (x ∷ xs) = no_cubes xs
