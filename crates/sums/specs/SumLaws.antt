-- The cubes of groups added up, and the key of a node from them, step by step.
use Rattle.std.specs.Prelude.{◌≡◌, ℕ, suc, ◌+◌, ◌%◌, ◌^◌, ◌<◌, true, false, cond, ◌⊎◌, List, length, replicate, ◌==◌, ◌≢◌, nat_eq, slice_index, slice_index_or, slice_set}
use Rattle.std.proofs.Math.Path.{refl, ap}
use Rattle.std.proofs.Common.{sym, ◌∙◌, inl, inr, arith, length-set, get_or-set_other, get_or-set_same, eq-eqb, eqb-true, lt-ltb, ne_eqb}
use Rattle.std.proofs.lemmas.List.{length-replicate, get_or-replicate}
use Rattle.std.proofs.lemmas.Bool.{eqb-false}
use Rattle.model.specs.Grouping.{cube}
use Rattle.model.proofs.TestLaws.{decide}
use Rattle.rows.specs.KeyLaws.{moved_out}
use Rattle.keys.specs.Totals.{sum_to}
use Rattle.compressed.specs.Compressed.{placed}
use Rattle.sums.specs.Joined.{PairAdded, own_cubes, pair_cubes}
use Rattle.sums.specs.Sums.{Cubed, FirstsAreNodes, NoneJoined, group_cubes, member_key, node_key}

-- one node more
group_more : (p : ℕ) (least : List ℕ) (l : ℕ) → group_cubes (p + 1) least l ≡ group_cubes p least l + cond (slice_index least p == l) (cube p) 0
unfolding group_cubes sum_to
group_more p least l = let s : p + 1 ≡ suc p = omega arith in ap (λ (m : ℕ). group_cubes m least l) s

module _ {p : ℕ} {least sums : List ℕ} (h : Cubed p least sums) where
  -- of no group
  pub cubed_skip : slice_index_or least p 0 ≡ 65535 → Cubed (p + 1) least sums
  cubed_skip e = record { size = h.size; own = at }
    where
      at : (j : ℕ) → j < 512 → own_cubes sums j ≡ group_cubes (p + 1) least j % 2 ^ 32
      at j b =
          let off : nat_eq (slice_index least p) j ≡ false = ne_eqb (slice_index least p) j (omega arith) in
          let z : cond (slice_index least p == j) (cube p) 0 ≡ 0 = rw off in
          omega (arith, h.own j b, group_more p least j)

  -- of the group that l leads
  pub cubed_more : {l y r : ℕ} → l ≡ slice_index least p → l < 512 → y ≡ cube p → r ≡ (own_cubes sums l + y) % 2 ^ 32 → Cubed (p + 1) least (slice_set sums (512 + l) r)
  cubed_more {l} {y} {r} el bl ey er = record { size = length-set sums (512 + l) r ∙ h.size; own = λ j b. at j b (decide (j == l)) }
    where
      at : (j : ℕ) → j < 512 → ((j == l) ≡ true) ⊎ ((j == l) ≡ false) → own_cubes (slice_set sums (512 + l) r) j ≡ group_cubes (p + 1) least j % 2 ^ 32
      at j b (inl z) =
          let e : j ≡ l = eqb-true j l z in
          let on : cond (slice_index least p == l) (cube p) 0 ≡ cube p = rw (eq-eqb (slice_index least p) l (sym el)) in
          rw e (get_or-set_same sums (512 + l) r 0 (omega (arith, h.size)) ∙ omega (arith, er, ey, h.own l bl, group_more p least l))
      at j b (inr z) =
          let d : j ≡ l → ⊥ = eqb-false j l z in
          let off : cond (slice_index least p == j) (cube p) 0 ≡ 0 = rw (ne_eqb (slice_index least p) j (omega arith)) in
          get_or-set_other sums (512 + l) (512 + j) r 0 (omega arith) ∙ omega (arith, h.own j b, group_more p least j)

pub joined_none : {sums : List ℕ} (l r : ℕ) → NoneJoined sums → NoneJoined (slice_set sums (512 + l) r)
joined_none {sums} l r h = record { near = λ j b. get_or-set_other sums (512 + l) j r 0 (omega arith) ∙ h.near j b }

-- no nodes
pub cubed_start : (least : List ℕ) {sums : List ℕ} → sums ≡ replicate 1024 0 → Cubed 0 least sums
unfolding group_cubes sum_to
cubed_start least e = rw e (record { size = length-replicate {A = ℕ} 1024 0; own = λ l b. get_or-replicate {A = ℕ} 1024 (512 + l) 0 0 (omega arith) })

pub joined_start : {sums : List ℕ} → sums ≡ replicate 1024 0 → NoneJoined sums
joined_start e = rw e (record { near = λ l b. get_or-replicate {A = ℕ} 1024 l 0 0 (omega arith) })

-- what a first member is kept to
pub led_first : {n p l : ℕ} {least : List ℕ} → FirstsAreNodes n least → p < n → (slice_index least p ≢ 65535) → l ≡ slice_index least p → l < 512
unfolding placed
led_first {n} {p} {l} {least} h b d e = let t = h.first p (rw (lt-ltb p n b, ne_eqb (slice_index least p) 65535 d)) in omega arith

-- a superedge
pub pair_added : (p q : ℕ) (t : List ℕ) {x y : ℕ} → p < 512 → q < 512 → length t ≡ 1024 → x ≡ (slice_index t p + own_cubes t q) % 2 ^ 32 → y ≡ (slice_index (slice_set t p x) q + own_cubes (slice_set t p x) p) % 2 ^ 32
    → PairAdded p q t (slice_set (slice_set t p x) q y)
unfolding pair_cubes
pair_added p q t {x} {y} hp hq s ex ey = record {
  size = length-set (slice_set t p x) q y ∙ length-set t p x;
  own = λ l. get_or-set_other (slice_set t p x) q (512 + l) y 0 (omega arith) ∙ kept l;
  near = λ l b f. at l b f (decide (l == p)) (decide (l == q));
}
  where
    kept : (l : ℕ) → own_cubes (slice_set t p x) l ≡ own_cubes t l
    kept l = get_or-set_other t p (512 + l) x 0 (omega arith)

    first : (l : ℕ) → ((l == p) ≡ true) ⊎ ((l == p) ≡ false) → slice_index t l < 2 ^ 32 → slice_index (slice_set t p x) l ≡ (slice_index t l + cond (l == p) (own_cubes t q) 0) % 2 ^ 32
    first l (inl z) f = let e : l ≡ p = eqb-true l p z in rw (z, e) (get_or-set_same t p x 0 (omega arith) ∙ ex)
    first l (inr z) f = rw z (get_or-set_other t p l x 0 (eqb-false l p z) ∙ omega arith)

    at : (l : ℕ) → l < 512 → slice_index t l < 2 ^ 32 → ((l == p) ≡ true) ⊎ ((l == p) ≡ false) → ((l == q) ≡ true) ⊎ ((l == q) ≡ false)
        → slice_index (slice_set (slice_set t p x) q y) l ≡ (slice_index t l + (cond (l == p) (own_cubes t q) 0 + cond (l == q) (own_cubes t p) 0)) % 2 ^ 32
    at l b f o (inl z) =
        let e : slice_index_or (slice_set (slice_set t p x) q y) l 0 ≡ y = ap (λ (i : ℕ). slice_index (slice_set (slice_set t p x) q y) i) (eqb-true l q z) ∙ get_or-set_same (slice_set t p x) q y 0 (omega (arith, length-set t p x)) in
        let g : slice_index_or (slice_set t p x) q 0 ≡ slice_index_or (slice_set t p x) l 0 = ap (λ (i : ℕ). slice_index (slice_set t p x) i) (sym (eqb-true l q z)) in
        rw z (e ∙ omega (arith, ey, g, kept p, first l o f))
    at l b f o (inr z) = rw z (get_or-set_other (slice_set t p x) q l y 0 (eqb-false l q z) ∙ omega (arith, first l o f))

-- the key of p as a member
module _ (sums : List ℕ) (kind l p : ℕ) where
  pub member-clique : {s x r : ℕ} → kind ≡ 2 → s ≡ (slice_index sums l + own_cubes sums l) % 2 ^ 32 → x ≡ cube p → r < 2 ^ 32 → (r + x) % 2 ^ 32 ≡ s → r ≡ member_key sums kind l p
  unfolding member_key
  member-clique {s} {x} {r} t es e h k = rw (eq-eqb kind 2 t) (moved_out false ((slice_index sums l + own_cubes sums l) % 2 ^ 32) (cube p) r refl h (ap (λ (y : ℕ). (r + y) % 2 ^ 32) (sym e) ∙ k ∙ es))

  pub member_other : (kind ≢ 2) → slice_index sums l ≡ member_key sums kind l p
  unfolding member_key
  member_other d = rw (ne_eqb kind 2 d)

-- and as a node
module _ (least kinds sums : List ℕ) (p : ℕ) where
  pub node_none : slice_index_or least p 0 ≡ 65535 → 0 ≡ node_key least kinds sums p
  unfolding node_key
  node_none e = rw (eq-eqb (slice_index least p) 65535 e)

  pub node_member : {l r : ℕ} → (slice_index least p ≢ 65535) → l ≡ slice_index least p → r ≡ member_key sums (slice_index kinds l) l p → r ≡ node_key least kinds sums p
  unfolding node_key
  node_member {l} {r} d e k = rw (ne_eqb (slice_index least p) 65535 d) (k ∙ ap (λ (m : ℕ). member_key sums (slice_index kinds m) m p) e)
