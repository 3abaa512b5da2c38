-- Further laws of these definitions, which no proof here cites.
use Rattle.std.specs.Prelude.{◌≡◌, Bool, true, not, cond, ◌&&◌, ◌||◌, List, ◌⊎◌, ℕ, ◌+◌, ◌*◌, ◌/◌, ◌%◌, ◌≤◌, ◌<◌, eqb, ltb, length, get_or, refl, false, set, ◌^◌, replicate}
use Rattle.model.specs.Tables.{bit_at, edge_bit}
use Rattle.compressed.specs.Compressed.{Compressed, placed}
use Rattle.std.proofs.Common.{sym, ◌∙◌, inl, inr, length-set, get_or-set_same, get_or-set_other}
use Rattle.std.proofs.Math.Path.{ap}
use Rattle.std.proofs.Math.Bool.{and-false, or-false}
use native.Mathlib.Omega.{arith}
use borrow.Author.Tests.{eqb-false, eqb-true, eq-eqb, le-ltb, lt-ltb, ltb-true, ne_eqb}
use Rattle.model.proofs.TestLaws.{decide, and_one, iff_eq}
use Rattle.unfolding.specs.Filling.{Followed, Following}
use Rattle.std.specs.Int.Bits.{bit_or, bit_xor}
use mir.Val.{bool_byte}
use Rattle.rows.specs.BitLaws.{bit_pow, bit_zero, bool_number, flipped_at, one_shl}
use Rattle.buffers.specs.StoreLaws.{stored, stored-size}
use Rattle.search.specs.Search.{own_bit}
use Rattle.search.specs.TwinRowLaws.{own_bit_lem}
use Rattle.drawing.specs.BitLaws.{bit_or_lem}
use Rattle.unfolding.specs.Unfolding.{FirstsFit, Spread, SpreadBut, SpreadWord, join_bit, reached}
use Rattle.unfolding.specs.SpreadLaws.{reached_cong}

pub followed_none : (kind l p : ℕ) (t : List ℕ) → p ≤ l → Followed kind l p t t
followed_none kind l p t h = record { size = refl; bits = λ a b i. rw (le-ltb l p h, and-false (eqb a p)) }

-- all rows, one after the other
pub following_start : (least kinds t : List ℕ) → Following least kinds 0 t t
following_start least kinds t = record { size = refl; rows = λ a b h. absurd (omega arith); later = λ a b h i. refl }

pub following_done : {n k : ℕ} {least kinds t now : List ℕ} → n ≤ k → k ≤ n → Following least kinds k t now → Following least kinds n t now
following_done h i f = record { size = f.size; rows = λ a b j. f.rows a b (omega arith); later = λ a b j. f.later a b (omega arith) }

-- the rows of the graph that arrays unfold to
module _ {n : ℕ} {least kinds joined : List ℕ} (c : Compressed n least kinds joined) where
  -- another member's row is its first member's but for their own bits
  module _ (p b : ℕ) (hp : p < n) (hb : b < 512) (lower : get_or least p 0 < p) where
    abbrev l : ℕ
    l = get_or least p 0

-- the bit of one first member
pub join_none : (row : List ℕ) (l : ℕ) → l ≡ 65535 → ◌≡◌ {A = ℕ} 0 (cond (join_bit row l) 1 0)
unfolding join_bit
join_none row l e = rw (eq-eqb l 65535 e)

pub join_some : (row : List ℕ) (l : ℕ) {x : ℕ} {b : Bool} → x ≡ l → (l ≡ 65535 → ⊥) → b ≡ edge_bit row 0 x → bool_byte b ≡ cond (join_bit row l) 1 0
unfolding join_bit
join_some row l e d h = rw (ne_eqb l 65535 d, h, e) (bool_number (edge_bit row 0 l))

-- a node is reached among n and among m, if it is below both or neither
module _ (first : List ℕ) (P : ℕ → Bool) where
  reached-as : (n m b : ℕ) → ltb b n ≡ ltb b m → reached n first P b ≡ reached m first P b
  unfolding reached placed
  reached-as n m b e = rw e

  reached-no : (n b : ℕ) → n ≤ b → reached n first P b ≡ false
  unfolding reached placed
  reached-no n b h = rw (le-ltb b n h)

  reached-last : (q : ℕ) → reached (q + 1) first P q ≡ (not (eqb (get_or first q 0) 65535) && P (get_or first q 0))
  unfolding reached placed
  reached-last q = rw (lt-ltb q (q + 1) (omega arith))

same_below : (b n m : ℕ) → (b < n → b < m) → (b < m → b < n) → ltb b n ≡ ltb b m
same_below b n m f g = iff_eq (ltb b n) (ltb b m) (λ t. lt-ltb b m (f (ltb-true b n t))) (λ t. lt-ltb b n (g (ltb-true b m t)))

-- a bit shifted to its place
bit_shl : (b : Bool) (k j : ℕ) → k < 64 → bit_at (cond b 1 0 * 2 ^ k % 18446744073709551616) j ≡ (b && eqb j k)
bit_shl true k j h = rw (one_shl k h) (bit_pow j k)
bit_shl false k j h = let z : 0 * 2 ^ k % 18446744073709551616 ≡ 0 = omega arith in rw z (bit_zero j)

pub spread_more : {w q : ℕ} {first : List ℕ} (row : List ℕ) {x : ℕ} → SpreadWord w q first (edge_bit row 0) x → 64 * w ≤ q → q < 64 * w + 64
    → {y k : ℕ} → y ≡ cond (join_bit row (get_or first q 0)) 1 0 → k ≡ q % 64
    → SpreadWord w (q + 1) first (edge_bit row 0) (bit_or x (y * 2 ^ k % 18446744073709551616))
unfolding join_bit
spread_more {w} {q} {first} row {x} s a b {y} {k} e f = record {
  bits =
      λ j h.
      bit_or_lem x (y * 2 ^ k % 18446744073709551616) j
      ∙ rw (e, s.bits j h, bit_shl (join_bit row (get_or first q 0)) k j (omega arith)) (step j h (decide (eqb j k)));
}
  where
    step : (j : ℕ) → j < 64 → (eqb j k ≡ true) ⊎ (eqb j k ≡ false)
        → (reached q first (edge_bit row 0) (64 * w + j) || (join_bit row (get_or first q 0) && eqb j k)) ≡ reached (q + 1) first (edge_bit row 0) (64 * w + j)
    step j h (inl t) =
        let z : 64 * w + j ≡ q = omega (arith, eqb-true j k t) in
        rw (t, z, reached-no first (edge_bit row 0) q q (omega arith)) (and_one (join_bit row (get_or first q 0)) ∙ sym (reached-last first (edge_bit row 0) q))
    step j h (inr t) =
        let d : j ≡ k → ⊥ = eqb-false j k t in
        rw (t, and-false (join_bit row (get_or first q 0)), or-false (reached q first (edge_bit row 0) (64 * w + j)))
        (reached-as first (edge_bit row 0) q (q + 1) (64 * w + j) (same_below (64 * w + j) q (q + 1) (λ l. omega arith) (λ l. omega arith)))

-- a row, the first w words
pub record Spreading (w n : ℕ) (first : List ℕ) (P : ℕ → Bool) (all : List ℕ) : Type 0 where
  pub size : length all ≡ 8
  pub words : (i : ℕ) → i < w → SpreadWord i n first P (get_or all i 0)

pub spreading_none : (n : ℕ) (first : List ℕ) (P : ℕ → Bool) → Spreading 0 n first P (replicate 8 0)
spreading_none n first P = record { size = refl; words = λ i h. absurd (omega arith) }

pub spreading_more : {w n : ℕ} {first : List ℕ} {P : ℕ → Bool} {all : List ℕ} {x : ℕ} → Spreading w n first P all → w < 8 → SpreadWord w n first P x → Spreading (w + 1) n first P (set all w x)
spreading_more {w} {n} {first} {P} {all} {x} s h y =
    let fits : w < length all = omega (arith, s.size) in
    record { size = stored-size all w x fits s.size; words = stored all w x fits (λ i z. SpreadWord i n first P z) s.words y }

pub spreading_done : {w n : ℕ} {first : List ℕ} {P : ℕ → Bool} {all : List ℕ} → Spreading w n first P all → 8 ≤ w → Spread n first P all
unfolding edge_bit
spreading_done {w} {n} {first} {P} {all} s h = record { size = s.size; bits = bits }
  where
    bits : (q : ℕ) → q < 512 → bit_at (get_or all (8 * 0 + q / 64) 0) (q % 64) ≡ reached n first P q
    bits q l =
        let y : 8 * 0 + q / 64 ≡ q / 64 = omega arith in
        let z : 64 * (q / 64) + q % 64 ≡ q = omega arith in
        rw y ((s.words (q / 64) (omega arith)).bits (q % 64) (omega arith) ∙ ap (reached n first P) z)

-- the row of a clique with its own first member put in, the first w words
pub record Owning (row : List ℕ) (l w : ℕ) (own : List ℕ) : Type 0 where
  pub size : length own ≡ 8
  pub words : (i : ℕ) → i < w → get_or own i 0 ≡ bit_or (get_or row i 0) (own_bit l i)

pub owning_none : (row : List ℕ) (l : ℕ) → Owning row l 0 (replicate 8 0)
owning_none row l = record { size = refl; words = λ i h. absurd (omega arith) }

pub owning_more : {row : List ℕ} {l w : ℕ} {own : List ℕ} → Owning row l w own → w < 8 → {x : ℕ} → x ≡ own_bit l w → Owning row l (w + 1) (set own w (bit_or (get_or row w 0) x))
owning_more {row} {l} {w} {own} h b {x} e = record { size = length-set own w (bit_or (get_or row w 0) x) ∙ h.size; words = λ i m. at i m (decide (eqb i w)) }
  where
    at : (i : ℕ) → i < w + 1 → (eqb i w ≡ true) ⊎ (eqb i w ≡ false) → get_or (set own w (bit_or (get_or row w 0) x)) i 0 ≡ bit_or (get_or row i 0) (own_bit l i)
    at i m (inl s) = rw (eqb-true i w s, get_or-set_same own w (bit_or (get_or row w 0) x) 0 (omega (arith, h.size)), e)
    at i m (inr s) = let d : i ≡ w → ⊥ = eqb-false i w s in get_or-set_other own w i (bit_or (get_or row w 0) x) 0 d ∙ h.words i (omega arith)

owned : {row : List ℕ} {l w : ℕ} {own : List ℕ} → Owning row l w own → 8 ≤ w → (x : ℕ) → x < 512 → edge_bit own 0 x ≡ (edge_bit row 0 x || eqb l x)
unfolding edge_bit
owned {row} {l} {w} {own} h b x m =
    let y : 8 * 0 + x / 64 ≡ x / 64 = omega arith in
    let z : 64 * (x / 64) + x % 64 ≡ x = omega arith in
    rw (y, h.words (x / 64) (omega arith), bit_or_lem (get_or row (x / 64) 0) (own_bit l (x / 64)) (x % 64), own_bit_lem l (x / 64) (x % 64) (omega arith), z)

-- p's bit taken the other way
pub spread_but : {n p l w : ℕ} {first row own all : List ℕ} → FirstsFit n first → Owning row l w own → 8 ≤ w → Spread n first (edge_bit own 0) all → p < 512 → {i m : ℕ} → i ≡ p / 64 → m ≡ 2 ^ (p % 64)
    → SpreadBut p n first (λ x. edge_bit row 0 x || eqb l x) (set all i (bit_xor (get_or all i 0) m))
spread_but {n} {p} {l} {w} {first} {row} {own} {all} fits o b s h {i} {m} e f =
    let g = flipped_at all 0 p i m h (omega (arith, s.size)) (omega arith) f in
    record { bits = λ q k. g.bits 0 q k ∙ ap (λ (z : Bool). cond (eqb q p) (not z) z) (s.bits q k ∙ reached_cong n first (edge_bit own 0) (λ x. edge_bit row 0 x || eqb l x) fits (owned o b) q) }
