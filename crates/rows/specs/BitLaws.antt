-- Bits of words.
use Rattle.std.specs.Prelude.{◌≡◌, ℕ, zero, suc, ◌+◌, ◌-◌, ◌*◌, ◌/◌, ◌%◌, ◌^◌, ◌<◌, ◌≤◌, min, Bool, true, false, cond, not, ◌&&◌, ◌||◌, ◌⊎◌, List, length, take, drop, ◌==◌, ◌≢◌, nat_lt, slice_index, slice_set, refl}
use Rattle.std.proofs.Common.{sym, ap, ap₂, ◌∙◌, inl, inr, one-mul, pow-suc, mul_comm, arith, lit<, length-set, pow-add, shl_exact, get_or-drop, get_or-set_other, get_or-set_same, get_or-take, eqb-true, eq-eqb, ne_eqb, ltb-true, ltb-false}
use Rattle.std.proofs.Math.Bool.{xor}
use Rattle.std.proofs.Math.Nat.{div-eq_of_lt, zero-div}
use Rattle.std.proofs.lemmas.Nat.{and_mask, and_shr, xor_lt, xor_shr, shl-shr, mod-pow-add}
use Rattle.std.specs.Int.Bits.{and_step, bit_and, bit_xor, differ, xor_step}
use Rattle.std.proofs.Math.Pow.{pow-lt}
use mir.Val.{bool_byte}
use Rattle.std.proofs.lemmas.Bool.{eqb-false}
use Rattle.model.specs.Tables.{bit_at, edge_bit, word}
use Rattle.model.proofs.TestLaws.{and_fst, decide, iff_eq}
use Rattle.rows.specs.Rows.{Words, Flipped, Changed}

-- `q >> 6` and `q & 63` are document 01's word q/64 and bit q mod 64, for every number, all of 16 bits among them
pub shift_and_mask : (q : ℕ) → (q / 2 ^ 6 ≡ q / 64) × (bit_and q 63 ≡ q % 64)
shift_and_mask q = (refl, and_mask q 6)

-- `(x >> k) & 1 == 1` at the place that the code has found
pub bit_tested : (x q : ℕ) {k : ℕ} → k ≡ q % 64 → (bit_and (x / 2 ^ k) 1 == 1) ≡ bit_at x (q % 64)
unfolding bit_at
bit_tested x q e = rw (e, and_mask (x / 2 ^ (q % 64)) 1)

-- a `bool` cast to a number
pub bool_number : (b : Bool) → bool_byte b ≡ cond b 1 0
bool_number true = refl
bool_number false = refl

-- `1 << k` at 64 bits
pub one_shl : (k : ℕ) → k < 64 → 1 * 2 ^ k % 18446744073709551616 ≡ 2 ^ k
one_shl k h = shl_exact {a = 1} 1 k 64 (lit< tt) (omega arith) ∙ one-mul (2 ^ k)

differ_lt : (x y : ℕ) → x < 2 → y < 2 → differ x y < 2
differ_lt zero y hx hy = hy
differ_lt (suc x) zero hx hy = hx
differ_lt (suc x) (suc y) hx hy = differ_lt x y (omega arith) (omega arith)

odd_xor : (a b : ℕ) → bit_xor a b % 2 ≡ differ (a % 2) (b % 2)
odd_xor a b = omega (arith, xor_step a b, differ_lt (a % 2) (b % 2) (omega arith) (omega arith))

differ_bits : (x y : ℕ) → x < 2 → y < 2 → (differ x y == 1) ≡ xor (x == 1) (y == 1)
unfolding xor
differ_bits zero zero hx hy = refl
differ_bits zero (suc zero) hx hy = refl
differ_bits (suc zero) zero hx hy = refl
differ_bits (suc zero) (suc zero) hx hy = refl
differ_bits zero (suc (suc y)) hx hy = absurd (omega arith)
differ_bits (suc zero) (suc (suc y)) hx hy = absurd (omega arith)
differ_bits (suc (suc x)) y hx hy = absurd (omega arith)

-- each bit of `a ^ b` is made of that bit of a and of b
pub bit_xor_lem : (a b k : ℕ) → bit_at (bit_xor a b) k ≡ xor (bit_at a k) (bit_at b k)
unfolding bit_at
bit_xor_lem a b k = rw (xor_shr, odd_xor (a / 2 ^ k) (b / 2 ^ k)) (differ_bits (a / 2 ^ k % 2) (b / 2 ^ k % 2) (omega arith) (omega arith))

pow_same : (k : ℕ) → bit_at (2 ^ k) k ≡ true
unfolding bit_at
pow_same k = let e : 2 ^ k / 2 ^ k ≡ 1 = ap (λ (x : ℕ). x / 2 ^ k) (sym (one-mul (2 ^ k))) ∙ shl-shr 1 k in rw e

pow_below : (j d : ℕ) → 2 ^ (j + suc d) / 2 ^ j % 2 ≡ 0
pow_below j d = rw (pow-add 2 j (suc d), mul_comm (2 ^ j) (2 ^ suc d), shl-shr (2 ^ suc d) j, pow-suc 2 d) (omega arith)

pow_other : (j k : ℕ) → (j ≢ k) → bit_at (2 ^ k) j ≡ false
unfolding bit_at
pow_other j k h = step (decide (nat_lt j k))
  where
    step : (nat_lt j k ≡ true) ⊎ (nat_lt j k ≡ false) → (2 ^ k / 2 ^ j % 2 == 1) ≡ false
    step (inl t) =
        let l : j < k = ltb-true j k t in
        let e : k ≡ j + suc (k - suc j) = omega arith in
        rw e (ne_eqb (2 ^ (j + suc (k - suc j)) / 2 ^ j % 2) 1 (omega (arith, pow_below j (k - suc j))))
    step (inr t) =
        let l : k < j = omega (arith, ltb-false j k t, h) in
        rw (div-eq_of_lt (pow-lt l))

-- 2^k has one bit
pub bit_pow : (j k : ℕ) → bit_at (2 ^ k) j ≡ (j == k)
bit_pow j k = step (decide (j == k))
  where
    step : ((j == k) ≡ true) ⊎ ((j == k) ≡ false) → bit_at (2 ^ k) j ≡ (j == k)
    step (inl t) = rw (eqb-true j k t) (pow_same k ∙ sym (eq-eqb k k refl))
    step (inr t) = pow_other j k (eqb-false j k t) ∙ sym t

-- a word is what its bits say
bit_digit : (x k : ℕ) → cond (bit_at x k) (2 ^ k) 0 ≡ (x / 2 ^ k % 2) * 2 ^ k
unfolding bit_at
bit_digit x k = digit (x / 2 ^ k % 2) (omega arith)
  where
    digit : (d : ℕ) → d < 2 → cond (d == 1) (2 ^ k) 0 ≡ d * 2 ^ k
    digit zero h = omega arith
    digit (suc zero) h = omega arith
    digit (suc (suc d)) h = absurd (omega arith)

pub word_bits : (k x : ℕ) → word k (bit_at x) ≡ x % 2 ^ k
unfolding word
word_bits zero x = omega arith
word_bits (suc k) x =
    let s : 1 + k ≡ suc k = omega arith in
    let e : x % 2 ^ suc k ≡ (x / 2 ^ k % 2) * 2 ^ k + x % 2 ^ k = rw (← s, mod-pow-add x 1 k) in
    omega (arith, word_bits k x, bit_digit x k)

pub word_cong : (k : ℕ) (f h : ℕ → Bool) → ((j : ℕ) → j < k → f j ≡ h j) → word k f ≡ word k h
unfolding word
word_cong zero f h s = refl
word_cong (suc k) f h s = ap₂ ◌+◌ (word_cong k f h (λ j l. s j (omega arith))) (ap (λ (t : Bool). cond t (2 ^ k) 0) (s k (omega arith)))

pub word_lt : (k : ℕ) (f : ℕ → Bool) → word k f < 2 ^ k
unfolding word
word_lt zero f = omega arith
word_lt (suc k) f = step (f k) (word_lt k f)
  where
    step : (b : Bool) → word k f < 2 ^ k → word k f + cond b (2 ^ k) 0 < 2 ^ suc k
    step true h = omega (arith, pow-suc 2 k)
    step false h = omega (arith, pow-suc 2 k)

-- a word of the table with one bit the other way
flip-bit : (b : Bool) → xor b true ≡ not b
unfolding xor
flip-bit true = refl
flip-bit false = refl

pub xor_off : (b : Bool) → xor b false ≡ b
unfolding xor
xor_off true = refl
xor_off false = refl

pub xor_cond : (b t : Bool) → xor b t ≡ cond t (not b) b
xor_cond b true = flip-bit b
xor_cond b false = xor_off b

-- a table with the bit for q in p's row the other way
abbrev pub flip : List ℕ → ℕ → ℕ → List ℕ
flip t p q = slice_set t (8 * p + q / 64) (bit_xor (slice_index t (8 * p + q / 64)) (2 ^ (q % 64)))

module _ (t : List ℕ) (p q : ℕ) (small : q < 512) (fits : 8 * p + 8 ≤ length t) where
  same_word : (a b : ℕ) → b < 512 → 8 * a + b / 64 ≡ 8 * p + q / 64 → (b % 64 == q % 64) ≡ (a == p && b == q)
  same_word a b l e =
      let s : a ≡ p = omega arith in
      rw (eq-eqb a p s) (iff_eq (b % 64 == q % 64) (b == q) (λ h. eq-eqb b q (omega (arith, eqb-true (b % 64) (q % 64) h))) (λ h. eq-eqb (b % 64) (q % 64) (ap (λ (x : ℕ). x % 64) (eqb-true b q h))))

  other_word : (a b : ℕ) → (8 * a + b / 64 ≢ 8 * p + q / 64) → (a == p && b == q) ≡ false
  other_word a b d = step (decide (a == p)) (decide (b == q))
    where
      step : ((a == p) ≡ true) ⊎ ((a == p) ≡ false) → ((b == q) ≡ true) ⊎ ((b == q) ≡ false) → (a == p && b == q) ≡ false
      step (inl x) (inl y) = absurd (d (ap₂ (λ (i j : ℕ). 8 * i + j / 64) (eqb-true a p x) (eqb-true b q y)))
      step (inl x) (inr y) = rw (x, y)
      step (inr x) y = rw x

  flip_bits : (a b : ℕ) → b < 512 → edge_bit (flip t p q) a b ≡ cond (a == p && b == q) (not (edge_bit t a b)) (edge_bit t a b)
  unfolding edge_bit
  flip_bits a b l = step (decide (8 * a + b / 64 == 8 * p + q / 64))
    where
      Goal : Type 0
      Goal = bit_at (slice_index (flip t p q) (8 * a + b / 64)) (b % 64) ≡ cond (a == p && b == q) (not (bit_at (slice_index t (8 * a + b / 64)) (b % 64))) (bit_at (slice_index t (8 * a + b / 64)) (b % 64))

      step : ((8 * a + b / 64 == 8 * p + q / 64) ≡ true) ⊎ ((8 * a + b / 64 == 8 * p + q / 64) ≡ false) → Goal
      step (inl x) =
          let e : 8 * a + b / 64 ≡ 8 * p + q / 64 = eqb-true (8 * a + b / 64) (8 * p + q / 64) x in
          rw (← same_word a b l e, e, get_or-set_same t (8 * p + q / 64) (bit_xor (slice_index t (8 * p + q / 64)) (2 ^ (q % 64))) 0 (omega arith), bit_xor_lem, bit_pow)
          (xor_cond (bit_at (slice_index t (8 * p + q / 64)) (b % 64)) (b % 64 == q % 64))
      step (inr x) =
          let d : 8 * a + b / 64 ≡ 8 * p + q / 64 → ⊥ = eqb-false (8 * a + b / 64) (8 * p + q / 64) x in
          rw (other_word a b d, get_or-set_other t (8 * p + q / 64) (8 * a + b / 64) (bit_xor (slice_index t (8 * p + q / 64)) (2 ^ (q % 64))) 0 d)

  flip-words : Words t → Words (flip t p q)
  flip-words h i = step (decide (i == 8 * p + q / 64))
    where
      step : ((i == 8 * p + q / 64) ≡ true) ⊎ ((i == 8 * p + q / 64) ≡ false) → slice_index (flip t p q) i < 2 ^ 64
      step (inl x) =
          rw (eqb-true i (8 * p + q / 64) x, get_or-set_same t (8 * p + q / 64) (bit_xor (slice_index t (8 * p + q / 64)) (2 ^ (q % 64))) 0 (omega arith))
          (xor_lt 64 (slice_index t (8 * p + q / 64)) (2 ^ (q % 64)) (h (8 * p + q / 64)) (pow-lt {i = q % 64} {j = 64} (omega arith)))
      step (inr x) = rw (get_or-set_other t (8 * p + q / 64) i (bit_xor (slice_index t (8 * p + q / 64)) (2 ^ (q % 64))) 0 (eqb-false i (8 * p + q / 64) x)) (h i)

  pub flipped : Flipped p q t (flip t p q)
  flipped = record { size = length-set t (8 * p + q / 64) (bit_xor (slice_index t (8 * p + q / 64)) (2 ^ (q % 64))); words = flip-words; bits = flip_bits }

-- both rows flipped
two_flips : (x y b : Bool) → (x ≡ true → y ≢ true) → cond y (not (cond x (not b) b)) (cond x (not b) b) ≡ cond (x || y) (not b) b
two_flips true true b h = absurd (h refl refl)
two_flips true false b h = refl
two_flips false true b h = refl
two_flips false false b h = refl

pub changed : (u v : ℕ) (s t r : List ℕ) → (u ≢ v) → Flipped u v s t → Flipped v u t r → Changed u v s r
changed u v s t r apart f g = record {
  size = g.size ∙ f.size;
  words = λ h. g.words (f.words h);
  bits =
      λ a b l.
      g.bits a b l
      ∙ ap (λ (x : Bool). cond (a == v && b == u) (not x) x) (f.bits a b l)
      ∙ two_flips (a == u && b == v) (a == v && b == u) (edge_bit s a b) (λ x y. apart (sym (eqb-true a u (and_fst (a == u) (b == v) x)) ∙ eqb-true a v (and_fst (a == v) (b == u) y)));
}

-- the same, at a place and by a mask that the code has found
pub edge_at : (t : List ℕ) (p q : ℕ) {i : ℕ} → i ≡ 8 * p + q / 64 → bit_at (slice_index t i) (q % 64) ≡ edge_bit t p q
unfolding edge_bit
edge_at t p q e = rw e

pub flipped_at : (t : List ℕ) (p q i m : ℕ) → q < 512 → 8 * p + 8 ≤ length t → i ≡ 8 * p + q / 64 → m ≡ 2 ^ (q % 64) → Flipped p q t (slice_set t i (bit_xor (slice_index t i) m))
flipped_at t p q i m small fits e f = rw (e, f) (flipped t p q small fits)

pub mask_at : (q k : ℕ) → k ≡ q % 64 → 1 * 2 ^ k % 18446744073709551616 ≡ 2 ^ (q % 64)
mask_at q k e = rw e (one_shl (q % 64) (omega arith))

-- no bit of zero is set
pub bit_zero : (j : ℕ) → bit_at 0 j ≡ false
unfolding bit_at
bit_zero j = ne_eqb (0 / 2 ^ j % 2) 1 (let z : 0 / 2 ^ j ≡ 0 = zero-div (2 ^ j) in omega arith)

-- bits of a conjunction
min_bits : (x y : ℕ) → x < 2 → y < 2 → (min x y == 1) ≡ (x == 1 && y == 1)
min_bits zero zero hx hy = refl
min_bits zero (suc zero) hx hy = refl
min_bits (suc zero) zero hx hy = refl
min_bits (suc zero) (suc zero) hx hy = refl
min_bits zero (suc (suc y)) hx hy = absurd (omega arith)
min_bits (suc zero) (suc (suc y)) hx hy = absurd (omega arith)
min_bits (suc (suc x)) y hx hy = absurd (omega arith)

pub bit_and_lem : (a b k : ℕ) → bit_at (bit_and a b) k ≡ (bit_at a k && bit_at b k)
unfolding bit_at
bit_and_lem a b k =
    let e : bit_and (a / 2 ^ k) (b / 2 ^ k) % 2 ≡ min (a / 2 ^ k % 2) (b / 2 ^ k % 2) = omega (arith, and_step (a / 2 ^ k) (b / 2 ^ k)) in
    rw (and_shr a b k, e) (min_bits (a / 2 ^ k % 2) (b / 2 ^ k % 2) (omega arith) (omega arith))

-- a bit of a row, by its word
pub word-bit : (edges : List ℕ) (p j c : ℕ) → c < 64 → edge_bit edges p (64 * j + c) ≡ bit_at (slice_index edges (8 * p + j)) c
unfolding edge_bit
word-bit edges p j c h =
    let x : (64 * j + c) / 64 ≡ j = omega arith in
    let y : (64 * j + c) % 64 ≡ c = omega arith in
    rw (x, y)

-- a bit of a row that is lent as a part of the table
pub row-bit : (edges : List ℕ) (p q : ℕ) → q < 512 → edge_bit (take (8 * p + 8 - 8 * p) (drop (8 * p) edges)) 0 q ≡ edge_bit edges p q
unfolding edge_bit
row-bit edges p q l =
    let k : 8 * p + 8 - 8 * p ≡ 8 = omega arith in
    let z : 8 * 0 + q / 64 ≡ q / 64 = omega arith in
    rw (k, z, get_or-take 8 (drop (8 * p) edges) (q / 64) 0 (omega arith), get_or-drop (8 * p) edges (q / 64) 0)
