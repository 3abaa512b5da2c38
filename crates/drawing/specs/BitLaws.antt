-- Bits set in an edge table.
use Rattle.std.specs.Prelude.{◌≡◌, refl, Bool, true, false, ◌&&◌, ◌||◌, ◌⊎◌, ℕ, zero, suc, ◌+◌, ◌*◌, ◌/◌, ◌%◌, ◌^◌, ◌≤◌, ◌<◌, max, eqb, length, get_or, set, replicate}
use Rattle.std.proofs.Common.{sym, ap₂, ◌∙◌, inl, inr, arith, length-set, get_or-set_same, get_or-set_other, eqb-true, eq-eqb}
use Rattle.std.proofs.Math.Path.{ap}
use Rattle.std.proofs.Math.Bool.{or-false}
use mathlib.Core.List.{List}
use Rattle.std.proofs.Math.Nat.{zero-div}
use Rattle.std.specs.Int.Bits.{bit_or, or_step}
use Rattle.std.proofs.lemmas.Nat.{or_shr}
use Rattle.std.proofs.lemmas.List.{length-replicate}
use Rattle.std.proofs.lemmas.Bool.{eqb-false}
use Rattle.model.specs.Graph.{max_nodes}
use Rattle.model.specs.Tables.{bit_at, edge_bit}
use Rattle.model.proofs.TestLaws.{and_fst, and_snd, and_true, decide, iff_eq}
use Rattle.rows.specs.BitLaws.{bit_pow}
use Rattle.drawing.specs.Drawing.{Added, one_bit, row_to, row_word_to, word_to}
use Rattle.drawing.specs.DrawingLaws.{added_as}

max_bits : (x y : ℕ) → x < 2 → y < 2 → eqb (max x y) 1 ≡ (eqb x 1 || eqb y 1)
max_bits zero zero hx hy = refl
max_bits zero (suc zero) hx hy = refl
max_bits (suc zero) zero hx hy = refl
max_bits (suc zero) (suc zero) hx hy = refl
max_bits zero (suc (suc y)) hx hy = absurd (omega arith)
max_bits (suc zero) (suc (suc y)) hx hy = absurd (omega arith)
max_bits (suc (suc x)) y hx hy = absurd (omega arith)

odd_or : (a b : ℕ) → bit_or a b % 2 ≡ max (a % 2) (b % 2)
odd_or a b = omega (arith, or_step a b)

-- each bit of `a | b` is that bit of a or of b
pub bit_or_lem : (a b k : ℕ) → bit_at (bit_or a b) k ≡ (bit_at a k || bit_at b k)
unfolding bit_at
bit_or_lem a b k = rw (or_shr, odd_or (a / 2 ^ k) (b / 2 ^ k)) (max_bits (a / 2 ^ k % 2) (b / 2 ^ k % 2) (omega arith) (omega arith))

-- a word put into a row
pub word_put : (t : List ℕ) (p w x : ℕ) → w < 8 → 8 * p + 8 ≤ length t → Added (word_to p w x) t (set t (8 * p + w) (bit_or (get_or t (8 * p + w) 0) x))
unfolding edge_bit word_to
word_put t p w x small fits = record { size = length-set t (8 * p + w) y; bits = λ a b l. at a b l (decide (eqb (8 * a + b / 64) (8 * p + w))) }
  where
    y : ℕ
    y = bit_or (get_or t (8 * p + w) 0) x

    at : (a b : ℕ) → b < 512 → (eqb (8 * a + b / 64) (8 * p + w) ≡ true) ⊎ (eqb (8 * a + b / 64) (8 * p + w) ≡ false)
        → bit_at (get_or (set t (8 * p + w) y) (8 * a + b / 64) 0) (b % 64) ≡ (bit_at (get_or t (8 * a + b / 64) 0) (b % 64) || (eqb a p && (eqb (b / 64) w && bit_at x (b % 64))))
    at a b l (inl h) =
        let d : 8 * a + b / 64 ≡ 8 * p + w = eqb-true (8 * a + b / 64) (8 * p + w) h in
        let i : a ≡ p = omega arith in
        let j : b / 64 ≡ w = omega arith in
        rw (d, get_or-set_same t (8 * p + w) y 0 (omega arith), bit_or_lem, eq-eqb a p i, eq-eqb (b / 64) w j)
    at a b l (inr h) =
        let d : 8 * a + b / 64 ≡ 8 * p + w → ⊥ = eqb-false (8 * a + b / 64) (8 * p + w) h in
        rw (get_or-set_other t (8 * p + w) (8 * a + b / 64) y 0 d)
        (sym (ap (λ (z : Bool). bit_at (get_or t (8 * a + b / 64) 0) (b % 64) || z) (none (decide (eqb a p)) (decide (eqb (b / 64) w))) ∙ or-false (bit_at (get_or t (8 * a + b / 64) 0) (b % 64))))
      where
        none : (eqb a p ≡ true) ⊎ (eqb a p ≡ false) → (eqb (b / 64) w ≡ true) ⊎ (eqb (b / 64) w ≡ false) → (eqb a p && (eqb (b / 64) w && bit_at x (b % 64))) ≡ false
        none (inl i) (inl j) = absurd (eqb-false (8 * a + b / 64) (8 * p + w) h (ap₂ (λ (u v : ℕ). 8 * u + v) (eqb-true a p i) (eqb-true (b / 64) w j)))
        none (inl i) (inr j) = rw (i, j)
        none (inr i) j = rw i

-- the word that the code has found, with the bit that it has found
pub bit-set : (t : List ℕ) (p q i m : ℕ) → q < 512 → 8 * p + 8 ≤ length t → i ≡ 8 * p + q / 64 → m ≡ 2 ^ (q % 64) → Added (one_bit p q) t (set t i (bit_or (get_or t i 0) m))
unfolding one_bit word_to
bit-set t p q i m small fits e f = rw (e, f) (added_as (λ a b. ap (λ (z : Bool). eqb a p && z) (same b)) (word_put t p (q / 64) (2 ^ (q % 64)) (omega arith) fits))
  where
    apart : (b : ℕ) → (eqb (b / 64) (q / 64) && eqb (b % 64) (q % 64)) ≡ true → b ≡ q
    apart b h = omega (arith, eqb-true (b / 64) (q / 64) (and_fst (eqb (b / 64) (q / 64)) _ h), eqb-true (b % 64) (q % 64) (and_snd (eqb (b / 64) (q / 64)) _ h))

    same : (b : ℕ) → (eqb (b / 64) (q / 64) && bit_at (2 ^ (q % 64)) (b % 64)) ≡ eqb b q
    same b =
        rw bit_pow
        (iff_eq (eqb (b / 64) (q / 64) && eqb (b % 64) (q % 64)) (eqb b q)
        (λ h. eq-eqb b q (apart b h))
        (λ h. let d = eqb-true b q h in and_true (eq-eqb (b / 64) (q / 64) (omega arith)) (eq-eqb (b % 64) (q % 64) (omega arith))))

-- lent arrays, before anything is set
pub blank_bit : (k i j : ℕ) → bit_at (get_or (replicate k 0) i 0) j ≡ false
unfolding bit_at
blank_bit k i j = rw (blank k i, zero-div (2 ^ j))
  where
    blank : (k i : ℕ) → ◌≡◌ {A = ℕ} (get_or (replicate k 0) i 0) 0
    blank zero i = refl
    blank (suc k) zero = refl
    blank (suc k) (suc i) = blank k i

-- a table without bits
pub zeros : (k : ℕ) → replicate {A = ℕ} k 0 ≡ replicate (length (replicate {A = ℕ} k 0)) 0
zeros k = ap (λ (l : ℕ). replicate l 0) (sym (length-replicate {A = ℕ} k 0))

module _ (t : List ℕ) (blank : t ≡ replicate (length t) 0) where
  pub no_bits : (a b : ℕ) → edge_bit t a b ≡ false
  unfolding edge_bit
  no_bits a b = ap (λ (x : List ℕ). bit_at (get_or x (8 * a + b / 64) 0) (b % 64)) blank ∙ blank_bit (length t) (8 * a + b / 64) (b % 64)

  -- bits put in are then all there are
  pub added_only : {f : ℕ → ℕ → Bool} {after : List ℕ} → Added f t after → (a b : ℕ) → b < max_nodes → edge_bit after a b ≡ f a b
  added_only {f = f} x a b l = x.bits a b l ∙ ap (λ (y : Bool). y || f a b) (no_bits a b)

-- the word of a set that the code has found
pub word-drawn : (t st : List ℕ) (p w : ℕ) → w < 8 → 8 * p + 8 ≤ length t → Added (row_word_to p st w) t (set t (8 * p + w) (bit_or (get_or t (8 * p + w) 0) (get_or st w 0)))
unfolding edge_bit row_to row_word_to word_to
word-drawn t st p w small fits = added_as (λ a b. same a b (decide (eqb a p)) (decide (eqb (b / 64) w))) (word_put t p w (get_or st w 0) small fits)
  where
    same : (a b : ℕ) → (eqb a p ≡ true) ⊎ (eqb a p ≡ false) → (eqb (b / 64) w ≡ true) ⊎ (eqb (b / 64) w ≡ false)
        → (eqb a p && (eqb (b / 64) w && bit_at (get_or st w 0) (b % 64))) ≡ (eqb (b / 64) w && (eqb a p && bit_at (get_or st (8 * 0 + b / 64) 0) (b % 64)))
    same a b (inl i) (inl j) = let g : 8 * 0 + b / 64 ≡ w = omega (arith, eqb-true (b / 64) w j) in rw (i, j, g)
    same a b (inl i) (inr j) = rw (i, j)
    same a b (inr i) (inl j) = rw (i, j)
    same a b (inr i) (inr j) = rw (i, j)
