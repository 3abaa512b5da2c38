-- Laws of bits walked word by word.
use Rattle.std.specs.Prelude.{◌≡◌, refl, Bool, true, false, ◌⊎◌, ℕ, suc, zero, ◌+◌, ◌*◌, ◌-◌, ◌/◌, ◌%◌, ◌^◌, ◌≤◌, ◌<◌, eqb, ltb, length}
use Rattle.std.proofs.Common.{sym, ◌∙◌, inl, inr, mul_assoc, pow-suc, arith, length-append, pow-add, shr-shr, eqb-true, eq-eqb, ltb-false, ltb-true, ne_eqb}
use Rattle.std.proofs.Math.Path.{ap}
use mathlib.Core.List.{List, [], ◌∷◌, ◌++◌, map}
use Rattle.std.proofs.Math.Nat.{zero-div, div-eq_of_lt}
use Rattle.std.specs.Int.Bits.{bit_and, and_self, and_step}
use Rattle.std.proofs.lemmas.Nat.{and_le_r, shl-shr}
use Rattle.std.specs.Int.Count.{ones, ones_in, ones_step, count_trailing_zeros}
use Rattle.std.proofs.lemmas.List.{length-map}
use Rattle.std.proofs.lemmas.Bool.{eqb-false}
use Rattle.model.specs.Tables.{bit_at}
use Rattle.model.proofs.TestLaws.{decide}
use Rattle.buffers.specs.Scan.{Counting, scan}
use Rattle.buffers.specs.ScanLaws.{scan_cong, scan_end, scan_no, scan_skip, scan_yes, upward}
use Rattle.buffers.specs.WordBits.{bits_from, bits_of}

-- bits of a word without its low bits
pub bit_above : (x t k : ℕ) → t ≤ k → bit_at (x / 2 ^ t * 2 ^ t) k ≡ bit_at x k
unfolding bit_at
bit_above x t k h =
    let e : k ≡ t + (k - t) = omega arith in
    let d : x / 2 ^ t * 2 ^ t / 2 ^ k ≡ x / 2 ^ k =
    ap (λ (j : ℕ). x / 2 ^ t * 2 ^ t / 2 ^ j) e ∙ sym (shr-shr (x / 2 ^ t * 2 ^ t) t (k - t)) ∙ ap (λ (y : ℕ). y / 2 ^ (k - t)) (shl-shr (x / 2 ^ t) t) ∙ shr-shr x t (k - t) ∙ ap (λ (j : ℕ). x / 2 ^ j) (sym e) in
    rw d

pub bit_below : (y t k : ℕ) → k < t → bit_at (y * 2 ^ t) k ≡ false
unfolding bit_at
bit_below y t k h =
    let e : t ≡ suc (t - suc k) + k = omega arith in
    let d : y * 2 ^ t / 2 ^ k ≡ y * 2 ^ (t - suc k) * 2 =
    ap (λ (j : ℕ). y * 2 ^ j / 2 ^ k) e ∙ ap (λ (z : ℕ). y * z / 2 ^ k) (pow-add 2 (suc (t - suc k)) k) ∙ ap (λ (z : ℕ). z / 2 ^ k) (sym (mul_assoc y (2 ^ suc (t - suc k)) (2 ^ k))) ∙ shl-shr (y * 2 ^ suc (t - suc k)) k ∙ ap (λ (z : ℕ). y * z) (pow-suc 2 (t - suc k)) ∙ sym (mul_assoc y (2 ^ (t - suc k)) 2) in
    let z : y * 2 ^ (t - suc k) * 2 % 2 ≡ 0 = omega arith in
    rw (d, z)

half_shr : (x k : ℕ) → x / 2 / 2 ^ k ≡ x / 2 ^ suc k
half_shr x k = let e : 1 + k ≡ suc k = omega arith in rw e at (shr-shr x 1 k)

lowest_bit : (x : ℕ) → bit_at x 0 ≡ eqb (x % 2) 1
unfolding bit_at
lowest_bit x = let e : x / 1 ≡ x = omega arith in rw e

bit_suc : (x k : ℕ) → bit_at x (suc k) ≡ bit_at (x / 2) k
unfolding bit_at
bit_suc x k = rw (half_shr x k)

-- z is the place of the lowest bit of x, and x & (x - 1) is x without it
record LowestBit (x z : ℕ) : Type 0 where
  pub under : (j : ℕ) → j < z → bit_at x j ≡ false
  pub here : bit_at x z ≡ true
  pub rest : bit_and x (x - 1) ≡ x / 2 ^ suc z * 2 ^ suc z

zeros_odd : (k x : ℕ) → x % 2 ≡ 1 → count_trailing_zeros (suc k) x ≡ 0
unfolding count_trailing_zeros
zeros_odd k x e = rw e

zeros_even : (k x : ℕ) → x % 2 ≡ 0 → count_trailing_zeros (suc k) x ≡ suc (count_trailing_zeros k (x / 2))
unfolding count_trailing_zeros
zeros_even k x e = rw e

lowest_odd : (x : ℕ) → x % 2 ≡ 1 → LowestBit x 0
lowest_odd x e = record { under = λ j h. absurd (omega arith); here = lowest_bit x ∙ eq-eqb (x % 2) 1 e; rest = rest }
  where
    rest : bit_and x (x - 1) ≡ x / 2 ^ 1 * 2 ^ 1
    rest =
        let a : (x - 1) / 2 ≡ x / 2 = omega arith in
        let b : (x - 1) % 2 ≡ 0 = omega arith in
        and_step x (x - 1) ∙ rw (a, b, e, and_self (x / 2)) (omega arith)

lowest_even : (x z : ℕ) → 0 < x → x % 2 ≡ 0 → LowestBit (x / 2) z → LowestBit x (suc z)
lowest_even x z pos e l = record { under = under; here = bit_suc x z ∙ l.here; rest = rest }
  where
    under : (j : ℕ) → j < suc z → bit_at x j ≡ false
    under zero h = lowest_bit x ∙ ne_eqb (x % 2) 1 (omega arith)
    under (suc j) h = bit_suc x j ∙ l.under j (omega arith)

    rest : bit_and x (x - 1) ≡ x / 2 ^ suc (suc z) * 2 ^ suc (suc z)
    rest =
        let a : (x - 1) / 2 ≡ x / 2 - 1 = omega arith in
        and_step x (x - 1) ∙ rw (a, e, l.rest, half_shr x (suc z), pow-suc 2 (suc z)) (omega (arith, mul_assoc (x / 2 ^ suc (suc z)) (2 ^ suc z) 2))

lowest : (k x : ℕ) → 0 < x → x < 2 ^ k → (count_trailing_zeros k x < k) × LowestBit x (count_trailing_zeros k x)
lowest zero x pos h = absurd (omega arith)
lowest (suc k) x pos h = step (x % 2) refl (omega arith) (lowest k (x / 2))
  where
    step : (d : ℕ) → x % 2 ≡ d → d < 2 → (0 < x / 2 → x / 2 < 2 ^ k → (count_trailing_zeros k (x / 2) < k) × LowestBit (x / 2) (count_trailing_zeros k (x / 2))) → (count_trailing_zeros (suc k) x < suc k) × LowestBit x (count_trailing_zeros (suc k) x)
    step zero e l below =
        let b = below (omega arith) (omega (arith, pow-suc 2 k)) in
        rw (zeros_even k x e) (omega (arith, b.0), lowest_even x (count_trailing_zeros k (x / 2)) pos e b.1)
    step (suc zero) e l below = rw (zeros_odd k x e) (omega arith, lowest_odd x e)
    step (suc (suc d)) e l below = absurd (omega arith)

-- the lowest bit of a word, and the word without it
module _ (x : ℕ) (small : x < 2 ^ 64) (some : x ≡ 0 → ⊥) where
  low : (count_trailing_zeros 64 x < 64) × LowestBit x (count_trailing_zeros 64 x)
  low = lowest 64 x (omega arith) small

  pub lowest_small : count_trailing_zeros 64 x < 64
  lowest_small = low.0

  pub lowest_set : bit_at x (count_trailing_zeros 64 x) ≡ true
  lowest_set = low.1.here

  pub cleared_less : bit_and x (x - 1) < x
  cleared_less = omega (arith, and_le_r x (x - 1))

  pub cleared_here : bit_at (bit_and x (x - 1)) (count_trailing_zeros 64 x) ≡ false
  cleared_here = rw low.1.rest (bit_below (x / 2 ^ suc (count_trailing_zeros 64 x)) (suc (count_trailing_zeros 64 x)) (count_trailing_zeros 64 x) (omega arith))

  pub cleared_off : (j : ℕ) → (j ≡ count_trailing_zeros 64 x → ⊥) → bit_at (bit_and x (x - 1)) j ≡ bit_at x j
  cleared_off j d = rw low.1.rest (step (decide (ltb j (count_trailing_zeros 64 x))))
    where
      step : (ltb j (count_trailing_zeros 64 x) ≡ true) ⊎ (ltb j (count_trailing_zeros 64 x) ≡ false) → bit_at (x / 2 ^ suc (count_trailing_zeros 64 x) * 2 ^ suc (count_trailing_zeros 64 x)) j ≡ bit_at x j
      step (inl t) =
          let l : j < count_trailing_zeros 64 x = ltb-true j (count_trailing_zeros 64 x) t in
          bit_below (x / 2 ^ suc (count_trailing_zeros 64 x)) (suc (count_trailing_zeros 64 x)) j (omega arith) ∙ sym (low.1.under j l)
      step (inr t) = bit_above x (suc (count_trailing_zeros 64 x)) j (omega (arith, d, ltb-false j (count_trailing_zeros 64 x) t))

-- the bits of a word, lowest first
bits_none : (x : ℕ) → x ≡ 0 → bits_of x ≡ []
unfolding bits_of bit_at
bits_none x e = scan_skip (bit_at x) 64 64 (omega arith) 0 (λ q a b. rw e (none q)) (omega arith) ∙ scan_end (bit_at x) 64 64 (omega arith)
  where
    none : (q : ℕ) → eqb (0 / 2 ^ q % 2) 1 ≡ false
    none q = let z : 0 / 2 ^ q ≡ 0 = zero-div (2 ^ q) in rw z

bits_lowest : (x z : ℕ) → x < 2 ^ 64 → (x ≡ 0 → ⊥) → z ≡ count_trailing_zeros 64 x → bits_of x ≡ z ∷ bits_of (bit_and x (x - 1))
unfolding bits_of
bits_lowest x z h some e =
    let l = low x h some in
    let hz : z < 64 = omega (arith, l.0) in
    let low : LowestBit x z = rw e l.1 in
    let z1 : z + 1 ≡ suc z = omega arith in
    scan_skip (bit_at x) 64 z (omega arith) 0 (λ q a b. low.under q b) (omega arith)
    ∙ scan_yes (bit_at x) 64 z hz low.here
    ∙ ap (λ (r : List ℕ). z ∷ r)
    (rw (low.rest, z1)
    (scan_cong (bit_at x) (bit_at (x / 2 ^ suc z * 2 ^ suc z)) 64 (suc z) (λ q a b. sym (bit_above x (suc z) q a))
    ∙ sym (scan_skip (bit_at (x / 2 ^ suc z * 2 ^ suc z)) 64 (suc z) (omega arith) 0 (λ q a b. bit_below (x / 2 ^ suc z) (suc z) q b) (omega arith))))

-- as many as are counted
bits_ones : (x : ℕ) → x < 2 ^ 64 → ones x ≡ length (bits_of x)
unfolding bits_of bit_at ones ones_in
bits_ones x h = let e : x / 2 ^ 0 ≡ x = omega arith in rw e at (go 0 (omega arith))
  where
    go : (t : ℕ) → t ≤ 64 → ones (x / 2 ^ t) ≡ length (scan (bit_at x) 64 t)
    go = upward (λ t. t ≤ 64 → ones (x / 2 ^ t) ≡ length (scan (bit_at x) 64 t)) 64 top step
      where
        top : (t : ℕ) → 64 ≤ t → t ≤ 64 → ones (x / 2 ^ t) ≡ length (scan (bit_at x) 64 t)
        top t a b =
            let e : t ≡ 64 = omega arith in
            rw (e, div-eq_of_lt h, scan_end (bit_at x) 64 64 (omega arith))

        step : (t : ℕ) → t < 64 → (t + 1 ≤ 64 → ones (x / 2 ^ (t + 1)) ≡ length (scan (bit_at x) 64 (t + 1))) → t ≤ 64 → ones (x / 2 ^ t) ≡ length (scan (bit_at x) 64 t)
        step t a below b = one t a (below (omega arith)) (decide (bit_at x t))
          where
            one : (t : ℕ) → t < 64 → ones (x / 2 ^ (t + 1)) ≡ length (scan (bit_at x) 64 (t + 1)) → (bit_at x t ≡ true) ⊎ (bit_at x t ≡ false) → ones (x / 2 ^ t) ≡ length (scan (bit_at x) 64 t)
            one t a below (inl y) = omega (arith, ones_step (x / 2 ^ t), ap ones (shr-shr x t 1), eqb-true (x / 2 ^ t % 2) 1 y, ap length (scan_yes (bit_at x) 64 t a y))
            one t a below (inr y) = let z : x / 2 ^ t % 2 ≡ 1 → ⊥ = eqb-false (x / 2 ^ t % 2) 1 y in omega (arith, ones_step (x / 2 ^ t), ap ones (shr-shr x t 1), ap length (scan_no (bit_at x) 64 t a y))

-- the same, counted from b on
pub from_none : (b x : ℕ) → x ≡ 0 → bits_from b x ≡ []
unfolding bits_from
from_none b x e = rw (bits_none x e)

pub from_lowest : (b x z : ℕ) → x < 2 ^ 64 → (x ≡ 0 → ⊥) → z ≡ count_trailing_zeros 64 x → bits_from b x ≡ (b + z) ∷ bits_from b (bit_and x (x - 1))
unfolding bits_from
from_lowest b x z h some e = rw (bits_lowest x z h some e)

-- the numbers that pass: those of a word whose bits tell them, then those from the next word on
module _ (P : ℕ → Bool) (n x w low : ℕ) (inside : 64 * w + 64 ≤ n) (told : (k : ℕ) → low ≤ k → k < 64 → bit_at x k ≡ P (64 * w + k)) where
  abbrev Splits : ℕ → Type 0
  Splits k = low ≤ k → k ≤ 64 → scan P n (64 * w + k) ≡ map (λ k. 64 * w + k) (scan (bit_at x) 64 k) ++ scan P n (64 * w + 64)

  word-from : (k : ℕ) → Splits k
  word-from = upward Splits 64 top (λ k h below a b. step k h a (below (omega arith) (omega arith)) (decide (bit_at x k)))
    where
      top : (k : ℕ) → 64 ≤ k → Splits k
      top k h a b =
          let e : k ≡ 64 = omega arith in
          rw (e, scan_end (bit_at x) 64 64 (omega arith))

      step : (k : ℕ) → k < 64 → low ≤ k → scan P n (64 * w + (k + 1)) ≡ map (λ k. 64 * w + k) (scan (bit_at x) 64 (k + 1)) ++ scan P n (64 * w + 64) → (bit_at x k ≡ true) ⊎ (bit_at x k ≡ false)
          → scan P n (64 * w + k) ≡ map (λ k. 64 * w + k) (scan (bit_at x) 64 k) ++ scan P n (64 * w + 64)
      step k h a below (inl y) =
          let e : 64 * w + k + 1 ≡ 64 * w + (k + 1) = omega arith in
          scan_yes P n (64 * w + k) (omega arith) (sym (told k a h) ∙ y) ∙ rw (e, scan_yes (bit_at x) 64 k h y) (ap (λ (r : List ℕ). (64 * w + k) ∷ r) below)
      step k h a below (inr y) =
          let e : 64 * w + k + 1 ≡ 64 * w + (k + 1) = omega arith in
          scan_no P n (64 * w + k) (omega arith) (sym (told k a h) ∙ y) ∙ rw (e, scan_no (bit_at x) 64 k h y) below

  pub scan-word : low ≤ 64 → ((k : ℕ) → k < low → bit_at x k ≡ false) → scan P n (64 * w + low) ≡ bits_from (64 * w) x ++ scan P n (64 * w + 64)
  unfolding bits_from bits_of
  scan-word small none =
      word-from low (omega arith) small
      ∙ ap (λ (l : List ℕ). map (λ k. 64 * w + k) l ++ scan P n (64 * w + 64)) (sym (scan_skip (bit_at x) 64 low small 0 (λ k a b. none k b) (omega arith)))

-- a word counted
pub counting_bits : {P : ℕ → Bool} {n total c q r : ℕ} (b x : ℕ) → Counting P n total c q → x < 2 ^ 64 → scan P n q ≡ bits_from b x ++ scan P n r → Counting P n total (c + ones x) r
unfolding bits_from
counting_bits {P} {n} {total} {c} {q} {r} b x k h e = record { sum = omega (arith, k.sum, bits_ones x h, ap length e, length-append (bits_from b x) (scan P n r), length-map (bits_of x) (λ k. b + k)) }
