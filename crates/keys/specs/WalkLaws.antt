-- Laws of a walk over the bits of a row.
use Rattle.std.specs.Prelude.{◌≡◌, ℕ, ◌+◌, ◌-◌, ◌*◌, ◌/◌, ◌%◌, ◌^◌, ◌<◌, Bool, true, false, cond, ◌&&◌, ltb, ◌⊎◌, List, ◌==◌, ◌≢◌, bit_and, nat_lt, slice_index, refl}
use Rattle.std.proofs.Common.{ap, inl, inr, arith}
use Rattle.std.specs.Int.Count.{count_trailing_zeros}
use borrow.Author.Tests.{eqb-true, eqb-false, eq-eqb, ne_eqb, le-ltb, lt-ltb, ltb-true}
use Rattle.model.specs.Tables.{bit_at, edge_bit}
use Rattle.model.proofs.TestLaws.{decide, iff_eq}
use Rattle.rows.specs.BitLaws.{bit_zero}
use Rattle.buffers.specs.WordBitsLaws.{cleared_here, cleared_off, lowest_set, lowest_small}
use Rattle.keys.specs.Walk.{ahead}

-- the walk over p's row
module _ (edges : List ℕ) (p : ℕ) where
  abbrev word_at : ℕ → ℕ
  word_at w = slice_index edges (8 * p + w)

  -- before the first word everything is ahead, and after the last nothing
  pub ahead_start : (q : ℕ) → ahead edges p 0 (slice_index edges (8 * p + 0)) q ≡ edge_bit edges p q
  unfolding ahead edge_bit
  ahead_start q = step (decide (q / 64 == 0))
    where
      step : ((q / 64 == 0) ≡ true) ⊎ ((q / 64 == 0) ≡ false)
          → cond (q / 64 == 0) (bit_at (word_at 0) (q % 64)) (nat_lt 0 (q / 64) && bit_at (word_at (q / 64)) (q % 64)) ≡ bit_at (word_at (q / 64)) (q % 64)
      step (inl e) = rw (e, eqb-true (q / 64) 0 e)
      step (inr e) = rw (e, lt-ltb 0 (q / 64) (omega (arith, eqb-false (q / 64) 0 e)))

  pub ahead_end : (x q : ℕ) → q < 512 → ahead edges p 8 x q ≡ false
  unfolding ahead
  ahead_end x q h = rw (ne_eqb (q / 64) 8 (omega arith), le-ltb 8 (q / 64) (omega arith))

  -- a word of which nothing is left, and the next
  pub ahead_next : (w q : ℕ) → ahead edges p w 0 q ≡ ahead edges p (w + 1) (slice_index edges (8 * p + (w + 1))) q
  unfolding ahead edge_bit
  ahead_next w q = step (decide (q / 64 == w)) (decide (q / 64 == w + 1))
    where
      Goal : Type 0
      Goal =
          cond (q / 64 == w) (bit_at 0 (q % 64)) (nat_lt w (q / 64) && bit_at (word_at (q / 64)) (q % 64))
          ≡ cond (q / 64 == w + 1) (bit_at (word_at (w + 1)) (q % 64)) (nat_lt (w + 1) (q / 64) && bit_at (word_at (q / 64)) (q % 64))

      step : ((q / 64 == w) ≡ true) ⊎ ((q / 64 == w) ≡ false) → ((q / 64 == w + 1) ≡ true) ⊎ ((q / 64 == w + 1) ≡ false) → Goal
      step (inl e) (inl f) = absurd (omega (arith, eqb-true (q / 64) w e, eqb-true (q / 64) (w + 1) f))
      step (inl e) (inr f) = rw (e, f, le-ltb (w + 1) (q / 64) (omega (arith, eqb-true (q / 64) w e))) (bit_zero (q % 64))
      step (inr e) (inl f) = rw (e, f, lt-ltb w (q / 64) (omega (arith, eqb-true (q / 64) (w + 1) f)), eqb-true (q / 64) (w + 1) f)
      step (inr e) (inr f) = rw (e, f) (ap (λ (b : Bool). b && bit_at (word_at (q / 64)) (q % 64)) same)
        where
          same : ltb w (q / 64) ≡ nat_lt (w + 1) (q / 64)
          same =
              iff_eq (nat_lt w (q / 64)) (nat_lt (w + 1) (q / 64))
              (λ t. lt-ltb (w + 1) (q / 64) (omega (arith, ltb-true w (q / 64) t, eqb-false (q / 64) (w + 1) f)))
              (λ t. lt-ltb w (q / 64) (omega (arith, ltb-true (w + 1) (q / 64) t)))

  -- the lowest bit of what is left is ahead, then no longer; the others stay as they are
  module _ (w x : ℕ) (small : x < 2 ^ 64) (some : x ≡ 0 → ⊥) where
    word_of : (64 * w + count_trailing_zeros 64 x) / 64 ≡ w
    word_of = omega (arith, lowest_small x small some)

    bit-of : (64 * w + count_trailing_zeros 64 x) % 64 ≡ count_trailing_zeros 64 x
    bit-of = omega (arith, lowest_small x small some)

    pub ahead_here : ahead edges p w x (64 * w + count_trailing_zeros 64 x) ≡ true
    unfolding ahead
    ahead_here = rw (word_of, bit-of, eq-eqb w w refl) (lowest_set x small some)

    pub ahead_gone : ahead edges p w (bit_and x (x - 1)) (64 * w + count_trailing_zeros 64 x) ≡ false
    unfolding ahead
    ahead_gone = rw (word_of, bit-of, eq-eqb w w refl) (cleared_here x small some)

    pub ahead_off : (q : ℕ) → (q ≢ 64 * w + count_trailing_zeros 64 x) → ahead edges p w (bit_and x (x - 1)) q ≡ ahead edges p w x q
    unfolding ahead
    ahead_off q d = step (decide (q / 64 == w))
      where
        step : ((q / 64 == w) ≡ true) ⊎ ((q / 64 == w) ≡ false)
            → cond (q / 64 == w) (bit_at (bit_and x (x - 1)) (q % 64)) (nat_lt w (q / 64) && edge_bit edges p q)
            ≡ cond (q / 64 == w) (bit_at x (q % 64)) (nat_lt w (q / 64) && edge_bit edges p q)
        step (inl e) = rw e (cleared_off x small some (q % 64) (λ z. d (omega (arith, eqb-true (q / 64) w e))))
        step (inr e) = rw e
