-- Laws of bits set across the diagonal: strip by strip, word by word.
use Rattle.std.specs.Prelude.{◌≡◌, refl, true, false, ◌&&◌, ◌||◌, List, ◌⊎◌, ℕ, ◌+◌, ◌*◌, ◌/◌, ◌%◌, ◌≤◌, ◌<◌, ltb, length, get_or, set}
use Rattle.std.proofs.Common.{sym, ◌∙◌, inl, inr, arith, below_more}
use Rattle.std.proofs.Math.Path.{ap₂}
use Rattle.std.proofs.Math.Bool.{or-false}
use Rattle.std.specs.Int.Bits.{bit_or}
use Rattle.std.proofs.Math.Dec.{eqb}
use borrow.Author.Tests.{eq-eqb, eqb-false, eqb-true, le-ltb, lt-ltb, ltb-true, ne_eqb}
use Rattle.model.specs.Tables.{bit_at, edge_bit}
use Rattle.model.proofs.TestLaws.{and_snd, and_true, decide, iff_eq, or_cases, or_left, or_right}
use Rattle.drawing.specs.BitLaws.{word_put}
use Rattle.drawing.specs.Drawing.{Added, word_to}
use Rattle.drawing.specs.DrawingLaws.{added_as, added_none, added_then}
use Rattle.symmetry.specs.Symmetry.{Across}
use Rattle.mirroring.specs.Mirroring.{InRow, MirroredAt, across_to, columns_to}

-- a word of a strip put in, row by row
module _ (i j : ℕ) (strip : List ℕ) where
  pub lay_none : (t : List ℕ) → Added (columns_to i j strip 0) t t
  unfolding columns_to
  lay_none t = added_none (columns_to i j strip 0) t (λ a b. rw (le-ltb (a % 64) 0 (omega arith)))

  lay-word : (k a b : ℕ) → k < 64 → (columns_to i j strip k a b || word_to (64 * j + k) i (get_or strip (8 * k + j) 0) a b) ≡ columns_to i j strip (k + 1) a b
  unfolding columns_to word_to
  lay-word k a b l = step (decide (eqb (a % 64) k))
    where
      here : a % 64 ≡ k → eqb a (64 * j + k) ≡ eqb (a / 64) j
      here d =
          iff_eq (eqb a (64 * j + k)) (eqb (a / 64) j)
          (λ e. eq-eqb (a / 64) j (omega (arith, eqb-true a (64 * j + k) e)))
          (λ e. eq-eqb a (64 * j + k) (omega (arith, eqb-true (a / 64) j e)))

      elsewhere : (a % 64 ≡ k → ⊥) → ltb (a % 64) k ≡ ltb (a % 64) (k + 1)
      elsewhere d =
          iff_eq (ltb (a % 64) k) (ltb (a % 64) (k + 1))
          (λ e. lt-ltb (a % 64) (k + 1) (omega (arith, ltb-true (a % 64) k e)))
          (λ e. lt-ltb (a % 64) k (omega (arith, ltb-true (a % 64) (k + 1) e)))

      step : (eqb (a % 64) k ≡ true) ⊎ (eqb (a % 64) k ≡ false)
          → (ltb (a % 64) k && (eqb (a / 64) j && (eqb (b / 64) i && bit_at (get_or strip (8 * (a % 64) + j) 0) (b % 64))) || eqb a (64 * j + k) && (eqb (b / 64) i && bit_at (get_or strip (8 * k + j) 0) (b % 64)))
          ≡ (ltb (a % 64) (k + 1) && (eqb (a / 64) j && (eqb (b / 64) i && bit_at (get_or strip (8 * (a % 64) + j) 0) (b % 64))))
      step (inl h) =
          let d : a % 64 ≡ k = eqb-true (a % 64) k h in
          rw (d, le-ltb k k (omega arith), lt-ltb k (k + 1) (omega arith), here d)
      step (inr h) =
          let d : a % 64 ≡ k → ⊥ = eqb-false (a % 64) k h in
          rw (ne_eqb a (64 * j + k) (λ e. d (omega arith)), elsewhere d)
          (or-false (ltb (a % 64) (k + 1) && (eqb (a / 64) j && (eqb (b / 64) i && bit_at (get_or strip (8 * (a % 64) + j) 0) (b % 64)))))

  pub lay_more : (k : ℕ) {t now : List ℕ} → i < 8 → 8 * (64 * j + k) + 8 ≤ length now → k < 64 → Added (columns_to i j strip k) t now
      → Added (columns_to i j strip (k + 1)) t (set now (8 * (64 * j + k) + i) (bit_or (get_or now (8 * (64 * j + k) + i) 0) (get_or strip (8 * k + j) 0)))
  lay_more k {t} {now} small fits l h = added_then h (word_put now (64 * j + k) i (get_or strip (8 * k + j) 0) small fits) (λ a b. lay-word k a b l)

  -- that is what stands across
  pub lay_across : {t now after : List ℕ} {m : ℕ} → Across t i 0 m strip → j < m → Added (columns_to i j strip 64) now after → Added (across_to t i j) now after
  unfolding across_to columns_to
  lay_across {t} h l x = added_as (λ a b. rw (lt-ltb (a % 64) 64 (omega arith)) (step a b (decide (eqb (a / 64) j)) (decide (eqb (b / 64) i)))) x
    where
      step : (a b : ℕ) → (eqb (a / 64) j ≡ true) ⊎ (eqb (a / 64) j ≡ false) → (eqb (b / 64) i ≡ true) ⊎ (eqb (b / 64) i ≡ false)
          → (eqb (a / 64) j && (eqb (b / 64) i && bit_at (get_or strip (8 * (a % 64) + j) 0) (b % 64))) ≡ (eqb (a / 64) j && (eqb (b / 64) i && edge_bit t b a))
      step a b (inl u) (inl v) =
          let p : 64 * i + b % 64 ≡ b = omega (arith, eqb-true (b / 64) i v) in
          let q : 64 * j + a % 64 ≡ a = omega (arith, eqb-true (a / 64) j u) in
          rw (u, v) (h.bits j (a % 64) (b % 64) (omega arith) l (omega arith) (omega arith) ∙ ap₂ (edge_bit t) p q)
      step a b (inl u) (inr v) = rw (u, v)
      step a b (inr u) v = rw u

below_last : (j k : ℕ) → k < j + 1 → (k < j) ⊎ (k ≡ j)
below_last j = below_more (λ k. (k < j) ⊎ (k ≡ j)) j (λ k l. inl l) (inr refl)

pub columns_more : {i j : ℕ} {t now after : List ℕ} → MirroredAt (InRow i j) t now → Added (across_to t i j) now after → MirroredAt (InRow i (j + 1)) t after
unfolding across_to
columns_more {i} {j} {t} {now} {after} x y = record {
  size = y.size ∙ x.size;
  kept = λ a b l h. y.bits a b l ∙ or_left (across_to t i j a b) (x.kept a b l h);
  only = λ a b la lb h. back a b la lb (or_cases (edge_bit now a b) (across_to t i j a b) (sym (y.bits a b lb) ∙ h));
  mirrors = λ a b la lb p h. y.bits b a la ∙ there a b la lb p.0 h (below_last j (b / 64) p.1);
}
  where
    back : (a b : ℕ) → a < 512 → b < 512 → (edge_bit now a b ≡ true) ⊎ ((eqb (a / 64) j && (eqb (b / 64) i && edge_bit t b a)) ≡ true) → (edge_bit t a b ≡ true) ⊎ (edge_bit t b a ≡ true)
    back a b la lb (inl h) = x.only a b la lb h
    back a b la lb (inr h) = inr (and_snd (eqb (b / 64) i) _ (and_snd (eqb (a / 64) j) _ h))

    there : (a b : ℕ) → a < 512 → b < 512 → a / 64 ≡ i → edge_bit t a b ≡ true → (b / 64 < j) ⊎ (b / 64 ≡ j) → (edge_bit now b a || eqb (b / 64) j && (eqb (a / 64) i && edge_bit t a b)) ≡ true
    there a b la lb e h (inl l) = or_left (eqb (b / 64) j && (eqb (a / 64) i && edge_bit t a b)) (x.mirrors a b la lb (e, l) h)
    there a b la lb e h (inr f) = or_right (edge_bit now b a) (and_true (eq-eqb (b / 64) j f) (and_true (eq-eqb (a / 64) i e) h))
