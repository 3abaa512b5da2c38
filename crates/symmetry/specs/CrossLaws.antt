-- Laws of digits of rows and columns exchanged, of two rows and of eight.
use Rattle.std.specs.Prelude.{◌≡◌, refl, Bool, true, false, ◌&&◌, List, [], ◌∷◌, ◌⊎◌, ℕ, zero, suc, ◌+◌, ◌*◌, ◌-◌, ◌/◌, ◌%◌, ◌^◌, ◌≤◌, ◌<◌, eqb, ltb, get_or}
use Rattle.std.proofs.Common.{sym, ap, ap₂, ◌∙◌, inl, inr, arith, eqb-true, ltb-true, ltb-false}
use Rattle.std.proofs.Math.Bool.{xor}
use Rattle.std.specs.Bool.{beq}
use Rattle.std.proofs.Math.Nat.{div-eq_of_lt}
use Rattle.std.specs.Int.Bits.{bit_and, bit_xor}
use Rattle.std.proofs.lemmas.Nat.{shl-shr}
use Rattle.model.specs.Lists.{all, from, nodes}
use Rattle.model.specs.Tables.{bit_at}
use Rattle.model.proofs.TestLaws.{and_fst, and_snd, beq_eq, decide}
use Rattle.model.proofs.TableLaws.{bit_at-word}
use Rattle.model.proofs.ListLaws.{all_elim, nodes_in_lem}
use Rattle.buffers.specs.WordBitsLaws.{bit_below}
use Rattle.rows.specs.BitLaws.{bit_and_lem, bit_xor_lem, word_bits, xor_off}
use Rattle.symmetry.specs.Symmetry.{Crossed, Exchanged, HalvesCrossed, Zeros, with_digits, with_digit}
use Rattle.symmetry.specs.SymmetryLaws.{bit_shr}

-- bits of words shifted up
word_part_bit : (x c : ℕ) → c < 64 → bit_at (x % 2 ^ 64) c ≡ bit_at x c
word_part_bit x c h = ap (λ (y : ℕ). bit_at y c) (sym (word_bits 64 x)) ∙ bit_at-word 64 (bit_at x) c h

shifted_bit : (x j c : ℕ) → c < 64 → j ≤ c → bit_at (x * 2 ^ j % 2 ^ 64) c ≡ bit_at x (c - j)
shifted_bit x j c h l =
    let e : j + (c - j) ≡ c = omega arith in
    word_part_bit (x * 2 ^ j) c h ∙ ap (bit_at (x * 2 ^ j)) (sym e) ∙ sym (bit_shr (x * 2 ^ j) j (c - j)) ∙ ap (λ (y : ℕ). bit_at y (c - j)) (shl-shr x j)

-- one digit
digit : (r k : ℕ) → (r / 2 ^ k % 2 ≡ 0) ⊎ (r / 2 ^ k % 2 ≡ 1)
digit r k = step (r / 2 ^ k % 2) refl
  where
    step : (d : ℕ) → r / 2 ^ k % 2 ≡ d → (r / 2 ^ k % 2 ≡ 0) ⊎ (r / 2 ^ k % 2 ≡ 1)
    step zero e = inl e
    step (suc zero) e = inr e
    step (suc (suc d)) e = absurd (omega arith)

room_below : (k r : ℕ) → r / 2 ^ k % 2 ≡ 1 → 2 ^ k ≤ r
room_below k r e = step (decide (ltb r (2 ^ k)))
  where
    step : (ltb r (2 ^ k) ≡ true) ⊎ (ltb r (2 ^ k) ≡ false) → 2 ^ k ≤ r
    step (inl t) = absurd (let z : r / 2 ^ k ≡ 0 = div-eq_of_lt (ltb-true r (2 ^ k) t) in omega arith)
    step (inr t) = ltb-false r (2 ^ k) t

-- 2 ^ k less: the other digit
lowered : (k d c : ℕ) → k < 6 → c < 64 → 2 ^ k ≤ c → c / 2 ^ k % 2 ≡ d → (c - 2 ^ k) / 2 ^ k % 2 ≡ 1 - d
lowered zero d c hk hc l e = omega arith
lowered (suc zero) d c hk hc l e = omega arith
lowered (suc (suc zero)) d c hk hc l e = omega arith
lowered (suc (suc (suc zero))) d c hk hc l e = omega arith
lowered (suc (suc (suc (suc zero)))) d c hk hc l e = omega arith
lowered (suc (suc (suc (suc (suc zero))))) d c hk hc l e = omega arith
lowered (suc (suc (suc (suc (suc (suc k)))))) d c hk hc l e = absurd (omega arith)

-- what is exchanged, and what stays
other : (a b : Bool) → xor a (xor a b && true) ≡ b
unfolding xor
other true true = refl
other true false = refl
other false true = refl
other false false = refl

other_too : (a b : Bool) → xor b (xor a b && true) ≡ a
unfolding xor
other_too true true = refl
other_too true false = refl
other_too false true = refl
other_too false false = refl

same : (a b : Bool) → xor a (b && false) ≡ a
unfolding xor
same true true = refl
same true false = refl
same false true = refl
same false false = refl

-- two rows
module _ (k mask x y : ℕ) {j : ℕ} (hk : k < 6) (zeros : Zeros k mask) (ej : j ≡ 2 ^ k) where
  abbrev t : ℕ
  t = bit_and (bit_xor (x / 2 ^ j) y) mask

  bit-t : (c : ℕ) → c < 64 → bit_at t c ≡ (xor (bit_at x (2 ^ k + c)) (bit_at y c) && eqb (c / 2 ^ k % 2) 0)
  bit-t c hc =
      bit_and_lem (bit_xor (x / 2 ^ j) y) mask c
      ∙ ap₂ ◌&&◌ (bit_xor_lem (x / 2 ^ j) y c ∙ ap (λ (b : Bool). xor b (bit_at y c)) (bit_shr x j c ∙ ap (λ (i : ℕ). bit_at x (i + c)) ej)) (zeros c hc)

  pub cross_low : Crossed k x y 0 (bit_xor x (t * 2 ^ j % 2 ^ 64))
  cross_low f e₀ e₁ c hc = bit_xor_lem x (t * 2 ^ j % 2 ^ 64) c ∙ step (digit c k)
    where
      below : c / 2 ^ k % 2 ≡ 0 → (ltb c (2 ^ k) ≡ true) ⊎ (ltb c (2 ^ k) ≡ false) → xor (bit_at x c) (bit_at (t * 2 ^ j % 2 ^ 64) c) ≡ bit_at x c
      below d (inl s) =
          ap (xor (bit_at x c)) (word_part_bit (t * 2 ^ j) c hc ∙ bit_below t j c (omega (arith, ltb-true c (2 ^ k) s)))
          ∙ xor_off (bit_at x c)
      below d (inr s) =
          let l : 2 ^ k ≤ c = ltb-false c (2 ^ k) s in
          ap (xor (bit_at x c)) (shifted_bit t j c hc (omega arith) ∙ ap (λ (i : ℕ). bit_at t (c - i)) ej ∙ bit-t (c - 2 ^ k) (omega arith) ∙ ap (λ (i : ℕ). xor (bit_at x (2 ^ k + (c - 2 ^ k))) (bit_at y (c - 2 ^ k)) && eqb i 0) (lowered k 0 c hk hc l d))
          ∙ same (bit_at x c) (xor (bit_at x (2 ^ k + (c - 2 ^ k))) (bit_at y (c - 2 ^ k)))

      step : (c / 2 ^ k % 2 ≡ 0) ⊎ (c / 2 ^ k % 2 ≡ 1) → xor (bit_at x c) (bit_at (t * 2 ^ j % 2 ^ 64) c) ≡ bit_at (f (c / 2 ^ k % 2)) (with_digit k c 0)
      step (inl d) =
          let stays : with_digit k c 0 ≡ c = rw d (omega arith) in
          below d (decide (ltb c (2 ^ k))) ∙ ap₂ bit_at (sym e₀ ∙ ap f (sym d)) (sym stays)
      step (inr d) =
          let l : 2 ^ k ≤ c = room_below k c d in
          let back : 2 ^ k + (c - 2 ^ k) ≡ c = omega arith in
          let goes : with_digit k c 0 ≡ c - 2 ^ k = rw d (omega arith) in
          ap (xor (bit_at x c)) (shifted_bit t j c hc (omega arith) ∙ ap (λ (i : ℕ). bit_at t (c - i)) ej ∙ bit-t (c - 2 ^ k) (omega arith) ∙ ap₂ (λ (i m : ℕ). xor (bit_at x m) (bit_at y (c - 2 ^ k)) && eqb i 0) (lowered k 1 c hk hc l d) back)
          ∙ other (bit_at x c) (bit_at y (c - 2 ^ k))
          ∙ ap₂ bit_at (sym e₁ ∙ ap f (sym d)) (sym goes)

  pub cross_high : Crossed k x y 1 (bit_xor y t)
  cross_high f e₀ e₁ c hc = bit_xor_lem y t c ∙ ap (xor (bit_at y c)) (bit-t c hc) ∙ step (digit c k)
    where
      step : (c / 2 ^ k % 2 ≡ 0) ⊎ (c / 2 ^ k % 2 ≡ 1) → xor (bit_at y c) (xor (bit_at x (2 ^ k + c)) (bit_at y c) && eqb (c / 2 ^ k % 2) 0) ≡ bit_at (f (c / 2 ^ k % 2)) (with_digit k c 1)
      step (inl d) =
          let goes : with_digit k c 1 ≡ 2 ^ k + c = rw d (omega arith) in
          ap (λ (i : ℕ). xor (bit_at y c) (xor (bit_at x (2 ^ k + c)) (bit_at y c) && eqb i 0)) d
          ∙ other_too (bit_at x (2 ^ k + c)) (bit_at y c)
          ∙ ap₂ bit_at (sym e₀ ∙ ap f (sym d)) (sym goes)
      step (inr d) =
          let l : 2 ^ k ≤ c = room_below k c d in
          let stays : with_digit k c 1 ≡ c = rw d (omega arith) in
          ap (λ (i : ℕ). xor (bit_at y c) (xor (bit_at x (2 ^ k + c)) (bit_at y c) && eqb i 0)) d
          ∙ same (bit_at y c) (xor (bit_at x (2 ^ k + c)) (bit_at y c))
          ∙ ap₂ bit_at (sym e₁ ∙ ap f (sym d)) (sym stays)

-- eight cases
eight_cases : (P : ℕ → Type 0) → P 0 → P 1 → P 2 → P 3 → P 4 → P 5 → P 6 → P 7 → (i : ℕ) → i < 8 → P i
eight_cases P a b c d e f g h zero l = a
eight_cases P a b c d e f g h (suc zero) l = b
eight_cases P a b c d e f g h (suc (suc zero)) l = c
eight_cases P a b c d e f g h (suc (suc (suc zero))) l = d
eight_cases P a b c d e f g h (suc (suc (suc (suc zero)))) l = e
eight_cases P a b c d e f g h (suc (suc (suc (suc (suc zero))))) l = f
eight_cases P a b c d e f g h (suc (suc (suc (suc (suc (suc zero)))))) l = g
eight_cases P a b c d e f g h (suc (suc (suc (suc (suc (suc (suc zero))))))) l = h
eight_cases P a b c d e f g h (suc (suc (suc (suc (suc (suc (suc (suc i)))))))) l = absurd (omega arith)

pub halves_crossed : (k : ℕ) (x : List ℕ) (a₀ a₁ b₀ b₁ c₀ c₁ d₀ d₁ : ℕ)
    → Crossed k (get_or x 0 0) (get_or x 4 0) 0 a₀ × Crossed k (get_or x 0 0) (get_or x 4 0) 1 a₁ → Crossed k (get_or x 1 0) (get_or x 5 0) 0 b₀ × Crossed k (get_or x 1 0) (get_or x 5 0) 1 b₁
    → Crossed k (get_or x 2 0) (get_or x 6 0) 0 c₀ × Crossed k (get_or x 2 0) (get_or x 6 0) 1 c₁ → Crossed k (get_or x 3 0) (get_or x 7 0) 0 d₀ × Crossed k (get_or x 3 0) (get_or x 7 0) 1 d₁
    → HalvesCrossed k x (a₀ ∷ a₁ ∷ b₀ ∷ b₁ ∷ c₀ ∷ c₁ ∷ d₀ ∷ d₁ ∷ [])
halves_crossed k x a₀ a₁ b₀ b₁ c₀ c₁ d₀ d₁ a b c d = record {
  size = refl;
  bits = λ e m l. eight_cases (λ e. m < 64 → bit_at (get_or (a₀ ∷ a₁ ∷ b₀ ∷ b₁ ∷ c₀ ∷ c₁ ∷ d₀ ∷ d₁ ∷ []) e 0) m ≡ bit_at (get_or x (e / 2 + 4 * (m / 2 ^ k % 2)) 0) (with_digit k m (e % 2)))
      (a.0 (row 0) refl refl m) (a.1 (row 0) refl refl m) (b.0 (row 1) refl refl m) (b.1 (row 1) refl refl m)
      (c.0 (row 2) refl refl m) (c.1 (row 2) refl refl m) (d.0 (row 3) refl refl m) (d.1 (row 3) refl refl m) e l;
}
  where
    row : ℕ → ℕ → ℕ
    row i d = get_or x (i + 4 * d) 0

-- three digits, one after the other
abbrev row_before : ℕ → ℕ → ℕ → ℕ
row_before k e c = e / 2 + 4 * (c / 2 ^ k % 2)

abbrev column_before : ℕ → ℕ → ℕ → ℕ
column_before k e c = with_digit k c (e % 2)

traced : ℕ → ℕ → ℕ → Bool
traced s e c =
    let e₁ = row_before s e c in
    let c₁ = column_before s e c in
    let e₂ = row_before (s + 1) e₁ c₁ in
    let c₂ = column_before (s + 1) e₁ c₁ in
    ltb e₁ 8 && (ltb c₁ 64 && (ltb e₂ 8 && (ltb c₂ 64 && (eqb (row_before (s + 2) e₂ c₂) (c / 2 ^ s % 8) && eqb (column_before (s + 2) e₂ c₂) (with_digits s c e)))))

exchanged : (s : ℕ) {x y z r : List ℕ} → all (nodes 8) (λ e. all (nodes 64) (traced s e)) ≡ true → HalvesCrossed (s + 2) x y → HalvesCrossed (s + 1) y z → HalvesCrossed s z r → Exchanged s x r
unfolding traced
exchanged s {x} {y} {z} {r} h p q o = record { size = o.size; bits = bits }
  where
    bits : (e c : ℕ) → e < 8 → c < 64 → bit_at (get_or r e 0) c ≡ bit_at (get_or x (c / 2 ^ s % 8) 0) (with_digits s c e)
    bits e c he hc =
        let all-c = all_elim (nodes 8) (λ e. all (nodes 64) (traced s e)) h e (nodes_in_lem 8 e he) in
        let told = all_elim (nodes 64) (traced s e) all-c c (nodes_in_lem 64 c hc) in
        let t₁ = and_snd (ltb (row_before s e c) 8) _ told in
        let t₂ = and_snd (ltb (column_before s e c) 64) _ t₁ in
        let t₃ = and_snd (ltb (row_before (s + 1) (row_before s e c) (column_before s e c)) 8) _ t₂ in
        let t₄ = and_snd (ltb (column_before (s + 1) (row_before s e c) (column_before s e c)) 64) _ t₃ in
        o.bits e c he hc
        ∙ q.bits (row_before s e c) (column_before s e c) (ltb-true _ 8 (and_fst (ltb (row_before s e c) 8) _ told)) (ltb-true _ 64 (and_fst (ltb (column_before s e c) 64) _ t₁))
        ∙ p.bits (row_before (s + 1) (row_before s e c) (column_before s e c)) (column_before (s + 1) (row_before s e c) (column_before s e c)) (ltb-true _ 8 (and_fst (ltb (row_before (s + 1) (row_before s e c) (column_before s e c)) 8) _ t₂)) (ltb-true _ 64 (and_fst (ltb (column_before (s + 1) (row_before s e c) (column_before s e c)) 64) _ t₃))
        ∙ ap₂ (λ (i m : ℕ). bit_at (get_or x i 0) m) (eqb-true _ (c / 2 ^ s % 8) (and_fst (eqb (row_before (s + 2) (row_before (s + 1) (row_before s e c) (column_before s e c)) (column_before (s + 1) (row_before s e c) (column_before s e c))) (c / 2 ^ s % 8)) _ t₄)) (eqb-true _ (with_digits s c e) (and_snd (eqb (row_before (s + 2) (row_before (s + 1) (row_before s e c) (column_before s e c)) (column_before (s + 1) (row_before s e c) (column_before s e c))) (c / 2 ^ s % 8)) _ t₄))

-- a mask, tried at each place
pub zeros_by : (k mask : ℕ) → all (nodes 64) (λ c. beq (bit_at mask c) (eqb (c / 2 ^ k % 2) 0)) ≡ true → Zeros k mask
zeros_by k mask h = λ c l. beq_eq (bit_at mask c) (eqb (c / 2 ^ k % 2) 0) (all_elim (nodes 64) (λ c. beq (bit_at mask c) (eqb (c / 2 ^ k % 2) 0)) h c (nodes_in_lem 64 c l))
