-- Further laws of these definitions, which no proof here cites.
use Rattle.std.specs.Prelude.{◌≡◌, List, ℕ, ◌^◌, ltb, take, refl, zero, suc, ◌+◌, ◌≤◌, ◌<◌, length, get_or, replicate, Bool, true, false, ◌&&◌, [], ◌∷◌}
use Rattle.model.specs.Lists.{all}
use Rattle.std.proofs.Common.{sym, ◌∙◌, arith, ap, subst, pow_pos, take_all, lt-ltb, ltb-true}
use Rattle.std.proofs.lemmas.List.{get_or-replicate, length-replicate}
use Rattle.buffers.specs.Filled.{Filled}
use Rattle.buffers.specs.FilledLaws.{filled_is}
use Rattle.std.proofs.lemmas.Nat.{and_le_l, and_le_r, or_lt}
use Rattle.std.specs.Int.Bits.{bit_or, or_add_and}
use Rattle.model.proofs.TestLaws.{and_fst, and_snd, and_true, iff_eq}

-- u is the union of the first i words, as far as powers of two tell
pub record United (s : List ℕ) (i u : ℕ) : Type 0 where
  pub below : (k : ℕ) → ltb u (2 ^ k) ≡ all (take i s) (λ x. ltb x (2 ^ k))

pub cleared : {i : ℕ} {t t₁ : List ℕ} → Filled (λ j. 0) i t t₁ → length t ≤ i → t₁ ≡ replicate (length t) 0
cleared {i} {t} a h = filled_is (replicate (length t) 0) a h (length-replicate (length t) 0) (λ j k. get_or-replicate (length t) j 0 0 k)

or_below : (k a b : ℕ) → ltb (bit_or a b) (2 ^ k) ≡ (ltb a (2 ^ k) && ltb b (2 ^ k))
or_below k a b = iff_eq _ _ there back
  where
    there : ltb (bit_or a b) (2 ^ k) ≡ true → (ltb a (2 ^ k) && ltb b (2 ^ k)) ≡ true
    there h =
        let u = ltb-true (bit_or a b) (2 ^ k) h in
        and_true (lt-ltb a (2 ^ k) (omega (arith, or_add_and a b, and_le_r a b))) (lt-ltb b (2 ^ k) (omega (arith, or_add_and a b, and_le_l a b)))

    back : (ltb a (2 ^ k) && ltb b (2 ^ k)) ≡ true → ltb (bit_or a b) (2 ^ k) ≡ true
    back h = lt-ltb (bit_or a b) (2 ^ k) (or_lt k a b (ltb-true a (2 ^ k) (and_fst (ltb a (2 ^ k)) _ h)) (ltb-true b (2 ^ k) (and_snd (ltb a (2 ^ k)) _ h)))

all_more : (f : ℕ → Bool) (s : List ℕ) (i : ℕ) → i < length s → all (take (suc i) s) f ≡ (all (take i s) f && f (get_or s i 0))
unfolding all
all_more f [] i h = absurd (omega arith)
all_more f (x ∷ xs) zero h = step (f x)
  where
    step : (b : Bool) → (b && true) ≡ b
    step true = refl
    step false = refl
all_more f (x ∷ xs) (suc i) h = ap (λ (b : Bool). f x && b) (all_more f xs i (omega arith)) ∙ step (f x) _ _
  where
    step : (a b c : Bool) → (a && (b && c)) ≡ ((a && b) && c)
    step true b c = refl
    step false b c = refl

-- word by word
pub united_none : (s : List ℕ) → United s 0 0
unfolding all
united_none s = record { below = λ k. lt-ltb 0 (2 ^ k) (pow_pos k) }

pub united_more : {s : List ℕ} {i u : ℕ} → United s i u → i < length s → United s (i + 1) (bit_or u (get_or s i 0))
united_more {s} {i} {u} h l = record { below = more }
  where
    one : i + 1 ≡ suc i
    one = omega arith

    more : (k : ℕ) → ltb (bit_or u (get_or s i 0)) (2 ^ k) ≡ all (take (i + 1) s) (λ x. ltb x (2 ^ k))
    more k = or_below k u (get_or s i 0) ∙ ap (λ (b : Bool). b && ltb (get_or s i 0) (2 ^ k)) (h.below k) ∙ sym (ap (λ (j : ℕ). all (take j s) (λ x. ltb x (2 ^ k))) one ∙ all_more (λ x. ltb x (2 ^ k)) s i l)

pub united_to : {s : List ℕ} {i j u : ℕ} → United s i u → i ≡ j → United s j u
united_to {s} {u = u} h e = subst (λ (m : ℕ). United s m u) e h

pub united_eight : {s : List ℕ} {i u : ℕ} → United s i u → i + 8 ≤ length s
    → United s (i + 8) (bit_or (bit_or (bit_or (bit_or (bit_or (bit_or (bit_or (bit_or u (get_or s i 0)) (get_or s (i + 1) 0)) (get_or s (i + 2) 0)) (get_or s (i + 3) 0)) (get_or s (i + 4) 0)) (get_or s (i + 5) 0)) (get_or s (i + 6) 0)) (get_or s (i + 7) 0))
united_eight {s} {i} h l = on 7 (on 6 (on 5 (on 4 (on 3 (on 2 (on 1 (united_more h (omega arith)) (omega arith)) (omega arith)) (omega arith)) (omega arith)) (omega arith)) (omega arith)) (omega arith)
  where
    on : (j : ℕ) {u : ℕ} → United s (i + j) u → j < 8 → United s (i + (j + 1)) (bit_or u (get_or s (i + j) 0))
    on j a b = united_to (united_more a (omega arith)) (omega arith)

pub united_all : {s : List ℕ} {i u : ℕ} → United s i u → length s ≤ i → (k : ℕ) → ltb u (2 ^ k) ≡ all s (λ x. ltb x (2 ^ k))
united_all {s} {i} h l k = h.below k ∙ ap (λ (t : List ℕ). all t (λ x. ltb x (2 ^ k))) (take_all i s l)
