-- Words united bit by bit are below a power of two exactly if each of them is.
use Rattle.std.specs.Prelude.{◌≡◌, refl, Bool, true, ◌&&◌, List, [], ◌∷◌, ℕ, suc, zero, ◌+◌, ◌*◌, ◌^◌, eqb, ltb, take, drop}
use Rattle.std.proofs.Common.{sym, ap, ◌∙◌, arith, pow_pos, le-ltb, lt-ltb, ltb-true, ne_eqb, suc-mul, zero-mul}
use Rattle.std.proofs.Math.Bool.{and-true, and_assoc}
use Rattle.std.proofs.Math.Seq.{take-add}
use Rattle.std.proofs.lemmas.List.{take-append-drop}
use Rattle.std.proofs.lemmas.Nat.{and_le_l, and_le_r, or_lt}
use Rattle.std.specs.Int.Bits.{bit_or, or_add_and}
use Rattle.model.specs.Lists.{all}
use Rattle.model.proofs.TestLaws.{and_fst, and_snd, and_true, iff_eq}
use Rattle.std.specs.List.{fold}
use Rattle.std.specs.Simd.{first_chunks}
use Rattle.std.proofs.lemmas.List.Sums.{fold-append}

or_below : (k a b : ℕ) → ltb (bit_or a b) (2 ^ k) ≡ (ltb a (2 ^ k) && ltb b (2 ^ k))
or_below k a b = iff_eq _ _ there back
  where
    there : ltb (bit_or a b) (2 ^ k) ≡ true → (ltb a (2 ^ k) && ltb b (2 ^ k)) ≡ true
    there h =
        let u = ltb-true (bit_or a b) (2 ^ k) h in
        and_true (lt-ltb a (2 ^ k) (omega (arith, or_add_and a b, and_le_r a b))) (lt-ltb b (2 ^ k) (omega (arith, or_add_and a b, and_le_l a b)))

    back : (ltb a (2 ^ k) && ltb b (2 ^ k)) ≡ true → ltb (bit_or a b) (2 ^ k) ≡ true
    back h = lt-ltb (bit_or a b) (2 ^ k) (or_lt k a b (ltb-true a (2 ^ k) (and_fst (ltb a (2 ^ k)) _ h)) (ltb-true b (2 ^ k) (and_snd (ltb a (2 ^ k)) _ h)))

-- the words of xs united with u
united_below : (k u : ℕ) (xs : List ℕ) → ltb (fold bit_or u xs) (2 ^ k) ≡ (ltb u (2 ^ k) && all xs (λ x. ltb x (2 ^ k)))
unfolding all
united_below k u [] = sym (and-true (ltb u (2 ^ k)))
united_below k u (x ∷ xs) =
    united_below k (bit_or u x) xs
    ∙ ap (λ (b : Bool). b && all xs (λ y. ltb y (2 ^ k))) (or_below k u x)
    ∙ and_assoc (ltb u (2 ^ k)) (ltb x (2 ^ k)) (all xs (λ y. ltb y (2 ^ k)))

-- m chunks of n words, and the words after them
united_chunks : (n m u : ℕ) (xs : List ℕ) → fold (λ (v : ℕ) (chunk : List ℕ). fold bit_or v chunk) u (first_chunks n m xs) ≡ fold bit_or u (take (m * n) xs)
united_chunks n zero u xs = rw (zero-mul n)
united_chunks n (suc m) u xs = let e : suc m * n ≡ n + m * n = omega (arith, suc-mul m n) in rw (e, take-add, fold-append) (united_chunks n m (fold bit_or u (take n xs)) (drop n xs))

pub united_all : (n m : ℕ) (xs : List ℕ) {u v : ℕ} → u ≡ fold (λ (w : ℕ) (chunk : List ℕ). fold bit_or w chunk) 0 (first_chunks n m xs) → v ≡ fold bit_or u (drop (m * n) xs)
    → (k : ℕ) → ltb v (2 ^ k) ≡ all xs (λ x. ltb x (2 ^ k))
united_all n m xs {u} {v} e f k =
    let whole : v ≡ fold bit_or 0 xs = f ∙ rw (e, united_chunks) (sym (fold-append bit_or 0 (take (m * n) xs) (drop (m * n) xs)) ∙ ap (fold bit_or 0) (take-append-drop (m * n) xs)) in
    rw (whole, united_below k 0 xs, lt-ltb 0 (2 ^ k) (pow_pos k))

-- no bit at all
pub is_none : (u : ℕ) → eqb u 0 ≡ ltb u 1
is_none zero = refl
is_none (suc u) = ne_eqb (suc u) 0 (λ z. omega arith) ∙ sym (le-ltb (suc u) 1 (omega arith))
