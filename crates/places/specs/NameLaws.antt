-- A name is the two words that a place keeps of it.
use Rattle.std.specs.Int.{from_le_bytes}
use Rattle.std.specs.Prelude.{◌≡◌, true, ◌&&◌, List, [], ◌∷◌, length, ◌++◌, ℕ, suc, ◌+◌, ◌*◌, ◌^◌, ◌<◌, eqb, take, drop}
use Rattle.std.proofs.Common.{w64, sym, ap, ◌∙◌, arith, drop_at, take_at, pow-add, eqb-true, eq-eqb}
use Rattle.model.specs.Lists.{same_list}
use Rattle.model.proofs.ListLaws.{same_eq, same_refl}
use Rattle.model.specs.Store.{bytes_of, is_name, number}
use Rattle.model.proofs.StoreLaws.{length_bytes, name_back, number_bytes}
use Rattle.model.proofs.TestLaws.{and_fst, and_snd, and_true, iff_eq}

pub byte_more : (k : ℕ) → 2 ^ (8 * suc k) ≡ 256 * 2 ^ (8 * k)
byte_more k =
    let e : 8 * suc k ≡ 8 + 8 * k = omega arith in
    rw e (pow-add 2 8 (8 * k))

-- a name agrees with two words where both its halves do
module _ (name : List ℕ) (named : is_name name ≡ true) (a b : ℕ) (a_word : a < 2 ^ 64) (b-word : b < 2 ^ 64) where
  pub same_name : same_list (bytes_of 8 a ++ bytes_of 8 b) name ≡ (eqb a (number (take 8 name)) && eqb b (number (drop 8 name)))
  same_name = iff_eq _ _ there back
    where
      there : same_list (bytes_of 8 a ++ bytes_of 8 b) name ≡ true → (eqb a (number (take 8 name)) && eqb b (number (drop 8 name))) ≡ true
      there h =
          let e = same_eq (bytes_of 8 a ++ bytes_of 8 b) name h in
          let first : take 8 name ≡ bytes_of 8 a = rw e at (take_at (bytes_of 8 a) (bytes_of 8 b) 8 (length_bytes 8 a)) in
          let second : drop 8 name ≡ bytes_of 8 b = rw e at (drop_at (bytes_of 8 a) (bytes_of 8 b) 8 (length_bytes 8 a)) in
          and_true (eq-eqb a (number (take 8 name)) (sym (ap number first ∙ number_bytes 8 a a_word))) (eq-eqb b (number (drop 8 name)) (sym (ap number second ∙ number_bytes 8 b b-word)))

      back : (eqb a (number (take 8 name)) && eqb b (number (drop 8 name))) ≡ true → same_list (bytes_of 8 a ++ bytes_of 8 b) name ≡ true
      back h =
          let first : a ≡ number (take 8 name) = eqb-true a (number (take 8 name)) (and_fst (eqb a (number (take 8 name))) _ h) in
          let second : b ≡ number (drop 8 name) = eqb-true b (number (drop 8 name)) (and_snd (eqb a (number (take 8 name))) _ h) in
          rw (first, second, name_back name named) (same_refl name)

-- the words of a name that is read from two words
module _ (a b : ℕ) where
  pub first_word : a < 2 ^ 64 → number (take 8 (bytes_of 8 a ++ bytes_of 8 b)) ≡ a
  first_word h = rw (take_at (bytes_of 8 a) (bytes_of 8 b) 8 (length_bytes 8 a)) (number_bytes 8 a h)

  pub second_word : b < 2 ^ 64 → number (drop 8 (bytes_of 8 a ++ bytes_of 8 b)) ≡ b
  second_word h = rw (drop_at (bytes_of 8 a) (bytes_of 8 b) 8 (length_bytes 8 a)) (number_bytes 8 b h)

-- eight bytes as the library reads them
pub le_number : (bytes : List ℕ) → length bytes ≡ 8 → from_le_bytes w64 bytes ≡ number bytes
unfolding number
le_number (a ∷ (b ∷ (c ∷ (d ∷ (e ∷ (f ∷ (g ∷ (h ∷ [])))))))) size = omega arith
le_number [] size = absurd (omega arith)
le_number (a ∷ []) size = absurd (omega arith)
le_number (a ∷ (b ∷ [])) size = absurd (omega arith)
le_number (a ∷ (b ∷ (c ∷ []))) size = absurd (omega arith)
le_number (a ∷ (b ∷ (c ∷ (d ∷ [])))) size = absurd (omega arith)
le_number (a ∷ (b ∷ (c ∷ (d ∷ (e ∷ []))))) size = absurd (omega arith)
le_number (a ∷ (b ∷ (c ∷ (d ∷ (e ∷ (f ∷ [])))))) size = absurd (omega arith)
le_number (a ∷ (b ∷ (c ∷ (d ∷ (e ∷ (f ∷ (g ∷ []))))))) size = absurd (omega arith)
le_number (a ∷ (b ∷ (c ∷ (d ∷ (e ∷ (f ∷ (g ∷ (h ∷ (x ∷ xs))))))))) size = absurd (omega arith)
