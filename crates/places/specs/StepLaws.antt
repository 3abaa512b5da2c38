-- What the steps of the searches do with the words of a store.
use Rattle.std.proofs.lemmas.Option.{same_Some}
use Rattle.std.specs.Array.{IsWholeChunk}
use Rattle.std.specs.Int.{from_le_bytes}
use Rattle.std.specs.Option.{is_some}
use Rattle.std.specs.Result.{result_ok}
use Rattle.std.specs.Prelude.{◌≡◌, refl, Bool, true, false, not, ◌&&◌, Option, None, Some, Result, Ok, Err, MatchResult, List, ◌++◌, map, eqb, ltb, length, get_or, take, drop, set, replicate}
use Rattle.std.proofs.Common.{w64, sym, ap, ◌∙◌, mul-le-mul_left, arith, length-drop, length-take, pow_mono, drop-cons, drop-drop, take_all}
use Rattle.std.proofs.Math.Bool.{and-false}
use Prim.Native.Nat.{ℕ, suc, zero, ◌+◌, ◌*◌, ◌-◌, ◌^◌, ◌≤◌, ◌<◌}
use Rattle.std.proofs.lemmas.List.{replicate-append-replicate}
use borrow.Author.Tests.{eq-eqb, eqb-true, le-ltb, lt-ltb, ltb-false, ne_eqb, not-false, not-true}
use Rattle.model.specs.Lists.{concat}
use Rattle.model.specs.Store.{free, no_states, number, place_of, place_words, store_of, store_words, words_at, wrong_store}
use Rattle.model.proofs.TestLaws.{or_none}
use Rattle.search.specs.Search.{first_from}
use Rattle.places.specs.NameLaws.{byte_more, le_number}
use Rattle.places.specs.Places.{Found, HighBytes, Named, free_at, new_at, place_word, put_at, under_at}

-- the length of a store
pub many_nodes : (n k : ℕ) → 512 < n → false ≡ not (wrong_store n k)
unfolding wrong_store
many_nodes n k h = rw (lt-ltb 512 n h)

pub right_length : (n k w : ℕ) → n ≤ 512 → w ≡ store_words n → eqb k w ≡ not (wrong_store n k)
unfolding wrong_store
right_length n k w h e = rw (le-ltb 512 n h, e) (twice (eqb k (store_words n)))
  where
    twice : (b : Bool) → b ≡ not (not b)
    twice true = refl
    twice false = refl

pub store_sized : (n k : ℕ) (f : Bool) → f ≡ not (wrong_store n k) → f ≡ true → (n ≤ 512) × (k ≡ store_words n)
unfolding wrong_store
store_sized n k f e h =
    let a = or_none (ltb 512 n) _ (not-true (wrong_store n k) (sym e ∙ h)) in
    (ltb-false 512 n a.0, eqb-true k (store_words n) (not-false _ a.1))

-- a name of two words
pub second_half : (s : List ℕ) → length s ≡ 16 → take 8 (drop 8 s) ≡ drop 8 s
second_half s e = take_all 8 (drop 8 s) (omega (arith, length-drop 8 s))

-- a place lies inside its store
pub place_inside : (n i : ℕ) → i < 8 → 1 + place_words n * i + place_words n ≤ store_words n
place_inside n i h = omega (arith, mul-le-mul_left (3 + 9 * n) h)

pub start_small : (n i w : ℕ) → n ≤ 512 → i ≤ 8 → w ≡ place_words n → w * i ≤ 36888
start_small n i w h l e = rw e (omega (arith, mul-le-mul_left (3 + 9 * n) l))

pub start_is : (n i w : ℕ) → w ≡ place_words n → 1 + w * i ≡ 1 + place_words n * i
start_is n i w e = rw e

pub word_inside : (n i k a : ℕ) → i < 8 → k < 3 → a ≡ 1 + place_words n * i → a + k < store_words n
word_inside n i k a h l e = omega (arith, place_inside n i h)

pub word_is : (n : ℕ) (s : List ℕ) (i k a : ℕ) → a ≡ 1 + place_words n * i → get_or s (a + k) 0 ≡ place_word n s i k
unfolding place_word
word_is n s i k a e = rw e

-- bytes read from the high one down
pub high_none : (bytes : List ℕ) (at : ℕ) → HighBytes bytes at 8 0
unfolding number
high_none bytes at = record { few = omega arith; is = refl; small = omega arith }

module _ {bytes : List ℕ} {at i w : ℕ} (h : HighBytes bytes at i w) (more : 0 < i) where
  pub high_room : w * 256 + 256 ≤ 2 ^ 64
  high_room =
      let few : 8 * (8 - i) ≤ 56 = omega (arith, h.few) in
      let room : 2 ^ (8 * (8 - i)) ≤ 2 ^ 56 = pow_mono few in
      omega (arith, h.small)

  pub high_more : at + 8 ≤ length bytes → get_or bytes (at + (i - 1)) 0 < 256 → HighBytes bytes at (i - 1) (w * 256 + get_or bytes (at + (i - 1)) 0)
  unfolding number
  high_more inside low = record { few = omega (arith, h.few); is = is; small = small }
    where
      one : 8 - (i - 1) ≡ suc (8 - i)
      one = omega (arith, h.few)

      next : suc (at + (i - 1)) ≡ at + i
      next = omega arith

      is : w * 256 + get_or bytes (at + (i - 1)) 0 ≡ number (take (8 - (i - 1)) (drop (at + (i - 1)) bytes))
      is = rw (one, drop-cons bytes (at + (i - 1)) 0 (omega (arith, h.few)), next) (omega (arith, h.is))

      small : w * 256 + get_or bytes (at + (i - 1)) 0 < 2 ^ (8 * (8 - (i - 1)))
      small = rw one (omega (arith, h.small, byte_more (8 - i)))

pub high_done : {bytes : List ℕ} {at i w : ℕ} → HighBytes bytes at i w → i ≤ 0 → w ≡ number (take 8 (drop at bytes))
high_done {bytes} {at} {i} {w} h l =
    let e : 8 - i ≡ 8 = omega arith in
    let d : at + i ≡ at = omega arith in
    rw (← e, ← d) h.is

-- a name from its bytes
pub name_read : (bytes first rest second : List ℕ) {E : Type 0} (r : Result (List ℕ) E) (Q : E → Type 0) (a b : ℕ)
    → (first ≡ take 8 bytes) × (rest ≡ drop 8 bytes) × (length rest + 8 ≡ length bytes) → MatchResult r (λ y. IsWholeChunk rest y 8) Q → Some second ≡ result_ok r
    → a ≡ from_le_bytes w64 first → b ≡ from_le_bytes w64 second → Named bytes (record { first = a; second = b })
name_read bytes first rest second (Err x) Q a b h m e p q = cc
name_read bytes first rest second (Ok y) Q a b h m e p q = record {
  size = omega (arith, h.2, m.long);
  first = p ∙ ap (from_le_bytes w64) h.0 ∙ le_number (take 8 bytes) (simp length-take (omega (arith, h.2, m.long)));
  second = q ∙ ap (from_le_bytes w64) same ∙ le_number (drop 8 bytes) (simp length-drop (omega (arith, h.2, m.long)));
}
  where
    same : second ≡ drop 8 bytes
    same = same_Some _ _ e ∙ m.same ∙ h.1

-- a search that found nothing
pub found_nothing : (o : Option ℕ) (r : ℕ) {b : Bool} → Found o r → is_some o ≡ not b → b ≡ eqb r 8
found_nothing None r {b} h e = not-false b (sym e) ∙ sym (eq-eqb r 8 h)
found_nothing (Some i) r {b} h e = not-true b (sym e) ∙ sym (ne_eqb r 8 (λ k. omega (arith, h.0, h.1)))

-- the steps of the code
module _ (n : ℕ) (s : List ℕ) (a b i : ℕ) where
  pub under_free : (x : ℕ) → x ≡ place_word n s i 0 → (x ≡ 1 → ⊥) → false ≡ under_at n s a b i
  unfolding under_at
  under_free x e d = rw (ne_eqb (place_word n s i 0) 1 (λ h. d (e ∙ h)))

  pub under_other : (x : ℕ) → x ≡ place_word n s i 1 → (x ≡ a → ⊥) → false ≡ under_at n s a b i
  unfolding under_at
  under_other x e d = rw (ne_eqb (place_word n s i 1) a (λ h. d (e ∙ h))) (sym (and-false (eqb (place_word n s i 0) 1)))

  pub under_second : (x y z : ℕ) → x ≡ place_word n s i 0 → x ≡ 1 → y ≡ place_word n s i 1 → y ≡ a → z ≡ place_word n s i 2 → eqb z b ≡ under_at n s a b i
  unfolding under_at
  under_second x y z e u f v g = rw (eq-eqb (place_word n s i 0) 1 (sym e ∙ u), eq-eqb (place_word n s i 1) a (sym f ∙ v), ← g)

  pub under_used : {x y z : ℕ} {r : Bool} → x ≡ place_word n s i 0 → x ≡ 1 → y ≡ place_word n s i 1 → z ≡ place_word n s i 2 → r ≡ (eqb y a && eqb z b) → r ≡ under_at n s a b i
  unfolding under_at
  under_used e u f g h = rw (← e, eq-eqb _ 1 u, ← f, ← g) h

module _ (n : ℕ) (s : List ℕ) (i : ℕ) where
  pub free_is : {b : Bool} (x : ℕ) → x ≡ place_word n s i 0 → eqb x 0 ≡ b → free_at n s i ≡ b
  unfolding free_at
  free_is x e t = rw (← e) t

  pub new_free : (x : ℕ) → x ≡ place_word n s i 0 → (x ≡ 1 → ⊥) → true ≡ new_at n s i
  unfolding new_at
  new_free x e d = rw (ne_eqb (place_word n s i 0) 1 (λ h. d (e ∙ h)))

  pub new_used : (x y z r : ℕ) → x ≡ place_word n s i 0 → x ≡ 1 → y ≡ place_word n s i 1 → z ≡ place_word n s i 2 → r ≡ first_from (under_at n s y z) (i + 1) (8 - (i + 1)) → eqb r 8 ≡ new_at n s i
  unfolding new_at
  new_used x y z r e u f g h = rw (eq-eqb (place_word n s i 0) 1 (sym e ∙ u), ← f, ← g, h)

-- a store without states
no_places : (n k : ℕ) → concat (map (place_of n) (replicate k free)) ≡ replicate (k * place_words n) 0
unfolding concat place_of
no_places n zero = let e : 0 * place_words n ≡ 0 = omega arith in rw e
no_places n (suc k) =
    let e : place_words n + k * place_words n ≡ suc k * place_words n = omega arith in
    rw (no_places n k, ← e) (replicate-append-replicate {A = ℕ} (place_words n) (k * place_words n) 0)

pub empty_is : (n : ℕ) (s t : List ℕ) → length s ≡ store_words n → t ≡ replicate (length s) 0 → set t 0 (n + 1) ≡ store_of n no_states
unfolding store_of
empty_is n s t size e =
    let f : length s ≡ suc (8 * place_words n) = omega arith in
    let g : n + 1 ≡ suc n = omega arith in
    ap (λ (l : List ℕ). set l 0 (n + 1)) (e ∙ ap (λ (k : ℕ). replicate k 0) f) ∙ rw (g, no_places n 8)

-- the words of place i lent as a part, which begins at a and ends at b
module _ (n : ℕ) (s : List ℕ) (i a b : ℕ) (begins : a ≡ 1 + place_words n * i) (ends : b ≡ 1 + place_words n * (i + 1)) where
  pub part_width : b ≡ a + place_words n
  part_width = omega arith

  pub part_ends : i < 8 → length s ≡ store_words n → b ≤ length s
  part_ends h size = omega (arith, part_width, place_inside n i h)

  pub part_size : i < 8 → length s ≡ store_words n → length (take (b - a) (drop a s)) ≡ place_words n
  part_size h size = simp (length-take, length-drop) (omega (arith, part_width, place_inside n i h))

  pub part_words : take (b - a) (drop a s) ≡ words_at n s i
  unfolding words_at
  part_words = let f : b - a ≡ place_words n = omega (arith, part_width) in rw (f, begins)

  pub put_part : (t w : List ℕ) → t ≡ w → take a s ++ (t ++ drop (b - a) (drop a s)) ≡ put_at n s i w
  unfolding put_at
  put_part t w e =
      let f : a + (b - a) ≡ b = omega (arith, part_width) in
      rw (drop-drop (b - a) a s, f, e, begins, ends)
