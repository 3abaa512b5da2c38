-- What is found in a store is what the model says of its places.
use Rattle.std.specs.Prelude.{◌≡◌, Bool, not, ◌&&◌, ◌||◌, cond, ◌⊎◌, eqb, ltb, length, get_or, take, drop, set}
use Rattle.std.proofs.Math.Path.{refl, sym}
use Rattle.std.proofs.Common.{ap, ◌∙◌, inl, inr, mul-suc, suc-add, zero-add, arith, length-drop, drop_at, eq-eqb, eqb-true, lt-ltb, ltb-false, ltb-true, ne_eqb}
use Rattle.std.proofs.Math.Bool.{true, false}
use mathlib.Core.List.{List, [], ◌∷◌, ◌++◌, append_assoc, map}
use Prim.Native.Nat.{ℕ, suc, zero, ◌+◌, ◌*◌, ◌-◌, ◌^◌, ◌≤◌, ◌<◌}
use Rattle.std.proofs.Math.Dec.{eqb-suc-suc, eqb-zero-suc, leb-suc-suc}
use Rattle.std.proofs.Math.Seq.{drop-append-add, get_or-drop, get_or-take, take-append-add}
use Rattle.std.proofs.lemmas.Bool.{eqb-false, not-true}
use Rattle.model.specs.Graph.{Graph}
use Rattle.model.specs.Lists.{all, concat, from, nodes}
use Rattle.model.proofs.ListLaws.{all_cong, nodes_out, same_eq}
use Rattle.model.specs.Store.{Place, are_apart, bytes_of, dropping, free, graph_at, is_free, is_full, is_kept, is_name, is_new, is_under, keeping, kept, kept_graph, number, place_in, place_of, place_words, places_in, state_graph, store_of, words_at}
use Rattle.model.proofs.StoreLaws.{bytes_name, place_at, places_length}
use Rattle.model.proofs.TestLaws.{and_fst, and_snd, decide, differ, or_none}
use Rattle.search.specs.Search.{first_from}
use Rattle.search.specs.SearchLaws.{first_cong}
use Rattle.places.specs.NameLaws.{first_word, same_name, second_word}
use Rattle.places.specs.Places.{Readable, first_of, free_at, new_at, place_word, put_at, under_at}

-- a search that begins one later
first_later : (P : ℕ → Bool) (k q : ℕ) → first_from P (suc q) k ≡ suc (first_from (λ i. P (suc i)) q k)
unfolding first_from
first_later P zero q = refl
first_later P (suc k) q = rw (first_later P k (suc q)) (step (P (suc q)))
  where
    step : (b : Bool) → cond b (suc q) (suc (first_from (λ i. P (suc i)) (suc q) k)) ≡ suc (cond b q (first_from (λ i. P (suc i)) (suc q) k))
    step true = refl
    step false = refl

-- the first place of a list that passes
module _ (P : Place → Bool) (x : Place) (xs : List Place) where
  first-here : P x ≡ true → first_of P (x ∷ xs) ≡ 0
  unfolding first_of first_from
  first-here t = rw t

  first-after : P x ≡ false → first_of P (x ∷ xs) ≡ suc (first_of P xs)
  unfolding first_of first_from
  first-after t = rw t (first_later (λ i. P (get_or (x ∷ xs) i free)) (length xs) 0)

first_within : (P : Place → Bool) (xs : List Place) → first_of P xs ≤ length xs
unfolding first_of first_from
first_within P [] = omega arith
first_within P (x ∷ xs) = step (decide (P x)) (first_within P xs)
  where
    step : (P x ≡ true) ⊎ (P x ≡ false) → first_of P xs ≤ length xs → first_of P (x ∷ xs) ≤ suc (length xs)
    step (inl t) below = rw (first-here P x xs t) (omega arith)
    step (inr t) below = rw (first-after P x xs t) (omega arith)

pub kept_first : (name : List ℕ) (xs : List Place) → is_kept name xs ≡ ltb (first_of (is_under name) xs) (length xs)
unfolding is_kept first_of first_from
kept_first name [] = refl
kept_first name (x ∷ xs) = step (decide (is_under name x)) (kept_first name xs)
  where
    step : (is_under name x ≡ true) ⊎ (is_under name x ≡ false) → is_kept name xs ≡ ltb (first_of (is_under name) xs) (length xs) → (is_under name x || is_kept name xs) ≡ ltb (first_of (is_under name) (x ∷ xs)) (suc (length xs))
    step (inl t) below = rw (first-here (is_under name) x xs t, t) (sym (lt-ltb 0 (suc (length xs)) (omega arith)))
    step (inr t) below = rw (first-after (is_under name) x xs t, t, leb-suc-suc (suc (first_of (is_under name) xs)) (length xs)) below

pub graph_first : (name : List ℕ) (xs : List Place) → kept_graph name xs ≡ graph_at (get_or xs (first_of (is_under name) xs) free)
unfolding kept_graph graph_at
graph_first name [] = refl
graph_first name (x ∷ xs) = step (decide (is_under name x)) (graph_first name xs)
  where
    step : (is_under name x ≡ true) ⊎ (is_under name x ≡ false) → kept_graph name xs ≡ graph_at (get_or xs (first_of (is_under name) xs) free) → cond (is_under name x) (graph_at x) (kept_graph name xs) ≡ graph_at (get_or (x ∷ xs) (first_of (is_under name) (x ∷ xs)) free)
    step (inl t) below = rw (first-here (is_under name) x xs t, t)
    step (inr t) below = rw (first-after (is_under name) x xs t, t) below

pub full_first : (xs : List Place) → is_full xs ≡ eqb (first_of is_free xs) (length xs)
unfolding is_full first_of first_from
full_first [] = refl
full_first (x ∷ xs) = step (decide (is_free x)) (full_first xs)
  where
    step : (is_free x ≡ true) ⊎ (is_free x ≡ false) → is_full xs ≡ eqb (first_of is_free xs) (length xs) → (not (is_free x) && is_full xs) ≡ eqb (first_of is_free (x ∷ xs)) (suc (length xs))
    step (inl t) below = rw (first-here is_free x xs t, t) (sym (eqb-zero-suc (length xs)))
    step (inr t) below = rw (first-after is_free x xs t, t, eqb-suc-suc (first_of is_free xs) (length xs)) below

pub keeping_first : (name : List ℕ) (g : Graph) (xs : List Place) → keeping name g xs ≡ set xs (first_of is_free xs) (kept name g)
unfolding keeping
keeping_first name g [] = refl
keeping_first name g (x ∷ xs) = step (decide (is_free x)) (keeping_first name g xs)
  where
    step : (is_free x ≡ true) ⊎ (is_free x ≡ false) → keeping name g xs ≡ set xs (first_of is_free xs) (kept name g) → cond (is_free x) (kept name g ∷ xs) (x ∷ keeping name g xs) ≡ set (x ∷ xs) (first_of is_free (x ∷ xs)) (kept name g)
    step (inl t) below = rw (first-here is_free x xs t, t)
    step (inr t) below = rw (first-after is_free x xs t, t) (ap (λ (l : List Place). x ∷ l) below)

-- where names are apart, only the first place of a name is dropped
dropping_none : (name : List ℕ) (xs : List Place) → is_kept name xs ≡ false → dropping name xs ≡ xs
unfolding dropping is_kept
dropping_none name [] h = refl
dropping_none name (x ∷ xs) h =
    let parts = or_none (is_under name x) (is_kept name xs) h in
    rw parts.0 (ap (λ (l : List Place). x ∷ l) (dropping_none name xs parts.1))

under_new : (name : List ℕ) (x : Place) (xs : List Place) → is_under name x ≡ true → is_new x xs ≡ true → is_kept name xs ≡ false
unfolding is_under is_new
under_new name free xs t h = differ t refl
under_new name (kept s g) xs t h = rw (same_eq s name t) at (not-true (is_kept s xs) h)

pub dropping_first : (name : List ℕ) (xs : List Place) → are_apart xs ≡ true → dropping name xs ≡ set xs (first_of (is_under name) xs) free
unfolding dropping are_apart
dropping_first name [] h = refl
dropping_first name (x ∷ xs) h = step (decide (is_under name x)) (dropping_first name xs (and_snd (is_new x xs) (are_apart xs) h))
  where
    step : (is_under name x ≡ true) ⊎ (is_under name x ≡ false) → dropping name xs ≡ set xs (first_of (is_under name) xs) free → cond (is_under name x) free x ∷ dropping name xs ≡ set (x ∷ xs) (first_of (is_under name) (x ∷ xs)) free
    step (inl t) below = rw (first-here (is_under name) x xs t, t) (ap (λ (l : List Place). free ∷ l) (dropping_none name xs (under_new name x xs t (and_fst (is_new x xs) (are_apart xs) h))))
    step (inr t) below = rw (first-after (is_under name) x xs t, t) (ap (λ (l : List Place). x ∷ l) below)

-- names are apart where each place is new to those after it
all-later : (f : ℕ → Bool) (a k : ℕ) → all (from (suc a) k) f ≡ all (from a k) (λ i. f (suc i))
unfolding all from
all-later f a zero = refl
all-later f a (suc k) = rw (all-later f (suc a) k)

pub apart-all : (xs : List Place) → are_apart xs ≡ all (nodes (length xs)) (λ i. is_new (get_or xs i free) (drop (suc i) xs))
unfolding are_apart all nodes from
apart-all [] = refl
apart-all (x ∷ xs) = rw (apart-all xs) (ap (◌&&◌ (is_new x xs)) (sym (all-later (λ i. is_new (get_or (x ∷ xs) i free) (drop (suc i) (x ∷ xs))) 0 (length xs))))

-- a search that begins at m is one of the places from m on
first_from_lem : (P : ℕ → Bool) (k m : ℕ) → first_from P m k ≡ m + first_from (λ i. P (m + i)) 0 k
first_from_lem P k zero = sym (zero-add (first_from (λ i. P (0 + i)) 0 k) ∙ first_cong (λ i. P (0 + i)) P k 0 (λ i l. ap P (zero-add i)))
first_from_lem P k (suc m) =
    first_later P k m
    ∙ ap suc (first_from_lem (λ i. P (suc i)) k m ∙ ap (λ (r : ℕ). m + r) (first_cong (λ i. P (suc (m + i))) (λ i. P (suc m + i)) k 0 (λ i l. ap P (sym (suc-add m i)))))
    ∙ sym (suc-add m (first_from (λ i. P (suc m + i)) 0 k))

first_drop : (P : Place → Bool) (xs : List Place) (m : ℕ) → first_from (λ i. P (get_or xs i free)) m (length xs - m) ≡ m + first_of P (drop m xs)
unfolding first_of
first_drop P xs m =
    first_from_lem (λ i. P (get_or xs i free)) (length xs - m) m
    ∙ ap (λ (r : ℕ). m + r)
    (rw (length-drop m xs) (first_cong (λ i. P (get_or xs (m + i) free)) (λ i. P (get_or (drop m xs) i free)) (length xs - m) 0 (λ i l. ap P (sym (get_or-drop m xs i free)))))

-- so a name is new where the search from the next place on finds none
pub new_first : (name : List ℕ) (xs : List Place) (m : ℕ) → m ≤ length xs → not (is_kept name (drop m xs)) ≡ eqb (first_from (λ i. is_under name (get_or xs i free)) m (length xs - m)) (length xs)
new_first name xs m h = rw (kept_first name (drop m xs), first_drop (is_under name) xs m) (step (decide (ltb (first_of (is_under name) (drop m xs)) (length (drop m xs)))))
  where
    r : ℕ
    r = first_of (is_under name) (drop m xs)

    within : r ≤ length (drop m xs)
    within = first_within (is_under name) (drop m xs)

    step : (ltb r (length (drop m xs)) ≡ true) ⊎ (ltb r (length (drop m xs)) ≡ false) → not (ltb r (length (drop m xs))) ≡ eqb (m + r) (length xs)
    step (inl t) = rw t (sym (ne_eqb (m + r) (length xs) (λ e. omega (arith, ltb-true r (length (drop m xs)) t, length-drop m xs))))
    step (inr t) = rw t (sym (eq-eqb (m + r) (length xs) (omega (arith, ltb-false r (length (drop m xs)) t, length-drop m xs, within))))

-- the places of a store
module _ (n : ℕ) (s : List ℕ) where
  pub word_at : (i k : ℕ) → k < 3 → get_or (words_at n s i) k 0 ≡ place_word n s i k
  unfolding words_at place_word
  word_at i k h = get_or-take (place_words n) (drop (1 + place_words n * i) s) k 0 (omega arith) ∙ get_or-drop (1 + place_words n * i) s k 0

  -- whether a place is free
  free-at : (i : ℕ) → is_free (place_in n (words_at n s i)) ≡ free_at n s i
  unfolding place_in free_at is_free
  free-at i = rw (word_at i 0 (omega arith)) (step (eqb (place_word n s i 0) 0) _ _)
    where
      step : (b : Bool) (name : List ℕ) (g : Graph) → is_free (cond b free (kept name g)) ≡ b
      step true name g = refl
      step false name g = refl

  pub free_found : (r : ℕ) → r ≡ first_from (free_at n s) 0 8 → r ≡ first_of is_free (places_in n s)
  unfolding first_of
  free_found r e = e ∙ rw (places_length n s) (first_cong (free_at n s) (λ i. is_free (get_or (places_in n s) i free)) 8 0 (λ i l. sym (ap is_free (place_at n s i (omega arith)) ∙ free-at i)))

  pub full_found : (r : ℕ) → r ≡ first_from (free_at n s) 0 8 → is_full (places_in n s) ≡ eqb r 8
  full_found r e = full_first (places_in n s) ∙ rw (← free_found r e, places_length n s)

  pub keeping_found : (name : List ℕ) (g : Graph) (r : ℕ) → r ≡ first_from (free_at n s) 0 8 → keeping name g (places_in n s) ≡ set (places_in n s) r (kept name g)
  keeping_found name g r e = keeping_first name g (places_in n s) ∙ rw (← free_found r e)

-- whether a place is under a name
module _ (n : ℕ) (s : List ℕ) (readable : Readable n s) where
  word_small : (i k : ℕ) → place_word n s i k < 2 ^ 64
  unfolding place_word
  word_small i k = readable.words (1 + place_words n * i + k)

  pub under_at_lem : (name : List ℕ) → is_name name ≡ true → (i : ℕ) → i < 8 → is_under name (place_in n (words_at n s i)) ≡ under_at n s (number (take 8 name)) (number (drop 8 name)) i
  unfolding place_in under_at is_under
  under_at_lem name named i h = rw (word_at n s i 0 (omega arith), word_at n s i 1 (omega arith), word_at n s i 2 (omega arith)) (step (decide (eqb w₀ 0)))
    where
      w₀ : ℕ
      w₀ = place_word n s i 0

      step : (eqb w₀ 0 ≡ true) ⊎ (eqb w₀ 0 ≡ false)
          → is_under name (cond (eqb w₀ 0) free (kept (bytes_of 8 (place_word n s i 1) ++ bytes_of 8 (place_word n s i 2)) (state_graph n (take (8 * n) (drop 3 (words_at n s i))) (drop (3 + 8 * n) (words_at n s i)))))
          ≡ (eqb w₀ 1 && (eqb (place_word n s i 1) (number (take 8 name)) && eqb (place_word n s i 2) (number (drop 8 name))))
      step (inl t) = rw (t, ne_eqb w₀ 1 (λ e. omega (arith, eqb-true w₀ 0 t)))
      step (inr t) =
          let one : w₀ ≡ 1 = omega (arith, eqb-false w₀ 0 t, readable.used i h) in
          rw (t, eq-eqb w₀ 1 one) (same_name name named (place_word n s i 1) (place_word n s i 2) (word_small i 1) (word_small i 2))

  under-cong : (name : List ℕ) → is_name name ≡ true → (q k : ℕ) → q + k ≤ 8
      → first_from (λ i. is_under name (get_or (places_in n s) i free)) q k ≡ first_from (under_at n s (number (take 8 name)) (number (drop 8 name))) q k
  under-cong name named q k h = first_cong (λ i. is_under name (get_or (places_in n s) i free)) (under_at n s (number (take 8 name)) (number (drop 8 name))) k q (λ i l. ap (is_under name) (place_at n s i (omega arith)) ∙ under_at_lem name named i (omega arith))

  -- what a search for a name finds
  module _ (name : List ℕ) (named : is_name name ≡ true) (a b r : ℕ) (first : a ≡ number (take 8 name)) (second : b ≡ number (drop 8 name)) (found : r ≡ first_from (under_at n s a b) 0 8) where
    pub under_found : r ≡ first_of (is_under name) (places_in n s)
    unfolding first_of
    under_found = found ∙ rw (first, second, places_length n s) (sym (under-cong name named 0 8 (omega arith)))

    pub kept_found : is_kept name (places_in n s) ≡ ltb r 8
    kept_found = kept_first name (places_in n s) ∙ rw (← under_found, places_length n s)

    pub graph_found : r < 8 → kept_graph name (places_in n s) ≡ graph_at (place_in n (words_at n s r))
    graph_found h = graph_first name (places_in n s) ∙ rw (← under_found, place_at n s r h)

    pub dropping_found : are_apart (places_in n s) ≡ true → dropping name (places_in n s) ≡ set (places_in n s) r free
    dropping_found h = dropping_first name (places_in n s) h ∙ rw (← under_found)

  -- whether names are apart
  new-at : (i : ℕ) → i < 8 → is_new (place_in n (words_at n s i)) (drop (suc i) (places_in n s)) ≡ new_at n s i
  unfolding place_in new_at is_new
  new-at i h = rw (word_at n s i 0 (omega arith), word_at n s i 1 (omega arith), word_at n s i 2 (omega arith)) (step (decide (eqb w₀ 0)))
    where
      w₀ : ℕ
      w₀ = place_word n s i 0

      w₁ : ℕ
      w₁ = place_word n s i 1

      w₂ : ℕ
      w₂ = place_word n s i 2

      searched : not (is_kept (bytes_of 8 w₁ ++ bytes_of 8 w₂) (drop (suc i) (places_in n s))) ≡ eqb (first_from (under_at n s w₁ w₂) (i + 1) (8 - (i + 1))) 8
      searched =
          let e : i + 1 ≡ suc i = omega arith in
          new_first (bytes_of 8 w₁ ++ bytes_of 8 w₂) (places_in n s) (suc i) (omega (arith, places_length n s))
          ∙ rw (e, places_length n s, under-cong (bytes_of 8 w₁ ++ bytes_of 8 w₂) (bytes_name w₁ w₂) (suc i) (8 - suc i) (omega arith), first_word w₁ w₂ (word_small i 1), second_word w₁ w₂ (word_small i 2))

      step : (eqb w₀ 0 ≡ true) ⊎ (eqb w₀ 0 ≡ false)
          → is_new (cond (eqb w₀ 0) free (kept (bytes_of 8 w₁ ++ bytes_of 8 w₂) (state_graph n (take (8 * n) (drop 3 (words_at n s i))) (drop (3 + 8 * n) (words_at n s i))))) (drop (suc i) (places_in n s))
          ≡ (not (eqb w₀ 1) || eqb (first_from (under_at n s w₁ w₂) (i + 1) (8 - (i + 1))) 8)
      step (inl t) = rw (t, ne_eqb w₀ 1 (λ e. omega (arith, eqb-true w₀ 0 t)))
      step (inr t) =
          let one : w₀ ≡ 1 = omega (arith, eqb-false w₀ 0 t, readable.used i h) in
          rw (t, eq-eqb w₀ 1 one) searched

  pub apart_found : are_apart (places_in n s) ≡ all (nodes 8) (new_at n s)
  apart_found =
      apart-all (places_in n s)
      ∙ rw (places_length n s)
      (all_cong (λ i. is_new (get_or (places_in n s) i free) (drop (suc i) (places_in n s))) (new_at n s) (nodes 8)
      (λ i m. ap (λ (x : Place). is_new x (drop (suc i) (places_in n s))) (place_at n s i (nodes_out 8 i m)) ∙ new-at i (nodes_out 8 i m)))

-- a place replaced in a store
put_block : (f : Place → List ℕ) (w : ℕ) (xs : List Place) (i : ℕ) (x : Place) → i < length xs → ((k : ℕ) → k < length xs → length (f (get_or xs k free)) ≡ w)
    → concat (map f (set xs i x)) ≡ take (w * i) (concat (map f xs)) ++ (f x ++ drop (w * (i + 1)) (concat (map f xs)))
unfolding concat
put_block f w [] i x h size = absurd (omega arith)
put_block f w (y ∷ ys) zero x h size =
    let start : w * 0 ≡ 0 = omega arith in
    let after : length (f y) ≡ w * (0 + 1) = omega (arith, size 0 h) in
    rw (start, drop_at (f y) (concat (map f ys)) (w * (0 + 1)) after)
put_block f w (y ∷ ys) (suc i) x h size =
    let start : w * suc i ≡ length (f y) + w * i = omega (arith, mul-suc w i, size 0 (omega arith)) in
    let after : w * (suc i + 1) ≡ length (f y) + w * (i + 1) = omega (arith, mul-suc w (i + 1), size 0 (omega arith)) in
    rw (start, after, take-append-add (f y) (concat (map f ys)) (w * i), drop-append-add (f y) (concat (map f ys)) (w * (i + 1)), append_assoc)
    (ap (λ (l : List ℕ). f y ++ l) (put_block f w ys i x (omega arith) (λ k l. size (suc k) (omega arith))))

pub put_store : (n : ℕ) (xs : List Place) (i : ℕ) (x : Place) → i < length xs → ((k : ℕ) → k < length xs → length (place_of n (get_or xs k free)) ≡ place_words n) → store_of n (set xs i x) ≡ put_at n (store_of n xs) i (place_of n x)
unfolding store_of put_at
put_store n xs i x h size =
    let start : 1 + place_words n * i ≡ suc (place_words n * i) = omega arith in
    let after : 1 + place_words n * (i + 1) ≡ suc (place_words n * (i + 1)) = omega arith in
    rw (start, after) (ap (λ (l : List ℕ). suc n ∷ l) (put_block (place_of n) (place_words n) xs i x h size))
