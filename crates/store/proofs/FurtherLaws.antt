-- Further laws of these definitions, which no proof here cites.
use Rattle.std.proofs.Math.Path.{◌≡◌, refl, sym, ap}
use Rattle.std.proofs.Common.{◌∙◌, inl, inr, arith, length-take, get_or-drop, get_or-take, take_all, ltb-true, ltb-false}
use Rattle.std.specs.Prelude.{Bool, cond, ◌&&◌, List, [], ◌≢◌, ◌⊎◌, ℕ, suc, zero, ◌+◌, ◌*◌, ◌-◌, ◌^◌, ◌≤◌, ◌<◌, eqb, ltb, length, get_or, take, drop}
use Rattle.std.proofs.Math.Bool.{true, false, not}
use Rattle.std.proofs.Math.ListN.{length-drop, get_or-eq_default}
use borrow.Author.Tests.{not-true, not-false}
use Rattle.model.specs.Lists.{all}
use Rattle.model.specs.Graph.{max_nodes, row_words}
use Rattle.model.specs.Store.{is_name, is_store, max_states, name_bytes, number, place_words, store_words, words_at, wrong_name, wrong_store}
use Rattle.model.specs.Refusals.{first_of}
use Rattle.model.proofs.TestLaws.{decide}
use Rattle.rows.specs.Rows.{Words}
use Rattle.search.specs.Search.{first_from}
use Rattle.edges.specs.Edges.{edges_hold}
use Rattle.states.specs.States.{word_limit}
use Rattle.tables.specs.LentLaws.{lent_passed}
use Rattle.places.specs.Places.{free_at, under_at}
use Rattle.places.specs.StepLaws.{part_words}
use Rattle.store.specs.Judging.{place_holds}
use Rattle.store.specs.Stored.{Judged, store_reasons}
use Rattle.store.proofs.StoredLaws.{bytes_all, named}

-- the words of a place are words
pub place_words_lem : (n : ℕ) (s : List ℕ) (i : ℕ) → Words s → Words (words_at n s i)
unfolding words_at
place_words_lem n s i h k = step (decide (ltb k (place_words n)))
  where
    step : (ltb k (place_words n) ≡ true) ⊎ (ltb k (place_words n) ≡ false) → get_or (take (place_words n) (drop (1 + place_words n * i) s)) k 0 < 2 ^ 64
    step (inl t) = rw (get_or-take (place_words n) (drop (1 + place_words n * i) s) k 0 (ltb-true k (place_words n) t), get_or-drop (1 + place_words n * i) s k 0) (h (1 + place_words n * i + k))
    step (inr t) = omega (arith, get_or-eq_default (take (place_words n) (drop (1 + place_words n * i) s)) 0 {n = k} (omega (arith, ltb-false k (place_words n) t, length-take (place_words n) (drop (1 + place_words n * i) s))))

-- the test of the edges and the words of a place
module _ (n : ℕ) (edges words : List ℕ) where
  pub edges_fail : edges_hold n edges ≡ false → false ≡ (edges_hold n edges && all words (λ x. ltb x word_limit))
  edges_fail e = rw e

-- a place lent in parts
module _ (n : ℕ) (w : List ℕ) (size : length w ≡ place_words n) where
  pub edges_part : take (3 + row_words * n - 3) (drop 3 w) ≡ take (row_words * n) (drop 3 w)
  edges_part = let e : 3 + row_words * n - 3 ≡ row_words * n = omega arith in rw e

  pub nodes_part : take (length w - (3 + row_words * n)) (drop (3 + row_words * n) w) ≡ drop (3 + row_words * n) w
  nodes_part = take_all (length w - (3 + row_words * n)) (drop (3 + row_words * n) w) (omega (arith, length-drop (3 + row_words * n) w))

pub part_holds : (n : ℕ) (s : List ℕ) (i a b : ℕ) → a ≡ 1 + place_words n * i → b ≡ 1 + place_words n * (i + 1) → {r : Bool} → r ≡ place_holds n (take (b - a) (drop a s)) → r ≡ place_holds n (words_at n s i)
part_holds n s i a b begins ends k = k ∙ ap (place_holds n) (part_words n s i a b begins ends)

-- 11 of a store and a name, by their lengths
module _ (n k : ℕ) (name : List ℕ) (f : Bool) (e : f ≡ not (wrong_store n k)) where
  pub name-length : f ≡ true → ((i : ℕ) → get_or name i 0 < 256) → eqb (length name) name_bytes ≡ not (wrong_name n k name)
  unfolding wrong_name is_name
  name-length h bytes = rw (not-true (wrong_store n k) (sym e ∙ h), bytes_all name bytes) (step (eqb (length name) name_bytes))
    where
      step : (b : Bool) → b ≡ not (not (b && true))
      step true = refl
      step false = refl

pub named_by : (n k : ℕ) (name : List ℕ) (f : Bool) → f ≡ not (wrong_name n k name) → f ≡ true → (n ≤ max_nodes) × (k ≡ store_words n) × (is_name name ≡ true)
named_by n k name f e h = named n k name (not-true (wrong_name n k name) (sym e ∙ h))

-- what a search finds
first_le : (P : ℕ → Bool) (k q : ℕ) → first_from P q k ≤ q + k
unfolding first_from
first_le P zero q = omega arith
first_le P (suc k) q = step (P q) (first_le P k (suc q))
  where
    step : (b : Bool) → first_from P (suc q) k ≤ suc q + k → cond b q (first_from P (suc q) k) ≤ q + suc k
    step true h = omega arith
    step false h = omega arith

module _ (n : ℕ) (s name : List ℕ) (j : Judged n s name) (words : Words s) where
  module _ (a b : ℕ) (first : a ≡ number (take 8 name)) (second : b ≡ number (drop 8 name)) (i : ℕ) (found : i ≡ first_from (under_at n s a b) 0 max_states) where
    pub found_below : i ≢ max_states → i < max_states
    found_below d = omega (arith, first_le (under_at n s a b) max_states 0)

  module _ (i : ℕ) (found : i ≡ first_from (free_at n s) 0 max_states) where
    pub free_below : i ≢ max_states → i < max_states
    free_below d = omega (arith, first_le (free_at n s) max_states 0)

-- a store and a name that are not refused
module _ (n : ℕ) (s name : List ℕ) (r : ℕ) (e : r ≡ first_of (store_reasons n s name [])) where
  module _ (z : r ≡ 0) where
    pub drop-judged : Judged n s name
    drop-judged =
        let p = lent_passed (wrong_name n (length s) name) (not (is_store n s)) r e z in
        let q = named n (length s) name p.0 in
        record { small = q.0; size = q.1; named = q.2; store = not-false _ p.1 }
