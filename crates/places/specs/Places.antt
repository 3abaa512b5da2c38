-- What the searches of a store look at.
use Rattle.std.specs.Prelude.{◌≡◌, Bool, not, ◌&&◌, ◌||◌, List, ◌++◌, ℕ, ◌+◌, ◌*◌, ◌-◌, ◌^◌, ◌≤◌, ◌<◌, Option, MatchOption, eqb, length, get_or, take, drop}
use Rattle.model.specs.Graph.{max_nodes}
use Rattle.model.specs.Store.{Place, free, max_states, name_bytes, number, place_words, store_words}
use Rattle.places.specs.declared.Name.{Name}
use Rattle.rows.specs.Rows.{Words}
use Rattle.search.specs.Search.{first_from}

-- word k of place i
unfoldable pub place_word : ℕ → List ℕ → ℕ → ℕ → ℕ
place_word n s i k = get_or s (1 + place_words n * i + k) 0

-- place i is free
unfoldable pub free_at : ℕ → List ℕ → ℕ → Bool
free_at n s i = eqb (place_word n s i 0) 0

-- place i is used, and a and b are the two words of its name
unfoldable pub under_at : ℕ → List ℕ → ℕ → ℕ → ℕ → Bool
under_at n s a b i = eqb (place_word n s i 0) 1 && (eqb (place_word n s i 1) a && eqb (place_word n s i 2) b)

-- no later place has the name of place i
unfoldable pub new_at : ℕ → List ℕ → ℕ → Bool
new_at n s i = not (eqb (place_word n s i 0) 1) || eqb (first_from (under_at n s (place_word n s i 1) (place_word n s i 2)) (i + 1) (max_states - (i + 1))) max_states

-- the words of place i replaced by w
unfoldable pub put_at : ℕ → List ℕ → ℕ → List ℕ → List ℕ
put_at n s i w = take (1 + place_words n * i) s ++ (w ++ drop (1 + place_words n * (i + 1)) s)

-- w is the number of the bytes from at + i up to at + 8
pub record HighBytes (bytes : List ℕ) (at i w : ℕ) : Type 0 where
  pub few : i ≤ 8
  pub is : w ≡ number (take (8 - i) (drop (at + i) bytes))
  pub small : w < 2 ^ (8 * (8 - i))

-- a store has as many words as one for n nodes
pub record SizedStore (n : ℕ) (s : List ℕ) : Type 0 where
  pub small : n ≤ max_nodes
  pub words : length s ≡ store_words n

-- the two words of a name of sixteen bytes
pub record Named (bytes : List ℕ) (name : Name) : Type 0 where
  pub size : length bytes ≡ name_bytes
  pub first : name.first ≡ number (take 8 bytes)
  pub second : name.second ≡ number (drop 8 bytes)

-- a search of the places got to r: no place, or this one
abbrev pub Found : Option ℕ → ℕ → Type 0
Found o r = MatchOption o (r ≡ max_states) (λ i. (i ≡ r) × (i < max_states))

-- a store whose words fit, and whose places are free or used
pub record Readable (n : ℕ) (s : List ℕ) : Type 0 where
  pub words : Words s
  pub used : (i : ℕ) → i < max_states → place_word n s i 0 ≤ 1

-- the first place of a list that passes; its length if none does
unfoldable pub first_of : (Place → Bool) → List Place → ℕ
first_of P xs = first_from (λ i. P (get_or xs i free)) 0 (length xs)
