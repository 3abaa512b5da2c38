-- The cases of the parser's answers, as the model's definitions.
use Rattle.std.specs.Prelude.{◌≡◌, Bool, not, ◌&&◌, ◌||◌, cond, List, [], ◌∷◌, ℕ, ◌*◌, ◌≤◌, ◌<◌, ◌≢◌, Option, Some, None, Result, Ok, Err, eqb, leb, length, get_or, take, drop}
use Rattle.std.specs.Int.{from_bool}
use Rattle.model.specs.Graph.{max_updates}
use Rattle.model.specs.Lists.{head_or}
use Rattle.model.specs.Program.{Input, Line, accepted, change, ill_formed, is_number, pieces, refused_at, value_of}
use Rattle.model.specs.Updates.{Update, update_numbers, updates_in}
use Rattle.text.specs.declared.Accepted.{Accepted}
use Rattle.text.specs.declared.Change.{Change}
use Rattle.text.specs.declared.Change.TheVariants.{Edge, Mark}
use Rattle.text.specs.declared.Refused.{Refused}

-- the first separator stands at i
pub record IsFirst (sep : ℕ) (s : List ℕ) (i : ℕ) : Type 0 where
  pub within : i < length s
  pub here : get_or s i 0 ≡ sep
  pub not-before : (k : ℕ) → k < i → get_or s k 0 ≢ sep

-- the first separator ends the piece before it, and the pieces after it are those of what follows
pub record SplitAt (sep : ℕ) (s before after : List ℕ) : Type 0 where
  pub pieces : pieces sep s ≡ before ∷ pieces sep after
  pub shorter : length after < length s

-- a byte from 0 to 9
abbrev pub is_digit : ℕ → Bool
is_digit b = leb 0x30 b && leb b 0x39

-- 1 to 5 bytes, and no zero leads more
unfoldable pub shape : List ℕ → Bool
shape ds = (leb 1 (length ds) && leb (length ds) 5) && (eqb (length ds) 1 || not (eqb (head_or 0 ds) 0x30))

-- the number that a text is, if it is one
unfoldable pub number_of : List ℕ → Option ℕ
number_of ds = cond (is_number ds) (Some (value_of 0 ds)) None

-- a change as the model's update
abbrev pub update_of : Change → Update
update_of (Edge u v wanted) = record { kind = 1; u = u; v = v; wanted = from_bool wanted }
update_of (Mark u wanted) = record { kind = 2; u = u; v = 0; wanted = from_bool wanted }

-- the numbers of an update, as the batch holds them
abbrev pub numbers_of : Change → List ℕ
numbers_of c = (update_of c).kind ∷ (update_of c).u ∷ (update_of c).v ∷ (update_of c).wanted ∷ []

-- the line that each case is
abbrev pub line_in : Option Change → Line
line_in (Some c) = change (update_of c)
line_in None = ill_formed

-- the input that each case is, its changes in the first numbers of the batch
unfoldable pub input_in : Result Accepted Refused → List ℕ → Input
input_in (Err e) batch = refused_at e.line
input_in (Ok a) batch = accepted a.n (updates_in (take (update_numbers * a.count) batch))

-- how many changes the batch may hold; of a refused input as many as fit
unfoldable pub used : Result Accepted Refused → ℕ
used (Err e) = max_updates
used (Ok a) = a.count

-- the answer is the input, its changes fit the batch, and the numbers beyond them keep their value
pub record ParsedAs (all : Input) (before after : List ℕ) (r : Result Accepted Refused) : Type 0 where
  pub input : input_in r after ≡ all
  pub few : used r ≤ max_updates
  pub beyond : drop (update_numbers * used r) after ≡ drop (update_numbers * used r) before
