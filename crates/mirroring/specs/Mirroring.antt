-- The bits of an edge table set across its diagonal too.
use Rattle.std.specs.Prelude.{◌≡◌, Bool, true, ◌&&◌, ◌||◌, List, ◌⊎◌, ℕ, ◌+◌, ◌*◌, ◌/◌, ◌%◌, ◌≤◌, ◌<◌, eqb, ltb, length, get_or}
use Rattle.model.specs.Graph.{max_nodes, row_words}
use Rattle.model.specs.Tables.{bit_at, edge_bit}

-- every bit also stands across the diagonal
pub record Mirrored (t after : List ℕ) : Type 0 where
  pub size : length after ≡ length t
  pub bits : (a b : ℕ) → a < max_nodes → b < max_nodes → edge_bit after a b ≡ (edge_bit t a b || edge_bit t b a)

-- so many words are whole strips of 64 rows, enough for n nodes
pub record StripsFor (n words : ℕ) : Type 0 where
  pub enough : row_words * n ≤ words
  pub most : words ≤ row_words * max_nodes
  pub whole : words % (64 * row_words) ≡ 0

-- bits stand below the diagonal, in the rows of n nodes
pub record Lower (n : ℕ) (t : List ℕ) : Type 0 where
  pub size : StripsFor n (length t)
  pub below : (a b : ℕ) → b < max_nodes → edge_bit t a b ≡ true → (b < a) × (a < n)

-- word j of the first k rows of a strip, in word i of the rows from row 64 * j on
unfoldable pub columns_to : ℕ → ℕ → List ℕ → ℕ → ℕ → ℕ → Bool
columns_to i j strip k a b = ltb (a % 64) k && (eqb (a / 64) j && (eqb (b / 64) i && bit_at (get_or strip (row_words * (a % 64) + j) 0) (b % 64)))

-- across the diagonal, the bits of word j of the rows of strip i
unfoldable pub across_to : List ℕ → ℕ → ℕ → ℕ → ℕ → Bool
across_to t i j a b = eqb (a / 64) j && (eqb (b / 64) i && edge_bit t b a)

-- the bits at these places also stand across the diagonal, and no bit is there but those of t and their mirrors
pub record MirroredAt (Place : ℕ → ℕ → Type 0) (t after : List ℕ) : Type 0 where
  pub size : length after ≡ length t
  pub kept : (a b : ℕ) → b < max_nodes → edge_bit t a b ≡ true → edge_bit after a b ≡ true
  pub only : (a b : ℕ) → a < max_nodes → b < max_nodes → edge_bit after a b ≡ true → (edge_bit t a b ≡ true) ⊎ (edge_bit t b a ≡ true)
  pub mirrors : (a b : ℕ) → a < max_nodes → b < max_nodes → Place a b → edge_bit t a b ≡ true → edge_bit after b a ≡ true

-- the first j words of the rows of strip i
abbrev pub InRow : ℕ → ℕ → ℕ → ℕ → Type 0
InRow i j a b = (a / 64 ≡ i) × (b / 64 < j)

-- the words up to the diagonal, of the first i strips
abbrev pub InRows : ℕ → ℕ → ℕ → Type 0
InRows i a b = (a / 64 < i) × (b / 64 ≤ a / 64)
