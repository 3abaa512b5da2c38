-- An array of sums of cubes: at l those of the groups joined to l's, and max_nodes further on those of l's own group.
use Rattle.std.specs.Prelude.{◌≡◌, ℕ, ◌+◌, ◌*◌, ◌%◌, ◌^◌, ◌<◌, Bool, cond, List, length, ◌==◌, slice_index}
use Rattle.model.specs.Graph.{max_nodes}
use Rattle.model.specs.Tables.{edge_bit}
use Rattle.keys.specs.Totals.{sum_of}

-- the cubes of l's own group
abbrev pub own_cubes : List ℕ → ℕ → ℕ
own_cubes sums l = slice_index sums (max_nodes + l)

-- those of the groups that pass
abbrev pub chosen_cubes : (ℕ → Bool) → List ℕ → ℕ
chosen_cubes near sums = sum_of max_nodes near (own_cubes sums)

-- each sum is that of the groups whose first members stand in the row, wrapping at 32 bits
pub record JoinedSummed (joined sums : List ℕ) : Type 0 where
  pub size : length sums ≡ 2 * max_nodes
  pub near : (l : ℕ) → l < max_nodes → slice_index sums l ≡ chosen_cubes (edge_bit joined l) sums % 2 ^ 32

-- what a superedge between p and q adds to the sum of l
unfoldable pub pair_cubes : List ℕ → ℕ → ℕ → ℕ → ℕ
pair_cubes sums p q l = cond (l == p) (own_cubes sums q) 0 + cond (l == q) (own_cubes sums p) 0

-- f is added to the sums of joined groups, wrapping at 32 bits; own cubes are as they were
pub record SumsAdded (f : ℕ → ℕ) (t after : List ℕ) : Type 0 where
  pub size : length after ≡ length t
  pub own : (l : ℕ) → own_cubes after l ≡ own_cubes t l
  pub near : (l : ℕ) → l < max_nodes → slice_index t l < 2 ^ 32 → slice_index after l ≡ (slice_index t l + f l) % 2 ^ 32

-- underway: with the rest added, all will have been added
pub record SumsAdding (all rest : ℕ → ℕ) (t now : List ℕ) : Type 0 where
  pub size : length now ≡ length t
  pub own : (l : ℕ) → own_cubes now l ≡ own_cubes t l
  pub near : (l : ℕ) → l < max_nodes → slice_index t l < 2 ^ 32 → (slice_index now l < 2 ^ 32) × ((slice_index now l + rest l) % 2 ^ 32 ≡ (slice_index t l + all l) % 2 ^ 32)

-- the cubes of each of two groups are added to the sum of the other
abbrev pub PairAdded : ℕ → ℕ → List ℕ → List ℕ → Type 0
PairAdded p q t after = SumsAdded (pair_cubes t p q) t after
