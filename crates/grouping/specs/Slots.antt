-- The slot of a group's row, told by its sum of cubes where sums were kept.
use Rattle.std.specs.Prelude.{◌≡◌, ℕ, ◌+◌, ◌%◌, ◌^◌, ◌<◌, Bool, false, cond, List, slice_index}
use Rattle.model.specs.Graph.{max_nodes}
use Rattle.model.specs.Tables.{edge_bit}
use Rattle.sums.specs.Joined.{JoinedSummed, own_cubes}
use Rattle.grouping.specs.Chains.{row_slot, slot_in}

-- the cubes of u's row, of the open one or of the closed one, which has u's own group too
unfoldable pub row_sum : List ℕ → Bool → ℕ → ℕ
row_sum sums closed u = cond closed ((slice_index sums u + own_cubes sums u) % 2 ^ 32) (slice_index sums u)

-- the slot of u's row, by its sum or by its words
unfoldable pub group_slot : List ℕ → Bool → List ℕ → Bool → ℕ → ℕ
group_slot joined few sums closed u = cond few (slot_in (row_sum sums closed u)) (row_slot joined closed u)

-- sums of rows without own bits
pub record SumsTold (joined sums : List ℕ) : Type 0 where
  pub summed : JoinedSummed joined sums
  pub irreflexive : (p : ℕ) → p < max_nodes → edge_bit joined p p ≡ false
