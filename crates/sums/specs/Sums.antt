-- The cubes of groups, and the keys that they tell.
use Rattle.std.specs.Prelude.{◌≡◌, ℕ, ◌+◌, ◌*◌, ◌%◌, ◌^◌, ◌<◌, ◌≤◌, true, false, cond, List, length, ◌==◌, nat_eq, slice_index}
use Rattle.model.specs.Graph.{max_nodes}
use Rattle.model.specs.Grouping.{cube}
use Rattle.rows.specs.Rows.{moved_key, no_node}
use Rattle.keys.specs.Totals.{sum_of}
use Rattle.compressed.specs.Compressed.{clique, placed}
use Rattle.sums.specs.Joined.{own_cubes}

-- each node of a group has a first member that is a node
pub record FirstsAreNodes (n : ℕ) (least : List ℕ) : Type 0 where
  pub small : n ≤ max_nodes
  pub size : length least ≡ max_nodes
  pub first : (p : ℕ) → placed n least p ≡ true → slice_index least p < max_nodes

-- the cubes of those of the first m nodes that l leads
unfoldable pub group_cubes : ℕ → List ℕ → ℕ → ℕ
group_cubes m least l = sum_of m (λ q. nat_eq (slice_index least q) l) (λ q. cube q)

-- the sums have them for every l, wrapping at 32 bits
pub record Cubed (m : ℕ) (least sums : List ℕ) : Type 0 where
  pub size : length sums ≡ 2 * max_nodes
  pub own : (l : ℕ) → l < max_nodes → own_cubes sums l ≡ group_cubes m least l % 2 ^ 32

-- nothing is added yet for groups that are joined
pub record NoneJoined (sums : List ℕ) : Type 0 where
  pub near : (l : ℕ) → l < max_nodes → slice_index sums l ≡ 0

-- the open key of p as a member of the group of a kind that l leads
unfoldable pub member_key : List ℕ → ℕ → ℕ → ℕ → ℕ
member_key sums kind l p = cond (kind == clique) (moved_key false ((slice_index sums l + own_cubes sums l) % 2 ^ 32) (cube p)) (slice_index sums l)

-- the open key of p; 0 for a node of no group
unfoldable pub node_key : List ℕ → List ℕ → List ℕ → ℕ → ℕ
node_key least kinds sums p = cond (slice_index least p == no_node) 0 (member_key sums (slice_index kinds (slice_index least p)) (slice_index least p) p)
