-- Tables filled from a graph held by its groups.
use Rattle.std.specs.Prelude.{◌≡◌, cond, List, ℕ, eqb, get_or}
use Rattle.model.specs.Tables.{edges_of, graph_in, keys_of}
use Rattle.keys.specs.KeySums.{LeastTold}
use Rattle.rows.specs.Rows.{no_node}
use Rattle.compressed.specs.Compressed.{unfolded}
use Rattle.sums.specs.Sums.{Cubed}
use Rattle.sums.specs.Joined.{JoinedSummed}
use Rattle.judging.specs.Judging.{Exact}

-- the mark of a node by its first member: a node of no group is hidden
unfoldable pub mark_for : ℕ → ℕ
mark_for first = cond (eqb first no_node) 1 0

-- and its class: that of the group, told at the first member; 0 for none
unfoldable pub class_for : List ℕ → ℕ → ℕ
class_for classes first = cond (eqb first no_node) 0 (get_or classes first 0)

-- the edge table of a graph held by its groups, with their sums of cubes
pub record SumsFilled (n : ℕ) (first kinds classes sums edges : List ℕ) : Type 0 where
  pub joined : List ℕ
  pub exact : Exact n first kinds classes joined
  pub edges_of_lem : edges ≡ edges_of (unfolded n first kinds joined)
  pub cubed : Cubed n first sums
  pub summed : JoinedSummed joined sums

-- the least members of the groups of all nodes, and the keys
pub record Keyed (n : ℕ) (edges : List ℕ) (class : ℕ → ℕ) (lst keys : List ℕ) : Type 0 where
  pub least : LeastTold n edges class lst
  pub keys_of_lem : keys ≡ keys_of (graph_in n edges)
