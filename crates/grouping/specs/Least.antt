-- The least members of the groups of visible nodes, no node for hidden ones.
use Rattle.std.specs.Prelude.{ℕ, Bool, cond, ◌==◌}
use Rattle.model.specs.Graph.{Graph}
use Rattle.model.specs.Grouping.{least, similar}
use Rattle.rows.specs.Rows.{no_node}
use Rattle.model.specs.Release.{is_visible, visible}

-- the least member of a visible node's group, a number that no node has for a hidden one
unfoldable pub least_visible : Graph → ℕ → ℕ
least_visible g q = cond (is_visible g q) (least (visible g).nodes (similar (visible g)) q) no_node

-- q is visible and the least of its group
unfoldable pub leading : Graph → ℕ → Bool
leading g q = least_visible g q == q
