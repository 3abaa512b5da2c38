-- a is a member before u.
use Rattle.std.proofs.Common.{◌≡◌, ◌-◌, ◌<◌}
use Rattle.model.specs.Tables.{node_number}
use Rattle.groups.proofs.last_before.Given as goal

abbrev pub invariant-loop-b : goal.invariant-loop-b
invariant-loop-b l = (l.a < l.u) × (node_number l.nodes l.a 0 ≡ l.g)

abbrev pub decreases-loop-b : goal.decreases-loop-b
decreases-loop-b l = l.u - l.a
