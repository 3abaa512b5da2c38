-- `queries::write_row` meets its contract.
use Prim.Native.Nat.{◌*◌, ◌-◌, ◌≤◌}
use Rattle.buffers.specs.Scan.{scan}
use Rattle.buffers.specs.Wrote.{Left}
use Rattle.model.specs.Tables.{edge_bit}
use Rattle.model.specs.Queries.{pairs}
use Rattle.queries.specs.Query.{Reaches, leader_at, row_nodes}
use Rattle.queries.proofs.write_row.Given as goal

abbrev pub invariant-loop-w : goal.invariant-loop-w
invariant-loop-w l = (l.w ≤ 8) × Reaches l.least l.stride (scan (edge_bit l.row 0) 512 (64 * l.w)) × Left l.initial.out 0 (pairs (leader_at l.least l.stride) (row_nodes l.row)) l.out l.to (pairs (leader_at l.least l.stride) (scan (edge_bit l.row 0) 512 (64 * l.w)))

abbrev pub decreases-loop-w : goal.decreases-loop-w
decreases-loop-w l = 8 - l.w
