-- `queries::count_row` meets its contract.
use Prim.Native.Nat.{◌*◌, ◌-◌, ◌≤◌}
use lib.ListN.{length}
use Rattle.buffers.specs.Scan.{scan, Counting}
use Rattle.model.specs.Tables.{edge_bit}
use Rattle.queries.proofs.count_row.Given as goal

abbrev pub invariant-loop-word : goal.invariant-loop-word
invariant-loop-word l = (l.word-index ≤ 8) × (l.count ≤ 64 * l.word-index) × Counting (edge_bit l.row 0) 512 (length (scan (edge_bit l.row 0) 512 0)) l.count (64 * l.word-index)

abbrev pub decreases-loop-word : goal.decreases-loop-word
decreases-loop-word l = 8 - l.word-index
