-- `group_size` meets its contract.
use Prim.Native.Nat.{◌-◌, ◌≤◌}
use lib.ListN.{length}
use Rattle.buffers.specs.Scan.{scan, Counting}
use Rattle.queries.specs.Query.{led_by}
use Rattle.queries.proofs.group_size.Given as goal

abbrev pub invariant-loop-q : goal.invariant-loop-q
invariant-loop-q l = (l.size ≤ l.q) × Counting (led_by l.tables.nodes.now l.l) l.tables.n (length (scan (led_by l.tables.nodes.now l.l) l.tables.n 0)) l.size l.q

abbrev pub decreases-loop-q : goal.decreases-loop-q
decreases-loop-q l = l.tables.n - l.q
