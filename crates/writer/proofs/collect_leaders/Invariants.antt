-- What is left to write are the leaders from p on.
use Prim.Native.Nat.{◌-◌, ◌≤◌}
use Rattle.rows.specs.Rows.{leads}
use Rattle.buffers.specs.Scan.{scan}
use Rattle.buffers.specs.Wrote.{Left}
use Rattle.writer.proofs.collect_leaders.Given as goal

abbrev pub invariant-loop-p : goal.invariant-loop-p
invariant-loop-p l = (l.g ≤ l.p) × Left l.initial.leaders 0 (scan (leads l.least) l.n 0) l.leaders l.g (scan (leads l.least) l.n l.p)

abbrev pub decreases-loop-p : goal.decreases-loop-p
decreases-loop-p l = l.n - l.p
