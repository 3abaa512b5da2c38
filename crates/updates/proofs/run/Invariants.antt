-- `run` meets its contract.
use mathlib.Core.Path.{◌≡◌}
use Prim.Native.Nat.{◌*◌, ◌≤◌}
use lib.ListN.{length}
use Rattle.model.specs.Updates.{update_numbers}
use Rattle.rows.specs.Rows.{lent}
use Rattle.updates.specs.Batch.{Underway}
use Rattle.updates.proofs.run.Given as goal

abbrev pub invariant-loop-i : goal.invariant-loop-i
invariant-loop-i l = Underway l.n l.batch (lent l.initial.edges l.initial.nodes l.initial.keys) l.initial.answers l.i (lent l.edges l.nodes l.keys) l.answers × (l.i ≤ l.i-end) × (update_numbers * l.i-end ≡ length l.batch) × (l.i-end ≤ length l.initial.answers)
