-- The invariant: the nodes before p pass.
use Rattle.std.proofs.Common.{◌≡◌, ℕ, ◌<◌, true, ◌&&◌}
use Rattle.edges.specs.Edges.{row_holds}
use Rattle.checks.specs.Checks.{keys_hold}
use Rattle.checks.proofs.sparse_rows_hold.Given as goal

abbrev pub invariant-loop-p : goal.invariant-loop-p
invariant-loop-p l = (k : ℕ) → k < l.p → (row_holds l.edges.n l.edges.words.now k && keys_hold l.edges.n l.edges.words.now l.keys k) ≡ true
