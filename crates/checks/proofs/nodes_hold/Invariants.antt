-- The invariant: the nodes before p pass.
use Rattle.std.proofs.Common.{◌≡◌, ℕ, ◌<◌, true}
use Rattle.checks.specs.Checks.{node_holds}
use Rattle.checks.proofs.nodes_hold.Given as goal

abbrev pub invariant-loop-p : goal.invariant-loop-p
invariant-loop-p l = (k : ℕ) → k < l.p → node_holds l.n l.nodes k ≡ true
