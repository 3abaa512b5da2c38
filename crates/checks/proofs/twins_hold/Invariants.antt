-- The invariant: the nodes before p pass.
use Rattle.std.proofs.Common.{◌≡◌, ℕ, ◌<◌, true}
use Rattle.model.specs.Tables.{node_number}
use Rattle.checks.specs.Checks.{twin_of}
use Rattle.checks.proofs.twins_hold.Given as goal

abbrev pub invariant-loop-p : goal.invariant-loop-p
invariant-loop-p l = (k : ℕ) → k < l.p → twin_of l.edges.words.now l.nodes k (node_number l.nodes k 0) ≡ true
