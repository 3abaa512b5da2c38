-- The invariant: the nodes before p pass.
use Rattle.std.proofs.Common.{arith}
use Rattle.checks.specs.Checks.{nodes_hold}
use Rattle.buffers.specs.AllLaws.{all_fail, all_pass_lem, failed}
use Rattle.std.proofs.Common.{ap, not}
use Rattle.checks.proofs.nodes_hold.Goals as goal

pub returns-then-not-node_holds : goal.returns-then-not-node_holds
unfolding nodes_hold
returns-then-not-node_holds c = all_fail _ _ _ (omega arith) (failed c.node_holds.ensures (ap not c.if-not-node_holds.true))

pub returns : goal.returns
unfolding nodes_hold
returns c = all_pass_lem _ _ _ (omega arith) c.loop-p.invariant
