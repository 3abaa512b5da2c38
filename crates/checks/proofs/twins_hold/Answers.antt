-- The invariant: the nodes before p pass.
use Rattle.std.proofs.Common.{arith}
use Rattle.checks.specs.Checks.{twins_hold}
use Rattle.checks.specs.StepLaws.{twin_told}
use Rattle.buffers.specs.AllLaws.{all_fail, all_pass_lem, failed}
use Rattle.std.proofs.Common.{ap, not}
use Rattle.checks.proofs.twins_hold.Goals as goal

pub returns-then-not-is_twin : goal.returns-then-not-is_twin
unfolding twins_hold
returns-then-not-is_twin c = all_fail _ _ _ (omega arith) (failed (twin_told _ _ _ _ c.number-l.ensures c.is_twin.ensures) (ap not c.if-not-is_twin.true))

pub returns : goal.returns
unfolding twins_hold
returns c = all_pass_lem _ _ _ (omega arith) c.loop-p.invariant
