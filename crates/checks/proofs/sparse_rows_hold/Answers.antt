-- The invariant: the nodes before p pass.
use Rattle.std.proofs.Common.{arith}
use Rattle.checks.specs.Checks.{rows_hold}
use Rattle.buffers.specs.AllLaws.{all_fail, all_pass_lem, failed}
use Rattle.std.proofs.Common.{ap, not}
use Rattle.checks.proofs.sparse_rows_hold.Goals as goal

pub returns-then-not-row_holds : goal.returns-then-not-row_holds
unfolding rows_hold
returns-then-not-row_holds c = all_fail _ _ _ (omega arith) (failed c.row_holds.ensures (ap not c.if-not-row_holds.true))

pub returns : goal.returns
unfolding rows_hold
returns c = all_pass_lem _ _ _ (omega arith) c.loop-p.invariant
