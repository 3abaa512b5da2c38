-- The invariant: the nodes before u pass, and the slots of the keys of leaders among them are taken.
use Rattle.std.proofs.Common.{arith}
use Rattle.checks.specs.Checks.{leaders_apart}
use Rattle.buffers.specs.AllLaws.{all_fail, all_pass_lem, failed}
use Rattle.std.proofs.Common.{ap, not}
use Rattle.checks.proofs.leaders_apart.Goals as goal

pub returns-then-not-is_alone : goal.returns-then-not-is_alone
unfolding leaders_apart
returns-then-not-is_alone c = all_fail _ _ _ (omega arith) (failed c.is_alone.ensures.0 (ap not c.if-not-is_alone.true))

pub returns : goal.returns
unfolding leaders_apart
returns c = all_pass_lem _ _ _ (omega arith) c.loop-u.invariant.0
