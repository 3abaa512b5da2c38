-- `distances::meet` meets its contract.
use Rattle.std.proofs.Common.{arith}
use Rattle.distances.specs.SetLaws.{common_done, common_more, common_none}
use Rattle.distances.proofs.meet.Goals as goal

pub loop-w-init : goal.loop-w-init
loop-w-init c = common_none _ _

pub loop-w-preserved : goal.loop-w-preserved
loop-w-preserved c = common_more _ _ _ _ (omega (arith, c.type_inv.set c.loop-w.w)) c.loop-w.invariant

pub returns : goal.returns
returns c = common_done _ _ _ _ c.loop-w.auto.w-end c.loop-w-test.false c.loop-w.invariant
