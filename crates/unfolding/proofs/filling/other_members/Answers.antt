-- `unfolding::filling::other_members` meets its contract.
use Rattle.unfolding.specs.FillingLaws.{keyed_start, others_done, others_step}
use Rattle.unfolding.proofs.filling.other_members.Goals as goal

pub loop-p-init : goal.loop-p-init
loop-p-init c = keyed_start _ _ _

pub loop-p-preserved : goal.loop-p-preserved
loop-p-preserved c = others_step _ _ _ c.loop-p-test.true c.loop-p.invariant c.put_other.ensures

pub returns : goal.returns
returns c = others_done _ _ _ c.loop-p-test.false c.loop-p.invariant
