-- `unfolding::filling::draw_members` meets its contract.
use Rattle.drawing.specs.BitLaws.{zeros}
use Rattle.unfolding.specs.FillingLaws.{groups_done, groups_step, keyed_start}
use Rattle.unfolding.proofs.filling.draw_members.Goals as goal

pub loop-l-init : goal.loop-l-init
loop-l-init g c = keyed_start _ _ _

pub loop-l-preserved : goal.loop-l-preserved
loop-l-preserved g c = groups_step c.requires.0 (zeros _) c.other_members.ensures _ c.loop-l.invariant c.draw_group.ensures

pub returns : goal.returns
returns g c = groups_done c.requires.0 _ c.loop-l-test.false c.loop-l.invariant
