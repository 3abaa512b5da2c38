-- `unfolding::filling::follow_all` meets its contract.
use Rattle.unfolding.specs.FollowLaws.{following_step}
use Rattle.unfolding.proofs.filling.follow_all.Goals as goal

pub loop-p-preserved : goal.loop-p-preserved
loop-p-preserved c = following_step c.requires.0 c.loop-p-test.true c.loop-p.invariant c.follow_first.ensures
