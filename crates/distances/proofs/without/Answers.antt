-- `distances::without` meets its contract.
use Rattle.distances.specs.SetLaws.{less_more}
use Rattle.distances.proofs.without.Goals as goal

pub loop-w-preserved : goal.loop-w-preserved
loop-w-preserved c = less_more _ _ c.loop-w-test.true c.loop-w.invariant
