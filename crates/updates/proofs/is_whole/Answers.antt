-- `is_whole` meets its contract.
use Rattle.updates.specs.BatchLaws.{whole-not, whole_test}
use Rattle.updates.proofs.is_whole.Goals as goal

pub returns-then-batch-ne0 : goal.returns-then-batch-ne0
returns-then-batch-ne0 c = whole-not _ c.if-batch-ne0.true

pub returns : goal.returns
returns c = whole_test _ _ c.if-batch-ne0.false c.count.ensures
