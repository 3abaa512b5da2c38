-- The words of the row, united.
use Rattle.adopting.specs.LoopLaws.{empty_united}
use Rattle.adopting.proofs.is_empty.Goals as goal

pub returns : goal.returns
returns c = empty_united _ _ _ c.union_of.ensures
