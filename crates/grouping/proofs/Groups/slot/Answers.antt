-- One law for each branch.
use Rattle.grouping.specs.SlotLaws.{by_sum, by_words}
use Rattle.grouping.proofs.Groups.slot.Goals as goal

pub returns-then-self : goal.returns-then-self
returns-then-self c = by_sum _ _ _ _ c.if-self.true c.slot_by_sum.ensures

pub returns : goal.returns
returns c = by_words _ _ _ _ c.if-self.false c.slot_of.ensures
