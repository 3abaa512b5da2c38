-- A slot of a row is a slot.
use Rattle.grouping.specs.HashLaws.{small_slot}
use Rattle.grouping.proofs.RowsSlots.slot.Goals as goal

pub returns-clause-small : goal.returns-clause-small
returns-clause-small c = small_slot _ _ _ c.slot_of.ensures
