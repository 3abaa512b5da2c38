-- The bit is that of the slot, in its word.
use Rattle.std.proofs.Common.{arith}
use Rattle.checks.specs.SlotLaws.{slot_taken}
use Rattle.checks.proofs.take_slot.Goals as goal

pub returns : goal.returns
returns c =
    slot_taken _ _ _ _ _ _ (omega arith) c.slot-s.ensures c.word_of-i.ensures c.mask.ensures c.has_bit.ensures
