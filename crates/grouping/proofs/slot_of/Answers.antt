-- One law for each branch.
use Rattle.grouping.specs.HashLaws.{slot_closed, slot_open}
use Rattle.grouping.proofs.slot_of.Goals as goal

pub returns-then-closed : goal.returns-then-closed
returns-then-closed c =
    slot_closed _ _ _ c.sum_rotated-h.ensures c.sum_plain-k.ensures c.requires.0 c.if-closed.true c.own_rotated.ensures c.mask.ensures c.slot_for.ensures

pub returns : goal.returns
returns c =
    slot_open _ _ _ c.sum_rotated-h.ensures c.sum_plain-k.ensures c.if-closed.false c.slot_for-2.ensures
