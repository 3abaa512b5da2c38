-- One law for each branch.
use Rattle.std.proofs.Common.{refl}
use Rattle.grouping.specs.SlotLaws.{sum-closed, sum_open}
use Rattle.grouping.proofs.slot_by_sum.Goals as goal

pub returns-then-closed : goal.returns-then-closed
returns-then-closed c = sum-closed _ _ c.if-closed.true refl c.slot_in.ensures

pub returns : goal.returns
returns c = sum_open _ _ c.if-closed.false c.slot_in-2.ensures
