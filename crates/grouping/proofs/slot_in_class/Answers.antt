-- The slot and so much for each class, cut to a slot.
use Rattle.grouping.specs.Chains.{slot_in_class}
use Rattle.grouping.proofs.slot_in_class.Goals as goal

pub returns : goal.returns
unfolding slot_in_class
returns c = rw c.wide.ensures
