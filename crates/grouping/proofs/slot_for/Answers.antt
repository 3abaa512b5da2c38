-- The definition, step by step.
use Rattle.grouping.specs.Chains.{slot_for}
use Rattle.grouping.proofs.slot_for.Goals as goal

pub returns : goal.returns
unfolding slot_for
returns c = c.slot_in.ensures
