-- The definition, step by step.
use Rattle.std.proofs.Common.{refl}
use Rattle.grouping.specs.Chains.{slot_in}
use Rattle.grouping.proofs.slot_in.Goals as goal

pub returns : goal.returns
unfolding slot_in
returns c = refl
