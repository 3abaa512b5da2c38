-- Nobody is hidden.
use Rattle.std.proofs.Common.{sym}
use Rattle.grouping.specs.KeyedLaws.{shown-all}
use Rattle.grouping.proofs.keyed.KeysSlots.is_visible.Goals as goal

pub returns : goal.returns
returns c = sym (shown-all _)
