-- `grouping::are_apart` meets its contract.
use Rattle.std.proofs.Common.{ap, not, below_none}
use Rattle.grouping.specs.ChainLaws.{links_none}
use Rattle.grouping.specs.PartedLaws.{all_apart, one_merges, parted_none}
use Rattle.grouping.proofs.are_apart.Goals as goal

pub loop-u-init : goal.loop-u-init
loop-u-init c = (parted_none _ _ _ links_none links_none, below_none _)

pub returns-then-not-is_apart : goal.returns-then-not-is_apart
returns-then-not-is_apart c = one_merges _ _ _ _ _ c.loop-u-test.true c.is_apart.ensures.value (ap not c.if-not-is_apart.true)

pub returns : goal.returns
returns c = all_apart _ _ _ _ _ c.loop-u.invariant.1 c.loop-u-test.false
