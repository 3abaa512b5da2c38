-- The invariant: the words before w are summed.
use Rattle.std.proofs.Common.{refl}
use Rattle.keys.specs.LeaderLaws.{leaders_none}
use Rattle.keys.proofs.sum_leaders.Goals as goal

pub loop-w-init : goal.loop-w-init
loop-w-init c = leaders_none _ _ _ _ _ c.args.edges.small c.requires.2
