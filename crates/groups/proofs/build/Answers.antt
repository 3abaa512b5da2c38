-- The invariant: the nodes below p stand in rings, and the labels are kept.
use Rattle.std.proofs.Common.{arith}
use Rattle.rings.specs.BuildLaws.{built}
use Rattle.groups.proofs.build.Goals as goal

pub returns : goal.returns
returns c = built c.loop-p.invariant.0 c.loop-p.invariant.1 (omega arith)
