-- A row is an edge table of one node.
use Rattle.std.proofs.Common.{refl}
use Rattle.unfolding.specs.SpreadLaws.{join_none, join_some}
use Rattle.unfolding.proofs.has_first.Goals as goal

pub returns-then-first-ne-NONE : goal.returns-then-first-ne-NONE
returns-then-first-ne-NONE c = join_some _ _ c.wide.ensures c.if-first-ne-NONE.true c.edge.ensures

pub returns-else-first-ne-NONE : goal.returns-else-first-ne-NONE
returns-else-first-ne-NONE c = rw c.if-first-ne-NONE.false (join_none _ _ refl refl)
