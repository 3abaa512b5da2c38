-- `unfolding::filling::draw_group` meets its contract.
use Rattle.unfolding.specs.FillingLaws.{group-drawn, group_none}
use Rattle.unfolding.proofs.filling.draw_group.Goals as goal

pub returns-then-kinds-l-ne-SINGLE : goal.returns-then-kinds-l-ne-SINGLE
returns-then-kinds-l-ne-SINGLE c =
    group-drawn _ _ _ _ c.if-kinds-l-ne-SINGLE.true c.draw_joined.ensures c.draw_own.ensures

pub returns-else-kinds-l-ne-SINGLE : goal.returns-else-kinds-l-ne-SINGLE
returns-else-kinds-l-ne-SINGLE c = group_none _ _ _ _ _ c.if-kinds-l-ne-SINGLE.false
