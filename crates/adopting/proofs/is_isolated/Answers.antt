-- `adopting::is_isolated` meets its contract.
use Rattle.adopting.specs.LoopLaws.{isolated_if, isolated_not}
use Rattle.adopting.proofs.is_isolated.Goals as goal

pub returns-then-wide-p : goal.returns-then-wide-p
returns-then-wide-p c = isolated_if _ _ _ _ c.wide.ensures c.if-wide-p.true c.is_bare.ensures

pub returns-else-wide-p : goal.returns-else-wide-p
returns-else-wide-p c = isolated_not _ _ _ _ c.wide.ensures c.if-wide-p.false
