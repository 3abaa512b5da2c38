-- `adopting::is_bare` meets its contract.
use Rattle.adopting.specs.LoopLaws.{bare_if, bare_not}
use Rattle.adopting.proofs.is_bare.Goals as goal

pub returns-then-classes-p-eq0 : goal.returns-then-classes-p-eq0
returns-then-classes-p-eq0 c = bare_if _ _ _ c.if-classes-p-eq0.true c.is_empty.ensures

pub returns-else-classes-p-eq0 : goal.returns-else-classes-p-eq0
returns-else-classes-p-eq0 c = bare_not _ _ _ c.if-classes-p-eq0.false
