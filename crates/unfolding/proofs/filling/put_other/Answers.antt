-- `unfolding::filling::put_other` meets its contract.
use Rattle.unfolding.specs.FillingLaws.{other_none, other_put}
use Rattle.unfolding.proofs.filling.put_other.Goals as goal

pub returns-then-l-p : goal.returns-then-l-p
returns-then-l-p c =
    other_put _ _ _ c.wide-l.ensures c.if-l-p.true c.set_bit.ensures

pub returns-else-l-p : goal.returns-else-l-p
returns-else-l-p c = other_none _ _ _ _ c.wide-l.ensures c.if-l-p.false
