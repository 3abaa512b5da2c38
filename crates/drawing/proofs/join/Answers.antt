-- `drawing::join` meets its contract.
use Rattle.drawing.specs.DrawingLaws.{pair_both, pair_one}
use Rattle.drawing.proofs.join.Goals as goal

pub returns-then-not-both : goal.returns-then-not-both
returns-then-not-both c = pair_one _ _ _ c.if-not-both.true c.set_bit.ensures

pub returns : goal.returns
returns c = pair_both _ _ _ c.if-not-both.false c.set_bit.ensures c.set_bit-2.ensures
