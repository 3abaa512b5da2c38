-- The previous member, the mark, then the class.
use Rattle.checks.specs.StepLaws.{node_class, node_fails, node_mark}
use Rattle.std.proofs.Common.{ap, not}
use Rattle.checks.proofs.node_holds.Goals as goal

pub returns-then-not-is_followed : goal.returns-then-not-is_followed
returns-then-not-is_followed c = node_fails _ _ _ _ c.number.ensures c.is_followed.ensures (ap not c.if-not-is_followed.true)

pub returns-then-number-ge2 : goal.returns-then-number-ge2
returns-then-number-ge2 c =
    node_mark _ _ _ _ c.number.ensures c.is_followed.ensures (ap not c.if-not-is_followed.false) c.number-2.ensures c.if-number-ge2.true

pub returns : goal.returns
returns c =
    node_class _ _ _ _ c.number.ensures c.is_followed.ensures (ap not c.if-not-is_followed.false) c.number-2.ensures c.if-number-ge2.false c.number-3.ensures
