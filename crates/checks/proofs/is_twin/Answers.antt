-- `checks::is_twin` meets its contract.
-- One return for each test that fails, the leader itself, and the rows.
use Rattle.std.proofs.Common.{arith}
use Rattle.search.specs.SearchLaws.{meets_parts}
use Rattle.checks.specs.StepLaws.{twin_above, twin_classes, twin_misled, twin_rows, twin_self}
use Rattle.std.proofs.Common.{ap, not}
use Rattle.checks.proofs.is_twin.Goals as goal

pub returns-then-l-p : goal.returns-then-l-p
returns-then-l-p c = twin_above _ _ _ _ c.if-l-p.true

pub returns-then-number-l : goal.returns-then-number-l
returns-then-number-l c = twin_misled _ _ _ _ (omega arith) c.number.ensures c.if-number-l.true

pub returns-then-l-p-2 : goal.returns-then-l-p-2
returns-then-l-p-2 c = twin_self _ _ _ _ c.number.ensures c.if-number-l.false c.if-l-p-2.true

pub returns-then-not-same_class : goal.returns-then-not-same_class
returns-then-not-same_class c =
    twin_classes _ _ _ _ (omega arith) c.number.ensures c.if-number-l.false c.same_class.ensures (ap not c.if-not-same_class.true)

pub returns : goal.returns
returns c =
    twin_rows _ _ _ _ (omega arith) c.number.ensures c.if-number-l.false c.same_class.ensures _ _ (ap not c.if-not-same_class.false) c.tied-closed.ensures (meets_parts _ _ _ _ c.same_row.ensures)
