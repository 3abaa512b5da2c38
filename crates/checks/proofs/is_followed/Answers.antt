-- One return for each test.
use Rattle.std.proofs.Common.{arith}
use Rattle.checks.specs.StepLaws.{follows_leader, follows-member, follows-not, follows_other, follows_outside}
use Rattle.checks.proofs.is_followed.Goals as goal

pub returns-then-a-n : goal.returns-then-a-n
returns-then-a-n c = follows_outside _ _ _ _ c.if-a-n.true

pub returns-then-number-l : goal.returns-then-number-l
returns-then-number-l c = follows_other _ _ _ _ (omega arith) c.number-l.ensures c.number.ensures c.if-number-l.true

pub returns-then-number-p : goal.returns-then-number-p
returns-then-number-p c =
    follows-not _ _ _ _ (omega arith) c.number-l.ensures c.number.ensures c.if-number-l.false c.number-2.ensures c.if-number-p.true

pub returns-then-l-p : goal.returns-then-l-p
returns-then-l-p c =
    follows_leader _ _ _ _ (omega arith) c.number-l.ensures c.number.ensures c.if-number-l.false c.number-2.ensures c.if-number-p.false c.if-l-p.true

pub returns : goal.returns
returns c =
    follows-member _ _ _ _ (omega arith) c.number-l.ensures c.number.ensures c.if-number-l.false c.number-2.ensures c.if-number-p.false c.if-l-p.false
