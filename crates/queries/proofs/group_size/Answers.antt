-- `group_size` meets its contract.
use native.Mathlib.Omega.{arith}
use Rattle.buffers.specs.ScanLaws.{counting_start, counting_yes, counting_no, counting_done}
use Rattle.tables.specs.LentLaws.{held_sized}
use Rattle.queries.proofs.QueryLaws.{led_yes, led_no}
use Rattle.queries.proofs.group_size.Goals as goal
use Rattle.queries.proofs.group_size.Goals.{then-number-l, else-number-l}

pub loop-q-init : goal.loop-q-init
loop-q-init c = (omega arith, counting_start _ _ _)

pub number-requires : goal.number-requires
number-requires c = omega (arith, c.loop-q-test.true, (held_sized c.args.tables.held).nodes)

pub loop-q-preserved : goal.loop-q-preserved
loop-q-preserved c =
    elim c.if-number-l.branch [ then-number-l w ↦ (omega arith, rw w.size-is (counting_yes c.loop-q.invariant.1 c.loop-q-test.true (led_yes _ _ _ _ c.number.ensures w.if-number-l.true))) | else-number-l w ↦ (omega arith, rw w.size-is (counting_no c.loop-q.invariant.1 c.loop-q-test.true (led_no _ _ _ _ c.number.ensures w.if-number-l.false))) ]

pub returns : goal.returns
returns c = counting_done c.loop-q.invariant.1 c.loop-q-test.false
