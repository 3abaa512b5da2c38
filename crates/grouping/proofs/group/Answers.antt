-- `grouping::group` meets its contract.
use Rattle.std.proofs.Common.{arith}
use Rattle.grouping.specs.ChainLaws.{classed_slot_lem, links_none, moved_small}
use Rattle.grouping.specs.LeastLaws.{least_fits, sought_more, sought_none, telling_done, telling_more, telling_none}
use Rattle.grouping.proofs.group.Goals as goal

pub loop-u-init : goal.loop-u-init
loop-u-init g c = (sought_none _ _ _ _ _ links_none links_none, telling_none _ _)

pub least_of-l-requires-clause-a_value : goal.least_of-l-requires-clause-a_value
least_of-l-requires-clause-a_value g c =
    (classed_slot_lem _ _ _ _ c.slot.ensures.told c.slot_in_class-a.ensures, classed_slot_lem _ _ _ _ c.slot-in-loop-u.ensures.told c.slot_in_class-b.ensures)

pub enter-requires : goal.enter-requires
enter-requires g c = (omega (arith, c.requires.0.within.small), moved_small _ _ c.slot_in_class-a.ensures, c.loop-u.invariant.0.open_links)

pub enter-requires-in-loop-u : goal.enter-requires-in-loop-u
enter-requires-in-loop-u g c = (omega (arith, c.requires.0.within.small), moved_small _ _ c.slot_in_class-b.ensures, c.loop-u.invariant.0.closed_links)

pub overflow_cast-least : goal.overflow_cast-least
overflow_cast-least g c = omega (arith, least_fits c.requires.0 c.loop-u-test.true c.least_of-l.ensures)

pub loop-u-preserved : goal.loop-u-preserved
loop-u-preserved g c =
    let pre = c.requires in
    let inv = c.loop-u.invariant in
    let led = c.least_of-l.ensures in
    let a = classed_slot_lem _ _ _ _ c.slot.ensures.told c.slot_in_class-a.ensures in
    let b = classed_slot_lem _ _ _ _ c.slot-in-loop-u.ensures.told c.slot_in_class-b.ensures in
    (sought_more inv.0 led (pre.2 _ c.loop-u-test.true).1 a b c.enter.ensures c.enter-in-loop-u.ensures, telling_more inv.1 (omega (arith, pre.1)) led)

pub returns : goal.returns
returns g c = telling_done c.requires.0 c.loop-u.invariant.1 c.loop-u-test.false c.requires.1
