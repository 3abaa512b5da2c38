-- `distances::search` meets its contract.
-- One law for each way out, and one for a turn.
use Rattle.std.proofs.Common.{arith}
use Rattle.distances.specs.SearchLaws.{search_start, search_found, search_on, search_room, search_out, search_none, search_step}
use Rattle.distances.proofs.search.Goals as goal

pub loop-d-init : goal.loop-d-init
loop-d-init c = search_start c.requires.0 c.requires.3 c.set_bit.ensures

pub returns-then-meet : goal.returns-then-meet
returns-then-meet c = search_found c.requires.0 c.loop-d.invariant c.requires.2 c.meet.ensures c.if-meet.true (omega arith)

pub reach-next-requires : goal.reach-next-requires
reach-next-requires c = (c.loop-d.invariant.size, search_room c.requires.0 c.loop-d.invariant c.requires.1)

pub returns-then-not-meet : goal.returns-then-not-meet
returns-then-not-meet c =
    let pre = c.requires in
    search_none pre.0 c.loop-d.invariant c.reach-next.ensures c.without-frontier.ensures pre.2 c.meet-in-loop-d.ensures c.if-not-meet.true

pub loop-d-preserved : goal.loop-d-preserved
loop-d-preserved c =
    let pre = c.requires in
    search_step pre.0 c.loop-d.invariant c.reach-next.ensures c.without-frontier.ensures pre.1 (omega arith) (search_on pre.0 c.loop-d.invariant pre.2 c.meet.ensures c.if-meet.false) c.draw_row.ensures (omega arith)

pub returns-else-not-meet : goal.returns-else-not-meet
returns-else-not-meet c =
    let pre = c.requires in
    let done = search_step pre.0 c.loop-d.invariant c.reach-next.ensures c.without-frontier.ensures pre.1 (omega arith) (search_on pre.0 c.loop-d.invariant pre.2 c.meet.ensures c.if-meet.false) c.draw_row.ensures {k = c.loop-d.d} (omega arith) in
    search_out pre.0 done pre.1 pre.2 (omega arith)
