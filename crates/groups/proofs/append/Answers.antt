-- A node that leads, and one that follows the last member so far.
use Rattle.std.proofs.Common.{arith}
use Rattle.rings.specs.StoreLaws.{size}
use Rattle.rings.specs.BuildLaws.{end_before, end_inside, leader_put, member_put}
use Rattle.groups.proofs.append.Goals as goal

pub returns-then-l-p : goal.returns-then-l-p
returns-then-l-p c =
    let pre = c.requires in
    leader_put pre.2 pre.1 pre.4 pre.3 c.wide-l.ensures c.store.ensures c.if-l-p.true c.link.ensures

pub number-a-requires : goal.number-a-requires
number-a-requires c =
    let pre = c.requires in
    omega (arith, end_before pre.2 pre.1 pre.4 pre.3 c.wide-l.ensures c.store.ensures c.if-l-p.false, pre.1, pre.4, size c.store.ensures)

pub link-requires-2 : goal.link-requires-2
link-requires-2 c =
    let pre = c.requires in
    let a = end_inside pre.2 pre.1 pre.4 pre.3 c.wide-l.ensures c.store.ensures c.if-l-p.false c.number-a.ensures in
    (pre.0, omega (arith, pre.1, size c.store.ensures), omega (arith, pre.4), pre.4)

pub link-requires-3 : goal.link-requires-3
link-requires-3 c =
    let pre = c.requires in
    let l = end_before pre.2 pre.1 pre.4 pre.3 c.wide-l.ensures c.store.ensures c.if-l-p.false in
    (pre.0, omega (arith, pre.1, size c.store.ensures, c.link-2.ensures.size), pre.4, omega (arith, pre.4))

pub returns : goal.returns
returns c =
    let pre = c.requires in
    member_put pre.2 pre.1 pre.4 pre.3 c.wide-l.ensures c.store.ensures c.if-l-p.false c.number-a.ensures c.link-2.ensures c.link-3.ensures
