-- A walk down the chain.
use Rattle.std.proofs.Common.{arith}
use Rattle.grouping.specs.ChainLaws.{alike-agrees, alike_differs, class_differs, links_less, met_hit, met_miss, row-size, seeking_on, seeking_start}
use Rattle.grouping.proofs.Leaders.find.Goals as goal

pub groups-init : goal.groups-init
groups-init c =
    let pre = c.requires in
    (omega (arith, c.wide-c.ensures, pre.4.below _ pre.3), λ slot leads es k. seeking_start _ k es pre.3 c.wide-c.ensures)

pub groups-smaller-then-classes-q : goal.groups-smaller-then-classes-q
groups-smaller-then-classes-q c = links_less c.requires.4 c.groups-test.true (omega arith) c.wide-c-in-groups.ensures

pub groups-preserved-then-classes-q : goal.groups-preserved-then-classes-q
groups-preserved-then-classes-q c =
    let pre = c.requires in
    let test = c.groups-test.true in
    let next = c.wide-c-in-groups.ensures in
    let less = links_less pre.4 test (omega arith) next in
    (omega arith, λ slot leads es k. seeking_on _ k (c.groups.invariant.1 slot leads es k) test c.groups.invariant.0 (class_differs _ _ _ _ _ c.if-classes-q.true) next)

pub bounds-row-i : goal.bounds-row-i
bounds-row-i c = omega (arith, row-size c.args.edges.now c.args.u c.requires.5 c.requires.1)

pub groups-smaller : goal.groups-smaller
groups-smaller c = links_less c.requires.4 c.groups-test.true (omega arith) c.wide-c-in-groups.ensures

pub groups-preserved : goal.groups-preserved
groups-preserved c =
    let pre = c.requires in
    let test = c.groups-test.true in
    let next = c.wide-c-in-groups.ensures in
    let less = links_less pre.4 test (omega arith) next in
    (omega arith, λ slot leads es k. seeking_on _ k (c.groups.invariant.1 slot leads es k) test c.groups.invariant.0 (alike_differs _ _ _ _ _ pre.5 c.loop-i.i _ (omega arith) c.own_bits.ensures c.if-row-i.true) next)

pub returns-in-groups : goal.returns-in-groups
returns-in-groups c =
    let pre = c.requires in
    λ slot leads es k. met_hit _ k (c.groups.invariant.1 slot leads es k) c.groups-test.true c.groups.invariant.0 (alike-agrees _ _ _ _ _ pre.5 c.if-classes-q.false (λ j l. c.loop-i.invariant j (omega arith)))

pub returns : goal.returns
returns c = λ slot leads es k. met_miss (c.groups.invariant.1 slot leads es k) c.groups-test.false
