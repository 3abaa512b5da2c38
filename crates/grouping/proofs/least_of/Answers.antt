-- `grouping::least_of` meets its contract.
-- One law for each way out.
use Rattle.std.proofs.Common.{sym, ◌∙◌, arith}
use Rattle.search.specs.SearchLaws.{within-length}
use Rattle.grouping.specs.Chains.{classed_slot}
use Rattle.grouping.specs.LeastLaws.{least-closed, least_hidden, least-met_by}
use Rattle.grouping.proofs.least_of.Goals as goal

pub returns-then-not-is_visible : goal.returns-then-not-is_visible
returns-then-not-is_visible g c =
    c.wide.ensures ∙ least_hidden c.requires.apart.0 c.requires.apart.2 _ c.is_visible.ensures c.if-not-is_visible.true

pub slice_bounds-row-end : goal.slice_bounds-row-end
slice_bounds-row-end g c = omega (arith, within-length c.requires.apart.0.within, c.requires.apart.2)

pub returns-in-Some : goal.returns-in-Some
returns-in-Some g c =
    least-met_by c.requires.apart.0 c.requires.apart.2 _ c.is_visible.ensures c.if-not-is_visible.false (classed_slot _ (g.S.Slots.told _)) _ (c.in-Some.ensures _ _ (sym c.requires.a_value.0) c.requires.apart.1.open_chains)

pub returns : goal.returns
returns g c =
    let pre = c.requires in
    c.unwrap_or.ensures
    ∙ least-closed pre.apart.0 pre.apart.2 _ c.is_visible.ensures c.if-not-is_visible.false (classed_slot _ (g.S.Slots.told _)) pre.reached.1
    (c.in_default.ensures _ _ (sym pre.a_value.0) pre.apart.1.open_chains) _ (c.find_in_slot-2.ensures _ _ (sym pre.a_value.1) pre.apart.1.closed_chains)
