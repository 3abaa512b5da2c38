-- `grouping::Groups::is_apart` meets its contract.
-- A node that leads no group, an open row met, and what the closed rows tell.
use Rattle.std.proofs.Common.{ap, not}
use Rattle.grouping.specs.ChainLaws.{classed_slot_lem, moved_small}
use Rattle.grouping.specs.SlotLaws.{slots_tell, small_group_slot}
use Rattle.grouping.specs.PartedLaws.{apart-member, apart_refuted, apart-told, parted_leader, parted_member}
use Rattle.grouping.proofs.Groups.is_apart.Goals as goal

pub returns-then-wide-u-clause-value : goal.returns-then-wide-u-clause-value
returns-then-wide-u-clause-value c = apart-member _ _ _ _ _ c.wide.ensures c.if-wide-u.true

pub returns-then-wide-u-clause-parted_2 : goal.returns-then-wide-u-clause-parted_2
returns-then-wide-u-clause-parted_2 c = λ _. parted_member c.wide.ensures c.if-wide-u.true c.requires.parted

pub slot_in_class-a-requires : goal.slot_in_class-a-requires
slot_in_class-a-requires c = small_group_slot _ _ _ _ _ c.slot.ensures

pub slot_in_class-b-requires : goal.slot_in_class-b-requires
slot_in_class-b-requires c = small_group_slot _ _ _ _ _ c.slot-2.ensures

pub is_new-requires : goal.is_new-requires
is_new-requires c =
    (c.requires.u_lt_max_nodes.0, c.requires.u_lt_max_nodes.1, c.requires.u_lt_max_nodes.4, moved_small _ _ c.slot_in_class-a.ensures, c.requires.parted.open_links)

pub returns-then-not-is_new-clause-value : goal.returns-then-not-is_new-clause-value
returns-then-not-is_new-clause-value c =
    let slot = classed_slot_lem _ _ _ _ c.slot.ensures c.slot_in_class-a.ensures in
    apart_refuted _ _ _ _ _ _ c.wide.ensures c.if-wide-u.false c.requires.parted slot c.is_new.ensures (ap not c.if-not-is_new.true)

pub is_new-requires-2 : goal.is_new-requires-2
is_new-requires-2 c =
    (c.requires.u_lt_max_nodes.0, c.requires.u_lt_max_nodes.1, c.requires.u_lt_max_nodes.4, moved_small _ _ c.slot_in_class-b.ensures, c.requires.parted.closed_links)

pub returns : goal.returns
returns c =
    let first = c.is_new.ensures in
    let second = c.is_new-2.ensures in
    let test = (ap not c.if-not-is_new.false) in
    let slot = classed_slot_lem _ _ _ _ c.slot.ensures c.slot_in_class-a.ensures in
    let slot₂ = classed_slot_lem _ _ _ _ c.slot-2.ensures c.slot_in_class-b.ensures in
    let x = c.wide.ensures in
    let led = c.if-wide-u.false in
    let told = slots_tell _ _ _ _ c.requires.words c.requires.u_lt_max_nodes.6 c.requires.u_lt_max_nodes.0 in
    record { value = apart-told _ _ _ _ _ _ x led c.requires.parted slot first test slot₂ second told; parted_2 = parted_leader _ _ _ _ _ _ x led c.requires.parted slot first test slot₂ second told }
