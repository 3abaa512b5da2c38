-- A member; a leader with keys of its own in its class; or what the search finds.
use Rattle.std.proofs.Common.{sym, refl, ◌∙◌, arith}
use Rattle.model.proofs.TestLaws.{or_none}
use Rattle.search.specs.SearchLaws.{found_none, ready_keys}
use Rattle.checks.specs.SlotLaws.{alone_fresh, class_place, even_place, seen_leader, seen_member, seen_new}
use Rattle.checks.specs.StepLaws.{alone_leader, alone-member}
use Rattle.checks.proofs.is_alone.Goals as goal

pub returns-then-number-u : goal.returns-then-number-u
returns-then-number-u c =
    let is = c.number.ensures in
    (alone-member _ _ _ _ is c.if-number-u.true, seen_member c.requires.nodes_len.2 (λ e. c.if-number-u.true (is ∙ e)), seen_member c.requires.nodes_len.3 (λ e. c.if-number-u.true (is ∙ e)))

pub bounds-keys-u : goal.bounds-keys-u
bounds-keys-u c =
    let k = ready_keys _ _ _ c.requires.ready in
    omega arith

pub bounds-keys-u-2 : goal.bounds-keys-u-2
bounds-keys-u-2 c =
    let k = ready_keys _ _ _ c.requires.ready in
    omega arith

pub returns-then-not-open-closed : goal.returns-then-not-open-closed
returns-then-not-open-closed c =
    let key = even_place c.args.keys.now c.args.u in
    let class = class_place c.args.nodes.now c.args.u in
    let x = c.take_slot-open.ensures in
    let y = c.take_slot-closed.ensures in
    let free = or_none _ _ c.if-not-open-closed.true in
    let fresh = alone_fresh _ c.requires.ready c.requires.nodes_len.1 (sym c.number.ensures ∙ c.if-number-u.false) (seen_new c.requires.nodes_len.2 key class x free.0) (seen_new c.requires.nodes_len.3 refl class y free.1) in
    (fresh, seen_leader c.requires.nodes_len.2 key class x, seen_leader c.requires.nodes_len.3 refl class y)

pub returns : goal.returns
returns c =
    let key = even_place c.args.keys.now c.args.u in
    let class = class_place c.args.nodes.now c.args.u in
    (found_none _ _ c.find_group.ensures c.is_none.ensures ∙ alone_leader _ _ _ _ c.number.ensures c.if-number-u.false refl, seen_leader c.requires.nodes_len.2 key class c.take_slot-open.ensures, seen_leader c.requires.nodes_len.3 refl class c.take_slot-closed.ensures)
