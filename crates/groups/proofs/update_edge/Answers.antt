-- `groups::update_edge` meets its contract.
use Rattle.std.proofs.Common.{◌∙◌, arith, refl, rules, w16}
use mir.Facts.{to_z-of_z}
use Rattle.groups.specs.ChangeLaws.{asked-answer, asked_ends, asked_greater, asked_lesser, asked_ready, asked_sizes, asked_tables, asked₀, asked₁, asked₂, asked₃}
use Rattle.groups.proofs.update_edge.Goals as goal

pub take_out-a_left-requires : goal.take_out-a_left-requires
take_out-a_left-requires c = (asked₀ c.requires refl refl, search (rules, asked_lesser))

pub take_out-b_left-requires : goal.take_out-b_left-requires
take_out-b_left-requires c = search (rules, asked₁, asked_greater)

pub change_edge-requires : goal.change_edge-requires
change_edge-requires c =
    let e = asked_ends c.requires in
    let z = asked_sizes c.requires in
    (omega arith, omega arith, e.2, omega arith, omega arith)

pub change_keys-requires : goal.change_keys-requires
change_keys-requires c =
    let e = asked_ends c.requires in
    let z = asked_sizes c.requires in
    (omega arith, omega arith, e.2, omega arith, omega arith)

pub put_back-a_joined-requires : goal.put_back-a_joined-requires
put_back-a_joined-requires c = search (rules, asked₂, asked_ready, asked_lesser, asked_greater)

pub put_back-b_joined-requires : goal.put_back-b_joined-requires
put_back-b_joined-requires c = search (rules, asked₃, asked_ready, asked_greater)

pub returns : goal.returns
returns c = (
  search (rules, asked_tables),
  to_z-of_z {w = w16} (record { sfits = c.difference.type_inv }) ∙ c.difference.ensures ∙ rw (c.from.ensures, c.from-2.ensures, c.from-3.ensures, c.from-4.ensures) (search (rules, asked-answer)),
)
