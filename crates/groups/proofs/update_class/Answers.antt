-- `groups::update_class` meets its contract.
use Rattle.std.proofs.Common.{◌∙◌, arith, rules, w16}
use mir.Facts.{to_z-of_z}
use Rattle.groups.specs.ChangeLaws.{asked_sizes, class_answered, class_inside, class_ready, class_tables, class₀, class₂}
use Rattle.groups.proofs.update_class.Goals as goal

pub take_out-others-requires : goal.take_out-others-requires
take_out-others-requires c = (class₀ c.requires.0, class_inside c.requires.0)

pub store-requires : goal.store-requires
store-requires c =
    let size = (asked_sizes c.requires.0).2 in
    let inside = class_inside c.requires.0 in
    (omega arith, c.requires.1)

pub put_back-joined-requires : goal.put_back-joined-requires
put_back-joined-requires c = search (rules, class₂, class_ready, class_inside)

pub returns : goal.returns
returns c = (
  class_tables c.requires.0 c.take_out-others.ensures.0 c.store.ensures c.put_back-joined.ensures,
  to_z-of_z {w = w16} (record { sfits = c.difference.type_inv }) ∙ c.difference.ensures ∙ rw (c.from.ensures, c.from-2.ensures) (search (rules, class_answered)),
)
