-- `groups::take_out` meets its contract.
use Rattle.std.proofs.Common.{◌∙◌, arith, sym}
use Rattle.rings.specs.StoreLaws.{new_least_below, new_least_leads, taken_by}
use Rattle.groups.specs.GroupLaws.{others_left}
use Rattle.groups.proofs.take_out.Goals as goal

pub rename-requires : goal.rename-requires
rename-requires c =
    let next = c.requires.0.next c.args.u c.requires.1 in
    (c.requires.0, c.requires.1, new_least_below c.new_least-y.ensures c.requires.1 (omega arith), λ ne. sym c.number-l.ensures ∙ new_least_leads c.new_least-y.ensures ne)

pub link-requires : goal.link-requires
link-requires c =
    let next = c.requires.0.next c.args.u c.requires.1 in
    let prev = c.requires.0.prev c.args.u c.requires.1 in
    omega arith

pub returns : goal.returns
returns c = (
  taken_by c.requires.0.size c.requires.1 c.number-a.ensures c.number-b.ensures (rw c.number-l.ensures at c.new_least-y.ensures) c.rename.ensures c.link.ensures c.link-2.ensures c.store.ensures,
  others_left c.number-b.ensures,
)
