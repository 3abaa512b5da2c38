-- `groups::put_in` meets its contract.
use Rattle.std.proofs.Common.{arith, rules}
use Rattle.rings.specs.StoreLaws.{put_by, before_below, size}
use Rattle.groups.proofs.put_in.Goals as goal

pub number-b-requires : goal.number-b-requires
number-b-requires c =
    let inside = before_below c.requires.0 c.requires.1 c.requires.2 c.last_before-a.ensures in
    omega arith

pub link-requires : goal.link-requires
link-requires c =
    let inside = before_below c.requires.0 c.requires.1 c.requires.2 c.last_before-a.ensures in
    omega arith

pub link-requires-2 : goal.link-requires-2
link-requires-2 c =
    let next = c.requires.0.next c.last_before-a.result (before_below c.requires.0 c.requires.1 c.requires.2 c.last_before-a.ensures) in
    omega (arith, size c.store.ensures)

pub returns : goal.returns
returns c =
    record {
      a = c.last_before-a.result;
      h = c.min-h.result;
      place = c.last_before-a.ensures;
      lesser = search rules;
      put = put_by c.requires.0.size c.requires.1 c.number-b.ensures c.rename.ensures c.store.ensures c.link.ensures c.link-2.ensures;
    }
