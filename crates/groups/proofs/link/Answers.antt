-- `groups::link` meets its contract: two stores.
use Rattle.rings.specs.StoreLaws.{linked}
use Rattle.groups.proofs.link.Goals as goal

pub returns : goal.returns
returns c =
    let pre = c.requires in
    linked pre.1 pre.2 pre.3 c.store.ensures c.store-2.ensures
