-- `unfolding::filling::fill_edges` meets its contract.
use Rattle.std.proofs.Common.{arith}
use Rattle.unfolding.specs.FollowLaws.{filled, led}
use Rattle.unfolding.proofs.filling.fill_edges.Goals as goal

pub follow_all-requires : goal.follow_all-requires
follow_all-requires c =
    let pre = c.requires in
    let n = pre.0.small in
    (led pre.0, n, omega (arith, pre.0.nodes), omega (arith, pre.0.groups), omega (arith, c.draw_groups.ensures.size, pre.1))

pub returns : goal.returns
returns c = filled c.requires.0 c.requires.1 c.copy_words.ensures c.draw_groups.ensures c.follow_all.ensures (λ i. (c.type_inv.edges i).fits)
