-- The invariant: the keys of the nodes below p are summed.
use Rattle.std.proofs.Common.{arith}
use Rattle.search.specs.SearchLaws.{within_inside}
use Rattle.keys.specs.KeySumLaws.{summed_all, summed_more}
use Rattle.keys.proofs.sum_each.Goals as goal

pub sum_row-requires : goal.sum_row-requires
sum_row-requires c =
    let pre = c.requires in
    (c.loop-p-test.true, λ q l t. within_inside pre.0 _ q c.loop-p-test.true l t)

pub loop-p-preserved : goal.loop-p-preserved
loop-p-preserved c =
    let pre = c.requires in
    (summed_more c.loop-p.invariant (omega (arith, pre.1, c.loop-p-test.true)) c.sum_row.ensures c.put_keys.ensures)

pub returns : goal.returns
returns c = summed_all c.loop-p.invariant c.requires.1 c.loop-p-test.false
