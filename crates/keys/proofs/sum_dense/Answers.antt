-- The invariant: the keys of the nodes below p are summed.
use Rattle.std.proofs.Common.{arith}
use Rattle.keys.specs.LeaderLaws.{total_of}
use Rattle.keys.specs.KeySumLaws.{row_key_lem, summed_all, summed_more}
use Rattle.keys.proofs.sum_dense.Goals as goal

pub loop-p-preserved : goal.loop-p-preserved
loop-p-preserved c =
    let pre = c.requires in
    let total = total_of c.sum_leaders.ensures c.lead_all.ensures c.loop-p-test.true in
    (summed_more c.loop-p.invariant (omega (arith, pre.1, c.loop-p-test.true)) (row_key_lem pre.0 c.loop-p-test.true total) c.put_keys.ensures)

pub returns : goal.returns
returns c = summed_all c.loop-p.invariant c.requires.1 c.loop-p-test.false
