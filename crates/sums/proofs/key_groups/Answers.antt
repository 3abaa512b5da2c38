-- `sums::key_groups` meets its contract.
use Rattle.std.proofs.Common.{refl, arith}
use Rattle.keys.specs.KeySumLaws.{summed_more}
use Rattle.sums.specs.SumLaws.{led_first}
use Rattle.sums.specs.GroupedLaws.{grouped-all, key_grouped}
use Rattle.sums.proofs.key_groups.Goals as goal

pub open_key-requires-clause-p_bound : goal.open_key-requires-clause-p_bound
open_key-requires-clause-p_bound c = λ d. led_first c.requires.0 c.loop-p-test.true d refl

pub loop-p-preserved : goal.loop-p-preserved
loop-p-preserved c =
    let pre = c.requires in
    λ joined h j. summed_more (c.loop-p.invariant joined h j) (omega (arith, pre.3)) (key_grouped h pre.2 j c.loop-p-test.true c.open_key.ensures) c.put_keys.ensures

pub returns : goal.returns
returns c = λ joined h j. grouped-all _ _ _ joined (c.loop-p.invariant joined h j) c.requires.3 c.loop-p-test.false
