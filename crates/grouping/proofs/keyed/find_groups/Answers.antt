-- Rows that agree have one key, and nobody is hidden.
use Rattle.std.proofs.Common.{arith}
use Rattle.grouping.specs.KeyedLaws.{keys_size, keys_tell, least-told, nobody_hidden}
use Rattle.grouping.proofs.keyed.find_groups.Goals as goal

pub group-requires : goal.group-requires
group-requires c =
    let k = c.requires.0 in
    (nobody_hidden k, c.requires.1, λ u h. ((omega (arith, k.within.small), omega (arith, keys_size k)), keys_tell k h))

pub returns : goal.returns
returns c = least-told c.requires.0 c.group.ensures
