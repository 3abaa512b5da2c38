-- Rows that agree have one slot.
use Rattle.std.proofs.Common.{arith}
use Rattle.search.specs.SearchLaws.{within-length}
use Rattle.grouping.specs.LeastLaws.{apart_words}
use Rattle.grouping.specs.SlotLaws.{rows_tell}
use Rattle.grouping.proofs.find_groups.Goals as goal

pub group-requires : goal.group-requires
group-requires c =
    let a = c.requires.0 in
    (a, c.requires.1, λ u h. ((omega (arith, a.within.small), omega (arith, within-length a.within), omega (arith, a.marked)), rows_tell _ _ (apart_words a) u))
