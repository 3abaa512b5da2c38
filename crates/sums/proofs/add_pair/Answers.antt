-- `sums::add_pair` meets its contract.
use Rattle.std.proofs.Common.{refl}
use Rattle.sums.specs.SumLaws.{pair_added}
use Rattle.sums.proofs.add_pair.Goals as goal

pub returns : goal.returns
returns c = let pre = c.requires in pair_added _ _ _ pre.0 pre.1 pre.2 refl refl
