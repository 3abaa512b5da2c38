-- `unfolding::clique_row` meets its contract.
use Rattle.unfolding.specs.SpreadLaws.{spread_but}
use Rattle.unfolding.proofs.clique_row.Goals as goal

pub returns : goal.returns
returns c = spread_but _ _ _ c.requires.2 (rw c.copy_from_slice.ensures.after at c.set_bit.ensures) c.spread-all.ensures c.flip_edge.ensures
