-- `unfolding::spread_word` meets its contract.
use Rattle.std.proofs.Common.{arith}
use Rattle.unfolding.specs.SpreadLaws.{spread_done, spread_more, word_none}
use Rattle.unfolding.proofs.spread_word.Goals as goal

pub loop-q-init : goal.loop-q-init
loop-q-init c = (omega arith, omega arith, word_none _ _ _)

pub loop-q-preserved : goal.loop-q-preserved
loop-q-preserved c =
    (omega arith, omega arith, spread_more _ c.loop-q.invariant.2 c.loop-q.invariant.0 (omega arith) c.has_first.ensures c.bit_of.ensures)

pub returns : goal.returns
returns c = spread_done c.loop-q.invariant.2 c.loop-q.invariant.0 (omega arith) (omega arith)
