-- `unfolding::spread` meets its contract.
use Rattle.std.proofs.Common.{arith}
use Rattle.buffers.specs.StoreLaws.{stored}
use Rattle.model.specs.Tables.{edge_bit}
use Rattle.unfolding.specs.SpreadLaws.{spread_words}
use Rattle.unfolding.specs.Unfolding.{SpreadWord}
use Rattle.unfolding.proofs.spread.Goals as goal

pub loop-w-init : goal.loop-w-init
loop-w-init c = λ i h. absurd (omega arith)

pub loop-w-preserved : goal.loop-w-preserved
loop-w-preserved c = stored _ c.loop-w.w _ (omega arith) (λ i z. SpreadWord i c.args.n c.args.least.now (edge_bit c.args.row.now 0) z) c.loop-w.invariant c.spread_word.ensures

pub returns : goal.returns
returns c = spread_words (omega arith) (λ i h. c.loop-w.invariant i (omega arith))
