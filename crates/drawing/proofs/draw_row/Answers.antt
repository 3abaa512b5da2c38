-- Before word w: the words from w on are still to be put in.
use Rattle.std.proofs.Common.{arith}
use Rattle.drawing.specs.BitLaws.{word-drawn}
use Rattle.drawing.specs.DrawingLaws.{words_done, words_start, words_step}
use Rattle.drawing.proofs.draw_row.Goals as goal

pub loop-w-init : goal.loop-w-init
loop-w-init c = words_start _ _ _

pub loop-w-preserved : goal.loop-w-preserved
loop-w-preserved c = words_step _ _ _ c.loop-w.invariant (word-drawn _ _ _ _ (omega arith) (omega (arith, c.loop-w.invariant.size)))

pub returns : goal.returns
returns c = words_done _ _ _ (omega arith) c.loop-w.invariant
