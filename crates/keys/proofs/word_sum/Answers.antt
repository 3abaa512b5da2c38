-- The invariant: the sum of the bits before 8 * i, by the table of any word.
use Rattle.std.proofs.Common.{refl}
use Rattle.keys.specs.FourLaws.{word_more, words_none}
use Rattle.keys.proofs.word_sum.Goals as goal

pub loop-i-init : goal.loop-i-init
loop-i-init c = λ w h. words_none w _

pub loop-i-preserved : goal.loop-i-preserved
loop-i-preserved c = (λ w h. word_more w _ _ _ _ _ (c.loop-i.invariant w h) (c.eight_sum-total.ensures w h) refl)
