-- The invariant: the totals of the nodes before p have word w.
use Rattle.keys.specs.LeaderLaws.{amid_more}
use Rattle.keys.proofs.add_word.Goals as goal

pub loop-p-preserved : goal.loop-p-preserved
loop-p-preserved c =
    (amid_more c.loop-p.invariant c.loop-p-test.true c.add_row_word.ensures)
