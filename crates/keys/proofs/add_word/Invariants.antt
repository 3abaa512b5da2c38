-- The invariant: the totals of the nodes before p have word w.
use Rattle.keys.specs.LeaderLaws.{Amid}
use Rattle.keys.proofs.add_word.Given as goal

abbrev pub invariant-loop-p : goal.invariant-loop-p
invariant-loop-p l = Amid l.edges.n l.stride l.least l.edges.words.now l.w l.p l.totals
