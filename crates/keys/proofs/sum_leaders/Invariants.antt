-- The invariant: the words before w are summed.
use Rattle.keys.specs.KeySums.{LeadersSummed}
use Rattle.keys.proofs.sum_leaders.Given as goal

abbrev pub invariant-loop-w : goal.invariant-loop-w
invariant-loop-w l = LeadersSummed l.edges.n l.stride l.least l.edges.words.now l.w l.totals
