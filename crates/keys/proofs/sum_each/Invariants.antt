-- The invariant: the keys of the nodes below p are summed.
use Rattle.model.specs.Tables.{graph_in}
use Rattle.keys.specs.KeySums.{Summed}
use Rattle.keys.proofs.sum_each.Given as goal

abbrev pub invariant-loop-p : goal.invariant-loop-p
invariant-loop-p l = Summed (graph_in l.edges.n l.edges.words.now) l.p l.initial.keys l.keys
