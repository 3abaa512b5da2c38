-- The invariant: the lowest bit tells whether a node before p has a loop.
use Rattle.edges.specs.EdgesLaws.{LoopsBelow}
use Rattle.edges.proofs.is_loopless.Given as goal

abbrev pub invariant-loop-p : goal.invariant-loop-p
invariant-loop-p l = LoopsBelow l.edges.words.now l.p l.loops
