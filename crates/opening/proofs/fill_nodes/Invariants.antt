-- `fill_nodes` meets its contract.
use Rattle.opening.specs.Open.{NodesFilled}
use Rattle.opening.proofs.fill_nodes.Given as goal

abbrev pub invariant-loop-p : goal.invariant-loop-p
invariant-loop-p l = NodesFilled l.n l.p l.initial.nodes l.nodes
