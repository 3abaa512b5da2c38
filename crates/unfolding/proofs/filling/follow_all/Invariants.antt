-- `unfolding::filling::follow_all` meets its contract.
use Rattle.unfolding.specs.Filling.{Following}
use Rattle.unfolding.proofs.filling.follow_all.Given as goal

abbrev pub invariant-loop-p : goal.invariant-loop-p
invariant-loop-p l = Following l.least l.kinds l.p l.initial.edges l.edges
