-- `sums::sum_groups` meets its contract.
-- The invariant: the cubes of the nodes below p are added up.
use Rattle.sums.specs.Sums.{Cubed, NoneJoined}
use Rattle.sums.proofs.sum_groups.Given as goal

abbrev pub invariant-loop-p : goal.invariant-loop-p
invariant-loop-p l = Cubed l.p l.least l.sums × NoneJoined l.sums
