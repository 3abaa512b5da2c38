-- `fill_keys` meets its contract.
use Rattle.opening.specs.Open.{KeysFilled}
use Rattle.opening.proofs.fill_keys.Given as goal

abbrev pub invariant-loop-p : goal.invariant-loop-p
invariant-loop-p l = KeysFilled l.p l.initial.keys l.keys
