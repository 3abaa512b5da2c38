-- The invariant: the words before d are put.
use Rattle.symmetry.specs.Symmetry.{EightPut}
use Rattle.symmetry.proofs.put_eight.Given as goal

abbrev pub invariant-loop-d : goal.invariant-loop-d
invariant-loop-d l = EightPut l.at l.step l.d l.fn.x l.initial.b l.b
