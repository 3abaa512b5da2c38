-- `text::read_number` meets its contract.
use Rattle.text.specs.NumberLaws.{Digits}
use Rattle.text.proofs.read_number.Given as goal

abbrev pub invariant-loop-b : goal.invariant-loop-b
invariant-loop-b l = Digits l.s l.value l.b-index
