-- `states::put_labels` meets its contract.
use Rattle.std.proofs.Common.{◌/◌, ◌%◌, get_or}
use Rattle.rings.specs.Steps.{LabelsPut}
use Rattle.states.proofs.put_labels.Given as goal

abbrev pub invariant-loop-p : goal.invariant-loop-p
invariant-loop-p l = LabelsPut (λ q. get_or l.words q 0 % 2) (λ q. get_or l.words q 0 / 2) l.p l.initial.nodes l.nodes
