-- `adopting::find_isolated` meets its contract.
use Rattle.std.proofs.Common.{◌≡◌, ℕ, ◌<◌, false}
use Rattle.adopting.specs.Adopting.{is_isolated}
use Rattle.adopting.proofs.find_isolated.Given as goal

abbrev pub invariant-loop-p : goal.invariant-loop-p
invariant-loop-p l = (k : ℕ) → k < l.p → is_isolated l.edges l.classes l.least k ≡ false
