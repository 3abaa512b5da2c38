-- `print::next_group` meets its contract.
use native.Mathlib.Omega.{arith}
use Rattle.print.specs.Lines.{next_group}
use Rattle.print.proofs.next_group.Goals as goal

pub returns : goal.returns
unfolding next_group
returns c = (omega arith, omega arith)
