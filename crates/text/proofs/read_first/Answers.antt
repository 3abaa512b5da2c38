-- `text::read_first` meets its contract.
use Rattle.std.proofs.Common.{arith}
use Rattle.text.specs.ParseLaws.{first_ill, first_large, first_open, first_then}
use Rattle.text.proofs.read_first.Goals as goal

pub returns-in_err-first : goal.returns-in_err-first
returns-in_err-first c = rw c.from_residual.ensures (first_open _ c.in_err-first.ensures)

pub returns-in_err-read_number : goal.returns-in_err-read_number
returns-in_err-read_number c = rw c.from_residual-in_err-read_number.ensures (first_ill c.in_ok-first.ensures c.in_err-read_number.ensures)

pub returns-then-n-gt-NODES : goal.returns-then-n-gt-NODES
returns-then-n-gt-NODES c = first_large c.in_ok-first.ensures _ c.in_ok-read_number.ensures (omega (arith, c.from-n.ensures))

pub returns : goal.returns
returns c = rw c.from-n.ensures (first_then c.in_ok-first.ensures _ c.in_ok-read_number.ensures (omega (arith, c.from-n.ensures)))
