-- `text::mark_line` meets its contract.
use Rattle.text.specs.LineLaws.{mark_none, mark_one}
use Rattle.text.proofs.mark_line.Goals as goal

pub returns-in_err-u : goal.returns-in_err-u
returns-in_err-u c = rw c.from_residual.ensures (mark_none _ _ c.in_err-u.ensures)

pub returns : goal.returns
returns c = mark_one _ _ _ c.in_ok-u.ensures
