-- `text::split_once` meets its contract.
use Rattle.text.specs.PieceLaws.{part_from, pieces_one, split_at}
use Rattle.text.proofs.split_once.Goals as goal

pub returns-in_err-end : goal.returns-in_err-end
returns-in_err-end c = rw c.from_residual.ensures (pieces_one _ _ c.in_err-end.ensures)

pub returns : goal.returns
returns c = rw part_from (split_at c.in_ok-end.ensures)
