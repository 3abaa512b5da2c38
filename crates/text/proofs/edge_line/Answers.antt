-- `text::edge_line` meets its contract.
use Rattle.text.specs.LineLaws.{edge_both, edge_first, edge_second, edge_short}
use Rattle.text.proofs.edge_line.Goals as goal

pub returns-in_err-first : goal.returns-in_err-first
returns-in_err-first c = rw c.from_residual.ensures (edge_short _ _ c.in_err-first.ensures)

pub returns-in_err-u : goal.returns-in_err-u
returns-in_err-u c = rw c.from_residual-in_err-u.ensures (edge_first _ c.in_ok-first.ensures c.in_err-u.ensures)

pub returns-in_err-v : goal.returns-in_err-v
returns-in_err-v c = rw c.from_residual-in_err-v.ensures (edge_second _ c.in_ok-first.ensures _ c.in_ok-u.ensures c.in_err-v.ensures)

pub returns : goal.returns
returns c = edge_both _ c.in_ok-first.ensures _ _ c.in_ok-u.ensures c.in_ok-v.ensures
