-- `text::read_line` meets its contract.
use Rattle.std.proofs.Common.{arith}
use Rattle.text.specs.LineLaws.{line_by, line_not, line_other, line_short}
use Rattle.text.proofs.read_line.Goals as goal

pub returns-in_err-first : goal.returns-in_err-first
returns-in_err-first c = rw c.from_residual.ensures (line_short _ c.in_err-first.ensures)

pub returns-then-first-ne1 : goal.returns-then-first-ne1
returns-then-first-ne1 c = line_not c.in_ok-first.ensures c.if-first-ne1.true

pub returns-in-116 : goal.returns-in-116
returns-in-116 c = line_by c.in_ok-first.ensures c.if-first-ne1.false c.in-116.is c.edge_line.ensures

pub returns-in-117 : goal.returns-in-117
returns-in-117 c = line_by c.in_ok-first.ensures c.if-first-ne1.false c.in-117.is c.edge_line-in-117.ensures

pub returns-in-119 : goal.returns-in-119
returns-in-119 c = line_by c.in_ok-first.ensures c.if-first-ne1.false c.in-119.is c.mark_line.ensures

pub returns-in-111 : goal.returns-in-111
returns-in-111 c = line_by c.in_ok-first.ensures c.if-first-ne1.false c.in-111.is c.mark_line-in-111.ensures

pub returns-in_default : goal.returns-in_default
returns-in_default c = line_other c.in_ok-first.ensures c.if-first-ne1.false (omega arith) (omega arith) (omega arith) (omega arith)
