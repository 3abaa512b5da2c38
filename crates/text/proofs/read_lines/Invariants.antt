-- `text::read_lines` meets its contract.
use Rattle.std.specs.Prelude.{length}
use Rattle.model.specs.Program.{lines_from, pieces}
use Rattle.text.specs.ParseLaws.{Reading}
use Rattle.text.proofs.read_lines.Given as goal

abbrev pub invariant-loop-line : goal.invariant-loop-line
invariant-loop-line l = Reading l.initial.batch l.batch (lines_from l.n 2 (pieces 0x0A l.lines)) l.n l.count l.rest

abbrev pub decreases-loop-line : goal.decreases-loop-line
decreases-loop-line l = length l.rest
