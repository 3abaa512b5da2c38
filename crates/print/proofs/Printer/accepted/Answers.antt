-- `print::Printer::accepted` meets its contract.
use native.Mathlib.Omega.{arith}
use lib.ListN.{length-append}
use Rattle.model.specs.Program.{change_lines}
use Rattle.buffers.specs.WroteLaws.{wrote_length, wrote_then}
use Rattle.print.specs.Lines.{file_text}
use Rattle.print.proofs.Printer.accepted.Goals as goal

pub change_lines-requires : goal.change_lines-requires
change_lines-requires c = let d = c.args in omega (arith, length-append (change_lines 1 d.answers.now) (file_text d.file.now))

pub release_lines-requires : goal.release_lines-requires
release_lines-requires c = let d = c.args in
    let w = c.change_lines.ensures.wrote in
    omega (arith, length-append (change_lines 1 d.answers.now) (file_text d.file.now), w.place, wrote_length w)

pub returns-clause-wrote : goal.returns-clause-wrote
returns-clause-wrote c = wrote_then c.change_lines.ensures.wrote c.release_lines.ensures.wrote
