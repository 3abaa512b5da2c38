-- `print::Printer::refused_line` meets its contract.
use Rattle.model.specs.Program.{decimal, refused_line, text}
use Rattle.print.specs.LineLaws.{label_next, label_room, label_then}
use Rattle.print.proofs.Printer.refused_line.Goals as goal

pub count-requires : goal.count-requires
unfolding refused_line text
count-requires c = label_room (text "input refused at line ") (decimal c.args.k) (text "\n") _ _ c.requires

pub text-requires : goal.text-requires
unfolding refused_line text
text-requires c = label_next (text "input refused at line ") (decimal c.args.k) (text "\n") c.count.ensures.wrote c.requires

pub returns-clause-wrote : goal.returns-clause-wrote
unfolding refused_line text
returns-clause-wrote c = label_then (text "input refused at line ") (decimal c.args.k) (text "\n") c.count.ensures.wrote c.text.ensures.wrote
