-- `print::Printer::open_line` meets its contract.
use mathlib.Core.List.{◌++◌}
use Rattle.model.specs.Program.{decimal, open_line, text}
use Rattle.print.specs.LineLaws.{label_next, label_room, label_then}
use Rattle.print.proofs.Printer.open_line.Goals as goal

pub count-requires : goal.count-requires
unfolding open_line text
count-requires c = let d = c.args in
    label_room (text "open ") (decimal d.m) (text " groups " ++ (decimal d.g ++ (text " joins " ++ (decimal d.s ++ text "\n")))) _ _ c.requires

pub count-requires-2 : goal.count-requires-2
unfolding open_line text
count-requires-2 c = let d = c.args in
    label_room (text " groups ") (decimal d.g) (text " joins " ++ (decimal d.s ++ text "\n")) _ _
    (label_next (text "open ") (decimal d.m) (text " groups " ++ (decimal d.g ++ (text " joins " ++ (decimal d.s ++ text "\n")))) c.count.ensures.wrote c.requires)

pub count-requires-3 : goal.count-requires-3
unfolding open_line text
count-requires-3 c = let d = c.args in
    label_room (text " joins ") (decimal d.s) (text "\n") _ _
    (label_next (text " groups ") (decimal d.g) (text " joins " ++ (decimal d.s ++ text "\n")) c.count-2.ensures.wrote
    (label_next (text "open ") (decimal d.m) (text " groups " ++ (decimal d.g ++ (text " joins " ++ (decimal d.s ++ text "\n")))) c.count.ensures.wrote c.requires))

pub text-requires : goal.text-requires
unfolding open_line text
text-requires c = let d = c.args in
    label_next (text " joins ") (decimal d.s) (text "\n") c.count-3.ensures.wrote
    (label_next (text " groups ") (decimal d.g) (text " joins " ++ (decimal d.s ++ text "\n")) c.count-2.ensures.wrote
    (label_next (text "open ") (decimal d.m) (text " groups " ++ (decimal d.g ++ (text " joins " ++ (decimal d.s ++ text "\n")))) c.count.ensures.wrote c.requires))

pub returns-clause-wrote : goal.returns-clause-wrote
unfolding open_line text
returns-clause-wrote c = let d = c.args in
    label_then (text "open ") (decimal d.m) (text " groups " ++ (decimal d.g ++ (text " joins " ++ (decimal d.s ++ text "\n")))) c.count.ensures.wrote
    (label_then (text " groups ") (decimal d.g) (text " joins " ++ (decimal d.s ++ text "\n")) c.count-2.ensures.wrote
    (label_then (text " joins ") (decimal d.s) (text "\n") c.count-3.ensures.wrote c.text.ensures.wrote))
