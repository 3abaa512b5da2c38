-- `print::Printer::superedge_line` meets its contract.
use mathlib.Core.List.{◌++◌}
use Rattle.model.specs.Program.{spaced, superedge_line, text}
use Rattle.buffers.specs.WroteLaws.{wrote_then}
use Rattle.print.specs.LineLaws.{room_first, room_then}
use Rattle.print.proofs.Printer.superedge_line.Goals as goal

pub text-requires : goal.text-requires
unfolding superedge_line text
text-requires c = let d = c.args in
    room_first (text "J") (spaced d.i ++ (spaced d.j ++ text "\n")) _ _ c.requires

pub spaced-requires : goal.spaced-requires
unfolding superedge_line text
spaced-requires c = let d = c.args in
    room_first (spaced d.i) (spaced d.j ++ text "\n") _ _ (room_then c.text.ensures.wrote (spaced d.i ++ (spaced d.j ++ text "\n")) c.requires)

pub spaced-requires-2 : goal.spaced-requires-2
unfolding superedge_line text
spaced-requires-2 c = let d = c.args in
    room_first (spaced d.j) (text "\n") _ _
    (room_then c.spaced.ensures.wrote (spaced d.j ++ text "\n") (room_then c.text.ensures.wrote (spaced d.i ++ (spaced d.j ++ text "\n")) c.requires))

pub text-requires-2 : goal.text-requires-2
unfolding superedge_line text
text-requires-2 c = let d = c.args in
    room_then c.spaced-2.ensures.wrote (text "\n")
    (room_then c.spaced.ensures.wrote (spaced d.j ++ text "\n") (room_then c.text.ensures.wrote (spaced d.i ++ (spaced d.j ++ text "\n")) c.requires))

pub returns-clause-wrote : goal.returns-clause-wrote
unfolding superedge_line text
returns-clause-wrote c = wrote_then c.text.ensures.wrote (wrote_then c.spaced.ensures.wrote (wrote_then c.spaced-2.ensures.wrote c.text-2.ensures.wrote))
