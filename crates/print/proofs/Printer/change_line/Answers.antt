-- `print::Printer::change_line` meets its contract.
use mathlib.Core.List.{◌++◌}
use lib.IntN.{ℤ}
use Rattle.model.specs.Program.{change_line, decimal, signed, text}
use Rattle.buffers.specs.WroteLaws.{wrote_then}
use Rattle.print.specs.LineLaws.{label_next, label_room, label_then, room_first, room_then}
use Rattle.print.specs.SignedLaws.{signed_kept}
use Rattle.print.proofs.Printer.change_line.Goals as goal

pub count-requires : goal.count-requires
unfolding change_line text
count-requires c = label_room (text "change ") (decimal c.args.i) (text ": " ++ (signed c.args.answer ++ text "\n")) _ _ c.requires

pub text-requires : goal.text-requires
unfolding change_line text
text-requires c = let a : ℤ = c.args.answer in
    room_first (text ": ") (signed a ++ text "\n") _ _ (label_next (text "change ") (decimal c.args.i) (text ": " ++ (signed a ++ text "\n")) c.count.ensures.wrote c.requires)

pub signed-requires : goal.signed-requires
unfolding change_line text
signed-requires c = let a : ℤ = c.args.answer in
    let r = label_next (text "change ") (decimal c.args.i) (text ": " ++ (signed a ++ text "\n")) c.count.ensures.wrote c.requires in
    rw (signed_kept a c.ranges.answer) (room_first (signed a) (text "\n") _ _ (room_then c.text.ensures.wrote (signed a ++ text "\n") r))

pub text-requires-2 : goal.text-requires-2
unfolding change_line text
text-requires-2 c = let a : ℤ = c.args.answer in
    let r = label_next (text "change ") (decimal c.args.i) (text ": " ++ (signed a ++ text "\n")) c.count.ensures.wrote c.requires in
    room_then (rw (signed_kept a c.ranges.answer) at c.signed.ensures.wrote) (text "\n") (room_then c.text.ensures.wrote (signed a ++ text "\n") r)

pub returns-clause-wrote : goal.returns-clause-wrote
unfolding change_line text
returns-clause-wrote c = let a : ℤ = c.args.answer in
    label_then (text "change ") (decimal c.args.i) (text ": " ++ (signed a ++ text "\n")) c.count.ensures.wrote
    (wrote_then c.text.ensures.wrote (wrote_then (rw (signed_kept a c.ranges.answer) at c.signed.ensures.wrote) c.text-2.ensures.wrote))
