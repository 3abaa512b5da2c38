-- `print::Printer::group_line` meets its contract.
use mathlib.Core.Path.{refl, ap}
use mathlib.Core.List.{◌++◌}
use Prim.Native.Nat.{◌+◌}
use native.Mathlib.Omega.{arith}
use lib.ListN.{length, drop}
use Rattle.model.specs.Program.{text}
use Rattle.buffers.specs.WroteLaws.{wrote_then}
use Rattle.print.specs.LineLaws.{room_first, room_then}
use Rattle.print.specs.Lines.{member_texts}
use Rattle.print.specs.WalkLaws.{group_line_is}
use Rattle.print.proofs.Printer.group_line.Goals as goal

pub byte-requires : goal.byte-requires
byte-requires c = omega (arith, ap length (group_line_is c.args.p _ _ c.args.file.now c.byte_at.ensures refl))

pub members-requires : goal.members-requires
members-requires c = let d = c.args in
    let r = rw (group_line_is d.p _ _ d.file.now c.byte_at.ensures c.number_at.ensures.0) at c.requires.has_room in
    record { from_bound = omega arith; has_room = room_first (member_texts c.number_at.result (drop (d.p + 6) d.file.now)) (text "\n") _ _ (room_then c.byte.ensures.wrote (member_texts c.number_at.result (drop (d.p + 6) d.file.now) ++ text "\n") r) }

pub text-requires : goal.text-requires
unfolding text
text-requires c = let d = c.args in
    let r = rw (group_line_is d.p _ _ d.file.now c.byte_at.ensures c.number_at.ensures.0) at c.requires.has_room in
    room_then c.members.ensures.wrote (text "\n") (room_then c.byte.ensures.wrote (member_texts c.number_at.result (drop (d.p + 6) d.file.now) ++ text "\n") r)

pub returns-clause-wrote : goal.returns-clause-wrote
unfolding text
returns-clause-wrote c = let d = c.args in
    rw (group_line_is d.p _ _ d.file.now c.byte_at.ensures c.number_at.ensures.0) (wrote_then c.byte.ensures.wrote (wrote_then c.members.ensures.wrote c.text.ensures.wrote))
