-- `print::Printer::release_lines` meets its contract.
use mathlib.Core.List.{◌++◌}
use native.Mathlib.Omega.{arith}
use lib.ListN.{length, drop}
use Rattle.model.specs.Program.{open_line}
use Rattle.buffers.specs.WroteLaws.{wrote_then}
use Rattle.print.specs.LineLaws.{room_first, room_then}
use Rattle.print.specs.Lines.{group_texts, superedge_texts}
use Rattle.print.specs.WalkLaws.{file_text_is}
use Rattle.print.proofs.Printer.release_lines.Goals as goal

pub open_line-requires : goal.open_line-requires
open_line-requires c = let f = c.args.file.now in
    let g = c.number_at-g in
    let p = c.groups_end-p in
    let r = rw (file_text_is f _ _ _ p.result c.number_at.ensures.0 g.ensures.0 p.ensures.0 c.count_superedges.ensures) at c.requires in
    room_first (open_line c.number_at.result g.result c.count_superedges.result) (group_texts g.result (drop 8 f) ++ superedge_texts (length f) (drop p.result f)) _ _ r

pub group_lines-requires : goal.group_lines-requires
group_lines-requires c = let f = c.args.file.now in
    let g = c.number_at-g in
    let p = c.groups_end-p in
    let r = rw (file_text_is f _ _ _ p.result c.number_at.ensures.0 g.ensures.0 p.ensures.0 c.count_superedges.ensures) at c.requires in record {
      from_bound = omega arith;
      has_room = room_first (group_texts g.result (drop 8 f)) (superedge_texts (length f) (drop p.result f)) _ _
          (room_then c.open_line.ensures.wrote (group_texts g.result (drop 8 f) ++ superedge_texts (length f) (drop p.result f)) r);
    }

pub superedge_lines-requires : goal.superedge_lines-requires
superedge_lines-requires c = let f = c.args.file.now in
    let g = c.number_at-g in
    let p = c.groups_end-p in
    let r = rw (file_text_is f _ _ _ p.result c.number_at.ensures.0 g.ensures.0 p.ensures.0 c.count_superedges.ensures) at c.requires in record {
      from_bound = omega arith;
      has_room = room_then c.group_lines.ensures.wrote (superedge_texts (length f) (drop p.result f))
          (room_then c.open_line.ensures.wrote (group_texts g.result (drop 8 f) ++ superedge_texts (length f) (drop p.result f)) r);
    }

pub returns-clause-wrote : goal.returns-clause-wrote
returns-clause-wrote c = let f = c.args.file.now in
    let g = c.number_at-g in
    let p = c.groups_end-p in
    rw (file_text_is f _ _ _ p.result c.number_at.ensures.0 g.ensures.0 p.ensures.0 c.count_superedges.ensures) (wrote_then c.open_line.ensures.wrote (wrote_then c.group_lines.ensures.wrote c.superedge_lines.ensures.wrote))
