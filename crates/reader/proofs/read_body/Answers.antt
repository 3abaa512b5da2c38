-- `reader::read_body` meets its contract.
use lib.ListN.{length}
use mathlib.Core.Path.{◌≡◌, ◌∙◌}
use native.Mathlib.Omega.{arith}
use Rattle.std.proofs.Common.{rules}
use Rattle.reader.specs.DecodingLaws.{body_ascend, body_broken, body_nodes, body_placed, body_read}
use Rattle.reader.proofs.read_body.Goals as goal

pub returns-in_default : goal.returns-in_default
returns-in_default c =
    let count : length c.read_groups.new.firsts ≡ c.args.g = search rules in
    let pre = c.requires in
    body_broken _ _ _ _ _ _ _ _ _ _ _ _ _ _ _ pre.0 pre.3.0 pre.4 (rw count at c.read_groups.ensures.read) (c.read_groups.ensures.sums ∙ pre.3.1) c.in_default.is

pub read_joined-at-requires : goal.read_joined-at-requires
read_joined-at-requires c =
    let count : length c.read_groups.new.firsts ≡ c.args.g = search rules in
    let pre = c.requires in
    let read = rw count at c.read_groups.ensures.read in
    let size = read.size in
    record {
      firsts_are_nodes = (
        body_nodes _ _ _ _ _ _ _ _ _ _ _ _ _ _ _ pre.0 pre.3.0 pre.4 read _ c.in-Some.is pre.1,
        rw count (body_placed _ _ _ _ _ _ _ _ _ _ _ _ _ _ _ pre.0 pre.3.0 pre.4 read _ c.in-Some.is pre.1 pre.2 (omega arith)),
        rw count (body_ascend _ _ _ _ _ _ _ _ _ _ _ _ _ _ _ pre.0 pre.3.0 pre.4 read _ c.in-Some.is),
      );
      joined_value = (pre.3.0.rows.bits, pre.4, c.read_groups.ensures.sums ∙ pre.3.1);
    }

pub returns : goal.returns
returns c =
    let count : length c.read_groups.new.firsts ≡ c.args.g = search rules in
    let pre = c.requires in
    let read = rw count at c.read_groups.ensures.read in
    body_read _ _ _ _ _ _ _ _ _ _ _ _ _ _ _ pre.0 pre.3.0 pre.4 read _ c.in-Some.is _ _ _ _ (rw count at c.read_joined-at.ensures) c.is_end.ensures
