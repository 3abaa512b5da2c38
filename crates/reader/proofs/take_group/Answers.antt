-- `reader::take_group` meets its contract.
use native.Mathlib.Omega.{arith}
use Rattle.reader.specs.GroupLaws.{all_members, few_members, group-told, numbers_room, taken-first, no_group, no_members, no_room}
use Rattle.reader.proofs.take_group.Goals as goal

pub returns-then-members-least_count-clause-taken : goal.returns-then-members-least_count-clause-taken
returns-then-members-least_count-clause-taken c = few_members _ _ _ _ _ _ _ c.in_ok-read.ensures _ _ _ c.in-Group.is _ (omega arith) c.least_count.ensures (omega arith)

pub overflow_sub-file : goal.overflow_sub-file
overflow_sub-file c = let told = group-told _ _ _ c.in_ok-read.ensures _ _ _ c.in-Group.is in omega arith

pub returns-then-file-from-clause-taken : goal.returns-then-file-from-clause-taken
returns-then-file-from-clause-taken c = no_room _ _ _ _ _ _ _ c.in_ok-read.ensures _ _ _ c.in-Group.is _ (omega arith) c.least_count.ensures (omega arith) (omega arith)

pub returns-in_err-others-clause-taken : goal.returns-in_err-others-clause-taken
returns-in_err-others-clause-taken c = rw c.from_residual-in_err-others.ensures (no_group _ _ _ _ _ _ _ c.in_ok-read.ensures _ _ _ c.in-Group.is _ (omega arith) c.least_count.ensures _ (omega arith) (omega arith) c.group.ensures c.in_err-others.was)

pub read_members-requires : goal.read_members-requires
read_members-requires c = let room = numbers_room _ _ _ c.in_ok-read.ensures _ _ _ c.in-Group.is _ c.least_count.ensures (omega arith) (omega arith) in (c.requires.0, omega arith, omega arith, c.requires.1)

pub returns-in_err-left-clause-taken : goal.returns-in_err-left-clause-taken
returns-in_err-left-clause-taken c = rw c.from_residual-in_err-left.ensures (no_members _ _ _ _ _ _ _ c.in_ok-read.ensures _ _ _ c.in-Group.is _ (omega arith) c.least_count.ensures _ (omega arith) (omega arith) c.group.ensures _ c.in_ok-others.was _ _ (rw c.from-members.ensures at c.read_members.ensures) c.in_err-left.was)

pub node_at-requires : goal.node_at-requires
node_at-requires c = let room = numbers_room _ _ _ c.in_ok-read.ensures _ _ _ c.in-Group.is _ c.least_count.ensures (omega arith) (omega arith) in omega arith

pub returns : goal.returns
returns c =
    let got = all_members _ _ _ _ _ _ _ c.in_ok-read.ensures _ _ _ c.in-Group.is _ (omega arith) c.least_count.ensures _ (omega arith) (omega arith) c.group.ensures _ c.in_ok-others.was _ _ (rw c.from-members.ensures at c.read_members.ensures) _ _ _ c.in_ok-left.was (rw c.from-members.ensures at c.kind_of.ensures) c.node_at.ensures in
    record { taken = rw c.from-members.ensures got; first = taken-first _ _ _ _ _ _ _ _ got }
