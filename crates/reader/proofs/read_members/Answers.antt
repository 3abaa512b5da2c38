-- `reader::read_members` meets its contract.
use native.Mathlib.Omega.{arith}
use Rattle.reader.specs.GroupLaws.{member_counts, member_large, member_low, member_over, member_twice, members_done, members_end, members_over, members_start, put_start, put_step, taken_no, taken_yes}
use Rattle.reader.proofs.read_members.Goals as goal

pub loop-k-init : goal.loop-k-init
loop-k-init c = (omega arith, members_start _ _ _ _ _ _ _, put_start _ _ _ _ _ _)

pub returns-then-p-from : goal.returns-then-p-from
returns-then-p-from c = members_over _ _ _ _ _ _ _ _ c.loop-k.invariant.2.size (member_low _ _ _ _ _ _ _ c.loop-k-test.true c.node_at-p.ensures _ _ _ c.loop-k.invariant.1 c.if-p-from.true)

pub returns-then-p-n : goal.returns-then-p-n
returns-then-p-n c = members_over _ _ _ _ _ _ _ _ c.loop-k.invariant.2.size (member_large _ _ _ _ _ _ _ c.loop-k-test.true c.node_at-p.ensures _ _ _ c.loop-k.invariant.1 c.if-p-from.false c.if-p-n.true)

pub returns-then-least-p : goal.returns-then-least-p
returns-then-least-p c = members_over _ _ _ _ _ _ _ _ c.loop-k.invariant.2.size (member_twice _ _ _ _ _ _ _ c.loop-k-test.true c.node_at-p.ensures _ _ _ c.loop-k.invariant.1 c.if-p-from.false c.if-p-n.false (taken_yes _ _ _ (c.loop-k.invariant.2.above _ c.if-p-from.false) c.if-least-p.true))

pub returns-in_err-left : goal.returns-in_err-left
returns-in_err-left c = rw c.from_residual.ensures (members_over _ _ _ _ _ _ _ _ c.loop-k.invariant.2.size (member_over _ _ _ _ _ _ _ c.loop-k-test.true c.node_at-p.ensures _ _ _ c.loop-k.invariant.1 _ c.if-p-from.false c.if-p-n.false (taken_no _ _ _ (c.loop-k.invariant.2.above _ c.if-p-from.false) c.if-least-p.false) c.member.ensures c.in_err-left.was))

pub loop-k-preserved : goal.loop-k-preserved
loop-k-preserved c = (omega arith, member_counts _ _ _ _ _ _ _ c.loop-k-test.true c.node_at-p.ensures _ _ _ c.loop-k.invariant.1 _ c.if-p-from.false c.if-p-n.false (taken_no _ _ _ (c.loop-k.invariant.2.above _ c.if-p-from.false) c.if-least-p.false) c.member.ensures _ c.in_ok-left.was, put_step _ _ _ _ _ _ c.loop-k.invariant.2 _ c.loop-k-test.true c.node_at-p.ensures (omega (arith, c.if-p-n.false, c.loop-k.invariant.2.size, c.requires)) c.if-p-from.false)

pub returns : goal.returns
returns c = members_done _ _ _ _ _ _ _ _ _ _ _ _ c.requires.1 (omega arith) c.u16_at-first.ensures (members_end _ _ _ _ _ _ _ _ _ (omega arith) c.loop-k.invariant.1) c.loop-k.invariant.2
