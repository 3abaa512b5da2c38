-- Next members go up, so the walk ends, and what is left to write is the rest of the chain.
use native.Mathlib.Omega.{arith}
use Rattle.layout.specs.FileLaws.{members_done, members_room, members_start, members_step}
use Rattle.writer.proofs.Groups.write_members.Goals as goal

pub loop-q-init : goal.loop-q-init
loop-q-init c = members_start _ _ _ _ _

pub put_u16-to-requires : goal.put_u16-to-requires
put_u16-to-requires c = (omega arith, members_room c.loop-q.invariant c.loop-q-test.true c.requires)

pub loop-q-smaller : goal.loop-q-smaller
loop-q-smaller c = omega (arith, c.wide-q.ensures, c.args.self.ahead.ahead c.loop-q.q c.loop-q-test.true)

pub loop-q-preserved : goal.loop-q-preserved
loop-q-preserved c = rw c.wide-q.ensures (members_step c.loop-q.invariant c.loop-q-test.true (c.args.self.ahead.ahead c.loop-q.q c.loop-q-test.true) c.put_u16-to.ensures)

pub shape_of-out : goal.shape_of-out
shape_of-out c = c.loop-q.invariant.left.size

pub returns : goal.returns
returns c = members_done c.loop-q.invariant c.loop-q-test.false
