-- What is left to write are the groups from the i-th on.
use native.Mathlib.Omega.{arith}
use Rattle.layout.specs.File.{groups_bytes}
use Rattle.layout.specs.FileLaws.{flat_more, flat_room}
use Rattle.buffers.specs.ScanLaws.{flat_end}
use Rattle.buffers.specs.WroteLaws.{left_done, left_start}
use Rattle.writer.proofs.Groups.write.Goals as goal

pub loop-l-init : goal.loop-l-init
unfolding groups_bytes
loop-l-init c = left_start _ _ _

pub write_group-to-requires : goal.write_group-to-requires
write_group-to-requires c = record { l_lt_n = omega (arith, c.wide.ensures, c.requires.rows.below c.loop-l.l-index c.loop-l-test.true); l_in_bounds = rw c.wide.ensures (flat_room _ _ _ c.loop-l.invariant c.requires.leaders_in_bounds c.loop-l-test.true) }

pub loop-l-preserved : goal.loop-l-preserved
loop-l-preserved c = flat_more _ _ _ c.loop-l.invariant c.loop-l-test.true (rw c.wide.ensures at c.write_group-to.ensures)

pub shape_of-out : goal.shape_of-out
shape_of-out c = c.loop-l.invariant.size

pub returns : goal.returns
returns c = left_done c.loop-l.invariant (flat_end _ _ _ c.loop-l-test.false)
