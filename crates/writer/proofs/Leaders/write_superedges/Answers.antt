-- What is left to write are the superedges of the groups from the i-th on.
use Rattle.layout.specs.File.{superedge_bytes}
use Rattle.layout.specs.FileLaws.{flat_more, flat_room}
use Rattle.buffers.specs.ScanLaws.{flat_end}
use Rattle.buffers.specs.WroteLaws.{left_done, left_start}
use Rattle.writer.proofs.Leaders.write_superedges.Goals as goal

pub loop-i-init : goal.loop-i-init
unfolding superedge_bytes
loop-i-init c = left_start _ _ _

pub write_later-to-requires : goal.write_later-to-requires
write_later-to-requires c = record { places = c.requires.places; i_in_bounds = c.loop-i-test.true; i_in_bounds_2 = flat_room _ _ _ c.loop-i.invariant c.requires.leaders_in_bounds c.loop-i-test.true }

pub loop-i-preserved : goal.loop-i-preserved
loop-i-preserved c = flat_more _ _ _ c.loop-i.invariant c.loop-i-test.true c.write_later-to.ensures

pub shape_of-out : goal.shape_of-out
shape_of-out c = c.loop-i.invariant.size

pub returns : goal.returns
returns c = left_done c.loop-i.invariant (flat_end _ _ _ c.loop-i-test.false)
