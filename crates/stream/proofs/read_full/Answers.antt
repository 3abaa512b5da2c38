use Rattle.stream.proofs.Joined.{read_more}
use Rattle.stream.proofs.read_full.Goals as goal

pub loop-done-preserved : goal.loop-done-preserved
loop-done-preserved g c =
    let before = c.loop-done.invariant in
    let read = c.in_ok-n.ensures in
    (read.fits, read_more _ _ _ c.loop-done.buffer c.read_at.new.buffer c.loop-done.done c.in_ok-n.n read.front before.1 read.bytes)
