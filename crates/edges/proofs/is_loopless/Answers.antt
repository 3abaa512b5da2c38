-- The invariant: the lowest bit tells whether a node before p has a loop.
use native.Mathlib.Omega.{arith}
use Rattle.edges.specs.EdgesLaws.{loops_more, loops_none}
use Rattle.edges.proofs.is_loopless.Goals as goal

pub loop-p-init : goal.loop-p-init
loop-p-init c = loops_none _

pub loop-p-preserved : goal.loop-p-preserved
loop-p-preserved c = rw c.word.ensures (loops_more c.loop-p.invariant (omega arith) c.bit_of.ensures)
