-- What is left to write are the bits that are left.
use Prim.Native.Nat.{◌<◌, ◌^◌}
use Rattle.layout.specs.File.{superedges_to}
use Rattle.layout.specs.Words.{positions_of}
use Rattle.buffers.specs.Wrote.{Left}
use Rattle.writer.proofs.write_word.Given as goal

abbrev pub invariant-loop-rest : goal.invariant-loop-rest
invariant-loop-rest l = (l.rest < 2 ^ 64) × Left l.initial.out l.at (superedges_to l.i (positions_of l.position l.b l.x)) l.out l.to (superedges_to l.i (positions_of l.position l.b l.rest))

abbrev pub decreases-loop-rest : goal.decreases-loop-rest
decreases-loop-rest l = l.rest
