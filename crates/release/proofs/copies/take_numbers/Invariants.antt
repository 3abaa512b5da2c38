-- The numbers of the nodes below p are taken.
use Rattle.std.proofs.Common.{replicate}
use Rattle.model.specs.Tables.{node_number}
use Rattle.buffers.specs.Filled.{Filled}
use Rattle.release.proofs.copies.take_numbers.Given as goal

abbrev pub invariant-loop-p : goal.invariant-loop-p
invariant-loop-p l = Filled (λ q. node_number l.tables.nodes.now q l.k) l.p (replicate 512 0) l.numbers
