-- What is left to write are the superedges of the groups from the i-th on.
use lib.ListN.{length}
use Rattle.model.specs.Tables.{edge_bit}
use Rattle.layout.specs.File.{later, superedge_bytes, superedges_to}
use Rattle.buffers.specs.Scan.{flat}
use Rattle.buffers.specs.Wrote.{Left}
use Rattle.writer.proofs.Leaders.write_superedges.Given as goal

abbrev pub invariant-loop-i : goal.invariant-loop-i
invariant-loop-i l = Left l.initial.out l.at (superedge_bytes (edge_bit l.self.edges.now) l.self.list.now) l.out l.to (flat (λ i'. superedges_to i' (later (edge_bit l.self.edges.now) l.self.list.now i')) (length l.self.list.now) l.i)
