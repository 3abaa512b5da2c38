-- Each group adds at most 512.
use Prim.Native.Nat.{◌*◌, ◌≤◌}
use lib.ListN.{length}
use Rattle.model.specs.Tables.{edge_bit}
use Rattle.layout.specs.File.{later, superedge_total}
use Rattle.buffers.specs.Scan.{Summing}
use Rattle.writer.proofs.Leaders.count_superedges.Given as goal

abbrev pub invariant-loop-i : goal.invariant-loop-i
invariant-loop-i l = (l.i ≤ length l.self.list.now) × (l.count ≤ 512 * l.i) × Summing (later (edge_bit l.self.edges.now) l.self.list.now) (length l.self.list.now) (superedge_total (edge_bit l.self.edges.now) l.self.list.now) l.count l.i
