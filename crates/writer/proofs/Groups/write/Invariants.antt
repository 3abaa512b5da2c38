-- What is left to write are the groups from the i-th on.
use lib.ListN.{get_or, length}
use Rattle.model.specs.Tables.{edge_bit}
use Rattle.layout.specs.File.{chain, group_bytes, groups_bytes}
use Rattle.buffers.specs.Scan.{flat}
use Rattle.buffers.specs.Wrote.{Left}
use Rattle.writer.proofs.Groups.write.Given as goal

abbrev pub invariant-loop-l : goal.invariant-loop-l
invariant-loop-l l = Left l.initial.out l.at (groups_bytes (edge_bit l.self.edges.now) l.self.classes.now (chain l.self.n l.self.next.now l.self.n) l.leaders) l.out l.to (flat (λ i'. group_bytes (edge_bit l.self.edges.now) l.self.classes.now (chain l.self.n l.self.next.now l.self.n (get_or l.leaders i' 0))) (length l.leaders) l.l-index)
