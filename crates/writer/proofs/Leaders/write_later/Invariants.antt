-- What is left to write are the marked nodes from q on, and a word takes them to the next word.
use Prim.Native.Nat.{◌-◌}
use Rattle.model.specs.Tables.{edge_bit}
use Rattle.layout.specs.File.{later, superedges_to}
use Rattle.layout.specs.Words.{later_records}
use Rattle.buffers.specs.Wrote.{Left}
use Rattle.writer.proofs.Leaders.write_later.Given as goal

abbrev pub invariant-loop-q : goal.invariant-loop-q
invariant-loop-q l = Left l.initial.out l.at (superedges_to l.i (later (edge_bit l.self.edges.now) l.self.list.now l.i)) l.out l.to (later_records l.self.edges.now l.self.set.now l.position l.i l.p l.q)

abbrev pub decreases-loop-q : goal.decreases-loop-q
decreases-loop-q l = 512 - l.q
