-- The invariant: the rows before p pass.
use Rattle.edges.specs.Edges.{RowsBelow}
use Rattle.edges.proofs.hold_by_walks.Given as goal

abbrev pub invariant-loop-p : goal.invariant-loop-p
invariant-loop-p l = RowsBelow l.edges.n l.edges.words.now l.p
