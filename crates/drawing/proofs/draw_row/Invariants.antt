-- Before word w: the words from w on are still to be put in.
use Rattle.drawing.specs.Drawing.{Adding, row_from, row_to}
use Rattle.drawing.proofs.draw_row.Given as goal

abbrev pub invariant-loop-w : goal.invariant-loop-w
invariant-loop-w l = Adding (row_to l.p l.set) (row_from l.p l.set l.w) l.initial.edges l.edges
