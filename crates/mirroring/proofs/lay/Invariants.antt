-- Before row k: those before it are put in.
use Rattle.drawing.specs.Drawing.{Added}
use Rattle.mirroring.specs.Mirroring.{columns_to}
use Rattle.mirroring.proofs.lay.Given as goal

abbrev pub invariant-loop-k : goal.invariant-loop-k
invariant-loop-k l = Added (columns_to l.i l.j l.strip l.k) l.initial.table l.table
