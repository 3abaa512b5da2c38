-- Before strip i: those before it are mirrored.
use Rattle.mirroring.specs.Mirroring.{InRows, MirroredAt}
use Rattle.mirroring.proofs.mirror.Given as goal

abbrev pub invariant-loop-i : goal.invariant-loop-i
invariant-loop-i l = MirroredAt (InRows l.i) l.initial.table l.table
