-- Before word j: those before it are mirrored.
use Rattle.mirroring.specs.Mirroring.{InRow, MirroredAt}
use Rattle.mirroring.proofs.mirror_strip.Given as goal

abbrev pub invariant-loop-j : goal.invariant-loop-j
invariant-loop-j l = MirroredAt (InRow l.i l.j) l.initial.table l.table
