-- Before word j: those before it are mirrored.
use native.Mathlib.Omega.{arith}
use Rattle.symmetry.specs.StripLaws.{strip_across, strip_part}
use Rattle.mirroring.specs.MirroringLaws.{lay_across, columns_more}
use Rattle.mirroring.proofs.mirror_strip.Goals as goal

pub loop-j-preserved : goal.loop-j-preserved
loop-j-preserved c =
    let l = c.loop-j in
    let across = strip_across (strip_part c.args.table.now c.args.i (omega (arith, c.requires.0.enough))) (omega arith) c.turn.ensures in
    columns_more l.invariant (lay_across _ _ _ across (omega arith) c.lay.ensures)
