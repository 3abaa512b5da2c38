-- The invariant: the words before d are put.
use native.Mathlib.Omega.{arith}
use Rattle.symmetry.specs.StripLaws.{put_more, within_eight}
use Rattle.symmetry.proofs.put_eight.Goals as goal

pub loop-d-preserved : goal.loop-d-preserved
loop-d-preserved c =
    (put_more c.loop-d.invariant c.requires.0 (omega (arith, within_eight c.args.step _ c.loop-d-test.true, c.loop-d.invariant.size)))
