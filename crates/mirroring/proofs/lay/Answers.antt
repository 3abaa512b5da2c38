-- Before row k: those before it are put in.
use native.Mathlib.Omega.{arith}
use Rattle.mirroring.specs.MirroringLaws.{lay_more, lay_none}
use Rattle.mirroring.proofs.lay.Goals as goal

pub loop-k-init : goal.loop-k-init
loop-k-init c = lay_none _ _ _ _

pub loop-k-preserved : goal.loop-k-preserved
loop-k-preserved c =
    let pre = c.requires in
    lay_more _ _ _ _ pre.1 (omega (arith, c.loop-k.invariant.size)) (omega arith) c.loop-k.invariant
