-- `print::groups_end` meets its contract.
use native.Mathlib.Omega.{arith}
use Rattle.print.specs.WalkLaws.{after_end, after_step}
use Rattle.print.proofs.groups_end.Goals as goal
use Rattle.std.proofs.Common.{◌≡◌, ◌-◌}

pub loop-init : goal.loop-init
loop-init c = let z : c.args.k - 0 ≡ c.args.k = omega arith in (omega arith, rw z)

pub loop-preserved : goal.loop-preserved
loop-preserved c = (omega arith, after_step _ _ _ _ _ c.loop-test.true c.next_group-p.ensures.0 c.loop.invariant.1)

pub returns : goal.returns
returns c = (after_end _ _ c.loop-test.false c.loop.invariant.1, omega arith)
