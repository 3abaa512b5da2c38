-- `print::Printer::group_lines` meets its contract.
use native.Mathlib.Omega.{arith}
use Rattle.buffers.specs.WroteLaws.{left_start}
use Rattle.print.specs.WalkLaws.{group_done, group_room, group_step}
use Rattle.std.proofs.Common.{◌≡◌, ◌-◌}
use Rattle.std.proofs.Common.{refl, ◌∙◌}
use Rattle.print.proofs.Printer.group_lines.Goals as goal

pub loop-init : goal.loop-init
loop-init c = let z : c.args.k - 0 ≡ c.args.k = omega arith in (refl, omega arith, rw z (left_start _ _ _))

pub group_line-requires : goal.group_line-requires
group_line-requires c = record { p_bound = omega (arith, c.loop.invariant.1); has_room = group_room _ _ c.loop.p c.args.file.now c.loop-test.true c.loop.invariant.2 c.requires.has_room }

pub loop-preserved : goal.loop-preserved
loop-preserved c = (c.group_line.ensures.same ∙ c.loop.invariant.0, omega (arith, c.loop.invariant.1), group_step _ _ c.loop.p _ c.args.file.now c.loop-test.true c.next_group-p.ensures.0 c.loop.invariant.2 c.group_line.ensures.wrote)

pub returns : goal.returns
returns c = record { same = c.loop.invariant.0; wrote = group_done _ _ _ c.loop-test.false c.loop.invariant.2 }
