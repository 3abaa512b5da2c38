-- `print::Printer::change_lines` meets its contract.
use native.Mathlib.Omega.{arith}
use Rattle.buffers.specs.WroteLaws.{left_start}
use Rattle.print.specs.ChangeLaws.{change_done, change_room, change_step}
use Rattle.std.proofs.Common.{refl, ◌∙◌}
use Rattle.print.proofs.Printer.change_lines.Goals as goal

pub loop-i-init : goal.loop-i-init
loop-i-init c = (refl, left_start _ _ _)

pub change_line-requires : goal.change_line-requires
change_line-requires c = change_room _ _ c.loop-i-test.true (record { sfits = omega arith }) c.loop-i.invariant.1 c.requires

pub loop-i-preserved : goal.loop-i-preserved
loop-i-preserved c = (c.change_line.ensures.same ∙ c.loop-i.invariant.0, change_step _ _ c.loop-i-test.true (record { sfits = omega arith }) c.loop-i.invariant.1 c.change_line.ensures.wrote)

pub returns : goal.returns
returns c = record { same = c.loop-i.invariant.0; wrote = change_done _ _ c.loop-i-test.false c.loop-i.invariant.1 }
