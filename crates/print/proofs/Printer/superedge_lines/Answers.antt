-- `print::Printer::superedge_lines` meets its contract.
use mathlib.Core.Path.{sym, ◌∙◌}
use native.Mathlib.Omega.{arith}
use Rattle.print.specs.WalkLaws.{line_done, line_room, line_start, line_step, mark_below}
use Rattle.std.proofs.Common.{refl, ◌∙◌}
use Rattle.print.proofs.Printer.superedge_lines.Goals as goal

pub loop-self-init : goal.loop-self-init
loop-self-init c = (refl, line_start _ _ _ _)

pub overflow_add-p : goal.overflow_add-p
overflow_add-p c = omega (arith, mark_below c.args.file.now c.loop-self.p (sym c.is_superedge.ensures ∙ c.loop-self-test.true))

pub number_at-requires : goal.number_at-requires
number_at-requires c = omega (arith, mark_below c.args.file.now c.loop-self.p (sym c.is_superedge.ensures ∙ c.loop-self-test.true))

pub overflow_add-p-in-loop-self : goal.overflow_add-p-in-loop-self
overflow_add-p-in-loop-self c = omega (arith, mark_below c.args.file.now c.loop-self.p (sym c.is_superedge.ensures ∙ c.loop-self-test.true))

pub number_at-requires-in-loop-self : goal.number_at-requires-in-loop-self
number_at-requires-in-loop-self c = omega (arith, mark_below c.args.file.now c.loop-self.p (sym c.is_superedge.ensures ∙ c.loop-self-test.true))

pub superedge_line-requires : goal.superedge_line-requires
superedge_line-requires c = line_room _ _ _ c.loop-self.invariant.1 (sym c.is_superedge.ensures ∙ c.loop-self-test.true) c.number_at.ensures.0 c.number_at-in-loop-self.ensures.0 c.requires.has_room

pub overflow_add-p-in-loop-self-2 : goal.overflow_add-p-in-loop-self-2
overflow_add-p-in-loop-self-2 c = omega (arith, mark_below c.args.file.now c.loop-self.p (sym c.is_superedge.ensures ∙ c.loop-self-test.true))

pub loop-self-smaller : goal.loop-self-smaller
loop-self-smaller c = omega (arith, mark_below c.args.file.now c.loop-self.p (sym c.is_superedge.ensures ∙ c.loop-self-test.true))

pub loop-self-preserved : goal.loop-self-preserved
loop-self-preserved c = (c.superedge_line.ensures.same ∙ c.loop-self.invariant.0, line_step _ _ _ c.loop-self.invariant.1 (sym c.is_superedge.ensures ∙ c.loop-self-test.true) c.number_at.ensures.0 c.number_at-in-loop-self.ensures.0 c.superedge_line.ensures.wrote)

pub returns : goal.returns
returns c = record { same = c.loop-self.invariant.0; wrote = line_done _ c.loop-self.invariant.1 (sym c.is_superedge.ensures ∙ c.loop-self-test.false) }
