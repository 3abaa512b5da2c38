-- `print::count_superedges` meets its contract.
use mathlib.Core.Path.{sym, ◌∙◌}
use native.Mathlib.Omega.{arith}
use Rattle.print.specs.WalkLaws.{count_done, count_start, count_step, mark_below}
use Rattle.print.proofs.count_superedges.Goals as goal

pub loop-p-init : goal.loop-p-init
loop-p-init c = count_start _ _

pub overflow_add-p : goal.overflow_add-p
overflow_add-p c = omega (arith, mark_below c.args.file.now c.loop-p.p (sym c.is_superedge.ensures ∙ c.loop-p-test.true))

pub overflow_add-count : goal.overflow_add-count
overflow_add-count c = omega (arith, mark_below c.args.file.now c.loop-p.p (sym c.is_superedge.ensures ∙ c.loop-p-test.true))

pub loop-p-smaller : goal.loop-p-smaller
loop-p-smaller c = omega (arith, mark_below c.args.file.now c.loop-p.p (sym c.is_superedge.ensures ∙ c.loop-p-test.true))

pub loop-p-preserved : goal.loop-p-preserved
loop-p-preserved c = count_step _ c.loop-p.invariant (sym c.is_superedge.ensures ∙ c.loop-p-test.true)

pub returns : goal.returns
returns c = count_done _ c.loop-p.invariant (sym c.is_superedge.ensures ∙ c.loop-p-test.false)
