-- `text::read_number` meets its contract.
use Rattle.std.proofs.Common.{sym, ◌∙◌, arith}
use Rattle.text.specs.NumberLaws.{digits_step, number_done, number_large, number_other, number_shapeless}
use Rattle.text.proofs.read_number.Goals as goal

pub returns-then-not-has_shape : goal.returns-then-not-has_shape
returns-then-not-has_shape c = number_shapeless _ (sym c.has_shape.ensures ∙ c.if-not-has_shape.true)

pub returns-in_err-d : goal.returns-in_err-d
returns-in_err-d c = c.from_residual.ensures ∙ number_other c.loop-b.invariant c.loop-b-test.true c.in_err-d.ensures

pub returns-in_err-checked_mul : goal.returns-in_err-checked_mul
returns-in_err-checked_mul c = c.from_residual-in_err-checked_mul.ensures ∙ number_large c.loop-b.invariant c.loop-b-test.true _ c.in_ok-d.ensures (omega (arith, c.in_err-checked_mul.ensures))

pub returns-in_err-value : goal.returns-in_err-value
returns-in_err-value c = c.from_residual-in_err-value.ensures ∙ number_large c.loop-b.invariant c.loop-b-test.true _ c.in_ok-d.ensures (omega (arith, c.in_err-value.ensures, c.in_ok-checked_mul.ensures))

pub loop-b-preserved : goal.loop-b-preserved
loop-b-preserved c = digits_step c.loop-b.invariant c.loop-b-test.true _ c.in_ok-d.ensures (omega (arith, c.in_ok-value.ensures, c.in_ok-checked_mul.ensures)) (omega (arith, c.in_ok-value.ensures))

pub returns : goal.returns
returns c = number_done c.loop-b.invariant c.loop-b-test.false (sym c.has_shape.ensures ∙ c.if-not-has_shape.false)
