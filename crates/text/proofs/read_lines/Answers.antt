-- `text::read_lines` meets its contract.
use Rattle.std.proofs.Common.{arith, Some, ◌≡◌}
use Rattle.std.proofs.lemmas.Grind.{common_steps}
use Rattle.std.proofs.lemmas.Result.{err_from_is_err_and}
use Rattle.text.specs.ParseLaws.{ok_or-err, reading_done, reading_ill, reading_open, reading_over, reading_start, reading_step}
use Rattle.text.proofs.read_lines.Goals as goal

pub loop-line-init : goal.loop-line-init
loop-line-init c = reading_start _ _ _ c.requires

pub returns-then-count-eq-UPDATES : goal.returns-then-count-eq-UPDATES
returns-then-count-eq-UPDATES c = reading_over c.loop-line.invariant c.in-Some.ensures c.if-count-eq-UPDATES.true

pub returns-in_err-change : goal.returns-in_err-change
returns-in_err-change c =
    let p = err_from_is_err_and c.from_residual.result c.from_residual.ensures.1 in
    let none = ok_or-err c.read_line.result c.ok_or.ensures.value c.in_err-change.was in
    rw (p.1, p.2, none.1) (reading_ill c.loop-line.invariant c.in-Some.ensures (rw none.0 at c.read_line.ensures))

pub loop-line-preserved : goal.loop-line-preserved
loop-line-preserved c =
    let some : c.read_line.result ≡ Some c.in_ok-change.change = grind arith in
    reading_step c.loop-line.invariant c.in-Some.ensures c.in_ok-change.change c.if-count-eq-UPDATES.false (rw some at c.read_line.ensures) c.put_change.ensures

pub returns-then-not-is_empty : goal.returns-then-not-is_empty
returns-then-not-is_empty c = reading_open c.loop-line.invariant c.in_default.ensures (grind (arith, common_steps))

pub returns : goal.returns
returns c = reading_done c.loop-line.invariant c.in_default.ensures (grind (arith, common_steps))
