-- `text::parse` meets its contract.
use Rattle.std.proofs.Common.{arith, Some, ◌≡◌}
use Rattle.std.proofs.lemmas.Result.{err_from_is_err_and}
use Rattle.text.specs.ParseLaws.{by_lines, input_long, input_refused, ok_or-err}
use Rattle.text.proofs.parse.Goals as goal

pub returns-then-input-gt-INPUT_BYTES : goal.returns-then-input-gt-INPUT_BYTES
returns-then-input-gt-INPUT_BYTES c = input_long _ _ c.if-input-gt-INPUT_BYTES.true

pub returns-in_err-n : goal.returns-in_err-n
returns-in_err-n c =
    let p = err_from_is_err_and c.from_residual.result c.from_residual.ensures.1 in
    let none = ok_or-err c.read_first.result c.ok_or.ensures.value c.in_err-n.was in
    rw (p.1, p.2, none.1) (input_refused _ _ c.if-input-gt-INPUT_BYTES.false (rw none.0 at c.read_first.ensures))

pub returns : goal.returns
returns c =
    let some : c.read_first.result ≡ Some (c.in_ok-n.n, c.in_ok-n.lines) = grind arith in
    rw (← (by_lines c.args.input.now c.if-input-gt-INPUT_BYTES.false), rw some at c.read_first.ensures) c.read_lines.ensures
