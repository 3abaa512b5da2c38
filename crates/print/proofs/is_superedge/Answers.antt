-- `print::is_superedge` meets its contract.
use mathlib.Core.Path.{sym, ◌∙◌}
use native.Mathlib.Omega.{arith}
use Rattle.std.proofs.Common.{ne_eqb}
use Rattle.print.specs.WalkLaws.{by_second, letter_below, no_mark}
use Rattle.print.proofs.is_superedge.Goals as goal

pub overflow_add-p : goal.overflow_add-p
overflow_add-p c = omega (arith, letter_below c.args.file.now c.args.p (sym c.byte_at.ensures ∙ c.if-byte_at-mark.true))

pub returns-then-byte_at-mark : goal.returns-then-byte_at-mark
returns-then-byte_at-mark c = by_second c.args.file.now c.args.p _ _ c.byte_at.ensures c.if-byte_at-mark.true c.byte_at-then-byte_at-mark.ensures

pub returns-else-byte_at-mark : goal.returns-else-byte_at-mark
returns-else-byte_at-mark c = ne_eqb _ _ c.if-byte_at-mark.false ∙ no_mark c.args.file.now c.args.p _ c.byte_at.ensures c.if-byte_at-mark.false
