-- `print::Printer::signed` meets its contract.
use Rattle.std.proofs.Common.{arith, refl, ◌∙◌}
use Rattle.buffers.specs.WroteLaws.{wrote_length}
use Rattle.print.specs.SignedLaws.{length_below, length_else, wrote_below, wrote_else}
use Rattle.print.proofs.Printer.signed.Goals as goal

pub text-requires : goal.text-requires
text-requires c = omega (arith, length_below _ _ c.ranges.x c.if-x-lt0.true refl, c.requires)

pub decimal-requires : goal.decimal-requires
decimal-requires c =
    let p = c.text.ensures.wrote in
    omega (arith, length_below _ _ c.ranges.x c.if-x-lt0.true (c.from-size.ensures ∙ c.unsigned_abs.ensures.value), p.place, wrote_length p, c.requires)

pub returns-then-x-lt0-clause-wrote : goal.returns-then-x-lt0-clause-wrote
returns-then-x-lt0-clause-wrote c =
    wrote_below _ _ c.ranges.x c.if-x-lt0.true c.text.ensures.wrote (c.from-size.ensures ∙ c.unsigned_abs.ensures.value) c.decimal.ensures.wrote

pub decimal-requires-2 : goal.decimal-requires-2
decimal-requires-2 c =
    omega (arith, length_else _ _ c.ranges.x c.if-x-lt0.false (c.from-size.ensures ∙ c.unsigned_abs.ensures.value), c.requires)

pub returns-clause-wrote : goal.returns-clause-wrote
returns-clause-wrote c =
    wrote_else _ _ c.ranges.x c.if-x-lt0.false (c.from-size.ensures ∙ c.unsigned_abs.ensures.value) c.decimal-2.ensures.wrote
