-- `print::Printer::members` meets its contract.
use native.Mathlib.Omega.{arith}
use Rattle.buffers.specs.WroteLaws.{left_start}
use Rattle.print.specs.WalkLaws.{member_done, member_room, member_step}
use Rattle.std.proofs.Common.{◌≡◌, ◌-◌, ◌+◌}
use Rattle.std.proofs.Common.{refl, ◌∙◌}
use Rattle.print.proofs.Printer.members.Goals as goal

pub loop-i-init : goal.loop-i-init
loop-i-init c = let z : c.args.k - 0 ≡ c.args.k = omega arith in let e : c.args.from + 0 ≡ c.args.from = omega arith in (refl, rw (z, e) (left_start _ _ _))

pub spaced-requires : goal.spaced-requires
spaced-requires c = member_room _ _ _ _ _ c.loop-i-test.true c.number_at.ensures.0 c.loop-i.invariant.1 c.requires.has_room

pub loop-i-preserved : goal.loop-i-preserved
loop-i-preserved c = (c.spaced.ensures.same ∙ c.loop-i.invariant.0, member_step _ _ _ _ _ c.loop-i-test.true c.number_at.ensures.0 c.loop-i.invariant.1 c.spaced.ensures.wrote)

pub returns : goal.returns
returns c = record { same = c.loop-i.invariant.0; wrote = member_done _ _ _ c.loop-i-test.false c.loop-i.invariant.1 }
