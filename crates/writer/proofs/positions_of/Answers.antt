-- Leaders ascend, so a store leaves the positions of those before.
use Prim.Native.Nat.{ℕ}
use native.Mathlib.Omega.{arith}
use lib.ListN.{length-replicate}
use Rattle.layout.specs.WordLaws.{placing_done, placing_more}
use Rattle.writer.proofs.positions_of.Goals as goal

pub loop-i-init : goal.loop-i-init
loop-i-init c = record { size = length-replicate {A = ℕ} 512 0; place = λ k h. absurd (omega arith) }

pub overflow_cast-position : goal.overflow_cast-position
overflow_cast-position c = omega (arith, c.requires.few)

pub offset_bounds-position-wide : goal.offset_bounds-position-wide
offset_bounds-position-wide c = omega (arith, c.wide.ensures, c.requires.below c.loop-i.i c.loop-i-test.true)

pub bounds-position-wide : goal.bounds-position-wide
bounds-position-wide c = omega (arith, c.wide.ensures, c.requires.below c.loop-i.i c.loop-i-test.true, c.loop-i.invariant.size)

pub loop-i-preserved : goal.loop-i-preserved
loop-i-preserved c = placing_more c.loop-i.invariant c.requires c.loop-i-test.true c.wide.ensures

pub returns : goal.returns
returns c = placing_done c.loop-i.invariant c.loop-i-test.false
