-- A refusal's number is never that of a call that was done.
use Rattle.std.specs.Prelude.{◌≢◌, ◌<◌}
use Rattle.std.proofs.Common.{arith}
use Rattle.answers.specs.declared.Refusal.{Refusal}
use Rattle.answers.specs.declared.Refusal.TheVariants.{WrongSize, NoGraph, NoKind, NoNode, WrongValue, AlreadyHolds, ShortBuffer, NoRelease, OtherSize, NotKept, AlreadyKept, StoreFull, Frozen}
use Rattle.answers.specs.Numbers.{number}

-- 11 to 24
pub number_small : (refusal : Refusal) → number refusal < 32
number_small WrongSize = omega arith
number_small NoGraph = omega arith
number_small NoKind = omega arith
number_small NoNode = omega arith
number_small WrongValue = omega arith
number_small AlreadyHolds = omega arith
number_small ShortBuffer = omega arith
number_small NoRelease = omega arith
number_small OtherSize = omega arith
number_small NotKept = omega arith
number_small AlreadyKept = omega arith
number_small StoreFull = omega arith
number_small Frozen = omega arith

pub refused_not_0 : (refusal : Refusal) → number refusal ≢ 0
refused_not_0 WrongSize = λ e. omega (arith, e)
refused_not_0 NoGraph = λ e. omega (arith, e)
refused_not_0 NoKind = λ e. omega (arith, e)
refused_not_0 NoNode = λ e. omega (arith, e)
refused_not_0 WrongValue = λ e. omega (arith, e)
refused_not_0 AlreadyHolds = λ e. omega (arith, e)
refused_not_0 ShortBuffer = λ e. omega (arith, e)
refused_not_0 NoRelease = λ e. omega (arith, e)
refused_not_0 OtherSize = λ e. omega (arith, e)
refused_not_0 NotKept = λ e. omega (arith, e)
refused_not_0 AlreadyKept = λ e. omega (arith, e)
refused_not_0 StoreFull = λ e. omega (arith, e)
refused_not_0 Frozen = λ e. omega (arith, e)
