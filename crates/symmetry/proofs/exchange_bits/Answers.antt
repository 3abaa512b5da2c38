-- Digit by digit.
use mathlib.Core.Path.{refl}
use native.Mathlib.Omega.{arith}
use Rattle.model.specs.Lists.{all, from, nodes}
use Rattle.model.specs.Tables.{bit_at}
use Rattle.symmetry.specs.CrossLaws.{zeros_by}
use Rattle.symmetry.proofs.exchange_bits.Goals as goal

pub cross_halves-y-requires : goal.cross_halves-y-requires
unfolding all nodes from bit_at
cross_halves-y-requires c = (omega arith, zeros_by 2 0x0F0F0F0F0F0F0F0F refl)

pub cross_halves-z-requires : goal.cross_halves-z-requires
unfolding all nodes from bit_at
cross_halves-z-requires c = (omega arith, zeros_by 1 0x3333333333333333 refl)

pub cross_halves-requires : goal.cross_halves-requires
unfolding all nodes from bit_at
cross_halves-requires c = (omega arith, zeros_by 0 0x5555555555555555 refl)
