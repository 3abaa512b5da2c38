-- Digit by digit.
use mathlib.Core.Path.{refl}
use native.Mathlib.Omega.{arith}
use Rattle.model.specs.Lists.{all, from, nodes}
use Rattle.model.specs.Tables.{bit_at}
use Rattle.symmetry.specs.CrossLaws.{zeros_by}
use Rattle.symmetry.proofs.exchange_bytes.Goals as goal

pub cross_halves-y-requires : goal.cross_halves-y-requires
unfolding all nodes from bit_at
cross_halves-y-requires c = (omega arith, zeros_by 5 0x00000000FFFFFFFF refl)

pub cross_halves-z-requires : goal.cross_halves-z-requires
unfolding all nodes from bit_at
cross_halves-z-requires c = (omega arith, zeros_by 4 0x0000FFFF0000FFFF refl)

pub cross_halves-requires : goal.cross_halves-requires
unfolding all nodes from bit_at
cross_halves-requires c = (omega arith, zeros_by 3 0x00FF00FF00FF00FF refl)
