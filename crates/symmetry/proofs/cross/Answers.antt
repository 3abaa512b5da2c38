-- Bit by bit.
use Prim.Native.Nat.{◌≤◌}
use native.Mathlib.Omega.{arith}
use lib.Pow.{pow_mono}
use Rattle.rows.specs.BitLaws.{one_shl}
use Rattle.symmetry.specs.CrossLaws.{cross_high, cross_low}
use Rattle.symmetry.proofs.cross.Goals as goal

pub overflow_shr-t : goal.overflow_shr-t
overflow_shr-t c = let l : c.args.k ≤ 5 = omega arith in omega (arith, one_shl c.args.k (omega arith), pow_mono l)

pub overflow_shl-result : goal.overflow_shl-result
overflow_shl-result c = let l : c.args.k ≤ 5 = omega arith in omega (arith, one_shl c.args.k (omega arith), pow_mono l)

pub returns : goal.returns
returns c =
    let j = one_shl c.args.k (omega arith) in
    (cross_low _ _ _ _ c.requires.0 c.requires.1 j, cross_high _ _ _ _ c.requires.0 c.requires.1 j)
