-- The invariant: the rows before the k-th eight are exchanged.
use mathlib.Core.Path.{refl}
use Rattle.symmetry.specs.StripLaws.{bits, exchanging_next}
use Rattle.symmetry.proofs.turn_bits.Goals as goal

pub loop-k-preserved : goal.loop-k-preserved
loop-k-preserved c =
    let l = c.loop-k in
    (exchanging_next bits c.requires.1 l.k refl refl (c.turn_bits_at.ensures _ l.invariant))
