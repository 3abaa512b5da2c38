-- The invariant: the rows before the k-th eight are exchanged.
use mathlib.Core.Path.{refl}
use Rattle.symmetry.specs.StripLaws.{bytes, exchanging_next}
use Rattle.symmetry.proofs.turn_bytes.Goals as goal

pub loop-k-preserved : goal.loop-k-preserved
loop-k-preserved c =
    let l = c.loop-k in
    (exchanging_next bytes c.requires.2 l.k refl refl (c.turn_bytes_at.ensures _ l.invariant))
