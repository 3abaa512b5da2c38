-- The invariant: the words before w have no bit beyond the nodes.
use mathlib.Core.Path.{refl}
use Rattle.buffers.specs.AllLaws.{passed}
use Rattle.symmetry.specs.SymmetryLaws.{inside_more}
use Rattle.std.proofs.Common.{ap, not}
use Rattle.symmetry.proofs.is_inside.Goals as goal

pub loop-w-preserved : goal.loop-w-preserved
loop-w-preserved c =
    (inside_more _ _ _ _ c.loop-w.invariant c.first_beyond.ensures.2 (c.is_word_below.ensures.holds (passed refl (ap not c.if-not-is_word_below.false))))
