-- The invariant: the words before w are even.
use Rattle.symmetry.specs.Symmetry.{Even}
use Rattle.symmetry.proofs.are_across.Given as goal

abbrev pub invariant-loop-w : goal.invariant-loop-w
invariant-loop-w l = Even l.edges.n l.edges.words.now l.i l.i l.w
