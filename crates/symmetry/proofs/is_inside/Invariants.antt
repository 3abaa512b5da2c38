-- The invariant: the words before w have no bit beyond the nodes.
use Prim.Native.Nat.{◌*◌}
use Rattle.symmetry.specs.Symmetry.{InsideTo}
use Rattle.symmetry.proofs.is_inside.Given as goal

abbrev pub invariant-loop-w : goal.invariant-loop-w
invariant-loop-w l = InsideTo l.edges.n l.edges.words.now (64 * l.w)
