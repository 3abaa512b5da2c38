-- No bit beyond the nodes, and even strips.
use mathlib.Core.Path.{refl}
use Rattle.buffers.specs.AllLaws.{passed}
use Rattle.symmetry.specs.SymmetryLaws.{symmetric_by}
use Rattle.std.proofs.Common.{ap, not}
use Rattle.symmetry.proofs.is_symmetric.Goals as goal

pub returns : goal.returns
returns c =
    symmetric_by _ _ c.args.edges.rows c.args.edges.small (c.is_inside.ensures.holds (passed refl (ap not c.if-not-is_inside.false))) _ c.are_strips_even.ensures
