-- Row by row.
use Rattle.symmetry.specs.CrossLaws.{halves_crossed}
use Rattle.symmetry.proofs.cross_halves.Goals as goal

pub returns : goal.returns
returns c = halves_crossed _ _ _ _ _ _ _ _ _ _ c.cross-a.ensures c.cross-b.ensures c.cross-c.ensures c.cross-d.ensures
