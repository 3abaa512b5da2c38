-- The word that is read is that of the edge.
use Rattle.std.proofs.Common.{◌∙◌}
use Rattle.rows.specs.BitLaws.{edge_at}
use Rattle.rows.proofs.edge.Goals as goal

pub returns : goal.returns
returns c = c.has_bit.ensures ∙ edge_at _ _ _ c.place.ensures
