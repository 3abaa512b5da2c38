-- Two flips, one in each row.
use Rattle.rows.specs.BitLaws.{changed}
use Rattle.rows.proofs.change_edge.Goals as goal

pub returns : goal.returns
returns c =
    changed _ _ _ _ _ c.requires.2 c.flip_edge.ensures c.flip_edge-2.ensures
