-- The place of the bit is that of the rotations.
use Rattle.std.proofs.Common.{◌∙◌}
use Rattle.grouping.specs.HashLaws.{own_at}
use Rattle.grouping.proofs.own_rotated.Goals as goal

pub returns : goal.returns
returns c = c.mask.ensures ∙ own_at _ c.word_of.ensures
