-- The rows have no such bit if their union has none.
use Rattle.std.proofs.Common.{rules, ◌+◌, ◌*◌, get_or}
use Rattle.model.specs.Graph.{row_words}
use Rattle.symmetry.specs.SymmetryLaws.{rows_tell}
use Rattle.symmetry.proofs.is_word_below.Goals as goal

pub returns : goal.returns
returns c =
    rows_tell _ _ c.args.edges.rows _ _ c.args.edges.small c.requires.0 c.requires.2 (λ p h. c.args.edges.bits (row_words * p + c.args.w)) (c.united.ensures (λ p. get_or c.args.edges.words.now (row_words * p + c.args.w) 0) (search rules) c.args.k)
