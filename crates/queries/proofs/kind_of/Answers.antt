-- `kind_of` meets its contract.
use mathlib.Core.Path.{sym, ◌∙◌}
use native.Mathlib.Omega.{arith}
use Rattle.model.specs.Queries.{kind_number}
use Rattle.tables.specs.LentLaws.{held_sized}
use Rattle.queries.proofs.QueryLaws.{kind_single, kind_clique, kind_independent}
use Rattle.queries.proofs.kind_of.Goals as goal

pub number-next-requires : goal.number-next-requires
number-next-requires c = omega (arith, c.requires.0, (held_sized c.args.tables.held).nodes)

pub returns-then-next-l : goal.returns-then-next-l
unfolding kind_number
returns-then-next-l c = kind_single _ _ _ _ c.number-next.ensures c.if-next-l.true

pub edge-requires : goal.edge-requires
edge-requires c =
    let s = held_sized c.args.tables.held in
    omega (arith, s.small, s.edges, c.requires.0, c.requires.1, c.number-next.ensures)

pub returns-then-edge : goal.returns-then-edge
unfolding kind_number
returns-then-edge c = kind_clique _ _ _ _ c.number-next.ensures c.if-next-l.false (sym c.edge.ensures ∙ c.if-edge.true)

pub returns : goal.returns
unfolding kind_number
returns c = kind_independent _ _ _ _ c.number-next.ensures c.if-next-l.false (sym c.edge.ensures ∙ c.if-edge.false)
