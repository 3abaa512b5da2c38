-- `store::fill` meets its contract.
use Rattle.std.proofs.Common.{ap, ◌∙◌, arith}
use Rattle.model.specs.Tables.{tables_of}
use Rattle.store.proofs.JudgeLaws.{parts_graph, parts_state}
use Rattle.store.proofs.fill.Goals as goal

pub restore-requires : goal.restore-requires
restore-requires c =
    (c.requires.0, parts_state _ _ c.requires.1 c.split_at.ensures.front c.split_at.ensures.back c.requires.2 c.requires.0.small (λ i. omega (arith, c.type_inv.place i)) c.requires.3)

pub returns : goal.returns
returns c =
    c.restore.ensures ∙ ap tables_of (parts_graph _ _ c.requires.1 c.split_at.ensures.front c.split_at.ensures.back c.requires.2 c.requires.0.small (λ i. omega (arith, c.type_inv.place i)) c.requires.3)
