-- `index::open` meets its contract.
use mathlib.Core.Path.{ap, ◌∙◌}
use Prim.Native.Nat.{ℕ}
use Rattle.model.specs.Graph.{empty_graph}
use Rattle.model.specs.Tables.{tables_of}
use Rattle.places.specs.StepLaws.{store_sized}
use Rattle.tables.specs.LentLaws.{sized, sized_at}
use Rattle.index.specs.IndexLaws.{open_done, open_store, open_tables}
use Rattle.index.proofs.open.Goals as goal

pub returns-then-not-right_size : goal.returns-then-not-right_size
returns-then-not-right_size c = open_tables _ _ _ _ c.right_size.ensures c.if-not-right_size.true

pub returns-then-not-right_size-2 : goal.returns-then-not-right_size-2
returns-then-not-right_size-2 c =
    open_store _ _ _ _ c.right_size.ensures c.if-not-right_size.false _ c.right_size-2.ensures c.if-not-right_size-2.true

pub fill-requires : goal.fill-requires
fill-requires c =
    sized_at c.empty.ensures (sized _ _ _ c.right_size.ensures c.if-not-right_size.false)

pub empty-requires-2 : goal.empty-requires-2
empty-requires-2 c =
    store_sized _ _ _ c.right_size-2.ensures c.if-not-right_size-2.false

pub returns : goal.returns
returns c =
    open_done _ _ _ _ c.right_size.ensures c.if-not-right_size.false _ c.right_size-2.ensures c.if-not-right_size-2.false (c.fill.ensures ∙ ap (λ (k : ℕ). tables_of (empty_graph k)) c.empty.ensures) c.empty-2.ensures
