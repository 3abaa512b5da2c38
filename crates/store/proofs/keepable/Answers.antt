-- `store::keepable` meets its contract.
use Rattle.std.proofs.Common.{ap₂, ◌∙◌, refl}
use Rattle.model.specs.Store.{is_store}
use Rattle.answers.specs.NumberLaws.{refused_not_0}
use Rattle.store.proofs.StoredLaws.{keep_held, keep_name, keep_none, keep_table, refused_as}
use Rattle.store.proofs.keepable.Goals as goal

pub returns-in_err-kept-clause-number : goal.returns-in_err-kept-clause-number
returns-in_err-kept-clause-number c = refused_as _ _ c.from_residual.ensures.1 (keep_name _ _ _ _ c.in_err-kept.ensures.number (refused_not_0 _))

pub returns-in_err-tables-clause-number : goal.returns-in_err-tables-clause-number
returns-in_err-tables-clause-number c = refused_as _ _ c.from_residual-in_err-tables.ensures.1 (keep_table _ _ _ _ c.in_ok-kept.ensures.number _ c.in_err-tables.ensures.number (refused_not_0 _))

pub returns-then-not-is_store-clause-number : goal.returns-then-not-is_store-clause-number
returns-then-not-is_store-clause-number c =
    let r = c.in_ok-kept.ensures.same in
    keep_none _ _ _ _ c.in_ok-kept.ensures.number _ c.in_ok-tables.ensures.number refl (c.is_store.ensures ∙ ap₂ is_store r.count r.words) c.if-not-is_store.true

pub returns-clause-number : goal.returns-clause-number
returns-clause-number c =
    let r = c.in_ok-kept.ensures.same in
    keep_held _ _ _ _ c.in_ok-kept.ensures.number _ c.in_ok-tables.ensures.number refl (c.is_store.ensures ∙ ap₂ is_store r.count r.words) c.if-not-is_store.false
