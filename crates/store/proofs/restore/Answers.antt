-- `store::restore` meets its contract.
use Rattle.std.proofs.Common.{ℕ, ap, ◌∙◌, refl}
use Rattle.answers.specs.NumberLaws.{refused_not_0}
use Rattle.rows.specs.Rows.{lent}
use Rattle.tables.specs.Lent.{filled}
use Rattle.store.proofs.StoredLaws.{none_refused, refused_as, restore_done, restore_judged, restore_ready, restore_refused, restore_unknown}
use Rattle.store.proofs.restore.Goals as goal

pub returns-in_err-kept : goal.returns-in_err-kept
returns-in_err-kept c =
    ap (λ (r : ℕ). filled r (lent c.args.edges.now c.args.nodes.now c.args.keys.now)) (refused_as _ _ c.from_residual.ensures.1 refl) ∙ restore_refused _ _ _ _ c.in_err-kept.ensures.number (refused_not_0 _)

pub returns-in_err-i : goal.returns-in_err-i
returns-in_err-i c =
    ap (λ (r : ℕ). filled r (lent c.args.edges.now c.args.nodes.now c.args.keys.now)) (none_refused _ _ _ _ c.from_residual-in_err-i.ensures.1 c.in_err-i.ensures.value refl)
    ∙ restore_unknown _ _ _ _ c.in_ok-kept.ensures.number c.in_ok-kept.ensures.same _ c.find.ensures c.in_err-i.ensures.ok_part

pub fill-requires : goal.fill-requires
fill-requires c =
    let e = c.in_ok-kept.ensures.number in
    let p = restore_ready _ _ _ _ e c.in_ok-kept.ensures.same _ c.find.ensures c.in_ok-i.ensures.ok_part c.place.ensures in
    ((restore_judged _ _ _ _ e).0, p.0, p.1, p.2)

pub returns : goal.returns
returns c = restore_done _ _ _ _ c.in_ok-kept.ensures.number c.in_ok-kept.ensures.same _ c.find.ensures c.in_ok-i.ensures.ok_part c.place.ensures c.fill.ensures
