-- `apply` meets its contract.
use Rattle.std.proofs.Common.{◌≡◌, ℕ, ℤ, pos, refl, sym, ap, ◌∙◌, arith, subst, to_z-of_z, w16}
use Rattle.std.proofs.lemmas.Result.{err_from_is_err_and}
use Rattle.model.specs.Tables.{Tables}
use Rattle.model.specs.Updates.{Update, refusal}
use Rattle.answers.specs.declared.Refusal.{Refusal}
use Rattle.answers.specs.Numbers.{number}
use Rattle.answers.specs.NumberLaws.{refused_not_0}
use Rattle.tables.specs.LentLaws.{held_sized}
use Rattle.updates.specs.Asked.{answered, change_of}
use Rattle.updates.specs.Batch.{Updated}
use Rattle.updates.specs.UpdateLaws.{class_updated, edge_updated, mark_updated, update_refused_lem}
use Rattle.updates.proofs.updating.apply.Goals as goal

updated_as : {n : ℕ} {c d : Update} {t after : Tables} {a : ℤ} → c ≡ d → Updated n c t after a → Updated n d t after a
updated_as {n} {t = t} {after} {a} e u = subst (λ (x : Update). Updated n x t after a) e u

pub returns-in_err-update : goal.returns-in_err-update
returns-in_err-update c =
    let p = err_from_is_err_and c.from_residual.result c.from_residual.ensures.1 in
    update_refused_lem _ _ _ _ _ _ _ c.requires (c.in_err-update.ensures _) (refused_not_0 _) (ap answered p.1 ∙ ap (λ (e : Refusal). pos (number e)) p.2)

pub returns-in_err-check : goal.returns-in_err-check
returns-in_err-check c =
    let p = err_from_is_err_and c.from_residual-in_err-check.result c.from_residual-in_err-check.ensures.1 in
    update_refused_lem _ _ _ _ _ _ _ c.requires (c.in_err-check.ensures ∙ ap (refusal _) c.in_ok-update.ensures.same) (refused_not_0 _) (ap answered p.1 ∙ ap (λ (e : Refusal). pos (number e)) p.2)

pub returns-in-Edge : goal.returns-in-Edge
returns-in-Edge c =
    updated_as (ap change_of (sym c.in-Edge.is) ∙ c.in_ok-update.ensures.same)
    (edge_updated _ _ _ _ _ _ _ c.requires (rw c.in-Edge.is at c.in_ok-check.ensures) refl refl (c.update_edge.ensures.0, to_z-of_z {w = w16} (record { sfits = c.update_edge.type_inv }) ∙ c.update_edge.ensures.1))

pub set_mark-requires : goal.set_mark-requires
set_mark-requires c =
    let w = rw c.in-Mark.is at c.in_ok-update.ensures.within in
    let s = held_sized c.requires in
    omega arith

pub returns-in-Mark : goal.returns-in-Mark
returns-in-Mark c =
    updated_as (ap change_of (sym c.in-Mark.is) ∙ c.in_ok-update.ensures.same)
    (mark_updated _ _ _ _ _ _ _ c.requires (rw c.in-Mark.is at c.in_ok-check.ensures) refl (λ e. omega (arith, e)) (λ e. omega (arith, e)) c.set_mark.ensures)

pub returns-in-Class : goal.returns-in-Class
returns-in-Class c =
    updated_as (ap change_of (sym c.in-Class.is) ∙ c.in_ok-update.ensures.same)
    (class_updated _ _ _ _ _ _ _ c.requires (rw c.in-Class.is at c.in_ok-check.ensures) refl refl (c.update_class.ensures.0, to_z-of_z {w = w16} (record { sfits = c.update_class.type_inv }) ∙ c.update_class.ensures.1))
