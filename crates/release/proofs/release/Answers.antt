-- Tables that are refused have the number of the first reason; the others hold what they tell.
use mathlib.Core.Path.{refl, ◌∙◌}
use Rattle.std.proofs.lemmas.Result.{err_from_is_err_and}
use Rattle.answers.specs.NumberLaws.{refused_not_0}
use Rattle.release.specs.ReleaseLaws.{release_table, release-told}
use Rattle.release.proofs.release.Goals as goal

pub returns-in_err-tables : goal.returns-in_err-tables
returns-in_err-tables c =
    let p = err_from_is_err_and c.from_residual.result c.from_residual.ensures.1 in
    rw (p.1, p.2) (release_table _ _ _ _ c.in_err-tables.ensures.number (refused_not_0 _))

pub returns : goal.returns
returns c =
    let x = c.in_ok-tables.ensures in
    rw (x.same.0, x.same.1, x.same.2, x.same.3) at c.write_visible.ensures ∙ release-told _ _ _ _ x.number refl
