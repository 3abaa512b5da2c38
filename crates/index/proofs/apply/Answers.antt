-- `apply` meets its contract.
use Rattle.std.specs.Prelude.{refl}
use Rattle.std.proofs.lemmas.Result.{err_from_is_err_and}
use Rattle.answers.specs.NumberLaws.{refused_not_0}
use Rattle.index.specs.IndexLaws.{apply_refused_lem, apply_ready, apply_done}
use Rattle.index.proofs.apply.Goals as goal

pub returns-in_err-check_batch : goal.returns-in_err-check_batch
returns-in_err-check_batch c =
    let p = err_from_is_err_and c.from_residual.result c.from_residual.ensures.1 in
    rw (p.1, p.2) (apply_refused_lem _ _ _ _ _ c.in_err-check_batch.ensures (refused_not_0 _))

pub run-requires : goal.run-requires
run-requires c =
    let a = apply_ready _ _ _ _ _ c.in_ok-check_batch.ensures refl in
    record { held = a.0; update_numbers_len = (a.1, a.2) }

pub returns : goal.returns
returns c = apply_done _ _ _ _ _ c.in_ok-check_batch.ensures refl c.run.ensures
