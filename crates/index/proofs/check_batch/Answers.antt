-- `check_batch` meets its contract.
use Rattle.std.specs.Prelude.{refl}
use Rattle.std.proofs.lemmas.Result.{err_from_is_err_and}
use Rattle.answers.specs.NumberLaws.{refused_not_0}
use Rattle.index.specs.IndexLaws.{batch_wrong, apply_table, apply_short, apply_none}
use Rattle.index.proofs.check_batch.Goals as goal

pub returns-then-not-is_whole : goal.returns-then-not-is_whole
returns-then-not-is_whole c = batch_wrong _ _ _ _ _ c.is_whole.ensures c.if-not-is_whole.true

pub returns-in_err-check : goal.returns-in_err-check
returns-in_err-check c =
    let p = err_from_is_err_and c.from_residual.result c.from_residual.ensures.1 in
    rw (p.1, p.2) (apply_table _ _ _ _ _ c.is_whole.ensures c.if-not-is_whole.false _ c.in_err-check.ensures.number (refused_not_0 _))

pub returns-then-answers-count : goal.returns-then-answers-count
returns-then-answers-count c =
    apply_short _ _ _ _ _ c.is_whole.ensures c.if-not-is_whole.false _ _ c.in_ok-check.ensures.number refl c.count.ensures c.if-answers-count.true

pub returns : goal.returns
returns c =
    apply_none _ _ _ _ _ c.is_whole.ensures c.if-not-is_whole.false _ _ c.in_ok-check.ensures.number refl c.count.ensures c.if-answers-count.false
