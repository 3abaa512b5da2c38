-- The file is judged after the tables' sizes, then the number of its nodes.
use Rattle.std.proofs.lemmas.Result.{err_from_is_err_and}
use Rattle.tables.specs.LentLaws.{sized}
use Rattle.release.specs.ReadLaws.{judged_exact, read_done, read_none, read_other, none_refused}
use Rattle.release.proofs.read_with.Goals as goal

pub returns-in_err-told : goal.returns-in_err-told
returns-in_err-told c =
    let p = err_from_is_err_and c.from_residual.result c.from_residual.ensures.1 in
    let none = c.in_err-told.ensures.ok_part in
    rw (p.1, p.2, none_refused none c.in_err-told.ensures.value) (read_none _ _ _ _ c.right_size.ensures c.if-not-right_size.false c.judge.ensures none)

pub returns-then-told-n : goal.returns-then-told-n
returns-then-told-n c =
    read_other _ _ _ _ c.right_size.ensures c.if-not-right_size.false c.judge.ensures _ c.in_ok-told.ensures.ok_part c.if-told-n.true

pub fill-requires-clause-exact : goal.fill-requires-clause-exact
fill-requires-clause-exact c =
    (judged_exact c.judge.ensures _ c.in_ok-told.ensures.ok_part _ c.if-told-n.false, sized _ _ _ c.right_size.ensures c.if-not-right_size.false)

pub returns : goal.returns
returns c =
    read_done _ _ _ _ c.right_size.ensures c.if-not-right_size.false c.judge.ensures _ c.in_ok-told.ensures.ok_part c.if-told-n.false c.fill.ensures
