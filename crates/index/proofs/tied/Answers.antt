-- `tied` meets its contract.
use Rattle.std.specs.Prelude.{refl}
use Rattle.std.proofs.Common.{arith}
use Rattle.std.proofs.lemmas.Result.{err_from_is_err_and}
use Rattle.answers.specs.NumberLaws.{refused_not_0}
use Rattle.answers.specs.PairLaws.{pair_ends}
use Rattle.index.specs.IndexLaws.{tied_table, tied_pair, tied_done}
use Rattle.tables.specs.LentLaws.{table_sized}
use Rattle.index.proofs.tied.Goals as goal

pub returns-in_err-check : goal.returns-in_err-check
returns-in_err-check c =
    let p = err_from_is_err_and c.from_residual.result c.from_residual.ensures.1 in
    rw (p.1, p.2) (tied_table _ _ _ _ _ c.in_err-check.ensures.number (refused_not_0 _))

pub returns-in_err-check_pair : goal.returns-in_err-check_pair
returns-in_err-check_pair c =
    let p = err_from_is_err_and c.from_residual-in_err-check_pair.result c.from_residual-in_err-check_pair.ensures.1 in
    rw (p.1, p.2) (tied_pair _ _ _ _ _ c.in_ok-check.ensures.number refl c.in_err-check_pair.ensures (refused_not_0 _))

pub edge-requires : goal.edge-requires
edge-requires c =
    let s = table_sized _ _ _ c.in_ok-check.ensures.number refl in
    let p = pair_ends _ _ _ c.in_ok-check_pair.ensures refl in
    omega arith

pub returns : goal.returns
returns c = tied_done _ _ _ _ _ c.in_ok-check.ensures.number refl c.in_ok-check_pair.ensures refl c.edge.ensures
