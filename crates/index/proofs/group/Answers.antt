-- `group` meets its contract.
use Rattle.std.specs.Prelude.{refl}
use Rattle.std.proofs.Common.{◌∙◌, arith}
use Rattle.std.proofs.lemmas.Result.{err_from_is_err_and}
use Rattle.answers.specs.NumberLaws.{refused_not_0}
use Rattle.queries.proofs.QueryLaws.{scan_small}
use Rattle.index.specs.IndexLaws.{group_table, group_outside, group_ends, group_done}
use Rattle.tables.specs.LentLaws.{table_sized}
use Rattle.index.proofs.group.Goals as goal

pub returns-in_err-tables : goal.returns-in_err-tables
returns-in_err-tables c =
    let p = err_from_is_err_and c.from_residual.result c.from_residual.ensures.1 in
    rw (p.1, p.2) (group_table _ _ _ _ c.in_err-tables.ensures.number (refused_not_0 _))

pub returns-in_err-check_node : goal.returns-in_err-check_node
returns-in_err-check_node c =
    let p = err_from_is_err_and c.from_residual-in_err-check_node.result c.from_residual-in_err-check_node.ensures.1 in
    rw (p.1, p.2, c.in_err-check_node.ensures.refused.0) (group_outside _ _ _ _ c.in_ok-tables.ensures.number refl c.in_err-check_node.ensures.refused.1)

pub number-least-requires : goal.number-least-requires
number-least-requires c =
    let s = table_sized _ _ _ c.in_ok-tables.ensures.number refl in
    omega (arith, s.nodes, c.in_ok-check_node.ensures.found)

pub kind_of-kind-requires : goal.kind_of-kind-requires
kind_of-kind-requires c =
    let s = c.in_ok-tables.ensures.same in
    let e = group_ends _ _ _ _ c.in_ok-tables.ensures.number refl c.in_ok-check_node.ensures.found _ c.number-least.ensures in
    rw (s.0, s.2) (e.0, e.1)

pub overflow_cast-result : goal.overflow_cast-result
overflow_cast-result c =
    let s = (table_sized _ _ _ c.in_ok-tables.ensures.number refl).small in
    let e = (group_ends _ _ _ _ c.in_ok-tables.ensures.number refl c.in_ok-check_node.ensures.found _ c.number-least.ensures).0 in
    omega arith

pub overflow_cast-result-2 : goal.overflow_cast-result-2
overflow_cast-result-2 c =
    let s = (table_sized _ _ _ c.in_ok-tables.ensures.number refl).small in
    let b = scan_small _ _ _ c.group_size-size.ensures in
    let k = c.in_ok-tables.ensures.same.0 in
    omega arith

pub returns : goal.returns
returns c =
    let s = c.in_ok-tables.ensures.same in
    group_done _ _ _ _ c.in_ok-tables.ensures.number refl c.in_ok-check_node.ensures.found _ c.number-least.ensures
    (c.kind_of-kind.ensures ∙ rw (s.1, s.2) refl)
    (c.group_size-size.ensures ∙ rw (s.0, s.2) refl)
