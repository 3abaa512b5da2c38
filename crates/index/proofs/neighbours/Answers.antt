-- `neighbours` meets its contract.
use Rattle.std.specs.Prelude.{refl}
use Rattle.std.proofs.Common.{◌∙◌, arith, length-drop, length-take}
use Rattle.std.proofs.lemmas.Result.{err_from_is_err_and}
use Rattle.rows.specs.BitLaws.{row-bit}
use Rattle.answers.specs.NumberLaws.{refused_not_0}
use Rattle.index.specs.IndexLaws.{neighbours_outside, neighbours-reached, neighbours_table, neighbours-told}
use Rattle.tables.specs.LentLaws.{table_held, table_sized}
use Rattle.index.proofs.neighbours.Goals as goal

pub returns-in_err-check : goal.returns-in_err-check
returns-in_err-check c =
    let p = err_from_is_err_and c.from_residual.result c.from_residual.ensures.1 in
    rw (p.1, p.2) (neighbours_table _ _ _ _ _ c.in_err-check.ensures.number (refused_not_0 _))

pub returns-in_err-check_node : goal.returns-in_err-check_node
returns-in_err-check_node c =
    let p = err_from_is_err_and c.from_residual-in_err-check_node.result c.from_residual-in_err-check_node.ensures.1 in
    rw (p.1, p.2, c.in_err-check_node.ensures.refused.0) (neighbours_outside _ _ _ _ _ c.in_ok-check.ensures.number refl c.in_err-check_node.ensures.refused.1)

pub slice_bounds-row-end : goal.slice_bounds-row-end
slice_bounds-row-end c =
    let s = table_sized _ _ _ c.in_ok-check.ensures.number refl in
    omega (arith, s.edges, c.in_ok-check_node.ensures.found)

pub list_row-requires : goal.list_row-requires
list_row-requires c =
    let s = table_sized _ _ _ c.in_ok-check.ensures.number refl in
    (simp (length-take, length-drop) (omega (arith, s.edges, c.in_ok-check_node.ensures.found)), neighbours-reached _ _ _ (table_held _ _ _ c.in_ok-check.ensures.number refl) c.in_ok-check_node.ensures.found _ (λ q b. row-bit _ _ q b))

pub returns : goal.returns
returns c = c.list_row.ensures ∙ neighbours-told _ _ _ _ _ c.in_ok-check.ensures.number refl c.in_ok-check_node.ensures.found _ (λ q b. row-bit _ _ q b)
