-- `queries::list_row` meets its contract.
use native.Mathlib.Omega.{arith}
use Rattle.queries.proofs.QueryLaws.{row_done, row_short, scan_small}
use Rattle.queries.proofs.list_row.Goals as goal

pub overflow_mul-count : goal.overflow_mul-count
overflow_mul-count c =
    let b = scan_small _ _ _ c.count_row-count.ensures in
    omega arith

pub returns-then-out-count : goal.returns-then-out-count
returns-then-out-count c = row_short _ _ _ _ c.count_row-count.ensures c.if-out-count.true

pub overflow_cast-result : goal.overflow_cast-result
overflow_cast-result c =
    let b = scan_small _ _ _ c.count_row-count.ensures in
    omega arith

pub returns : goal.returns
returns c = row_done _ _ _ _ c.count_row-count.ensures c.if-out-count.false c.write_row.ensures
