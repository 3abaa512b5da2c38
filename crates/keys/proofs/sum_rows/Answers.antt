-- `keys::sum_rows` meets its contract.
use Rattle.std.proofs.Common.{arith}
use Rattle.search.specs.SearchLaws.{within-length}
use Rattle.keys.proofs.sum_rows.Goals as goal

pub is_dense-requires : goal.is_dense-requires
is_dense-requires c = let w = c.requires.0 in omega (arith, within-length w, w.small)

pub invariant_of-table-clause-rows : goal.invariant_of-table-clause-rows
invariant_of-table-clause-rows c = within-length c.requires.0

pub invariant_of-table-clause-bits : goal.invariant_of-table-clause-bits
invariant_of-table-clause-bits c = λ i. omega (arith, c.type_inv.edges i)

pub invariant_of-table-2-clause-rows : goal.invariant_of-table-2-clause-rows
invariant_of-table-2-clause-rows c = within-length c.requires.0

pub invariant_of-table-2-clause-bits : goal.invariant_of-table-2-clause-bits
invariant_of-table-2-clause-bits c = λ i. omega (arith, c.type_inv.edges i)
