-- `check` meets its contract.
use Rattle.tables.specs.LentLaws.{size_wrong, none_held, all_held, held_if, sized}
use Rattle.tables.proofs.check.Goals as goal

pub returns-then-not-right_size-clause-number : goal.returns-then-not-right_size-clause-number
returns-then-not-right_size-clause-number c = size_wrong _ _ _ c.right_size.ensures c.if-not-right_size.true

pub hold-requires : goal.hold-requires
hold-requires c = let s = sized _ _ _ c.right_size.ensures c.if-not-right_size.false in (s.small, s.edges, s.nodes, s.keys)

pub returns-then-not-hold-clause-number : goal.returns-then-not-hold-clause-number
returns-then-not-hold-clause-number c = none_held _ _ _ _ c.right_size.ensures c.if-not-right_size.false c.hold.ensures c.if-not-hold.true

pub invariant_of-result : goal.invariant_of-result
invariant_of-result c = record { held = held_if _ _ _ _ c.right_size.ensures c.if-not-right_size.false c.hold.ensures c.if-not-hold.false }

pub returns-clause-number : goal.returns-clause-number
returns-clause-number c = all_held _ _ _ _ c.right_size.ensures c.if-not-right_size.false c.hold.ensures c.if-not-hold.false
