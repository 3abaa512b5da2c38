-- Outer invariant: no group before `from` is the one. Inner invariant: the words before i agree.
use Rattle.std.proofs.Common.{arith, below_more}
use Rattle.search.specs.SearchLaws.{found_here, found_nowhere, tried-agrees, tried_differs, tried-not, tried_skipped}
use Rattle.search.proofs.Search.find_twin.Goals as goal

pub groups-preserved-then-row-i : goal.groups-preserved-then-row-i
groups-preserved-then-row-i c = (
  omega (arith, c.in-Some.ensures.1),
  below_more _ _ (tried_skipped _ _ _ _ _ _ _ _ c.groups.invariant.1 c.in-Some.ensures.0.2)
      (tried_differs _ _ _ _ _ _ _ _ c.key_agrees-closed.ensures c.loop-i.i _ (omega arith) c.own_bits.ensures c.if-row-i.true),
)

pub returns-then-may_join : goal.returns-then-may_join
returns-then-may_join c =
    found_here _ _ _ c.in-Some.ensures.1 (tried_skipped _ _ _ _ _ _ _ _ c.groups.invariant.1 c.in-Some.ensures.0.2)
    (tried-agrees _ _ _ _ _ _ _ _ c.key_agrees-closed.ensures _ c.may_join.ensures c.if-may_join.true (λ k l. c.loop-i.invariant k (omega arith)))

pub groups-preserved : goal.groups-preserved
groups-preserved c = (
  omega (arith, c.in-Some.ensures.1),
  below_more _ _ (tried_skipped _ _ _ _ _ _ _ _ c.groups.invariant.1 c.in-Some.ensures.0.2) (tried-not _ _ _ _ _ _ _ _ c.may_join.ensures c.if-may_join.false),
)

pub returns : goal.returns
returns c = found_nowhere _ _ (tried_skipped _ _ _ _ _ _ _ _ c.groups.invariant.1 c.in_default.ensures)
