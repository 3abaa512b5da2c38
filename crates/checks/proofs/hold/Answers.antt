-- A part that fails, or all that pass.
use Rattle.std.proofs.Common.{arith}
use Rattle.rows.specs.Rows.{lent}
use Rattle.buffers.specs.AllLaws.{failed, passed}
use Rattle.checks.specs.HoldLaws.{hold_leaders, hold_nodes, hold_rows, hold_twins, rows_ready}
use Rattle.std.proofs.Common.{ap, not}
use Rattle.checks.proofs.hold.Goals as goal

pub returns-then-not-nodes_hold : goal.returns-then-not-nodes_hold
returns-then-not-nodes_hold c =
    let pre = c.requires in
    hold_nodes _ (lent _ _ _) pre.0 pre.1 pre.2 pre.3 (λ i. omega (arith, c.type_inv.edges i)) (failed c.nodes_hold.ensures (ap not c.if-not-nodes_hold.true))

pub returns-then-not-twins_hold : goal.returns-then-not-twins_hold
returns-then-not-twins_hold c =
    let pre = c.requires in
    hold_twins _ (lent _ _ _) pre.0 pre.1 pre.2 pre.3 (λ i. omega (arith, c.type_inv.edges i)) (failed c.twins_hold.ensures (ap not c.if-not-twins_hold.true))

pub returns-then-not-rows_hold : goal.returns-then-not-rows_hold
returns-then-not-rows_hold c =
    let pre = c.requires in
    hold_rows _ (lent _ _ _) pre.0 pre.1 pre.2 pre.3 (λ i. omega (arith, c.type_inv.edges i)) (failed c.rows_hold.ensures (ap not c.if-not-rows_hold.true))

pub leaders_apart-requires : goal.leaders_apart-requires
leaders_apart-requires c =
    let pre = c.requires in
    record { ready = rows_ready _ _ _ pre.0 pre.1 pre.3 (λ i. omega (arith, c.type_inv.edges i)) (passed c.rows_hold.ensures (ap not c.if-not-rows_hold.false)); nodes_len = pre.2 }

pub returns : goal.returns
returns c =
    let pre = c.requires in
    hold_leaders _ (lent _ _ _) pre.0 pre.1 pre.2 pre.3 (λ i. omega (arith, c.type_inv.edges i)) _ (passed c.nodes_hold.ensures (ap not c.if-not-nodes_hold.false)) (passed c.twins_hold.ensures (ap not c.if-not-twins_hold.false)) (passed c.rows_hold.ensures (ap not c.if-not-rows_hold.false)) c.leaders_apart.ensures
