-- The invariant: the rows before p pass.
use mathlib.Core.Path.{sym}
use native.Mathlib.Omega.{arith}
use Rattle.buffers.specs.AllLaws.{failed}
use Rattle.edges.specs.EdgesLaws.{row_fails, rows_held}
use Rattle.std.proofs.Common.{ap, not}
use Rattle.edges.proofs.hold_by_walks.Goals as goal

pub returns-then-not-is_row_mirrored : goal.returns-then-not-is_row_mirrored
returns-then-not-is_row_mirrored c = row_fails _ _ _ (omega arith) (failed c.is_row_mirrored.ensures (ap not c.if-not-is_row_mirrored.true))

pub returns : goal.returns
returns c =
    sym (rows_held _ _ c.args.edges.small c.args.edges.rows c.args.edges.bits (λ k h. c.loop-p.invariant k (omega arith)))
