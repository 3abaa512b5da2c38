-- `reader::read_run` meets its contract.
use mathlib.Core.Path.{◌∙◌, sym}
use native.Mathlib.Omega.{arith}
use Rattle.reader.specs.SuperedgeLaws.{no_position, not_after, run_more, run_none, run_other, run_over, superedge_next, superedge_room}
use Rattle.reader.proofs.read_run.Goals as goal

pub returns-in_default-item : goal.returns-in_default-item
returns-in_default-item c = run_other _ _ _ _ _ _ _ _ _ _ _ _ c.loop-read.invariant _ c.in-Some.ensures c.in_default-item.not-Superedge

pub returns-then-j-last : goal.returns-then-j-last
returns-then-j-last c = run_over _ _ _ _ _ _ _ _ _ _ _ _ c.loop-read.invariant _ c.in-Some.ensures _ _ c.in-Superedge.is (not_after _ _ _ _ _ (omega arith))

pub returns-then-j-firsts : goal.returns-then-j-firsts
returns-then-j-firsts c = run_over _ _ _ _ _ _ _ _ _ _ _ _ c.loop-read.invariant _ c.in-Some.ensures _ _ c.in-Superedge.is (no_position _ _ _ _ _ (omega arith))

pub loop-read-smaller : goal.loop-read-smaller
loop-read-smaller c =
    let n = superedge_next _ _ _ _ c.in-Some.ensures _ _ c.in-Superedge.is in
    let room = superedge_room _ _ _ _ c.in-Some.ensures _ _ c.in-Superedge.is in
    omega arith

pub loop-read-preserved : goal.loop-read-preserved
loop-read-preserved c =
    rw c.from-j.ensures (run_more _ _ _ _ _ _ _ _ _ _ _ _ c.loop-read.invariant _ c.in-Some.ensures _ _ c.in-Superedge.is _ _ _ _ (omega arith) (omega arith) c.wide-p.ensures (rw c.from-j.ensures at c.wide.ensures) c.join.ensures.added c.join.ensures.sums_added)

pub returns : goal.returns
returns c = run_none _ _ _ _ _ _ _ _ _ _ _ _ c.loop-read.invariant (sym c.in_default.is ∙ c.superedge_from.ensures)
