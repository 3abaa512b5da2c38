-- What is left to write are the leaders from p on.
use native.Mathlib.Omega.{arith}
use Rattle.layout.specs.FileLaws.{collect_yes, leads_no, leads_yes}
use Rattle.buffers.specs.ScanLaws.{scan_end, scan_no}
use Rattle.buffers.specs.WroteLaws.{left_as, left_done, left_start}
use Rattle.writer.proofs.collect_leaders.Goals as goal
use Rattle.writer.proofs.collect_leaders.Goals.{then-wide-p, else-wide-p}

pub loop-p-init : goal.loop-p-init
loop-p-init c = (omega arith, left_start _ _ _)

pub bounds-leaders-g : goal.bounds-leaders-g
bounds-leaders-g c = omega (arith, c.loop-p.invariant.1.size)

pub loop-p-preserved : goal.loop-p-preserved
loop-p-preserved c = elim c.if-wide-p.branch [ then-wide-p w ↦ (omega arith, rw (w.leaders-is, w.g-is) (collect_yes _ _ _ c.loop-p.invariant.1 c.loop-p-test.true (leads_yes _ _ _ c.wide.ensures w.if-wide-p.true))) | else-wide-p w ↦ (omega arith, rw (w.leaders-is, w.g-is) (left_as c.loop-p.invariant.1 (scan_no _ _ _ c.loop-p-test.true (leads_no _ _ _ c.wide.ensures w.if-wide-p.false)))) ]

pub shape_of-leaders : goal.shape_of-leaders
shape_of-leaders c = c.loop-p.invariant.1.size

pub returns : goal.returns
returns c = left_done c.loop-p.invariant.1 (scan_end _ _ _ c.loop-p-test.false)
