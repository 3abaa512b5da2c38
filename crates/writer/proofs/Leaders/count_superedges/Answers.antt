-- Each group adds at most 512.
use native.Mathlib.Omega.{arith}
use Rattle.layout.specs.File.{superedge_total}
use Rattle.layout.specs.FileLaws.{later_small}
use Rattle.buffers.specs.ScanLaws.{summing_done, summing_start, summing_step}
use Rattle.writer.proofs.Leaders.count_superedges.Goals as goal

pub loop-i-init : goal.loop-i-init
unfolding superedge_total
loop-i-init c = (omega arith, omega arith, summing_start _ _ _)

pub count_later-count-requires : goal.count_later-count-requires
count_later-count-requires c = c.loop-i-test.true

pub overflow_add-count : goal.overflow_add-count
overflow_add-count c = let small = later_small _ _ _ c.args.self.rowed.few c.count_later-count.ensures in omega (arith, c.args.self.rowed.few)

pub loop-i-preserved : goal.loop-i-preserved
loop-i-preserved c = let small = later_small _ _ _ c.args.self.rowed.few c.count_later-count.ensures in (omega arith, omega arith, summing_step c.loop-i.invariant.2 c.loop-i-test.true _ c.count_later-count.ensures)

pub returns : goal.returns
returns c = (summing_done c.loop-i.invariant.2 c.loop-i-test.false, omega (arith, c.args.self.rowed.few))
