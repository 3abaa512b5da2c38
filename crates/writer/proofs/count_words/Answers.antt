-- What is left to count are the marked nodes from word w on.
use native.Mathlib.Omega.{arith}
use Rattle.buffers.specs.ScanLaws.{counting_done, counting_start}
use Rattle.writer.specs.CountLaws.{counting_next, counting_small}
use Rattle.writer.proofs.count_words.Goals as goal

pub loop-w-init : goal.loop-w-init
loop-w-init c = counting_start _ _ _

pub add_ones-count-requires : goal.add_ones-count-requires
add_ones-count-requires c = counting_small _ _ c.loop-w.invariant

pub loop-w-preserved : goal.loop-w-preserved
loop-w-preserved c = counting_next _ _ _ _ c.loop-w.invariant c.requires.3 c.loop-w-test.true c.add_ones-count.ensures

pub returns : goal.returns
returns c = counting_done c.loop-w.invariant (omega arith)
