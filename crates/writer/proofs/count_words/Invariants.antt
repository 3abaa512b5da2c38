-- What is left to count are the marked nodes from word w on.
use Prim.Native.Nat.{◌*◌}
use lib.ListN.{length}
use Rattle.buffers.specs.Scan.{Counting, scan}
use Rattle.layout.specs.Words.{marked_edge}
use Rattle.writer.proofs.count_words.Given as goal

abbrev pub invariant-loop-w : goal.invariant-loop-w
invariant-loop-w l = Counting (marked_edge l.edges l.set l.p) 512 (length (scan (marked_edge l.edges l.set l.p) 512 (64 * l.from))) l.count (64 * l.w)
