-- `reader::read_superedges` meets its contract.
use lib.ListN.{length}
use Rattle.reader.specs.Decoding.{RunsLeft}
use Rattle.reader.proofs.read_superedges.Given as goal

abbrev pub invariant-loop-i : goal.invariant-loop-i
invariant-loop-i l = RunsLeft (length l.firsts) l.few l.file l.from l.firsts l.initial.joined l.joined l.initial.sums l.sums l.i l.at
