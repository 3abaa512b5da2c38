-- `reader::read_run` meets its contract.
use Prim.Native.Nat.{◌-◌}
use lib.ListN.{length}
use Rattle.reader.specs.Decoding.{RunLeft}
use Rattle.reader.proofs.read_run.Given as goal

abbrev pub invariant-loop-read : goal.invariant-loop-read
invariant-loop-read l = RunLeft (length l.firsts) l.i l.few l.file l.from l.firsts l.initial.joined l.joined l.initial.sums l.sums l.last l.at

abbrev pub decreases-loop-read : goal.decreases-loop-read
decreases-loop-read l = length l.file - l.at
