-- The invariant: the entries before 256 * i + 16 * h + l are there.
use Rattle.std.proofs.Common.{◌+◌, ◌*◌}
use Rattle.keys.specs.KeySums.{Widened}
use Rattle.keys.proofs.widen_row.Given as goal

abbrev pub invariant-loop-l : goal.invariant-loop-l
invariant-loop-l l = Widened l.w (256 * l.i + 16 * l.h + l.l) l.sums
