-- The invariant: the entries before 256 * i are there.
use Rattle.std.proofs.Common.{◌*◌}
use Rattle.keys.specs.KeySums.{Widened}
use Rattle.keys.proofs.widen.Given as goal

abbrev pub invariant-loop-i : goal.invariant-loop-i
invariant-loop-i l = Widened l.w (256 * l.i) l.sums
