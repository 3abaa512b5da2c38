-- The invariant: the entries before 256 * i + 16 * h are there.
use Rattle.std.proofs.Common.{◌+◌, ◌*◌}
use Rattle.keys.specs.KeySums.{Widened}
use Rattle.keys.proofs.widen_rows.Given as goal

abbrev pub invariant-loop-h : goal.invariant-loop-h
invariant-loop-h l = Widened l.w (256 * l.i + 16 * l.h) l.sums
