-- The invariant: the entries before 16 * b + v are there.
use Rattle.std.proofs.Common.{◌+◌, ◌*◌}
use Rattle.keys.specs.KeySums.{FoursFilled}
use Rattle.keys.proofs.fill_four.Given as goal

abbrev pub invariant-loop-v : goal.invariant-loop-v
invariant-loop-v l = FoursFilled l.w (16 * l.b + l.v) l.sums
