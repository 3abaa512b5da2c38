-- The invariant: the entries for the nodes before 4 * b are there.
use Rattle.std.proofs.Common.{◌*◌}
use Rattle.keys.specs.KeySums.{FoursFilled}
use Rattle.keys.proofs.fill_fours.Given as goal

abbrev pub invariant-loop-b : goal.invariant-loop-b
invariant-loop-b l = FoursFilled l.w (16 * l.b) l.sums
