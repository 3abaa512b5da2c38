-- At most 64 ones for each word that was passed.
use Rattle.std.proofs.Common.{◌*◌, ◌≤◌, length}
use Rattle.keys.proofs.bits_among.Given as goal

abbrev pub invariant-loop-x : goal.invariant-loop-x
invariant-loop-x l = l.bits ≤ 64 * length l.yielded
