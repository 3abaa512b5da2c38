-- The invariant: the sum of the bits before 8 * i, by the table of any word.
use Rattle.std.proofs.Common.{◌≡◌, ℕ, ◌*◌, ◌%◌, ◌^◌}
use Rattle.keys.specs.KeySums.{Widened, word_cubes}
use Rattle.keys.proofs.word_sum.Given as goal

abbrev pub invariant-loop-i : goal.invariant-loop-i
invariant-loop-i l = ((w : ℕ) → Widened w 2048 l.sums → l.total ≡ word_cubes w l.x (8 * l.i) % 2 ^ 32)
