-- The invariant: the words before r are united.
use Rattle.std.proofs.Common.{◌≡◌, ℕ, ◌<◌}
use Rattle.symmetry.specs.Symmetry.{Gathered}
use Rattle.symmetry.proofs.united.Given as goal

abbrev pub invariant-loop-r : goal.invariant-loop-r
invariant-loop-r g l = (f : ℕ → ℕ) → ((r y : ℕ) → r < l.m → g.F.Fn.post l.word (r, tt) y → y ≡ f r) → (k : ℕ) → Gathered f k l.r l.x
