-- `adopting::rename` meets its contract.
-- The first members before the index are renamed, the others are as they were.
use Rattle.std.proofs.Common.{◌≡◌, ℕ, ◌≤◌, ◌<◌, cond, eqb, get_or}
use Rattle.adopting.proofs.rename.Given as goal

abbrev pub invariant-loop-first : goal.invariant-loop-first
invariant-loop-first l = record {
  names : (k : ℕ) → k < l.first-index → get_or l.first-items k 0 ≡ cond (eqb (get_or l.fn.least k 0) l.x) l.y (get_or l.fn.least k 0);
  rest : (k : ℕ) → l.first-index ≤ k → k < l.n → get_or l.first-items k 0 ≡ get_or l.fn.least k 0;
}
