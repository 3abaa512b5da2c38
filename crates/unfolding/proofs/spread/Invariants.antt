-- `unfolding::spread` meets its contract.
use Rattle.std.proofs.Common.{ℕ, ◌<◌, get_or}
use Rattle.model.specs.Tables.{edge_bit}
use Rattle.unfolding.specs.Unfolding.{SpreadWord}
use Rattle.unfolding.proofs.spread.Given as goal

abbrev pub invariant-loop-w : goal.invariant-loop-w
invariant-loop-w l = (i : ℕ) → i < l.w → SpreadWord i l.n l.least (edge_bit l.row 0) (get_or l.word-items i 0)
