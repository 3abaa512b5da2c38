-- `unfolding::spread_word` meets its contract.
use Prim.Native.Nat.{◌*◌, ◌≤◌, max}
use Rattle.model.specs.Tables.{edge_bit}
use Rattle.unfolding.specs.Unfolding.{SpreadWord}
use Rattle.unfolding.proofs.spread_word.Given as goal

abbrev pub invariant-loop-q : goal.invariant-loop-q
invariant-loop-q l = (64 * l.w ≤ l.q) × (l.q ≤ max (64 * l.w) l.q-end) × SpreadWord l.w l.q l.least (edge_bit l.row 0) l.bits
