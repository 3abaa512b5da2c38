-- `distances::without` meets its contract.
use Rattle.std.proofs.Common.{not, ◌&&◌}
use Rattle.model.specs.Tables.{edge_bit}
use Rattle.distances.specs.SetLaws.{WordsOf}
use Rattle.distances.proofs.without.Given as goal

abbrev pub invariant-loop-w : goal.invariant-loop-w
invariant-loop-w l = WordsOf (λ q. edge_bit l.set 0 q && not (edge_bit l.other 0 q)) l.w l.left
