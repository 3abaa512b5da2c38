-- `distances::search` meets its contract.
-- One law for each way out, and one for a turn.
use Rattle.std.proofs.Common.{◌-◌}
use Rattle.distances.specs.Distances.{Searching}
use Rattle.distances.proofs.search.Given as goal

abbrev pub invariant-loop-d : goal.invariant-loop-d
invariant-loop-d l = Searching l.n l.joined l.i l.j (l.d - 1) l.seen l.frontier
