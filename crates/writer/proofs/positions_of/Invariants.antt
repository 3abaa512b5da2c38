-- Leaders ascend, so a store leaves the positions of those before.
use Rattle.layout.specs.WordLaws.{Placing}
use Rattle.writer.proofs.positions_of.Given as goal

abbrev pub invariant-loop-i : goal.invariant-loop-i
invariant-loop-i l = Placing l.leaders l.position l.i
