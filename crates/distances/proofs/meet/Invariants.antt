-- `distances::meet` meets its contract.
use Rattle.distances.specs.SetLaws.{Common}
use Rattle.distances.proofs.meet.Given as goal

abbrev pub invariant-loop-w : goal.invariant-loop-w
invariant-loop-w l = Common l.set l.other l.w l.common
