-- `print::count_superedges` meets its contract.
use Prim.Native.Nat.{◌-◌}
use lib.ListN.{length, drop}
use Rattle.model.specs.Reading.{superedges_at}
use Rattle.print.specs.WalkLaws.{ToCount}
use Rattle.print.proofs.count_superedges.Given as goal

abbrev pub invariant-loop-p : goal.invariant-loop-p
invariant-loop-p l = ToCount l.file (length (superedges_at (length l.file) (drop l.from l.file))) l.count l.p

abbrev pub decreases-loop-p : goal.decreases-loop-p
decreases-loop-p l = length l.file - l.p
