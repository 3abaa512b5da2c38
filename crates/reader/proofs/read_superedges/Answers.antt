-- `reader::read_superedges` meets its contract.
use native.Mathlib.Omega.{arith}
use Rattle.reader.specs.SuperedgeLaws.{runs_end}
use Rattle.reader.proofs.read_superedges.Goals as goal

pub returns : goal.returns
returns c = runs_end _ _ _ _ _ _ _ _ _ _ _ c.loop-i.invariant (omega arith)
