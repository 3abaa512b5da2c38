-- `store::put_name` meets its contract.
use native.Mathlib.Omega.{arith}
use lib.ListN.{length-set}
use Rattle.store.proofs.put_name.Goals as goal

pub bounds-place-1 : goal.bounds-place-1
bounds-place-1 c = simp length-set (omega arith)
