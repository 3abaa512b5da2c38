-- `print::groups_end` meets its contract.
use mathlib.Core.Path.{◌≡◌}
use Prim.Native.Nat.{◌-◌, ◌+◌, ◌*◌, ◌≤◌}
use lib.ListN.{drop}
use Rattle.model.specs.Reading.{after_groups}
use Rattle.print.proofs.groups_end.Given as goal

abbrev pub invariant-loop : goal.invariant-loop
invariant-loop l = (l.p ≤ 8 + 131076 * l.counter) × (after_groups (l.k - l.counter) (drop l.p l.file) ≡ after_groups l.k (drop l.from l.file))
