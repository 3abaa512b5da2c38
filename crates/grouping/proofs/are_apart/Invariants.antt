-- `grouping::are_apart` meets its contract.
-- The invariant: the chains hold the leaders below u, and each is apart from those below it.
use Rattle.std.proofs.Common.{◌≡◌, ℕ, ◌<◌, true}
use Rattle.grouping.specs.Chains.{classed_slot}
use Rattle.grouping.specs.Slots.{group_slot}
use Rattle.grouping.specs.Parted.{Parted, apart_at}
use Rattle.grouping.proofs.are_apart.Given as goal

abbrev pub invariant-loop-u : goal.invariant-loop-u
invariant-loop-u l = Parted (classed_slot l.classes (group_slot l.joined l.few l.sums)) l.least l.kinds l.u l.opens l.closeds × ((q : ℕ) → q < l.u → apart_at l.least l.kinds l.classes l.joined q ≡ true)
