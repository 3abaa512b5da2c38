-- Outer invariant: no group before `from` is the one. Inner invariant: the words before i agree.
use Rattle.std.proofs.Common.{◌≡◌, false, ℕ, ◌-◌, ◌≤◌, ◌<◌, get_or}
use Rattle.std.specs.Int.Bits.{bit_xor}
use Rattle.search.specs.Search.{own_bits, tried}
use Rattle.search.proofs.Search.find_twin.Given as goal

abbrev pub invariant-loop-i : goal.invariant-loop-i
invariant-loop-i l = (k : ℕ) → k < l.i → bit_xor (get_or l.row k 0) (get_or l.other k 0) ≡ own_bits l.closed l.self.u l.q k

abbrev pub invariant-groups : goal.invariant-groups
invariant-groups l = (l.from ≤ l.self.m) × ((k : ℕ) → k < l.from → tried l.self.edges.now l.self.nodes.now l.self.keys.now l.self.u l.self.w l.row k ≡ false)

abbrev pub decreases-groups : goal.decreases-groups
decreases-groups l = l.self.m - l.from
