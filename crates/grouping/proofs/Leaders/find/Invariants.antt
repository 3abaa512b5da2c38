-- The outer invariant: c stands in the chain, and whoever is alike is not above it. The inner one: the words before i agree.
use Rattle.std.proofs.Common.{◌≡◌, ℕ, ◌<◌, ◌≤◌, Bool, get_or}
use lib.Bits.{bit_xor}
use Rattle.search.specs.Search.{own_bits}
use Rattle.grouping.specs.ChainLaws.{Seeking}
use Rattle.grouping.specs.Chains.{Chains, class_alike}
use Rattle.grouping.proofs.Leaders.find.Given as goal

abbrev pub invariant-loop-i : goal.invariant-loop-i
invariant-loop-i l = (k : ℕ) → k < l.i → bit_xor (get_or l.row k 0) (get_or l.other k 0) ≡ own_bits l.closed l.u l.q k

abbrev pub invariant-groups : goal.invariant-groups
invariant-groups l = (l.c ≤ l.u) × ((slot : ℕ → ℕ) (leads : ℕ → Bool) → slot l.u ≡ l.s → Chains slot leads l.u l.self → Seeking slot leads (class_alike l.edges l.classes l.closed l.u) l.u l.c)

abbrev pub decreases-groups : goal.decreases-groups
decreases-groups l = l.c
