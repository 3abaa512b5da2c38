-- Before each block: the keys of no node before it agree.
use Prim.Native.Nat.{◌-◌}
use Rattle.search.specs.Search.{Skipped, keys_agree}
use Rattle.search.proofs.Search.skip_blocks.Given as goal

abbrev pub invariant-loop-q : goal.invariant-loop-q
invariant-loop-q l = Skipped (keys_agree l.self.keys.now l.self.u) l.from l.self.m l.q

abbrev pub decreases-loop-q : goal.decreases-loop-q
decreases-loop-q l = l.self.m - l.q
