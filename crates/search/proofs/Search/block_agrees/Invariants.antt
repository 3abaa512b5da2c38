-- Before node q: if no keys agreed, those of no node of the block up to q do.
use mathlib.Core.Path.{◌≡◌}
use mathlib.Core.Bool.{false}
use Prim.Native.Nat.{◌+◌, ◌≤◌}
use Rattle.search.specs.Search.{Passed, keys_agree}
use Rattle.search.proofs.Search.block_agrees.Given as goal

abbrev pub invariant-loop-q : goal.invariant-loop-q
invariant-loop-q l = (l.from ≤ l.q) × (l.q ≤ l.from + 16) × (l.agree ≡ false → Passed (keys_agree l.self.keys.now l.self.u) l.from l.q)
