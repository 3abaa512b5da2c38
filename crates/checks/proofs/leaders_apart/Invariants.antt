-- The invariant: the nodes before u pass, and the slots of the keys of leaders among them are taken.
use Rattle.std.proofs.Common.{◌≡◌, ℕ, ◌<◌, true}
use Rattle.checks.specs.Checks.{alone}
use Rattle.checks.specs.Slots.{Seen}
use Rattle.checks.proofs.leaders_apart.Given as goal

abbrev pub invariant-loop-u : goal.invariant-loop-u
invariant-loop-u l = ((k : ℕ) → k < l.u → alone l.edges.n l.edges.words.now l.nodes k ≡ true) × Seen l.nodes l.keys 0 l.u l.opens × Seen l.nodes l.keys 1 l.u l.closeds
