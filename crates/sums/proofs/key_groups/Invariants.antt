-- `sums::key_groups` meets its contract.
-- The invariant: for any rows that the sums are of, the keys of the nodes below p are summed.
use Rattle.std.proofs.Common.{ℕ, List}
use Rattle.keys.specs.KeySums.{Summed}
use Rattle.compressed.specs.Compressed.{Compressed, unfolded}
use Rattle.sums.specs.Joined.{JoinedSummed}
use Rattle.sums.proofs.key_groups.Given as goal

abbrev pub invariant-loop-p : goal.invariant-loop-p
invariant-loop-p l = (joined : List ℕ) → Compressed l.n l.least l.kinds joined → JoinedSummed joined l.sums → Summed (unfolded l.n l.least l.kinds joined) l.p l.initial.keys l.keys
