-- `states::save_words` meets its contract.
use Rattle.std.proofs.Common.{◌≡◌, ℕ, ◌<◌, get_or}
use Rattle.states.specs.States.{word_in}
use Rattle.states.proofs.save_words.Given as goal

abbrev pub invariant-loop-p : goal.invariant-loop-p
invariant-loop-p l = (k : ℕ) → k < l.p → get_or l.to k 0 ≡ word_in l.nodes k
