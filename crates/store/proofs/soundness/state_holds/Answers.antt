-- `store::soundness::state_holds` meets its contract.
use Rattle.std.proofs.Common.{sym, ◌∙◌}
use Rattle.store.proofs.JudgeLaws.{words_tell}
use Rattle.store.proofs.soundness.state_holds.Goals as goal

pub returns-then-hold : goal.returns-then-hold
returns-then-hold c = words_tell _ _ _ (sym c.hold.ensures ∙ c.if-hold.true) (c.union_of.ensures 9)
