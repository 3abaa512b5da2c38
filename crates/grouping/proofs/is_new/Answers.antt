-- `grouping::is_new` meets its contract.
-- One law for each way out.
use Rattle.std.proofs.Common.{ap, not, ◌∙◌, sym}
use Rattle.grouping.specs.PartedLaws.{new_hit}
use Rattle.grouping.proofs.is_new.Goals as goal

pub returns-then-is_some : goal.returns-then-is_some
returns-then-is_some c = new_hit (ap not c.if-not-candidate.false) _ c.find.ensures (sym c.is_some.ensures ∙ c.if-is_some.true)
