-- `check_new` meets its contract.
use Rattle.updates.specs.UpdateLaws.{held_already, held-not}
use Rattle.updates.proofs.updating.check_new.Goals as goal

pub returns-then-there-wanted : goal.returns-then-there-wanted
returns-then-there-wanted c = held_already _ _ c.if-there-wanted.true

pub returns : goal.returns
returns c = held-not _ _ c.if-there-wanted.false
