-- `store::restorable` meets its contract.
use Rattle.store.proofs.StoredLaws.{fill_size, fill_store}
use Rattle.store.proofs.restorable.Goals as goal

pub returns-then-not-right_size-clause-number : goal.returns-then-not-right_size-clause-number
returns-then-not-right_size-clause-number c = fill_size _ _ c.args.store.now c.args.name.now _ c.right_size.ensures c.if-not-right_size.true

pub returns-clause-number : goal.returns-clause-number
returns-clause-number c = fill_store _ _ c.args.store.now c.args.name.now _ c.right_size.ensures c.if-not-right_size.false c.check.ensures.number
