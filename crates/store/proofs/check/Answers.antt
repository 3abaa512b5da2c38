-- `store::check` meets its contract.
use Rattle.answers.specs.NumberLaws.{refused_not_0}
use Rattle.store.proofs.StoredLaws.{name_refused, refused_as}
use Rattle.store.proofs.check.Goals as goal

pub returns-in_err-kept-clause-number : goal.returns-in_err-kept-clause-number
returns-in_err-kept-clause-number c = refused_as _ _ c.from_residual.ensures.1 (name_refused _ _ _ c.in_err-kept.ensures.number (refused_not_0 _))
