-- `right_size` meets its contract.
use Rattle.tables.specs.LentLaws.{at_n}
use Rattle.tables.proofs.right_size.Goals as goal

pub returns : goal.returns
returns c = at_n _ _ _ _ c.empty.ensures c.fits.ensures
