-- `Name::new` meets its contract.
use Rattle.places.specs.StepLaws.{name_read}
use Rattle.places.proofs.Name.new.Goals as goal

pub returns : goal.returns
returns c = name_read _ _ _ _ _ _ _ _ c.in_ok-first.ensures.cases c.try_into.ensures.1 c.in_ok-second.ensures.value c.from_le_bytes.ensures c.from_le_bytes-2.ensures
