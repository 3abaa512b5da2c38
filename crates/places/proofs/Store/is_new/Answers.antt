-- `Store::is_new` meets its contract.
use Rattle.std.proofs.Common.{refl, ◌∙◌}
use Rattle.places.specs.StepLaws.{found_nothing, new_used}
use Rattle.places.proofs.Store.is_new.Goals as goal

pub returns-else-word-ne1 : goal.returns-else-word-ne1
returns-else-word-ne1 c =
    found_nothing _ _ c.find.ensures c.is_none.ensures ∙ new_used _ _ _ _ _ _ _ c.word.ensures c.if-word-ne1.false c.name.ensures.0 c.name.ensures.1 refl
