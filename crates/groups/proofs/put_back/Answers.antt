-- A group is found and joined, or there is none.
use Rattle.std.proofs.Common.{Some, None, refl, sym, ◌∙◌}
use Rattle.rings.specs.Steps.{alone, joined}
use Rattle.groups.specs.GroupLaws.{fits}
use Rattle.groups.proofs.put_back.Goals as goal

pub returns-in_default : goal.returns-in_default
returns-in_default c = alone (fits _ _ _ _ _ None (sym c.in_default.is ∙ c.find_group.ensures)) refl refl

pub put_in-requires : goal.put_in-requires
put_in-requires c =
    let f = fits _ _ _ _ _ (Some c.in-Some.g) (sym c.in-Some.is ∙ c.find_group.ensures) in
    (c.requires.0, c.requires.2, f.0, f.1.not_u, f.1.leads)

pub returns : goal.returns
returns c =
    let f = fits _ _ _ _ _ (Some c.in-Some.g) (sym c.in-Some.is ∙ c.find_group.ensures) in
    joined _ f.0 f.1 c.put_in.ensures refl
