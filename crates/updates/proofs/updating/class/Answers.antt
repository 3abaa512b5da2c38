-- `class` meets its contract.
use mathlib.Core.Logic.{⊎_elim}
use Rattle.updates.specs.UpdateLaws.{class_more, class_u, class_wanted}
use Rattle.updates.proofs.updating.class.Goals as goal

pub returns-then-u-n : goal.returns-then-u-n
returns-then-u-n c t = class_u _ _ _ _ t.edges t.nodes t.keys c.if-u-n.true

pub returns-then-class-ge-CLASSES : goal.returns-then-class-ge-CLASSES
returns-then-class-ge-CLASSES c t =
    let l = c.if-u-n.false in
    ⊎_elim (λ x. class_more _ _ _ _ t.edges t.nodes t.keys l x) (λ x. class_wanted _ _ _ _ t.edges t.nodes t.keys l x.1) c.then-class-ge-CLASSES.either
