-- `mark` meets its contract.
use mathlib.Core.Logic.{⊎_elim}
use Rattle.updates.specs.UpdateLaws.{mark_more, mark_u, mark_v}
use Rattle.updates.proofs.updating.mark.Goals as goal

pub returns-then-u-n : goal.returns-then-u-n
returns-then-u-n c t = mark_u _ _ _ _ t.edges t.nodes t.keys c.if-u-n.true

pub returns-then-v-ne0 : goal.returns-then-v-ne0
returns-then-v-ne0 c t =
    let l = c.if-u-n.false in
    ⊎_elim (λ x. mark_v _ _ _ _ t.edges t.nodes t.keys l x) (λ x. mark_more _ _ _ _ t.edges t.nodes t.keys l x.1) c.then-v-ne0.either
