-- `Update::check` meets its contract.
use Rattle.std.proofs.Common.{refl, sym, ◌∙◌}
use Rattle.answers.specs.PairLaws.{two_nodes}
use Rattle.updates.specs.UpdateLaws.{class_held, class_other, edge_frozen, edge_held, mark_held}
use Rattle.updates.proofs.updating.Update.check.Goals as goal

pub returns-then-is_frozen : goal.returns-then-is_frozen
returns-then-is_frozen c =
    let w = rw c.in-Edge.is at c.requires in
    rw c.in-Edge.is (edge_frozen _ _ _ _ _ _ _ (two_nodes _ _ _ w.0 w.1 w.2) refl w.3 (sym c.is_frozen.ensures ∙ c.if-is_frozen.true))

pub returns-else-is_frozen : goal.returns-else-is_frozen
returns-else-is_frozen c =
    let w = rw c.in-Edge.is at c.requires in
    c.check_new.ensures
    ∙ rw (c.in-Edge.is, c.edge.ensures) (edge_held _ _ _ _ _ _ _ (two_nodes _ _ _ w.0 w.1 w.2) refl w.3 (sym c.is_frozen.ensures ∙ c.if-is_frozen.false))

pub returns-in-Mark : goal.returns-in-Mark
returns-in-Mark c =
    let w = rw c.in-Mark.is at c.requires in
    c.check_new-in-Mark.ensures ∙ rw (c.in-Mark.is, c.is_hidden.ensures) (mark_held _ _ _ _ _ _ _ w.0 refl w.1)

pub returns-then-number-class : goal.returns-then-number-class
returns-then-number-class c =
    let w = rw c.in-Class.is at c.requires in
    rw c.in-Class.is (class_held _ _ _ _ _ _ _ w.0 w.1 refl (sym c.number.ensures ∙ c.if-number-class.true))

pub returns-else-number-class : goal.returns-else-number-class
returns-else-number-class c =
    let w = rw c.in-Class.is at c.requires in
    rw c.in-Class.is (class_other _ _ _ _ _ _ _ w.0 w.1 refl (λ e. c.if-number-class.false (c.number.ensures ∙ e)))
