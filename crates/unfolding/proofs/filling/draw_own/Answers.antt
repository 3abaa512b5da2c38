-- `unfolding::filling::draw_own` meets its contract.
use Rattle.unfolding.specs.FillingLaws.{own_not, own_yes}
use Rattle.unfolding.proofs.filling.draw_own.Goals as goal

pub returns-then-kind-eq-CLIQUE : goal.returns-then-kind-eq-CLIQUE
returns-then-kind-eq-CLIQUE c = own_yes _ _ _ c.if-kind-eq-CLIQUE.true c.draw_row.ensures

pub returns-else-kind-eq-CLIQUE : goal.returns-else-kind-eq-CLIQUE
returns-else-kind-eq-CLIQUE c = own_not _ _ _ _ c.if-kind-eq-CLIQUE.false
