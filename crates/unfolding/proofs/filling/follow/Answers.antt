-- `unfolding::filling::follow` meets its contract.
use Rattle.unfolding.specs.FollowLaws.{followed_clique, followed_open}
use Rattle.unfolding.proofs.filling.follow.Goals as goal

pub returns-then-kind-eq-CLIQUE : goal.returns-then-kind-eq-CLIQUE
returns-then-kind-eq-CLIQUE c =
    followed_clique _ _ _ c.requires.0 c.copy_row.ensures c.if-kind-eq-CLIQUE.true c.flip_edge.ensures c.flip_edge-then-kind-eq-CLIQUE.ensures

pub returns-else-kind-eq-CLIQUE : goal.returns-else-kind-eq-CLIQUE
returns-else-kind-eq-CLIQUE c =
    followed_open _ _ _ c.requires.0 c.copy_row.ensures c.if-kind-eq-CLIQUE.false
