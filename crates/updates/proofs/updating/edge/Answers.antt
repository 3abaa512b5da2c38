-- `edge` meets its contract.
use Rattle.std.proofs.Common.{refl}
use Rattle.std.proofs.lemmas.Result.{err_from_is_err_and}
use Rattle.answers.specs.NumberLaws.{refused_not_0}
use Rattle.answers.specs.PairLaws.{pair_ends}
use Rattle.updates.specs.UpdateLaws.{edge_more, edge_pair}
use Rattle.updates.proofs.updating.edge.Goals as goal

pub returns-in_err-check_pair : goal.returns-in_err-check_pair
returns-in_err-check_pair c =
    let p = err_from_is_err_and c.from_residual.result c.from_residual.ensures.1 in
    rw (p.1, p.2) (λ t. edge_pair _ _ _ _ t.edges t.nodes t.keys c.in_err-check_pair.ensures (refused_not_0 _))

pub returns-then-wanted-gt1 : goal.returns-then-wanted-gt1
returns-then-wanted-gt1 c t = edge_more _ _ _ _ t.edges t.nodes t.keys c.in_ok-check_pair.ensures refl c.if-wanted-gt1.true

pub returns : goal.returns
returns c =
    let p = pair_ends _ _ _ c.in_ok-check_pair.ensures refl in
    record { within = (p.0, p.1, p.2, c.if-wanted-gt1.false); same = refl }
