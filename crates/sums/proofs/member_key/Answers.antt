-- `sums::member_key` meets its contract.
use Rattle.std.proofs.Common.{refl, arith}
use Rattle.sums.specs.SumLaws.{member-clique, member_other}
use Rattle.sums.proofs.member_key.Goals as goal

pub returns-then-kind-eq-CLIQUE : goal.returns-then-kind-eq-CLIQUE
returns-then-kind-eq-CLIQUE c = member-clique _ _ _ _ c.if-kind-eq-CLIQUE.true refl c.cube_of.ensures (omega arith) (omega arith)

pub returns : goal.returns
returns c = member_other _ _ _ _ c.if-kind-eq-CLIQUE.false
