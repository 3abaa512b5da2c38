-- `put_node` meets its contract.
use Rattle.std.proofs.Common.{arith}
use Rattle.opening.specs.OpenLaws.{node_put}
use Rattle.opening.proofs.put_node.Goals as goal

pub returns : goal.returns
returns c = node_put _ _ _ _ (omega arith)
