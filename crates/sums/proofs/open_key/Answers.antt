-- `sums::open_key` meets its contract.
use Rattle.sums.specs.SumLaws.{node_member, node_none}
use Rattle.sums.proofs.open_key.Goals as goal

pub returns-then-least-p : goal.returns-then-least-p
returns-then-least-p c = node_none _ _ _ _ c.if-least-p.true

pub returns : goal.returns
returns c = node_member _ _ _ _ c.if-least-p.false c.wide-l.ensures c.member_key.ensures
