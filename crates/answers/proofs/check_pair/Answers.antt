-- `check_pair` meets its contract.
use Rattle.answers.specs.PairLaws.{first_outside, second_outside, one_node_lem, two_nodes}
use Rattle.answers.proofs.check_pair.Goals as goal

pub returns-then-u-n : goal.returns-then-u-n
returns-then-u-n c = first_outside _ _ _ c.if-u-n.true

pub returns-then-v-n : goal.returns-then-v-n
returns-then-v-n c = second_outside _ _ _ c.if-u-n.false c.if-v-n.true

pub returns-then-u-v : goal.returns-then-u-v
returns-then-u-v c = one_node_lem _ _ _ c.if-u-n.false c.if-v-n.false c.if-u-v.true

pub returns : goal.returns
returns c = two_nodes _ _ _ c.if-u-n.false c.if-v-n.false c.if-u-v.false
