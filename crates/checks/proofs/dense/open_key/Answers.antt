-- By the leader's keys, or by the sums.
use Rattle.std.proofs.Common.{sym, ◌∙◌, arith}
use Rattle.checks.specs.HoldLaws.{twin_low}
use Rattle.checks.specs.DenseLaws.{key_by_leader, key_by_table}
use Rattle.checks.proofs.dense.open_key.Goals as goal

pub tied-requires : goal.tied-requires
tied-requires c =
    omega (arith, c.number-l.ensures, twin_low _ _ _ c.requires.edges_value.2 _ c.requires.lens.2)

pub twin_key-requires : goal.twin_key-requires
twin_key-requires c =
    omega (arith, c.number-l.ensures, twin_low _ _ _ c.requires.edges_value.2 _ c.requires.lens.2)

pub returns-then-l-p : goal.returns-then-l-p
returns-then-l-p c =
    key_by_leader _ _ c.args.edges.small c.args.edges.rows c.requires.edges_value.0 c.requires.edges_value.1 c.args.edges.bits _ _ _ c.requires.lens.2 c.requires.edges_value.2 c.requires.edges_value.3 c.number-l.ensures c.if-l-p.true c.tied.ensures c.twin_key.ensures

pub returns : goal.returns
returns c =
    key_by_table _ _ c.args.edges.small c.args.edges.rows c.requires.edges_value.0 c.requires.edges_value.1 _ _ c.requires.lens.2 c.requires.lens.3 (sym c.number-l.ensures ∙ c.if-l-p.false)
