-- The invariant: the keys of the nodes before p pass.
use Rattle.std.proofs.Common.{arith, below_more}
use Rattle.buffers.specs.AllLaws.{failed, passed}
use Rattle.checks.specs.DenseLaws.{key_fails, key_told, keys_pass}
use Rattle.std.proofs.Common.{ap, not}
use Rattle.checks.proofs.dense.keys_hold.Goals as goal

pub returns-then-not-keys_agree : goal.returns-then-not-keys_agree
returns-then-not-keys_agree c =
    key_fails _ _ _ c.loop-p.p (omega arith) (failed (key_told _ _ _ _ c.open_key.ensures c.keys_agree.ensures) (ap not c.if-not-keys_agree.true))

pub loop-p-preserved : goal.loop-p-preserved
loop-p-preserved c =
    (below_more _ _ c.loop-p.invariant (passed (key_told _ _ _ _ c.open_key.ensures c.keys_agree.ensures) (ap not c.if-not-keys_agree.false)))

pub returns : goal.returns
returns c =
    keys_pass _ _ c.args.edges.small c.args.edges.rows c.requires.edges_value.0 c.requires.edges_value.1 _ _ (omega arith) c.loop-p.invariant
