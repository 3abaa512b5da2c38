-- Asymmetric, with a loop, or as the keys tell.
use Rattle.buffers.specs.AllLaws.{failed, passed}
use Rattle.symmetry.specs.Symmetry.{symmetric}
use Rattle.model.proofs.TestLaws.{and_fst, and_snd}
use Rattle.checks.specs.DenseLaws.{asymmetric}
use Rattle.std.proofs.Common.{ap, not}
use Rattle.checks.proofs.dense.rows_hold.Goals as goal

pub returns-then-not-hold_by_strips : goal.returns-then-not-hold_by_strips
returns-then-not-hold_by_strips c =
    let pre = c.requires in
    asymmetric _ _ c.args.edges.small c.args.edges.rows _ (failed c.hold_by_strips.ensures (ap not c.if-not-hold_by_strips.true))

pub keys_hold-requires : goal.keys_hold-requires
keys_hold-requires c =
    let pre = c.requires in
    let b = passed c.hold_by_strips.ensures (ap not c.if-not-hold_by_strips.false) in
    record { lens = (pre.0, pre.1); edges_value = (and_fst (symmetric _) _ b, and_snd (symmetric _) _ b, pre.2) }
