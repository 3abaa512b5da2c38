-- The invariant: the first p rows are masked.
use Rattle.masking.specs.MaskLaws.{masking_done}
use Rattle.masking.proofs.mask_edges.Goals as goal

pub returns : goal.returns
returns c =
    let pre = c.requires in
    masking_done pre.3 c.visible_set-set.ensures c.loop-p.invariant c.loop-p-test.false
