-- One node's mark and class more.
use Rattle.std.proofs.Common.{arith}
use Rattle.rings.specs.LabelLaws.{put_more}
use Rattle.release.proofs.copies.put_labels.Goals as goal

pub loop-p-preserved : goal.loop-p-preserved
loop-p-preserved c = put_more c.loop-p.invariant (omega arith) c.mark_for.ensures c.class_for.ensures
