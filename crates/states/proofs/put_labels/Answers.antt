-- `states::put_labels` meets its contract.
use Rattle.std.proofs.Common.{refl, arith}
use Rattle.rings.specs.LabelLaws.{put_more}
use Rattle.states.proofs.put_labels.Goals as goal

pub loop-p-preserved : goal.loop-p-preserved
loop-p-preserved c = put_more c.loop-p.invariant (omega arith) refl refl
