-- `unfolding::filling::copy_row` meets its contract.
use Rattle.std.proofs.Common.{refl, arith}
use Rattle.unfolding.proofs.CopyLaws.{row_copied_all, row_copied_more, row_copied_none}
use Rattle.unfolding.proofs.filling.copy_row.Goals as goal

pub loop-w-init : goal.loop-w-init
loop-w-init c = row_copied_none _ _ _

pub loop-w-preserved : goal.loop-w-preserved
loop-w-preserved c = row_copied_more c.loop-w.invariant c.requires.0 c.loop-w-test.true c.requires.2 refl

pub returns : goal.returns
returns c =
    let r = row_copied_all c.loop-w.invariant c.loop-w-test.false (omega arith) in
    record { size = r.size; words = r.words; others = r.others }
