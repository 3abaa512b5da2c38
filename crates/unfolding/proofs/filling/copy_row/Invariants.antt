-- `unfolding::filling::copy_row` meets its contract.
use Rattle.unfolding.proofs.CopyLaws.{RowCopied}
use Rattle.unfolding.proofs.filling.copy_row.Given as goal

abbrev pub invariant-loop-w : goal.invariant-loop-w
invariant-loop-w l = RowCopied l.w l.l l.p l.initial.edges l.edges
