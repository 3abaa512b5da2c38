-- One node's number more.
use Rattle.std.proofs.Common.{refl, arith, ℕ}
use Rattle.std.proofs.lemmas.List.{length-replicate}
use Rattle.model.specs.Tables.{node_number}
use Rattle.buffers.specs.FilledLaws.{filled_more}
use Rattle.tables.specs.LentLaws.{held_sized}
use Rattle.release.proofs.copies.take_numbers.Goals as goal

pub loop-p-preserved : goal.loop-p-preserved
loop-p-preserved c = filled_more c.loop-p.invariant (omega (arith, length-replicate {A = ℕ} 512 0, (held_sized c.args.tables.held).small)) (unfold node_number in refl)
