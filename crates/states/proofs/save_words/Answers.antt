-- `states::save_words` meets its contract.
use Rattle.std.proofs.Common.{◌≡◌, refl, arith}
use Rattle.model.specs.Tables.{node_number}
use Rattle.buffers.specs.StoreLaws.{stored}
use Rattle.states.specs.States.{word_in}
use Rattle.states.proofs.save_words.Goals as goal

pub loop-p-preserved : goal.loop-p-preserved
loop-p-preserved c = stored _ c.loop-p.p _ (omega arith) (λ q x. x ≡ word_in c.args.nodes.now q) c.loop-p.invariant (unfold node_number in refl)
