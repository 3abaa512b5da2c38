-- `buffers::copy_words` meets its contract.
use Rattle.std.proofs.Common.{◌≡◌, get_or, refl, arith}
use Rattle.buffers.specs.FilledLaws.{copied}
use Rattle.buffers.specs.StoreLaws.{stored}
use Rattle.buffers.proofs.copy_words.Goals as goal

pub loop-i-preserved : goal.loop-i-preserved
loop-i-preserved c = stored _ c.loop-i.i _ (omega arith) (λ q x. x ≡ get_or c.args.from.now q 0) c.loop-i.invariant refl

pub returns : goal.returns
returns c = copied c.args.from.now (record { size = c.loop-i.auto.to; numbers = c.loop-i.invariant }) c.loop-i-test.false c.requires
