-- `text::put_change` meets its contract.
use Rattle.std.proofs.Common.{arith, ◌∙◌}
use Rattle.text.specs.ParseLaws.{wrote_part}
use Rattle.text.proofs.put_change.Goals as goal

pub returns : goal.returns
returns c = wrote_part _ _ (c.copy_from_slice.ensures.after ∙ c.numbers.ensures) (omega arith) (omega arith) (omega arith)
