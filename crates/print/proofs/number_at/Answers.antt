-- `print::number_at` meets its contract.
use mathlib.Core.Path.{◌∙◌}
use native.Mathlib.Omega.{arith}
use Rattle.print.specs.WalkLaws.{number_is}
use Rattle.print.proofs.number_at.Goals as goal

pub returns : goal.returns
returns c = (c.from.ensures ∙ c.from_le_bytes.ensures ∙ number_is c.args.file.now _ _ _ c.byte_at.ensures c.byte_at-2.ensures, omega arith)
