-- `text::has_shape` meets its contract.
use Rattle.text.specs.Grammar.{shape}
use Rattle.text.specs.NumberLaws.{head_is}
use Rattle.std.proofs.lemmas.Grind.{common_steps}
use Rattle.std.proofs.Common.{arith}
use Rattle.text.proofs.has_shape.Goals as goal

pub returns-then-s-eq1 : goal.returns-then-s-eq1
unfolding shape
returns-then-s-eq1 c = grind (arith, common_steps, head_is)

pub returns-else-s-eq1 : goal.returns-else-s-eq1
unfolding shape
returns-else-s-eq1 c = grind (arith, common_steps, head_is)

pub returns-else-matches : goal.returns-else-matches
unfolding shape
returns-else-matches c = grind (arith, common_steps, head_is)
