-- The test is the definition's.
use mathlib.Core.Path.{refl}
use Rattle.masking.specs.Masking.{shown}
use Rattle.masking.proofs.is_visible.Goals as goal

pub returns : goal.returns
unfolding shown
returns c = refl
