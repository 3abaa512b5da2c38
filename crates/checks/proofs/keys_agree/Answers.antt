-- The open key, then the closed one.
use Rattle.std.proofs.Common.{refl}
use Rattle.checks.specs.StepLaws.{by_closed, open_differs}
use Rattle.checks.proofs.keys_agree.Goals as goal

pub returns-then-keys-p : goal.returns-then-keys-p
returns-then-keys-p c = open_differs _ _ _ c.if-keys-p.true

pub returns : goal.returns
returns c = by_closed _ _ _ _ _ c.if-keys-p.false c.cube_of.ensures refl
