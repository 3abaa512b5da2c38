-- By blocks, or by walks.
use mathlib.Core.Path.{◌∙◌}
use native.Mathlib.Omega.{arith}
use Rattle.edges.specs.EdgesLaws.{symmetric-held}
use Rattle.edges.proofs.hold.Goals as goal

pub returns-then-is_dense : goal.returns-then-is_dense
returns-then-is_dense c =
    let pre = c.requires in
    c.hold_by_strips.ensures ∙ symmetric-held _ _ pre.0 pre.1 (λ i. omega (arith, c.type_inv.edges i))
