-- One return for each test that fails, and the edge.
use native.Mathlib.Omega.{arith}
use Rattle.edges.specs.EdgesLaws.{mirror_edge, mirror_outside, mirror_self}
use Rattle.edges.proofs.is_mirrored.Goals as goal

pub returns-then-q-edges : goal.returns-then-q-edges
returns-then-q-edges c = mirror_outside _ _ _ _ c.if-q-edges.true

pub returns-then-q-p : goal.returns-then-q-p
returns-then-q-p c = mirror_self _ _ _ _ (omega arith) c.if-q-p.true

pub returns : goal.returns
returns c = mirror_edge _ _ _ _ _ (omega arith) c.if-q-p.false c.tied.ensures
