-- From the end: the nodes from p on are linked, and head has the first of each group among them.
use mathlib.Core.Path.{refl}
use Prim.Native.Nat.{ℕ}
use native.Mathlib.Omega.{arith}
use lib.ListN.{get_or-replicate, length-replicate, length-set}
use Rattle.layout.specs.LinkLaws.{link_done, link_no, link_start, link_yes}
use Rattle.writer.proofs.link.Goals as goal

pub loop-p-init : goal.loop-p-init
loop-p-init c = (link_start _ _ _ _ (length-replicate {A = ℕ} 512 65535) (λ l b. get_or-replicate {A = ℕ} 512 l 65535 0 (omega arith)) (omega arith), refl)

pub loop-p-preserved-then-l-n : goal.loop-p-preserved-then-l-n
loop-p-preserved-then-l-n c = (link_yes _ _ _ _ _ _ c.requires.0 c.wide-l.ensures c.if-l-n.true c.loop-p-test.true c.loop-p.invariant.0, simp length-set c.loop-p.invariant.1)

pub loop-p-preserved : goal.loop-p-preserved
loop-p-preserved c = (link_no _ _ _ _ _ _ c.wide-l.ensures c.if-l-n.false c.loop-p-test.true c.loop-p.invariant.0, simp length-set c.loop-p.invariant.1)

pub shape_of-next : goal.shape_of-next
shape_of-next c = c.loop-p.invariant.1

pub returns : goal.returns
returns c = link_done c.loop-p.invariant.0 c.loop-p-test.false
