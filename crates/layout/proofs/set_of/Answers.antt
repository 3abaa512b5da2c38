-- A node that passes has its bit put in, another none.
use Rattle.std.proofs.Common.{◌≡◌, ◌∙◌, sym, arith, rules}
use Rattle.rows.specs.BitLaws.{flipped_at}
use Rattle.layout.specs.WordLaws.{marking_no, marking_start, marking_yes}
use Rattle.layout.proofs.set_of.Goals as goal
use Rattle.layout.proofs.set_of.Goals.{then-passes, else-passes}

pub loop-p-init : goal.loop-p-init
loop-p-init g c = λ P h. marking_start P

pub loop-p-preserved : goal.loop-p-preserved
loop-p-preserved g c = λ P h.
    let m = c.loop-p.invariant P h in
    let e : c.passes.result ≡ P c.loop-p.p = h c.loop-p.p c.passes.result c.loop-p-test.true (search rules) in
    elim c.if-passes.branch [
      | then-passes w ↦
          let f = flipped_at _ 0 _ _ _ (omega arith) (omega (arith, m.size)) (omega (arith, w.word_of-w.ensures)) w.mask.ensures in
          rw w.set-is (marking_yes m (sym e ∙ w.if-passes.true) f.size f.words f.bits)
      | else-passes w ↦ rw w.set-is (marking_no m (sym e ∙ w.if-passes.false))
    ]
