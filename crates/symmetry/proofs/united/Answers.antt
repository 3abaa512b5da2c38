-- The invariant: the words before r are united.
use Rattle.std.proofs.Common.{◌≡◌, arith}
use Rattle.symmetry.specs.SymmetryLaws.{gathered_all, gathered_more}
use Rattle.symmetry.proofs.united.Goals as goal

pub loop-r-preserved : goal.loop-r-preserved
loop-r-preserved g c = λ f h k.
    let e : c.word-x.result ≡ f c.loop-r.r = h c.loop-r.r c.word-x.result (omega arith) c.word-x.ensures in
    rw e (gathered_more (c.loop-r.invariant f h k))

pub returns : goal.returns
returns g c = λ f h k. gathered_all (c.loop-r.invariant f (λ r y l p. h r y l p) k) (omega arith)
