-- The invariant: the rows before word t are exchanged.
use mathlib.Core.Path.{◌∙◌}
use Prim.Native.Nat.{◌*◌, ◌-◌}
use native.Mathlib.Omega.{arith}
use Rattle.symmetry.specs.StripLaws.{bytes, exchanging_more, exchanging_to}
use Rattle.symmetry.proofs.turn_bytes_at.Goals as goal

pub loop-t-preserved : goal.loop-t-preserved
loop-t-preserved c =
    let l = c.loop-t in
    let s = l.invariant in
    (c.put_eight.ensures.size ∙ s.0, λ prior h. exchanging_more bytes c.requires.3 c.args.k (l.t - 8 * c.args.k) c.requires.1 (omega arith) (omega arith) (s.1 prior h) c.eight_at.ensures.words c.exchange_bytes.ensures c.put_eight.ensures)

pub returns : goal.returns
returns c = λ prior h. exchanging_to (c.loop-t.invariant.1 prior h) (omega arith)
