-- The invariant: the rows before word t are exchanged.
use mathlib.Core.Path.{◌∙◌}
use Prim.Native.Nat.{◌*◌, ◌-◌}
use native.Mathlib.Omega.{arith}
use Rattle.symmetry.specs.StripLaws.{bits, exchanging_within, exchanging_to}
use Rattle.symmetry.proofs.turn_bits_at.Goals as goal

pub loop-t-preserved : goal.loop-t-preserved
loop-t-preserved c =
    let l = c.loop-t in
    let s = l.invariant in
    (c.put_eight.ensures.size ∙ s.0, λ prior h. exchanging_within bits c.requires.2 c.args.k (l.t - 64 * c.args.k) c.requires.0 (omega arith) (omega arith) (s.1 prior h) c.eight_at.ensures.words c.exchange_bits-x.ensures c.put_eight.ensures)

pub returns : goal.returns
returns c = λ prior h. exchanging_to (c.loop-t.invariant.1 prior h) (omega arith)
