-- The invariant: the set holds the visible nodes below q.
use mathlib.Core.Path.{sym, ◌∙◌}
use native.Mathlib.Omega.{arith}
use Rattle.layout.specs.WordLaws.{marking_no, marking_start, marking_yes}
use Rattle.rows.specs.BitLaws.{flipped_at}
use Rattle.masking.proofs.visible_set.Goals as goal
use Rattle.masking.proofs.visible_set.Goals.{then-is_visible, else-is_visible}

pub loop-q-init : goal.loop-q-init
loop-q-init c = marking_start _

pub loop-q-preserved : goal.loop-q-preserved
loop-q-preserved c =
    elim c.if-is_visible.branch [
      | then-is_visible w ↦
          let f = flipped_at _ 0 _ _ _ (omega arith) (omega (arith, c.loop-q.invariant.size)) (omega (arith, w.word_of.ensures)) w.mask.ensures in
          rw w.set-is (marking_yes c.loop-q.invariant (sym c.is_visible.ensures ∙ w.if-is_visible.true) f.size f.words f.bits)
      | else-is_visible w ↦ rw w.set-is (marking_no c.loop-q.invariant (sym c.is_visible.ensures ∙ w.if-is_visible.false))
    ]
