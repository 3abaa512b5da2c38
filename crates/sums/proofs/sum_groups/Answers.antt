-- `sums::sum_groups` meets its contract.
use Rattle.std.proofs.Common.{◌≡◌, ℕ, ◌<◌, ◌≢◌, List, length, take, slice_index, refl, sym, ◌∙◌, arith}
use Rattle.std.proofs.lemmas.List.{get_or-take, length-take}
use Rattle.sums.specs.Sums.{FirstsAreNodes}
use Rattle.sums.specs.SumLaws.{cubed_more, cubed_skip, cubed_start, joined_none, joined_start, led_first}
use Rattle.sums.proofs.sum_groups.Goals as goal
use Rattle.sums.proofs.sum_groups.Goals.{then-first, else-first}

-- a first member among those of the first n nodes
module _ (n p : ℕ) (least : List ℕ) (h : p < length (take n least)) where
  below : p < n
  below = omega (arith, length-take n least)

  same : slice_index (take n least) p ≡ slice_index least p
  same = get_or-take n least p 0 below

  led : {l : ℕ} → FirstsAreNodes n least → (slice_index (take n least) p ≢ 65535) → l ≡ slice_index (take n least) p → l < 512
  led firsts d e = led_first firsts below (λ z. d (same ∙ z)) (e ∙ same)

pub loop-p-init : goal.loop-p-init
loop-p-init c = (cubed_start _ c.requires.1, joined_start c.requires.1)

pub bounds-sums-own : goal.bounds-sums-own
bounds-sums-own c = omega (arith, led _ _ _ c.loop-p-test.true c.requires.0 c.if-first.true c.wide-own.ensures, c.loop-p.invariant.0.size)

pub bounds-sums-own-then-first : goal.bounds-sums-own-then-first
bounds-sums-own-then-first c = omega (arith, led _ _ _ c.loop-p-test.true c.requires.0 c.if-first.true c.wide-own.ensures, c.loop-p.invariant.0.size)

pub loop-p-preserved : goal.loop-p-preserved
loop-p-preserved c =
    let inv = c.loop-p.invariant in
    let test = c.loop-p-test.true in
    elim c.if-first.branch [
      | then-first w ↦ rw w.sums-is (cubed_more inv.0 (w.wide-own.ensures ∙ same _ _ _ test) (led _ _ _ test c.requires.0 w.if-first.true w.wide-own.ensures) w.cube_of.ensures refl, joined_none w.wide-own.result _ inv.1)
      | else-first w ↦ rw w.sums-is (cubed_skip inv.0 (sym (same _ _ _ test) ∙ w.if-first.false), inv.1)
    ]
