-- The invariants: the bits passed are mirrored and their cubes add up to sum; the others are ahead.
use Rattle.std.proofs.Common.{refl, sym, arith, ap, not}
use Rattle.bits.specs.BitsLaws.{all_cleared, cleared}
use Rattle.edges.specs.EdgesLaws.{walk_fails, walk-mirrored, walk_next, walk_on, walk_place, walk_start, walk-sum}
use Rattle.checks.specs.DenseLaws.{key_told}
use Rattle.checks.proofs.row_holds.Goals as goal

pub loop-w-init : goal.loop-w-init
loop-w-init c = walk_start (omega arith) c.args.edges.bits

pub overflow_add-q : goal.overflow_add-q
overflow_add-q c =
    let cut = cleared _ _ _ (omega arith) (omega arith) c.in-Some.ensures.steps in
    omega (arith, walk_place c.loop-k.invariant cut (omega arith))

pub returns-then-not-is_mirrored : goal.returns-then-not-is_mirrored
returns-then-not-is_mirrored c =
    let cut = cleared _ _ _ (omega arith) (omega arith) c.in-Some.ensures.steps in
    rw (sym (walk_fails c.loop-k.invariant cut _ (omega arith) c.is_mirrored.ensures (ap not c.if-not-is_mirrored.true)))

pub cube_of-sum-requires : goal.cube_of-sum-requires
cube_of-sum-requires c =
    let cut = cleared _ _ _ (omega arith) (omega arith) c.in-Some.ensures.steps in
    omega (arith, walk_place c.loop-k.invariant cut (omega arith))

pub loop-k-preserved : goal.loop-k-preserved
loop-k-preserved c =
    let cut = cleared _ _ _ (omega arith) (omega arith) c.in-Some.ensures.steps in
    walk_on c.loop-k.invariant cut _ c.is_mirrored.ensures (ap not c.if-not-is_mirrored.false) c.cube_of-sum.ensures refl

pub loop-w-preserved : goal.loop-w-preserved
loop-w-preserved c =
    walk_next c.loop-k.invariant (all_cleared _ (omega arith) c.in-None.ensures.steps.0) c.args.edges.bits

pub returns : goal.returns
returns c =
    let h = c.loop-w.invariant in
    rw (sym (walk-mirrored h (omega arith))) (key_told _ _ _ _ (walk-sum h (omega arith) (omega arith)) c.keys_agree.ensures)
