-- The invariants: the cubes of the bits passed add up to sum; the others are ahead.
use Rattle.std.proofs.Common.{refl, arith}
use Rattle.bits.specs.BitsLaws.{all_cleared, cleared}
use Rattle.keys.specs.SumLaws.{adding_done, adding_next, adding_on, adding_place, adding_set, adding_start}
use Rattle.keys.proofs.sum_row.Goals as goal

pub loop-w-init : goal.loop-w-init
loop-w-init c = adding_start (omega arith) c.args.edges.bits

pub overflow_add-w : goal.overflow_add-w
overflow_add-w c =
    let cut = cleared _ _ _ (omega arith) (omega arith) c.in-Some.ensures.steps in
    omega (arith, adding_place c.loop-k.invariant cut (omega arith))

pub cube_of-sum-requires : goal.cube_of-sum-requires
cube_of-sum-requires c =
    let cut = cleared _ _ _ (omega arith) (omega arith) c.in-Some.ensures.steps in
    omega (arith, adding_place c.loop-k.invariant cut (omega arith))

pub loop-k-preserved : goal.loop-k-preserved
loop-k-preserved c =
    let inv = c.loop-k.invariant in
    let cut = cleared _ _ _ (omega arith) (omega arith) c.in-Some.ensures.steps in
    adding_on inv cut (c.requires.1 _ (adding_place inv cut (omega arith)) (adding_set inv cut)) c.cube_of-sum.ensures refl

pub loop-w-preserved : goal.loop-w-preserved
loop-w-preserved c =
    adding_next c.loop-k.invariant (all_cleared _ (omega arith) c.in-None.ensures.steps.0) c.args.edges.bits

pub returns : goal.returns
returns c = adding_done c.loop-w.invariant (omega arith) (omega arith)
