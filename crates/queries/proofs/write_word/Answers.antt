-- What is left to write are the bits that are left.
use native.Mathlib.Omega.{arith}
use lib.ListN.{length-set}
use Rattle.bits.specs.BitsLaws.{all_cleared, cleared}
use Rattle.buffers.specs.WordBitsLaws.{cleared_less, from_none, lowest_small}
use Rattle.buffers.specs.WroteLaws.{left_done, left_start}
use Rattle.queries.proofs.QueryLaws.{bit-reaches, bit_room, bit-written, pairs_none}
use Rattle.queries.proofs.write_word.Goals as goal

pub loop-k-init : goal.loop-k-init
loop-k-init c = rw (c.into_iter-k-iterator.ensures.into_iter_gives, c.of-k-items.ensures) (omega arith, c.requires.1, left_start _ _ _)

pub overflow_add-q : goal.overflow_add-q
overflow_add-q c =
    let cut = cleared _ _ _ c.loop-k.invariant.0 (omega arith) c.in-Some.ensures.steps in
    let z = lowest_small _ c.loop-k.invariant.0 cut.some in
    omega (arith, cut.lowest, c.requires.0)

pub overflow_cast-out : goal.overflow_cast-out
overflow_cast-out c =
    let cut = cleared _ _ _ c.loop-k.invariant.0 (omega arith) c.in-Some.ensures.steps in
    let z = lowest_small _ c.loop-k.invariant.0 cut.some in
    omega (arith, cut.lowest, c.requires.0)

pub offset_bounds-out-to : goal.offset_bounds-out-to
offset_bounds-out-to c =
    let cut = cleared _ _ _ c.loop-k.invariant.0 (omega arith) c.in-Some.ensures.steps in
    let r = bit_room _ _ _ c.loop-k.invariant.0 cut.some cut.lowest _ _ c.loop-k.invariant.2 c.requires.2 in
    omega (arith, c.loop-k.invariant.2.size)

pub bounds-out-to : goal.bounds-out-to
bounds-out-to c =
    let cut = cleared _ _ _ c.loop-k.invariant.0 (omega arith) c.in-Some.ensures.steps in
    let r = bit_room _ _ _ c.loop-k.invariant.0 cut.some cut.lowest _ _ c.loop-k.invariant.2 c.requires.2 in
    omega (arith, c.loop-k.invariant.2.size)

pub overflow_mul-out : goal.overflow_mul-out
overflow_mul-out c =
    let cut = cleared _ _ _ c.loop-k.invariant.0 (omega arith) c.in-Some.ensures.steps in
    let r = (bit-reaches _ _ _ c.loop-k.invariant.0 cut.some cut.lowest c.loop-k.invariant.1).0 in
    omega arith

pub offset_bounds-least-stride : goal.offset_bounds-least-stride
offset_bounds-least-stride c =
    let cut = cleared _ _ _ c.loop-k.invariant.0 (omega arith) c.in-Some.ensures.steps in
    let r = (bit-reaches _ _ _ c.loop-k.invariant.0 cut.some cut.lowest c.loop-k.invariant.1).0 in
    omega arith

pub bounds-least-stride : goal.bounds-least-stride
bounds-least-stride c =
    let cut = cleared _ _ _ c.loop-k.invariant.0 (omega arith) c.in-Some.ensures.steps in
    let r = (bit-reaches _ _ _ c.loop-k.invariant.0 cut.some cut.lowest c.loop-k.invariant.1).0 in
    omega arith

pub overflow_add-out : goal.overflow_add-out
overflow_add-out c =
    let cut = cleared _ _ _ c.loop-k.invariant.0 (omega arith) c.in-Some.ensures.steps in
    let r = bit_room _ _ _ c.loop-k.invariant.0 cut.some cut.lowest _ _ c.loop-k.invariant.2 c.requires.2 in
    omega (arith, c.loop-k.invariant.2.size)

pub offset_bounds-out-to-in-loop-k : goal.offset_bounds-out-to-in-loop-k
offset_bounds-out-to-in-loop-k c =
    let cut = cleared _ _ _ c.loop-k.invariant.0 (omega arith) c.in-Some.ensures.steps in
    let r = bit_room _ _ _ c.loop-k.invariant.0 cut.some cut.lowest _ _ c.loop-k.invariant.2 c.requires.2 in
    omega (arith, c.loop-k.invariant.2.size)

pub bounds-out-to-in-loop-k : goal.bounds-out-to-in-loop-k
bounds-out-to-in-loop-k c =
    let cut = cleared _ _ _ c.loop-k.invariant.0 (omega arith) c.in-Some.ensures.steps in
    let r = bit_room _ _ _ c.loop-k.invariant.0 cut.some cut.lowest _ _ c.loop-k.invariant.2 c.requires.2 in
    simp length-set (omega (arith, c.loop-k.invariant.2.size))

pub overflow_add-to : goal.overflow_add-to
overflow_add-to c =
    let cut = cleared _ _ _ c.loop-k.invariant.0 (omega arith) c.in-Some.ensures.steps in
    let r = bit_room _ _ _ c.loop-k.invariant.0 cut.some cut.lowest _ _ c.loop-k.invariant.2 c.requires.2 in
    omega (arith, c.loop-k.invariant.2.size)

pub loop-k-preserved : goal.loop-k-preserved
loop-k-preserved c =
    let cut = cleared _ _ _ c.loop-k.invariant.0 (omega arith) c.in-Some.ensures.steps in
    let h = c.loop-k.invariant in
    rw cut.rest (omega (arith, cleared_less _ h.0 cut.some, h.0), (bit-reaches _ _ _ h.0 cut.some cut.lowest h.1).1, bit-written _ _ _ h.0 cut.some cut.lowest _ h.2)

pub shape_of-out : goal.shape_of-out
shape_of-out c = c.loop-k.invariant.2.size

pub returns : goal.returns
returns c = left_done c.loop-k.invariant.2 (pairs_none _ _ (from_none _ _ (all_cleared _ c.loop-k.invariant.0 c.in-None.ensures.steps.0)))
