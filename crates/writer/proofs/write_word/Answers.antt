-- What is left to write are the bits that are left.
use mathlib.Core.Path.{refl}
use Prim.Native.Nat.{◌+◌}
use native.Mathlib.Omega.{arith}
use lib.Count.{trailing_le, count_trailing_zeros}
use Rattle.layout.specs.WordLaws.{word_end, word_more, word_room}
use Rattle.buffers.specs.WordBitsLaws.{cleared_less, lowest_small}
use Rattle.buffers.specs.WroteLaws.{left_done, left_start}
use Rattle.writer.proofs.write_word.Goals as goal

pub loop-rest-init : goal.loop-rest-init
loop-rest-init c = (omega arith, left_start _ _ _)

pub overflow_cast-z : goal.overflow_cast-z
overflow_cast-z c = omega (arith, trailing_le 64 c.loop-rest.rest)

pub overflow_add-b : goal.overflow_add-b
overflow_add-b c = omega (arith, trailing_le 64 c.loop-rest.rest)

pub offset_bounds-position-b : goal.offset_bounds-position-b
offset_bounds-position-b c = omega (arith, trailing_le 64 c.loop-rest.rest)

pub bounds-position-b : goal.bounds-position-b
bounds-position-b c = let z = lowest_small _ c.loop-rest.invariant.0 c.loop-rest-test.true in omega (arith, z)

pub put_superedge-to-requires : goal.put_superedge-to-requires
put_superedge-to-requires c = let f = (c.shared_slice_known-in-loop-rest-1.given (c.args.b + count_trailing_zeros 64 c.loop-rest.rest)).fits in (omega (arith, f, c.wide.ensures, c.requires.i_lt_u16limit.0), omega (arith, f, c.wide.ensures, c.requires.i_lt_u16limit.0), word_room _ _ _ _ _ c.loop-rest.invariant.0 c.loop-rest-test.true refl c.loop-rest.invariant.1 c.requires.x_in_bounds)

pub overflow_sub-rest : goal.overflow_sub-rest
overflow_sub-rest c = omega (arith, c.loop-rest-test.true)

pub loop-rest-smaller : goal.loop-rest-smaller
loop-rest-smaller c = cleared_less _ c.loop-rest.invariant.0 c.loop-rest-test.true

pub loop-rest-preserved : goal.loop-rest-preserved
loop-rest-preserved c = (let z = cleared_less _ c.loop-rest.invariant.0 c.loop-rest-test.true in omega (arith, z, c.loop-rest.invariant.0), word_more _ _ _ _ _ c.loop-rest.invariant.0 c.loop-rest-test.true refl c.loop-rest.invariant.1 (rw c.wide.ensures at c.put_superedge-to.ensures))

pub shape_of-out : goal.shape_of-out
shape_of-out c = c.loop-rest.invariant.1.size

pub returns : goal.returns
returns c = left_done c.loop-rest.invariant.1 (word_end _ _ _ _ c.loop-rest-test.false)
