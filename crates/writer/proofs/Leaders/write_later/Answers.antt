-- What is left to write are the marked nodes from q on, and a word takes them to the next word.
use native.Mathlib.Omega.{arith}
use Rattle.layout.specs.WordLaws.{records_end, records_more, records_room, records_start}
use Rattle.buffers.specs.WroteLaws.{left_as, left_done, left_start}
use Rattle.writer.proofs.Leaders.write_later.Goals as goal

pub overflow_add-q : goal.overflow_add-q
overflow_add-q c = omega (arith, c.wide-p.ensures, c.args.self.rowed.below c.args.i c.requires.i_in_bounds)

pub loop-q-init : goal.loop-q-init
loop-q-init c = left_as (left_start _ _ _) (records_start _ _ _ c.args.self.marked _ _ c.requires.i_in_bounds c.wide-p.ensures _ c.requires.places)

pub later_word-x-requires : goal.later_word-x-requires
later_word-x-requires c = rw c.wide-p.ensures (c.args.self.rowed.below _ c.requires.i_in_bounds, c.loop-q-test.true, c.args.self.rowed.rows _ c.requires.i_in_bounds)

pub overflow_mul-w : goal.overflow_mul-w
overflow_mul-w c = omega (arith, c.word_of-w.ensures)

pub write_word-to-requires : goal.write_word-to-requires
write_word-to-requires c = record { i_lt_u16limit = (omega (arith, c.args.self.rowed.few, c.requires.i_in_bounds), omega (arith, c.word_of-w.ensures, c.requires.places.size)); x_in_bounds = rw c.later_word-x.ensures (records_room _ _ _ _ _ _ _ c.word_of-w.ensures c.loop-q-test.true c.loop-q.invariant c.requires.i_in_bounds_2) }

pub overflow_mul-q : goal.overflow_mul-q
overflow_mul-q c = omega (arith, c.word_of-w.ensures)

pub overflow_add-q-in-loop-q : goal.overflow_add-q-in-loop-q
overflow_add-q-in-loop-q c = omega (arith, c.word_of-w.ensures)

pub loop-q-smaller : goal.loop-q-smaller
loop-q-smaller c = omega (arith, c.word_of-w.ensures)

pub loop-q-preserved : goal.loop-q-preserved
loop-q-preserved c = records_more _ _ _ _ _ _ _ c.word_of-w.ensures c.loop-q-test.true c.loop-q.invariant (rw c.later_word-x.ensures at c.write_word-to.ensures)

pub shape_of-out : goal.shape_of-out
shape_of-out c = c.loop-q.invariant.size

pub returns : goal.returns
returns c = left_done c.loop-q.invariant (records_end _ _ _ _ _ _ c.loop-q-test.false)
