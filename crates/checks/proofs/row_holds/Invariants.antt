-- The invariants: the bits passed are mirrored and their cubes add up to sum; the others are ahead.
use Rattle.std.proofs.Common.{◌+◌, ◌*◌, get_or}
use Rattle.edges.specs.EdgesLaws.{Walking}
use Rattle.checks.proofs.row_holds.Given as goal

abbrev pub invariant-loop-w : goal.invariant-loop-w
invariant-loop-w l = Walking l.edges.n l.edges.words.now l.p l.w (get_or l.edges.words.now (8 * l.p + l.w) 0) l.sum

abbrev pub invariant-loop-k : goal.invariant-loop-k
invariant-loop-k l = Walking l.edges.n l.edges.words.now l.p l.w l.k-iterator.word l.sum
