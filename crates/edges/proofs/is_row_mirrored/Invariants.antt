-- The invariants: the bits passed are mirrored, whatever their cubes add up to, and the others are ahead; or the row does not pass.
use Rattle.std.proofs.Common.{ℕ, ◌+◌, ◌*◌, get_or}
use Rattle.edges.specs.EdgesLaws.{Judging, Walking}
use Rattle.edges.proofs.is_row_mirrored.Given as goal

abbrev pub invariant-loop-w : goal.invariant-loop-w
invariant-loop-w l = (sum : ℕ) × Walking l.edges.n l.edges.words.now l.p l.w (get_or l.edges.words.now (8 * l.p + l.w) 0) sum

abbrev pub invariant-loop-k : goal.invariant-loop-k
invariant-loop-k l = Judging l.edges.n l.edges.words.now l.p l.w l.k-iterator.word l.held
