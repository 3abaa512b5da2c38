-- The invariant: the set holds the visible nodes below q.
use Rattle.layout.specs.Words.{Marking}
use Rattle.masking.specs.Masking.{shown}
use Rattle.masking.proofs.visible_set.Given as goal

abbrev pub invariant-loop-q : goal.invariant-loop-q
invariant-loop-q l = Marking (shown l.hidden) l.set l.q
