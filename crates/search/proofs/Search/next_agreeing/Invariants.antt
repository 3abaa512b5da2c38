-- The keys of no node before q agree.
use Rattle.search.specs.Search.{Skipped, keys_agree}
use Rattle.search.proofs.Search.next_agreeing.Given as goal

abbrev pub invariant-loop-q : goal.invariant-loop-q
invariant-loop-q l = Skipped (keys_agree l.self.keys.now l.self.u) l.from l.self.m l.q
