-- The invariant: the nodes before p lead.
use Rattle.keys.specs.KeySums.{AllLead}
use Rattle.keys.proofs.lead_all.Given as goal

abbrev pub invariant-loop-p : goal.invariant-loop-p
invariant-loop-p l = AllLead l.p l.least
