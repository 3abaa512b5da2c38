-- `grouping::group` meets its contract.
-- The invariant: the chains hold the leaders below u, and the nodes below u are told.
use Rattle.masking.specs.Masking.{drawn}
use Rattle.grouping.specs.Chains.{Sought, classed_slot}
use Rattle.grouping.specs.LeastLaws.{Telling}
use Rattle.grouping.proofs.group.Given as goal

abbrev pub invariant-loop-u : goal.invariant-loop-u
invariant-loop-u g l = Sought (classed_slot l.classes (g.S.Slots.told l.by)) l.n l.edges (g.S.Slots.marks l.by) l.classes l.u l.opens l.closeds × Telling (drawn l.n l.edges (g.S.Slots.marks l.by) l.classes) l.u l.initial.least l.least
