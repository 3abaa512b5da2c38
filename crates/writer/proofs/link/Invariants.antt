-- From the end: the nodes from p on are linked, and head has the first of each group among them.
use mathlib.Core.Path.{◌≡◌}
use lib.ListN.{length}
use Rattle.layout.specs.LinkLaws.{Linking}
use Rattle.writer.proofs.link.Given as goal

abbrev pub invariant-loop-p : goal.invariant-loop-p
invariant-loop-p l = Linking l.n l.least l.head l.next l.p × (length l.next ≡ length l.initial.next)
