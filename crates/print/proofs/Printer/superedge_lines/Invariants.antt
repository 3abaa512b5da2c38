-- `print::Printer::superedge_lines` meets its contract.
use Prim.Native.Nat.{◌-◌}
use lib.ListN.{length, drop}
use Rattle.print.specs.Lines.{superedge_texts}
use Rattle.print.specs.WalkLaws.{ToWrite}
use Rattle.std.proofs.Common.{◌≡◌}
use Rattle.print.proofs.Printer.superedge_lines.Given as goal

abbrev pub invariant-loop-self : goal.invariant-loop-self
invariant-loop-self l = (l.self.out.ghost_name ≡ l.initial.self.out.ghost_name) × ToWrite l.file l.initial.self.out.now l.initial.self.at (superedge_texts (length l.file) (drop l.from l.file)) l.self.out.now l.self.at l.p

abbrev pub decreases-loop-self : goal.decreases-loop-self
decreases-loop-self l = length l.file - l.p
