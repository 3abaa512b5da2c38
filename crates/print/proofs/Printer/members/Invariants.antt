-- `print::Printer::members` meets its contract.
use Prim.Native.Nat.{◌-◌, ◌+◌, ◌*◌}
use lib.ListN.{drop}
use Rattle.buffers.specs.Wrote.{Left}
use Rattle.print.specs.Lines.{member_texts}
use Rattle.std.proofs.Common.{◌≡◌}
use Rattle.print.proofs.Printer.members.Given as goal

abbrev pub invariant-loop-i : goal.invariant-loop-i
invariant-loop-i l = (l.self.out.ghost_name ≡ l.initial.self.out.ghost_name) × Left l.initial.self.out.now l.initial.self.at (member_texts l.k (drop l.from l.file)) l.self.out.now l.self.at (member_texts (l.k - l.i) (drop (l.from + 2 * l.i) l.file))
