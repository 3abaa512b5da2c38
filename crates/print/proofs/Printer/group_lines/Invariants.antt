-- `print::Printer::group_lines` meets its contract.
use Prim.Native.Nat.{◌-◌, ◌+◌, ◌*◌, ◌≤◌}
use lib.ListN.{drop}
use Rattle.buffers.specs.Wrote.{Left}
use Rattle.print.specs.Lines.{group_texts}
use Rattle.std.proofs.Common.{◌≡◌}
use Rattle.print.proofs.Printer.group_lines.Given as goal

abbrev pub invariant-loop : goal.invariant-loop
invariant-loop l = (l.self.out.ghost_name ≡ l.initial.self.out.ghost_name) × (l.p ≤ 8 + 131076 * l.counter) × Left l.initial.self.out.now l.initial.self.at (group_texts l.k (drop l.from l.file)) l.self.out.now l.self.at (group_texts (l.k - l.counter) (drop l.p l.file))
