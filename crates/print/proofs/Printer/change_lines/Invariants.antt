-- `print::Printer::change_lines` meets its contract.
use Prim.Native.Nat.{◌+◌}
use lib.ListN.{drop}
use Rattle.model.specs.Program.{change_lines}
use Rattle.buffers.specs.Wrote.{Left}
use Rattle.std.proofs.Common.{◌≡◌}
use Rattle.print.proofs.Printer.change_lines.Given as goal

abbrev pub invariant-loop-i : goal.invariant-loop-i
invariant-loop-i l = (l.self.out.ghost_name ≡ l.initial.self.out.ghost_name) × Left l.initial.self.out.now l.initial.self.at (change_lines 1 l.answers) l.self.out.now l.self.at (change_lines (l.i + 1) (drop l.i l.answers))
