-- What a printer has room for.
use Rattle.std.specs.Prelude.{List, ℕ, ◌+◌, ◌≤◌, length}
use Rattle.print.specs.declared.Printer.{Printer}

-- the bytes fit behind those that are written
abbrev pub HasRoom : List ℕ → Printer → Type 0
HasRoom bs p = p.at + length bs ≤ length p.out.now
