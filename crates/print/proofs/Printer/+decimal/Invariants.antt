-- `print::Printer::decimal` meets its contract.

use Rattle.print.proofs.Printer.+decimal.Given as goal

abbrev pub decreases-decimal : goal.decreases-decimal
decreases-decimal l = l.x
