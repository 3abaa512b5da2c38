-- `print::Printer::text` meets its contract.
use Rattle.std.proofs.Common.{arith}
use Rattle.print.specs.TextLaws.{wrote_part}
use Rattle.std.proofs.Common.{arith}
use Rattle.print.specs.TextLaws.{wrote_part}
use Rattle.print.proofs.Printer.text.Goals as goal

pub returns-clause-wrote : goal.returns-clause-wrote
returns-clause-wrote c = wrote_part c.args.self.now.out.now c.args.self.now.at c.copy_from_slice.ensures.after (omega arith) (omega arith) (omega arith)
