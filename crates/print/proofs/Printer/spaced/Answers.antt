-- `print::Printer::spaced` meets its contract.
use Rattle.model.specs.Program.{spaced, text}
use Rattle.print.proofs.Printer.spaced.Goals as goal

pub count-requires : goal.count-requires
unfolding spaced text
count-requires c = c.requires

pub returns-clause-wrote : goal.returns-clause-wrote
unfolding spaced text
returns-clause-wrote c = c.count.ensures.wrote
