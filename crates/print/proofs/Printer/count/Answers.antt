-- `print::Printer::count` meets its contract.
use Rattle.model.specs.Program.{decimal}
use Rattle.buffers.specs.WroteLaws.{wrote_then}
use Rattle.print.specs.LineLaws.{room_first, room_then}
use Rattle.print.proofs.Printer.count.Goals as goal

pub text-requires : goal.text-requires
text-requires c = room_first c.args.label.now (decimal c.args.x) _ _ c.requires

pub decimal-requires : goal.decimal-requires
decimal-requires c = room_then c.text.ensures.wrote _ c.requires

pub returns-clause-wrote : goal.returns-clause-wrote
returns-clause-wrote c = wrote_then c.text.ensures.wrote c.decimal.ensures.wrote
