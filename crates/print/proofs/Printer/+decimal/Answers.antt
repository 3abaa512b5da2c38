-- `print::Printer::decimal` meets its contract.
use Rattle.std.proofs.Common.{arith}
use Rattle.buffers.specs.WroteLaws.{wrote_length, wrote_then}
use Rattle.print.specs.DecimalLaws.{decimal_long, decimal_short, length_long}
use Rattle.print.proofs.Printer.+decimal.Goals as goal

pub byte-requires : goal.byte-requires
byte-requires t c = rw (decimal_short _ c.if-x-lt10.true) at c.requires

pub returns-then-x-lt10-clause-wrote : goal.returns-then-x-lt10-clause-wrote
returns-then-x-lt10-clause-wrote t c = rw (decimal_short _ c.if-x-lt10.true) c.byte.ensures.wrote

pub decimal-requires : goal.decimal-requires
decimal-requires t c = (omega arith, omega (arith, length_long _ c.if-x-lt10.false, c.requires))

pub byte-requires-2 : goal.byte-requires-2
byte-requires-2 t c = omega (arith, length_long _ c.if-x-lt10.false, c.decimal.ensures.wrote.place, wrote_length c.decimal.ensures.wrote, c.requires)

pub returns-clause-wrote : goal.returns-clause-wrote
returns-clause-wrote t c = rw (decimal_long _ c.if-x-lt10.false) (wrote_then c.decimal.ensures.wrote c.byte-2.ensures.wrote)
