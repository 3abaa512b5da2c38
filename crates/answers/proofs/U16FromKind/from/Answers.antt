-- A kind's number is the model's.
use Rattle.answers.specs.KindLaws.{number_is}
use Rattle.answers.proofs.U16FromKind.from.Goals as goal

pub returns : goal.returns
returns c = number_is c.args.kind
