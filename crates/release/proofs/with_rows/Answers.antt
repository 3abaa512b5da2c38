-- Zeros are rows without a bit, and those that the head asks for are enough.
use Rattle.std.proofs.Common.{rules, arith}
use Rattle.reader.specs.DecodingLaws.{blank_rows}
use Rattle.release.proofs.with_rows.Goals as goal

pub returns : goal.returns
returns g c = let b = blank_rows c.args.file.now 4096 (omega arith) (omega arith) (λ h. omega arith) in search rules
