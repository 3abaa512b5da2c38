-- `reader::decode` meets its contract.
use mathlib.Core.Path.{◌∙◌, sym}
use Rattle.reader.specs.DecodingLaws.{nothing_read}
use Rattle.reader.proofs.decode.Goals as goal

pub returns-in_err-read : goal.returns-in_err-read
returns-in_err-read c =
    let both = nothing_read _ _ _ _ _ _ c.requires (sym c.in_err-read.was ∙ (rw (c.start-reader.ensures.0, c.start-reader.ensures.1) at c.record.ensures)) in
    record { decodes = rw c.from_residual.ensures both.0; sums_kept = both.1 }
