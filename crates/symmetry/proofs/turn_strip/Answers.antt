-- A strip of the table, or its last rows before zeros.
use native.Mathlib.Omega.{arith}
use Rattle.symmetry.specs.StripLaws.{strip_across, strip_part}
use Rattle.symmetry.proofs.turn_strip.Goals as goal

pub returns-then-a-words : goal.returns-then-a-words
returns-then-a-words c =
    strip_across (strip_part _ _ (omega (arith, c.if-a-words.true))) c.requires.2 c.turn.ensures

pub returns : goal.returns
returns c =
    strip_across c.load.ensures c.requires.2 c.turn-2.ensures
