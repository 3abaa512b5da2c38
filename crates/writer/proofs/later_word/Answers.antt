-- The word, without the bits below q.
use Rattle.layout.specs.WordLaws.{later-word_is}
use Rattle.writer.proofs.later_word.Goals as goal

pub returns : goal.returns
returns c = later-word_is _ _ _ _ _ _ _ c.bit_of-t.ensures c.word_of.ensures c.place.ensures (c.shared_slice_known-2-1.given c.place.result).fits
