-- `clear` meets its contract.
use Rattle.std.proofs.Common.{ℕ, replicate, ap, ◌∙◌}
use Rattle.places.specs.StepLaws.{part_size, put_part}
use Rattle.places.proofs.clear.Goals as goal

pub returns : goal.returns
returns c =
    put_part _ _ _ _ _ c.start-a.ensures c.start-b.ensures _ _
    (c.clear_words.ensures ∙ ap (λ (k : ℕ). replicate k 0) (part_size _ _ _ _ _ c.start-a.ensures c.start-b.ensures c.requires.place c.requires.sized.words))
