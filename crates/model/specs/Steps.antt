-- Steps from one state to the next: the updates of a batch, the calls of a history.
use Rattle.std.specs.Prelude.{List, [], ◌∷◌}

-- what a step gives back, and the state after it
pub record Stepped (S O : Type 0) : Type 0 where
  pub outcome : O
  pub after : S

-- steps in order, each from the state that the last one left
unfoldable pub run : {S C O : Type 0} → (S → C → Stepped S O) → S → List C → Stepped S (List O)
run f s [] = record { outcome = []; after = s }
run f s (c ∷ cs) = record { outcome = (f s c).outcome ∷ (run f (f s c).after cs).outcome; after = (run f (f s c).after cs).after }
