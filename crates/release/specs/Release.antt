-- What the calls on releases ask of tables and files, and what they tell.
use Rattle.std.specs.Prelude.{cond, List, ℕ, ltb, length}
use Rattle.model.specs.Graph.{Graph}
use Rattle.model.specs.Release.{release}
use Rattle.model.specs.Calls.{Measured, Released, release_refused, released}

-- the release of a graph into a buffer, or 18
unfoldable pub told : Graph → List ℕ → Released
told g out = cond (ltb (length out) (length (release g))) (release_refused out 18) (released g out)

-- a distance told, as the model's record of it
abbrev pub measured : ℕ → ℕ → Measured
measured r d = record { result = r; distance = d }
