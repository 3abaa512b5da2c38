-- What the numbers of an update ask for.
use Rattle.std.specs.Prelude.{List, get_or, ◌≡◌, ◌≢◌, ℕ, ◌≤◌, ◌<◌, ℤ, pos, Result, Ok, Err}
use Rattle.model.specs.Graph.{max_classes}
use Rattle.model.specs.Tables.{Tables, graph_of}
use Rattle.model.specs.Updates.{refusal}
use Rattle.model.specs.Updates as model
use Rattle.groups.specs.Groups.{change}
use Rattle.answers.specs.declared.Refusal.{Refusal}
use Rattle.answers.specs.Numbers.{number}
use Rattle.updates.specs.declared.updating.Update.{Update}
use Rattle.updates.specs.declared.updating.Update.TheVariants.{Edge, Mark, Class}

-- the update that four numbers are
abbrev pub asked_by : List ℕ → model.Update
asked_by xs = change (get_or xs 0 0) (get_or xs 1 0) (get_or xs 2 0) (get_or xs 3 0)

-- the model's update
abbrev pub change_of : Update → model.Update
change_of (Edge u v wanted) = change 1 u v wanted
change_of (Mark u wanted) = change 2 u 0 wanted
change_of (Class u class) = change 3 u class 0

-- its numbers say something of a graph of n nodes
abbrev pub Within : ℕ → Update → Type 0
Within n (Edge u v wanted) = (u < n) × (v < n) × (u ≢ v) × (wanted ≤ 1)
Within n (Mark u wanted) = (u < n) × (wanted ≤ 1)
Within n (Class u class) = (u < n) × (class < max_classes)

-- what is asked for by an update that may be made, and why it is refused of every graph of n nodes
pub record Told (n : ℕ) (c : model.Update) (asked : Update) : Type 0 where
  pub within : Within n asked
  pub same : change_of asked ≡ c

abbrev pub Refused : ℕ → model.Update → Refusal → Type 0
Refused n c reason = (t : Tables) → number reason ≡ refusal (graph_of n t) c

-- an outcome as a batch has it
abbrev pub answered : Result ℤ Refusal → ℤ
answered (Ok difference) = difference
answered (Err reason) = pos (number reason)
