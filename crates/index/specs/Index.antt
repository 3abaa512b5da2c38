-- What a call returned and left, as the model's record of it, and what the inner functions ask of the tables.
use Rattle.std.specs.Prelude.{Bool, List, ℕ, ℤ, Result, Ok, Err}
use Rattle.model.specs.Tables.{Tables}
use Rattle.model.specs.Queries.{kind_number}
use Rattle.model.specs.Calls.{Opened, Applied, Tied, Grouped}
use Rattle.answers.specs.declared.Refusal.{Refusal}
use Rattle.answers.specs.Numbers.{kind_told, number}
use Rattle.index.specs.declared.Grouped as declared

abbrev pub opened : ℕ → Tables → List ℕ → Opened
opened r t s = record { result = r; tables = t; store = s }

abbrev pub applied : ℕ → Tables → List ℤ → Applied
applied r t out = record { result = r; tables = t; answers = out }

abbrev pub tied_of : ℕ → Bool → Tied
tied_of r b = record { result = r; yes = b }

abbrev pub grouped : ℕ → ℕ → ℕ → ℕ → Grouped
grouped r l k s = record { result = r; least = l; kind = k; size = s }

-- a group told, or why not
abbrev pub group_told : Result declared.Grouped Refusal → Grouped
group_told (Ok g) = grouped 0 g.least (kind_number (kind_told g.kind)) g.size
group_told (Err refusal) = grouped (number refusal) 0 0 0
