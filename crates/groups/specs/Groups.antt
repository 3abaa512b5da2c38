-- What the calls on the node table ask of the three tables.
use Rattle.std.specs.Prelude.{◌≡◌, Bool, List, ℕ, ◌≤◌, ◌<◌, Option, MatchOption}
use Rattle.model.specs.Graph.{Proper, whole}
use Rattle.model.specs.Grouping.{similar}
use Rattle.model.specs.Tables.{Tables, classed_in, graph_of, node_number, tables_of}
use Rattle.model.specs.Updates.{Update, refusal}

-- who shares a group, by an edge table and the classes of a node table
abbrev pub similar_in : ℕ → List ℕ → List ℕ → ℕ → ℕ → Bool
similar_in n edges table = similar (whole (classed_in n edges (λ p. node_number table p 4)))

-- an update by its numbers
abbrev pub change : ℕ → ℕ → ℕ → ℕ → Update
change kind u v wanted = record { kind = kind; u = u; v = v; wanted = wanted }

-- the tables are those of the graph that they are read as, and it does not refuse the update
pub record Asked (n : ℕ) (c : Update) (t : Tables) : Type 0 where
  pub proper : Proper (graph_of n t)
  pub same : t ≡ tables_of (graph_of n t)
  pub accepted : refusal (graph_of n t) c ≡ 0

-- r is the next greater member of p's group, where p is followed by one
abbrev pub NextGreater : List ℕ → ℕ → Option ℕ → Type 0
NextGreater t p r = MatchOption r (node_number t p 1 ≤ p) (λ b. (b ≡ node_number t p 1) × (p < b))
