-- What calls ask of the tables that they are lent.
use Rattle.std.specs.Prelude.{◌≡◌, Bool, not, ◌∷◌, ℕ, ◌*◌, ◌≤◌, length}
use Rattle.model.specs.Graph.{Proper, max_nodes, row_words, node_numbers}
use Rattle.model.specs.Tables.{Tables, graph_of, holds, tables_of}
use Rattle.model.specs.Refusals.{Reasons, lengths, wrong_size}
use Rattle.model.specs.Calls.{Filled}

-- n and the lengths are right
pub record Sized (n : ℕ) (t : Tables) : Type 0 where
  pub small : n ≤ max_nodes
  pub edges : length t.edges ≡ row_words * n
  pub nodes : length t.nodes ≡ node_numbers * n
  pub keys : length t.keys ≡ 2 * n

-- the tables are those of the graph that they are read as, and it is proper
pub record Held (n : ℕ) (t : Tables) : Type 0 where
  pub same : t ≡ tables_of (graph_of n t)
  pub proper : Proper (graph_of n t)

-- the reasons of every call on lent memory, before its own: wrong lengths, and memory that holds nothing
abbrev pub lent_reasons : Bool → Bool → Reasons → Reasons
lent_reasons size none rs = (size, 11) ∷ (none, 12) ∷ rs

abbrev pub table_reasons : ℕ → Tables → Reasons → Reasons
table_reasons n t rs = lent_reasons (wrong_size n (lengths t)) (not (holds n t)) rs

-- what a call that fills tables returned and left, as the model's record of it
abbrev pub filled : ℕ → Tables → Filled
filled r t = record { result = r; tables = t }
