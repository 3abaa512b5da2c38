-- An accepted input: a batch on a new graph of n nodes, the answers to it, and the release of the graph after it.
use Rattle.std.specs.Prelude.{◌≡◌, List, ℕ, ◌*◌, ◌%◌, ◌≤◌, ℤ, length}
use Rattle.model.specs.Calls.{onto}
use Rattle.model.specs.Graph.{Graph, empty_graph, max_nodes, max_updates}
use Rattle.model.specs.Program.{max_bytes}
use Rattle.model.specs.Release.{release}
use Rattle.model.specs.Store.{store_words}
use Rattle.model.specs.Tables.{Tables}
use Rattle.model.specs.Updates.{answers, batch_graph, update_numbers, updates_in}
use Rattle.tables.specs.Lent.{Sized}

-- the graph after the batch xs
abbrev pub graph_after : ℕ → List ℕ → Graph
graph_after n xs = batch_graph (empty_graph n) (updates_in xs)

-- n and the batch are within their limits
pub record WithinLimits (n : ℕ) (xs : List ℕ) : Type 0 where
  pub nodes : n ≤ max_nodes
  pub whole : length xs % update_numbers ≡ 0
  pub few : length xs ≤ update_numbers * max_updates

-- and the tables, the store, the answer buffer and the release buffer are long enough
pub record Lent (n : ℕ) (t : Tables) (s xs : List ℕ) (out : List ℤ) (file : List ℕ) : Type 0 where
  pub small : WithinLimits n xs
  pub sized : Sized n t
  pub store_room : length s ≡ store_words n
  pub answer_room : max_updates ≤ length out
  pub file_room : max_bytes ≤ length file

-- the answers and the file stand in their buffers, and k is the file's length
pub record Done (n : ℕ) (xs : List ℕ) (out out' : List ℤ) (file file' : List ℕ) (k : ℕ) : Type 0 where
  pub answered : out' ≡ onto (answers (empty_graph n) (updates_in xs)) out
  pub written : file' ≡ onto (release (graph_after n xs)) file
  pub bytes : k ≡ length (release (graph_after n xs))
