-- Slots of nodes' rows by their keys, where nobody is hidden.
use Rattle.std.specs.Prelude.{◌≡◌, ℕ, ◌+◌, ◌*◌, ◌<◌, ◌≤◌, Bool, cond, List, length, replicate, slice_index}
use Rattle.model.specs.Graph.{Proper, max_classes, max_nodes}
use Rattle.model.specs.Tables.{graph_in, keys_of}
use Rattle.search.specs.Search.{Within}
use Rattle.grouping.specs.Chains.{slot_in}

-- the marks of a graph without hidden nodes
unfoldable pub nobody : List ℕ
nobody = replicate max_nodes 0

-- an edge table is that of a graph, the keys are its keys, and each node has a class
pub record KeysTold (n : ℕ) (edges keys classes : List ℕ) : Type 0 where
  pub within : Within n edges
  pub proper : Proper (graph_in n edges)
  pub keys_of_lem : keys ≡ keys_of (graph_in n edges)
  pub labelled : n ≤ length classes
  pub classed : (p : ℕ) → p < n → slice_index classes p < max_classes

-- the slot of u's row, by its open or its closed key
unfoldable pub key_slot : List ℕ → Bool → ℕ → ℕ
key_slot keys closed u = slot_in (slice_index keys (2 * u + cond closed 1 0))
