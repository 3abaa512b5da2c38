-- What is saved of a node, and when words are the state of a graph.
use Rattle.std.specs.Prelude.{◌≡◌, List, ℕ, ◌+◌, ◌*◌, ◌<◌, length, get_or}
use Rattle.model.specs.Graph.{Proper, max_classes}
use Rattle.model.specs.Tables.{edges_of, node_number}
use Rattle.model.specs.Store.{state_graph}

-- the word of a node is below this: a mark and twice a class
abbrev pub word_limit : ℕ
word_limit = 2 * max_classes

abbrev pub WordsFit : List ℕ → Type 0
WordsFit words = (p : ℕ) → p < length words → get_or words p 0 < word_limit

-- the word of node p, by its mark and class in a node table
abbrev pub word_in : List ℕ → ℕ → ℕ
word_in t p = node_number t p 3 + 2 * node_number t p 4

-- the edges of the graph that they tell with the words of its nodes
pub record State (n : ℕ) (edges words : List ℕ) : Type 0 where
  pub proper : Proper (state_graph n edges words)
  pub edges_of_lem : edges ≡ edges_of (state_graph n edges words)
  pub size : length words ≡ n
