-- The visible part of a graph whose edges and marks are lent: rows masked.
use Rattle.std.specs.Prelude.{◌≡◌, Bool, false, not, cond, List, ℕ, ◌+◌, ◌*◌, ◌≤◌, ◌<◌, eqb, length, get_or}
use Rattle.std.specs.Int.Bits.{bit_and}
use Rattle.model.specs.Graph.{Graph, Proper, max_nodes, row_words}
use Rattle.model.specs.Tables.{edges_in, graph_with}
use Rattle.search.specs.Search.{Within}

-- the graph of n nodes that an edge table, marks (1: hidden) and classes tell
unfoldable pub drawn : ℕ → List ℕ → List ℕ → List ℕ → Graph
drawn n edges marks classes = graph_with n edges (λ p. get_or marks p 0) (λ p. get_or classes p 0)

-- it is one: edges without direction, none from a node to itself, classes below 256
pub record Drawn (n : ℕ) (edges marks classes : List ℕ) : Type 0 where
  pub small : n ≤ max_nodes
  pub proper : Proper (drawn n edges marks classes)
  pub size : length edges ≡ row_words * n
  pub marked : n ≤ length marks
  pub labelled : n ≤ length classes

-- node q is not marked as hidden
unfoldable pub shown : List ℕ → ℕ → Bool
shown marks q = not (eqb (get_or marks q 0) 1)

-- word w of node p's row, of which only the nodes of a set are kept
unfoldable pub cut_word : List ℕ → List ℕ → ℕ → ℕ → ℕ
cut_word edges set p w = bit_and (get_or edges (row_words * p + w) 0) (get_or set w 0)

-- what word w of node p's row may keep, of the visible nodes as a set of bits
unfoldable pub kept_word : List ℕ → List ℕ → ℕ → ℕ → ℕ
kept_word set marks p w = cond (shown marks p) (get_or set w 0) 0

-- word w of node p's row, masked
unfoldable pub masked_word : List ℕ → List ℕ → List ℕ → ℕ → ℕ → ℕ
masked_word edges set marks p w = bit_and (get_or edges (row_words * p + w) 0) (kept_word set marks p w)

-- the first k words of row p are written, the rows before it are as they were
pub record RowPut (p k : ℕ) (word : ℕ → ℕ) (t after : List ℕ) : Type 0 where
  pub size : length after ≡ length t
  pub words : (w : ℕ) → w < k → get_or after (row_words * p + w) 0 ≡ word w
  pub earlier : (i : ℕ) → i < row_words * p → get_or after i 0 ≡ get_or t i 0

-- hidden nodes have no edges
pub record Apart (n : ℕ) (edges marks classes : List ℕ) : Type 0 where
  pub proper : Proper (drawn n edges marks classes)
  pub within : Within n edges
  pub marked : n ≤ length marks
  pub labelled : n ≤ length classes
  pub none : (p q : ℕ) → shown marks q ≡ false → edges_in n edges p q ≡ false
