-- An edge table is that of a graph: symmetric, without loops, without a bit for a number n or above.
use Rattle.std.specs.Prelude.{◌≡◌, Bool, true, not, ◌&&◌, ◌||◌, List, ℕ, ◌<◌, eqb, ltb}
use Rattle.model.specs.Lists.{all, nodes, same_list}
use Rattle.model.specs.Graph.{max_nodes}
use Rattle.model.specs.Tables.{edge_bit, edges_of, graph_in, simple}

-- q is another node of the graph, and p's bit stands in q's row
unfoldable pub mirrored : ℕ → List ℕ → ℕ → ℕ → Bool
mirrored n edges p q = ltb q n && (not (eqb q p) && edge_bit edges q p)

-- node q's bit does not stand in p's row, or is mirrored
unfoldable pub bit_holds : ℕ → List ℕ → ℕ → ℕ → Bool
bit_holds n edges p q = not (edge_bit edges p q) || mirrored n edges p q

unfoldable pub row_holds : ℕ → List ℕ → ℕ → Bool
row_holds n edges p = all (nodes max_nodes) (bit_holds n edges p)

-- the rows of the nodes below p
abbrev pub RowsBelow : ℕ → List ℕ → ℕ → Type 0
RowsBelow n edges p = (k : ℕ) → k < p → row_holds n edges k ≡ true

-- no node has an edge to itself
unfoldable pub loopless : ℕ → List ℕ → Bool
loopless n edges = all (nodes n) (λ p. not (edge_bit edges p p))

-- the graph that the table tells is simple, and the table is that graph's
unfoldable pub edges_hold : ℕ → List ℕ → Bool
edges_hold n edges = simple (graph_in n edges) && same_list edges (edges_of (graph_in n edges))
