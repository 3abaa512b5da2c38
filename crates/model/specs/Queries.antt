-- Document 01, "Office questions", and document 02, order 2: what a query answers about a graph.
use Rattle.std.specs.Prelude.{List, [], ◌∷◌, map, ℕ}
use Rattle.model.specs.Lists.{concat, filter, nodes}
use Rattle.model.specs.Graph.{Graph, View}
use Rattle.model.specs.Grouping.{Kind, singleton, independent, clique, least, similar}

-- the neighbours of p, ascending
unfoldable pub neighbours : Graph → ℕ → List ℕ
neighbours g p = filter (g.edge p) (nodes g.node_count)

-- the least member of p's group in v
unfoldable pub leader_in : View → ℕ → ℕ
leader_in v p = least v.nodes (similar v) p

-- nodes in pairs, each followed by its leader
unfoldable pub pairs : (ℕ → ℕ) → List ℕ → List ℕ
pairs leader ps = concat (map (λ p. p ∷ leader p ∷ []) ps)

-- the number of a kind
unfoldable pub kind_number : Kind → ℕ
kind_number singleton = 0
kind_number independent = 1
kind_number clique = 2
