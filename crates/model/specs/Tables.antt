-- Document 01, "Lent tables": the three tables of a graph, the graph read off tables, and when tables hold a graph.
use Rattle.std.specs.Prelude.{Bool, false, not, ◌&&◌, cond, List, [], ◌∷◌, map, ℕ, suc, zero, ◌+◌, ◌*◌, ◌/◌, ◌%◌, ◌^◌, eqb, ltb, get_or}
use Rattle.std.specs.Bool.{beq}
use Rattle.model.specs.Lists.{all, filter, concat, same_list, head_or, last_or, nodes}
use Rattle.model.specs.Graph.{Graph, max_classes, node_numbers, row_words, whole}
use Rattle.model.specs.Grouping.{similar, group, open_key, closed_key}

-- ties, persons and keys
pub record Tables : Type 0 where
  pub edges : List ℕ
  pub nodes : List ℕ
  pub keys : List ℕ

-- edges: eight words of 64 bits for each node; node q is the bit worth 2^(q mod 64) of word q/64
unfoldable pub word : ℕ → (ℕ → Bool) → ℕ
word zero f = 0
word (suc k) f = word k f + cond (f k) (2 ^ k) 0

unfoldable pub bit_at : ℕ → ℕ → Bool
bit_at w i = eqb (w / 2 ^ i % 2) 1

unfoldable pub row_of : Graph → ℕ → List ℕ
row_of g p = map (λ w. word 64 (λ i. g.edge p (64 * w + i))) (nodes row_words)

unfoldable pub edges_of : Graph → List ℕ
edges_of g = concat (map (row_of g) (nodes g.node_count))

-- nodes: the least member of its group, the next greater member, the previous one, the mark (1: hidden), the class
unfoldable pub group_in : Graph → ℕ → List ℕ
group_in g p = group (whole g).nodes (similar (whole g)) p

-- in an ascending list: the greatest is followed by the least, and the previous one is the reverse of that
unfoldable pub next_in : List ℕ → ℕ → ℕ
next_in l p = head_or (head_or p l) (filter (ltb p) l)

unfoldable pub prev_in : List ℕ → ℕ → ℕ
prev_in l p = last_or (last_or p l) (filter (λ q. ltb q p) l)

unfoldable pub node_of : Graph → ℕ → List ℕ
node_of g p = head_or p (group_in g p) ∷ next_in (group_in g p) p ∷ prev_in (group_in g p) p ∷ cond (g.hidden p) 1 0 ∷ g.class p ∷ []

unfoldable pub nodes_of : Graph → List ℕ
nodes_of g = concat (map (node_of g) (nodes g.node_count))

-- keys: open, closed
unfoldable pub key_pair : Graph → ℕ → List ℕ
key_pair g p = open_key (whole g) p ∷ closed_key (whole g) p ∷ []

unfoldable pub keys_of : Graph → List ℕ
keys_of g = concat (map (key_pair g) (nodes g.node_count))

unfoldable pub tables_of : Graph → Tables
tables_of g = record { edges = edges_of g; nodes = nodes_of g; keys = keys_of g }

-- the bit for q in p's row, and number k of node p
unfoldable pub edge_bit : List ℕ → ℕ → ℕ → Bool
edge_bit t p q = bit_at (get_or t (row_words * p + q / 64) 0) (q % 64)

unfoldable pub node_number : List ℕ → ℕ → ℕ → ℕ
node_number t p k = get_or t (node_numbers * p + k) 0

-- the edges among n nodes that an edge table tells, and the graph that they make with marks (1: hidden) and classes
unfoldable pub edges_in : ℕ → List ℕ → ℕ → ℕ → Bool
edges_in n edges p q = ltb p n && (ltb q n && edge_bit edges p q)

abbrev pub graph_with : ℕ → List ℕ → (ℕ → ℕ) → (ℕ → ℕ) → Graph
graph_with n edges mark class = record {
  node_count = n;
  edge = edges_in n edges;
  hidden = λ p. ltb p n && eqb (mark p) 1;
  class = λ p. cond (ltb p n) (class p) 0;
}

-- nobody hidden, with some classes; every class 0
abbrev pub classed_in : ℕ → List ℕ → (ℕ → ℕ) → Graph
classed_in n edges class = record { node_count = n; edge = edges_in n edges; hidden = λ p. false; class = class }

abbrev pub graph_in : ℕ → List ℕ → Graph
graph_in n edges = classed_in n edges (λ p. 0)

-- the graph of n nodes that tables are read as: by edge bits, marks and classes
unfoldable pub graph_of : ℕ → Tables → Graph
graph_of n t = graph_with n t.edges (λ p. node_number t.nodes p 3) (λ p. node_number t.nodes p 4)

-- edges are symmetric, and no node has one to itself
unfoldable pub simple : Graph → Bool
simple g = all (nodes g.node_count) (λ p. not (g.edge p p) && all (nodes g.node_count) (λ q. beq (g.edge p q) (g.edge q p)))

-- it is one: simple, and its classes are below 256
unfoldable pub is_graph : Graph → Bool
is_graph g = simple g && all (nodes g.node_count) (λ p. ltb (g.class p) max_classes)

-- the tables hold a graph of n nodes: what they are read as is one, and every number is what it demands
unfoldable pub holds : ℕ → Tables → Bool
holds n t =
    let g : Graph = graph_of n t in
    let w : Tables = tables_of g in
    is_graph g && (same_list t.edges w.edges && (same_list t.nodes w.nodes && same_list t.keys w.keys))

-- the groups that a node table of n nodes tells, by its least members
unfoldable pub groups_in : ℕ → List ℕ → List (List ℕ)
groups_in n t =
    map
    (λ l. filter (λ p. eqb (node_number t p 0) l) (nodes n))
    (filter (λ p. eqb (node_number t p 0) p) (nodes n))
