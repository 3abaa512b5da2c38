-- What the test of lent tables looks at. Together it is the model's `holds` (HoldLaws).
use Rattle.std.specs.Prelude.{◌≡◌, ℕ, ◌+◌, ◌*◌, ◌%◌, ◌^◌, ◌<◌, Bool, true, not, ◌&&◌, ◌||◌, List, ◌==◌, nat_le, nat_lt, slice_index}
use Rattle.model.specs.Lists.{all, nodes}
use Rattle.model.specs.Graph.{max_classes, row_words, whole}
use Rattle.model.specs.Grouping.{cube, open_key}
use Rattle.model.specs.Tables.{edge_bit, node_number, graph_in}
use Rattle.search.specs.Search.{first_from, joins, meets, row_in, same_class}
use Rattle.edges.specs.Edges.{row_holds}

-- both keys of p are those of a row whose cubes add up to sum
unfoldable pub agrees : List ℕ → ℕ → ℕ → Bool
agrees keys p sum = slice_index keys (2 * p) == sum && slice_index keys (2 * p + 1) == (sum + cube p) % 2 ^ 32

-- both keys of p are those of its row
unfoldable pub keys_hold : ℕ → List ℕ → List ℕ → ℕ → Bool
keys_hold n edges keys p = agrees keys p (open_key (whole (graph_in n edges)) p)

unfoldable pub rows_hold : ℕ → List ℕ → List ℕ → Bool
rows_hold n edges keys = all (nodes n) (λ p. row_holds n edges p && keys_hold n edges keys p)

-- the keys of the nodes below p are right
abbrev pub KeysBelow : ℕ → List ℕ → List ℕ → ℕ → Type 0
KeysBelow n edges keys p = (k : ℕ) → k < p → keys_hold n edges keys k ≡ true

-- l is not above p, leads a group, is of p's class, and p's row is that of a twin of l: of a true twin if there is an edge between the two
unfoldable pub twin_of : List ℕ → List ℕ → ℕ → ℕ → Bool
twin_of edges table p l = nat_le l p && (node_number table l 0 == l && (same_class table p l && meets (edge_bit edges l p) p l (row_in edges p) (row_in edges l) row_words))

unfoldable pub twins_hold : ℕ → List ℕ → List ℕ → Bool
twins_hold n edges table = all (nodes n) (λ p. twin_of edges table p (node_number table p 0))

-- if u leads a group, no leader below it is similar to it
unfoldable pub alone : ℕ → List ℕ → List ℕ → ℕ → Bool
alone n edges table u = not (node_number table u 0 == u) || first_from (joins n edges table u u) 0 u == u

unfoldable pub leaders_apart : ℕ → List ℕ → List ℕ → Bool
leaders_apart n edges table = all (nodes n) (alone n edges table)

-- a is a member of p's group, p follows a, and a is below p unless p leads the group
unfoldable pub link_holds : ℕ → List ℕ → ℕ → ℕ → Bool
link_holds n table p a = nat_lt a n && (node_number table a 0 == node_number table p 0 && (node_number table a 1 == p && (node_number table p 0 == p || nat_lt a p)))

-- the previous member, the mark and the class of p
unfoldable pub node_holds : ℕ → List ℕ → ℕ → Bool
node_holds n table p = link_holds n table p (node_number table p 2) && (nat_lt (node_number table p 3) 2 && nat_lt (node_number table p 4) max_classes)

unfoldable pub nodes_hold : ℕ → List ℕ → Bool
nodes_hold n table = all (nodes n) (node_holds n table)
