-- A graph held by its groups: for each node the first member of its group, for each first member the group's kind, its class and a row
-- of the first members that it is joined to.
use Rattle.std.specs.Prelude.{◌≡◌, Bool, true, false, not, ◌&&◌, ◌||◌, cond, List, [], ◌∷◌, ℕ, ◌*◌, ◌≤◌, ◌<◌, eqb, ltb, length, get_or}
use Rattle.model.specs.Lists.{all, head_or, member, nodes}
use Rattle.model.specs.Graph.{Graph, max_nodes, row_words}
use Rattle.model.specs.Tables.{edge_bit}
use Rattle.model.specs.Reading.{Head}
use Rattle.model.specs.InOrder.{members_at}
use Rattle.rows.specs.Rows.{leads, no_node}
use Rattle.search.specs.Search.{meets, row_in}

-- the kinds of a group: of one node, independent, a clique
abbrev pub single : ℕ
single = 0

abbrev pub independent : ℕ
independent = 1

abbrev pub clique : ℕ
clique = 2

-- a graph of at most so many nodes is small: its rows are one block of 64
abbrev pub small_nodes : ℕ
small_nodes = 64

unfoldable pub kind_marked : Bool → ℕ → ℕ
kind_marked marked count = cond marked clique (cond (eqb count 1) single independent)

-- the first member of p's group
unfoldable pub first_member_of : List (Head × List ℕ) → ℕ → ℕ
first_member_of [] p = no_node
first_member_of (g ∷ gs) p = cond (member p g.1) (head_or 0 g.1) (first_member_of gs p)

-- a number of the group that p is the first member of, 0 where there is none: its kind, its class
unfoldable pub led_by : (Head × List ℕ → ℕ) → List (Head × List ℕ) → ℕ → ℕ
led_by number [] p = 0
led_by number (g ∷ gs) p = cond (eqb p (head_or 0 g.1)) (number g) (led_by number gs p)

abbrev pub kind_in : Head × List ℕ → ℕ
kind_in g = kind_marked g.0.clique (length g.1)

abbrev pub class_of : Head × List ℕ → ℕ
class_of g = g.0.class

-- the first member of the group at a position
unfoldable pub first_at : List (Head × List ℕ) → ℕ → ℕ
first_at gs i = head_or 0 (members_at gs i)

-- the first members of two groups with a superedge
unfoldable pub joined_by : List (Head × List ℕ) → List (ℕ × ℕ) → ℕ → ℕ → Bool
joined_by gs [] a b = false
joined_by gs (x ∷ xs) a b =
    ((eqb a (first_at gs x.0) && eqb b (first_at gs x.1)) || (eqb a (first_at gs x.1) && eqb b (first_at gs x.0)))
    || joined_by gs xs a b

-- arrays that tell groups and superedges
pub record Told (gs : List (Head × List ℕ)) (js : List (ℕ × ℕ)) (least kinds classes joined : List ℕ) : Type 0 where
  pub first : (p : ℕ) → p < max_nodes → get_or least p 0 ≡ first_member_of gs p
  pub kind : (p : ℕ) → p < max_nodes → get_or kinds p 0 ≡ led_by kind_in gs p
  pub class : (p : ℕ) → p < max_nodes → get_or classes p 0 ≡ led_by class_of gs p
  pub bits : (a b : ℕ) → b < max_nodes → edge_bit joined a b ≡ joined_by gs js a b

-- the graph that such arrays unfold to, its classes apart
unfoldable pub placed : ℕ → List ℕ → ℕ → Bool
placed n least p = ltb p n && not (eqb (get_or least p 0) no_node)

unfoldable pub unfolded_edge : List ℕ → List ℕ → List ℕ → ℕ → ℕ → Bool
unfolded_edge least kinds joined p q =
    cond (eqb (get_or least p 0) (get_or least q 0))
    (eqb (get_or kinds (get_or least p 0) 0) clique && not (eqb p q))
    (edge_bit joined (get_or least p 0) (get_or least q 0))

unfoldable pub unfolded : ℕ → List ℕ → List ℕ → List ℕ → Graph
unfolded n least kinds joined = record {
  node_count = n;
  edge = λ p q. placed n least p && (placed n least q && unfolded_edge least kinds joined p q);
  hidden = λ p. ltb p n && eqb (get_or least p 0) no_node;
  class = λ p. 0;
}

-- the class of p: that of its group, 0 where it has none
unfoldable pub class_in : ℕ → List ℕ → List ℕ → ℕ → ℕ
class_in n least classes p = cond (placed n least p) (get_or classes (get_or least p 0) 0) 0

-- a graph with other classes
abbrev pub with_classes : Graph → (ℕ → ℕ) → Graph
with_classes g class = record { node_count = g.node_count; edge = g.edge; hidden = g.hidden; class = class }

-- what such arrays keep to
pub record Compressed (n : ℕ) (least kinds joined : List ℕ) : Type 0 where
  pub small : n ≤ max_nodes
  pub nodes : length least ≡ max_nodes
  pub groups : length kinds ≡ max_nodes
  pub rows : row_words * n ≤ length joined
  -- a node of the graph has no group, or a first member at or before it, which is its own
  pub outside : (p : ℕ) → n ≤ p → p < max_nodes → get_or least p 0 ≡ no_node
  pub before : (p : ℕ) → placed n least p ≡ true → get_or least p 0 ≤ p
  pub first : (p : ℕ) → placed n least p ≡ true → leads least (get_or least p 0) ≡ true
  -- only first members are joined, without direction, none to itself
  pub joins : (p q : ℕ) → q < max_nodes → edge_bit joined p q ≡ true → (p < n) × (q < n) × (leads least p ≡ true) × (leads least q ≡ true)
  pub symmetric : (p q : ℕ) → p < max_nodes → q < max_nodes → edge_bit joined p q ≡ edge_bit joined q p
  pub irreflexive : (p : ℕ) → p < max_nodes → edge_bit joined p p ≡ false
  -- a kind other than `single` is that of a first member; a group of that kind has no other member
  pub kind : (p : ℕ) → p < max_nodes → (get_or kinds p 0 ≡ single → ⊥) → (p < n) × (leads least p ≡ true)
  pub most : (p : ℕ) → p < max_nodes → get_or kinds p 0 ≤ clique
  pub alone : (p : ℕ) → placed n least p ≡ true → get_or kinds (get_or least p 0) 0 ≡ single → get_or least p 0 ≡ p

-- the rows of u and q agree, as open or as closed ones
unfoldable pub alike : List ℕ → Bool → ℕ → ℕ → Bool
alike edges closed u q = meets closed u q (row_in edges u) (row_in edges q) row_words

-- the groups that u and q lead could be one: of one class, and of no clique with open rows that agree, or of no independent group
-- with closed ones
unfoldable pub merges : List ℕ → List ℕ → List ℕ → ℕ → ℕ → Bool
merges kinds classes joined u q =
    eqb (get_or classes u 0) (get_or classes q 0)
    && ((not (eqb (get_or kinds u 0) clique) && (not (eqb (get_or kinds q 0) clique) && alike joined false u q))
    || (not (eqb (get_or kinds u 0) independent) && (not (eqb (get_or kinds q 0) independent) && alike joined true u q)))

-- no two groups could be one
unfoldable pub apart : ℕ → List ℕ → List ℕ → List ℕ → List ℕ → Bool
apart n least kinds classes joined = all (nodes n) (λ u. not (leads least u) || all (nodes u) (λ q. not (leads least q && merges kinds classes joined u q)))
