-- Document 01, "Release file": the visible part of a graph and its file, record by record.
use Rattle.std.specs.Prelude.{Bool, not, ◌&&◌, cond, List, [], ◌∷◌, ◌++◌, map, ℕ, suc, ◌/◌, ◌%◌, ltb, length}
use Rattle.model.specs.Lists.{concat, filter, head_or, nodes}
use Rattle.model.specs.Graph.{Graph, View}
use Rattle.model.specs.Grouping.{Kind, adjacent, algorithm1, clique, independent, kind_of, singleton}

-- visible (open) nodes
unfoldable pub is_visible : Graph → ℕ → Bool
is_visible g p = ltb p g.node_count && not (g.hidden p)

-- an edge between visible nodes
unfoldable pub visible_edge : Graph → ℕ → ℕ → Bool
visible_edge g p q = is_visible g p && (is_visible g q && g.edge p q)

-- the class of a visible node
unfoldable pub visible_class : Graph → ℕ → ℕ
visible_class g p = cond (is_visible g p) (g.class p) 0

-- the visible nodes, the edges between them and their classes
abbrev pub visible : Graph → View
visible g = record { nodes = filter (is_visible g) (nodes g.node_count); edge = visible_edge g; class = visible_class g }

-- the graph without its hidden nodes' edges and classes
unfoldable pub visible_part : Graph → Graph
visible_part g = record { node_count = g.node_count; edge = visible_edge g; hidden = λ p. ltb p g.node_count && g.hidden p; class = visible_class g }

-- groups are worked out on those, not taken from the whole graph
unfoldable pub visible_groups : Graph → List (List ℕ)
visible_groups g = algorithm1 (visible g)

-- numbers have 16 bits, low byte first
abbrev pub u16_limit : ℕ
u16_limit = 65536

unfoldable pub u16 : ℕ → List ℕ
u16 x = x % 256 ∷ x / 256 ∷ []

-- the records, each with its mark of two fixed bytes
unfoldable pub head_record : ℕ → ℕ → ℕ → List ℕ
head_record n m g = 0x48 ∷ 0x44 ∷ (u16 n ++ (u16 m ++ u16 g))

unfoldable pub kind_byte : Kind → ℕ
kind_byte singleton = 0x49
kind_byte independent = 0x49
kind_byte clique = 0x43

unfoldable pub group_record : View → List ℕ → List ℕ
group_record v g = 0x47 ∷ kind_byte (kind_of v.edge g) ∷ (u16 (length g) ++ (u16 (v.class (head_or 0 g)) ++ concat (map u16 g)))

unfoldable pub superedge_record : ℕ × ℕ → List ℕ
superedge_record ij = 0x53 ∷ 0x45 ∷ (u16 ij.0 ++ u16 ij.1)

unfoldable pub end_record : List ℕ
end_record = 0x45 ∷ 0x4E ∷ []

-- the positions of group g, at i, with each group that it has a superedge to among hs, which stand from position j on
unfoldable pub superedges_from : (ℕ → ℕ → Bool) → ℕ → List ℕ → ℕ → List (List ℕ) → List (ℕ × ℕ)
superedges_from e i g j [] = []
superedges_from e i g j (h ∷ hs) = cond (adjacent e g h) ((i, j) ∷ superedges_from e i g (suc j) hs) (superedges_from e i g (suc j) hs)

-- superedges by first, then second position, of groups that stand from position i on
unfoldable pub superedges : (ℕ → ℕ → Bool) → ℕ → List (List ℕ) → List (ℕ × ℕ)
superedges e i [] = []
superedges e i (g ∷ gs) = superedges_from e i g (suc i) gs ++ superedges e (suc i) gs

unfoldable pub superedge_count : Graph → ℕ
superedge_count g = length (superedges (visible g).edge 0 (visible_groups g))

-- the file of n nodes, of which v is visible, with the groups gs
unfoldable pub encode : ℕ → View → List (List ℕ) → List ℕ
encode n v gs = head_record n (length v.nodes) (length gs) ++ (concat (map (group_record v) gs) ++ (concat (map superedge_record (superedges v.edge 0 gs)) ++ end_record))

unfoldable pub release : Graph → List ℕ
release g =
    let gs : List (List ℕ) = algorithm1 (visible g) in
    encode g.node_count (visible g) gs
