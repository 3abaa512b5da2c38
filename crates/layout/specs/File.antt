-- What the writer writes, from the least members of the groups, the next members, the classes and the edges.
-- `least` has the least member of each visible node's group, and a number n or above for a hidden node.
use Rattle.std.specs.Prelude.{◌≡◌, Bool, false, cond, List, [], ◌∷◌, ◌++◌, map, ℕ, suc, zero, ◌+◌, ◌*◌, ◌≤◌, ◌<◌, eqb, ltb, length, get_or}
use Rattle.rows.specs.Rows.{leads, no_node}
use Rattle.model.specs.Lists.{concat, head_or}
use Rattle.model.specs.Tables.{edge_bit}
use Rattle.model.specs.Release.{end_record, head_record, superedge_record, u16}
use Rattle.model.specs.Calls.{Released, onto, release_refused}
use Rattle.buffers.specs.Scan.{flat, scan}

-- the least member of q's group is l; p is in a group
unfoldable pub belongs : List ℕ → ℕ → ℕ → Bool
belongs least l q = eqb (get_or least q 0) l

unfoldable pub in_group : List ℕ → ℕ → ℕ → Bool
in_group least n p = ltb (get_or least p 0) n

-- the next greater member of q's group, none if there is none or q is in no group
unfoldable pub next_of : List ℕ → ℕ → ℕ → ℕ
next_of least n q = cond (in_group least n q) (head_or no_node (scan (belongs least (get_or least q 0)) n (q + 1))) no_node

-- the nodes met on the way from q by the table of next members, until a number n or above
unfoldable pub chain : ℕ → List ℕ → ℕ → ℕ → List ℕ
chain zero next n q = []
chain (suc k) next n q = cond (ltb q n) (q ∷ chain k next n (get_or next q 0)) []

unfoldable pub u16_bytes : List ℕ → List ℕ
u16_bytes l = concat (map u16 l)

-- the first two of a list have an edge
unfoldable pub first_two : (ℕ → ℕ → Bool) → List ℕ → Bool
first_two e [] = false
first_two e (a ∷ []) = false
first_two e (a ∷ b ∷ l) = e a b

abbrev pub group_mark : Bool → List ℕ
group_mark c = 0x47 ∷ cond c 0x43 0x49 ∷ []

-- a group's mark, its count, the class of its first member, and its members
unfoldable pub group_bytes : (ℕ → ℕ → Bool) → List ℕ → List ℕ → List ℕ
group_bytes e classes g = group_mark (first_two e g) ++ (u16 (length g) ++ (u16 (get_or classes (head_or 0 g) 0) ++ u16_bytes g))

-- the groups of the leaders ls
unfoldable pub groups_bytes : (ℕ → ℕ → Bool) → List ℕ → (ℕ → List ℕ) → List ℕ → List ℕ
groups_bytes e classes members ls = flat (λ i. group_bytes e classes (members (get_or ls i 0))) (length ls) 0

-- superedges: the positions after i of the groups that the i-th has one to; their records
unfoldable pub superedge_between : (ℕ → ℕ → Bool) → List ℕ → ℕ → ℕ → Bool
superedge_between e ls i j = e (get_or ls i 0) (get_or ls j 0)

unfoldable pub later : (ℕ → ℕ → Bool) → List ℕ → ℕ → List ℕ
later e ls i = scan (superedge_between e ls i) (length ls) (i + 1)

unfoldable pub superedges_to : ℕ → List ℕ → List ℕ
superedges_to i js = concat (map (λ j. superedge_record (i, j)) js)

unfoldable pub superedge_bytes : (ℕ → ℕ → Bool) → List ℕ → List ℕ
superedge_bytes e ls = flat (λ i. superedges_to i (later e ls i)) (length ls) 0

unfoldable pub superedge_total : (ℕ → ℕ → Bool) → List ℕ → ℕ
superedge_total e ls = length (flat (later e ls) (length ls) 0)

-- what the writer asks of its tables: next members go up; there are rows for n nodes, and leaders are nodes
pub record Ahead (n : ℕ) (next : List ℕ) : Type 0 where
  pub small : n ≤ 512
  pub size : n ≤ length next
  pub ahead : (q : ℕ) → q < n → q < get_or next q 0

pub record Rows (n : ℕ) (edges leaders : List ℕ) : Type 0 where
  pub small : n ≤ 512
  pub rows : 8 * n ≤ length edges
  pub few : length leaders ≤ n
  pub below : (i : ℕ) → i < length leaders → get_or leaders i 0 < n

pub record NextLinked (n : ℕ) (least next : List ℕ) : Type 0 where
  pub size : n ≤ length next
  pub next_is : (q : ℕ) → q < n → get_or next q 0 ≡ next_of least n q

-- the visible nodes, the least members of their groups, the members of the group whose least member is l
unfoldable pub visible_of : ℕ → List ℕ → List ℕ
visible_of n least = scan (in_group least n) n 0

unfoldable pub leaders_of : ℕ → List ℕ → List ℕ
leaders_of n least = scan (leads least) n 0

unfoldable pub members_of : ℕ → List ℕ → ℕ → List ℕ
members_of n least l = scan (belongs least l) n l

-- document 01's m, g and s, and the length
unfoldable pub file_nodes : ℕ → List ℕ → ℕ
file_nodes n least = length (visible_of n least)

unfoldable pub file_groups : ℕ → List ℕ → ℕ
file_groups n least = length (leaders_of n least)

unfoldable pub file_superedges : ℕ → List ℕ → List ℕ → ℕ
file_superedges n least edges = superedge_total (edge_bit edges) (leaders_of n least)

unfoldable pub file_length : ℕ → List ℕ → List ℕ → ℕ
file_length n least edges = 10 + 6 * file_groups n least + 2 * file_nodes n least + 6 * file_superedges n least edges

unfoldable pub file_of : ℕ → List ℕ → List ℕ → List ℕ → List ℕ
file_of n least classes edges =
    head_record n (file_nodes n least) (file_groups n least)
    ++ (groups_bytes (edge_bit edges) classes (members_of n least) (leaders_of n least) ++ (superedge_bytes (edge_bit edges) (leaders_of n least) ++ end_record))

-- what is asked of the tables: the groups hold each visible node once
pub record Partition (n : ℕ) (least edges : List ℕ) : Type 0 where
  pub small : n ≤ 512
  pub size : n ≤ length least
  pub rows : 8 * n ≤ length edges
  pub once : length (concat (map (members_of n least) (leaders_of n least))) ≡ file_nodes n least

-- all that writing gives: 18 and the buffer as it was if it is too short, else the numbers, and the file before what stood behind it
unfoldable pub written_file : ℕ → List ℕ → List ℕ → List ℕ → List ℕ → Released
written_file n least classes edges out =
    cond (ltb (length out) (file_length n least edges)) (release_refused out 18)
    (record {
      result = 0;
      nodes = file_nodes n least;
      groups = file_groups n least;
      superedges = file_superedges n least edges;
      bytes = file_length n least edges;
      out = onto (file_of n least classes edges) out;
    })
