-- Document 01, "Release file", read back: the summary that bytes tell, its graph, and which bytes are a release.
use Rattle.std.specs.Prelude.{Bool, true, false, not, ◌&&◌, ◌||◌, cond, List, [], ◌∷◌, map, ℕ, suc, zero, ◌+◌, ◌*◌, eqb, ltb, leb, length, get_or, drop}
use Rattle.model.specs.Lists.{same_list}
use Rattle.model.specs.Graph.{Graph, max_nodes}
use Rattle.model.specs.Summary.{Summary, position, reconstruct}
use Rattle.model.specs.Tables.{is_graph}
use Rattle.model.specs.Release.{release}

-- the 16-bit number at place i, low byte first
unfoldable pub u16_at : List ℕ → ℕ → ℕ
u16_at s i = get_or s i 0 + 256 * get_or s (suc i) 0

-- the first k numbers
unfoldable pub u16s : ℕ → List ℕ → List ℕ
u16s zero s = []
u16s (suc k) s = u16_at s 0 ∷ u16s k (drop 2 s)

-- what a group record tells of all its members: whether they are a clique, and their class
pub record Head : Type 0 where
  pub clique : Bool
  pub class : ℕ

-- k group records: that, and the members
unfoldable pub groups_at : ℕ → List ℕ → List (Head × List ℕ)
groups_at zero s = []
groups_at (suc k) s = (record { clique = eqb (get_or s 1 0) 0x43; class = u16_at s 4 }, u16s (u16_at s 2) (drop 6 s)) ∷ groups_at k (drop (2 * u16_at s 2) (drop 6 s))

unfoldable pub after_groups : ℕ → List ℕ → List ℕ
after_groups zero s = s
after_groups (suc k) s = after_groups k (drop (2 * u16_at s 2) (drop 6 s))

-- the bytes begin with a mark
unfoldable pub is_mark : List ℕ → ℕ → ℕ → Bool
is_mark s a b = eqb (get_or s 0 0) a && eqb (get_or s 1 0) b

-- superedge records, at most k
unfoldable pub superedges_at : ℕ → List ℕ → List (ℕ × ℕ)
superedges_at zero s = []
superedges_at (suc k) s = elim (is_mark s 0x53 0x45) [ true ↦ (u16_at s 2, u16_at s 4) ∷ superedges_at k (drop 6 s) | false ↦ [] ]

unfoldable pub has_pair : List (ℕ × ℕ) → ℕ → ℕ → Bool
has_pair [] i j = false
has_pair (x ∷ xs) i j = (eqb x.0 i && eqb x.1 j) || has_pair xs i j

-- what groups, each with its head, and superedges say
unfoldable pub summary_by : List (Head × List ℕ) → List (ℕ × ℕ) → Summary
summary_by gs js = record {
  count = length gs;
  group_of = λ p. position p (map (λ g. g.1) gs);
  cliques = λ i. get_or (map (λ g. g.0.clique) gs) i false;
  classes = λ i. get_or (map (λ g. g.0.class) gs) i 0;
  superedges = has_pair js;
}

-- the summary that a file tells; n and the counts stand in its head
unfoldable pub summary_in : List ℕ → Summary
summary_in s = summary_by (groups_at (u16_at s 6) (drop 8 s)) (superedges_at (length s) (after_groups (u16_at s 6) (drop 8 s)))

-- its graph: nodes missing from all groups are hidden, without edges and of class 0
unfoldable pub graph_by : ℕ → Summary → Graph
graph_by n d = record {
  node_count = n;
  edge = λ p q. ltb (d.group_of p) d.count && (ltb (d.group_of q) d.count && reconstruct d p q);
  hidden = λ p. ltb p n && not (ltb (d.group_of p) d.count);
  class = λ p. cond (ltb (d.group_of p) d.count) (d.classes (d.group_of p)) 0;
}

unfoldable pub decode : List ℕ → Graph
decode s = graph_by (u16_at s 2) (summary_in s)

-- the bytes are the release of a graph, for an n to 512: released again, what they tell gives the same bytes
unfoldable pub is_release : List ℕ → Bool
is_release s = let g : Graph = decode s in leb g.node_count max_nodes && (is_graph g && same_list s (release g))
