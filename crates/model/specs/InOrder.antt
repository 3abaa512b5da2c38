-- Document 01, "Release file": a file by its groups, each with its head, and by its superedges; when these stand in
-- order; and when two groups could be one. What a release is, is said in Reading; the laws show that it is this.
use Rattle.std.specs.Prelude.{Bool, true, false, not, ◌&&◌, ◌||◌, cond, List, [], ◌∷◌, ◌++◌, map, ℕ, suc, ◌+◌, ◌*◌, eqb, ltb, leb, length, get_or, drop}
use Rattle.model.specs.Lists.{all, concat, head_or, member, nodes}
use Rattle.model.specs.Graph.{View, max_classes, max_nodes}
use Rattle.model.specs.Grouping.{false_twins, true_twins}
use Rattle.model.specs.Release.{end_record, head_record, superedge_record, u16, u16_limit}
use Rattle.model.specs.Reading.{Head, after_groups, groups_at, summary_by, superedges_at, u16_at}
use Rattle.model.specs.Summary.{groups_of}

-- the groups and the superedges that a file tells
unfoldable pub told_groups : List ℕ → List (Head × List ℕ)
told_groups s = groups_at (u16_at s 6) (drop 8 s)

unfoldable pub told_superedges : List ℕ → List (ℕ × ℕ)
told_superedges s = superedges_at (length s) (after_groups (u16_at s 6) (drop 8 s))

-- the record of a group, by its head
unfoldable pub marked_record : Head × List ℕ → List ℕ
marked_record g = 0x47 ∷ cond g.0.clique 0x43 0x49 ∷ (u16 (length g.1) ++ (u16 g.0.class ++ concat (map u16 g.1)))

-- the members of all groups
unfoldable pub members_in : List (Head × List ℕ) → List ℕ
members_in gs = concat (map (λ g. g.1) gs)

-- the file of n nodes with these groups and superedges
unfoldable pub file_by : ℕ → List (Head × List ℕ) → List (ℕ × ℕ) → List ℕ
file_by n gs js = head_record n (length (members_in gs)) (length gs) ++ (concat (map marked_record gs) ++ (concat (map superedge_record js) ++ end_record))

-- members ascend from low on, below n, and none of them is taken
unfoldable pub members_fit : ℕ → (ℕ → Bool) → ℕ → List ℕ → Bool
members_fit n taken low [] = true
members_fit n taken low (x ∷ xs) = leb low x && (ltb x n && (not (taken x) && members_fit n taken (suc x) xs))

-- a class is below 256, a group has a member, a clique two
unfoldable pub group_fits : ℕ → (ℕ → Bool) → ℕ → Head × List ℕ → Bool
group_fits n taken low g = ltb g.0.class max_classes && (leb (cond g.0.clique 2 1) (length g.1) && members_fit n taken low g.1)

-- groups stand by first member, and no node is in two
unfoldable pub groups_fit : ℕ → (ℕ → Bool) → ℕ → List (Head × List ℕ) → Bool
groups_fit n taken low [] = true
groups_fit n taken low (g ∷ gs) = group_fits n taken low g && groups_fit n (λ p. member p g.1 || taken p) (suc (head_or 0 g.1)) gs

-- superedges stand by first, then second position, the lower position first
unfoldable pub pair_key : ℕ → ℕ → ℕ
pair_key i j = i * u16_limit + j

unfoldable pub follows : ℕ → ℕ → ℕ → ℕ → Bool
follows g last i j = ltb i j && (ltb j g && ltb last (pair_key i j))

unfoldable pub superedges_fit : ℕ → ℕ → List (ℕ × ℕ) → Bool
superedges_fit g last [] = true
superedges_fit g last (x ∷ xs) = follows g last x.0 x.1 && superedges_fit g (pair_key x.0 x.1) xs

-- groups and superedges stand in order
unfoldable pub in_order : ℕ → List (Head × List ℕ) → List (ℕ × ℕ) → Bool
in_order n gs js = leb n max_nodes && (groups_fit n (λ p. false) 0 gs && superedges_fit (length gs) 0 js)

-- the group at a position: its members, whether it is marked as a clique, its class
unfoldable pub members_at : List (Head × List ℕ) → ℕ → List ℕ
members_at gs i = get_or (map (λ g. g.1) gs) i []

unfoldable pub clique_at : List (Head × List ℕ) → ℕ → Bool
clique_at gs i = get_or (map (λ g. g.0.clique) gs) i false

unfoldable pub class_at : List (Head × List ℕ) → ℕ → ℕ
class_at gs i = get_or (map (λ g. g.0.class) gs) i 0

-- the groups as nodes, joined by the superedges
abbrev pub group_view : List (Head × List ℕ) → List (ℕ × ℕ) → View
group_view gs js = groups_of (summary_by gs js)

-- a group that members of another may join without an edge to it, or with one: a group of one is both
unfoldable pub open_at : List (Head × List ℕ) → ℕ → Bool
open_at gs i = not (clique_at gs i)

unfoldable pub closed_at : List (Head × List ℕ) → ℕ → Bool
closed_at gs i = clique_at gs i || eqb (length (members_at gs i)) 1

-- two groups could be one: of one class; no cliques, not joined, with the same superedges; or no independent groups of two or more, joined, with
-- the same superedges apart from each other
unfoldable pub could_merge : List (Head × List ℕ) → List (ℕ × ℕ) → ℕ → ℕ → Bool
could_merge gs js i j =
    eqb (class_at gs i) (class_at gs j)
    && ((open_at gs i && (open_at gs j && false_twins (group_view gs js) i j))
    || (closed_at gs i && (closed_at gs j && true_twins (group_view gs js) i j)))

unfoldable pub irreducible : List (Head × List ℕ) → List (ℕ × ℕ) → Bool
irreducible gs js = all (nodes (length gs)) (λ i. all (nodes (length gs)) (λ j. eqb i j || not (could_merge gs js i j)))
