-- Document 01, "Grouping": Algorithm 1 of source document 002, kinds of groups, superedges and keys.
-- `vs` lists nodes in ascending order, and `e p q` says whether there is an edge between p and q.
use Rattle.std.specs.Prelude.{Bool, true, false, not, ◌&&◌, ◌||◌, cond, List, [], ◌∷◌, ◌++◌, ℕ, ◌+◌, ◌*◌, ◌^◌, ◌%◌, eqb, leb, length}
use Rattle.std.specs.Bool.{beq}
use Rattle.model.specs.Lists.{all, any, filter, member, head_or}
use Rattle.model.specs.Graph.{View}

-- r is in N+(p); that r is in N(p) is e p r itself
unfoldable pub closed : (ℕ → ℕ → Bool) → ℕ → ℕ → Bool
closed e p r = e p r || eqb p r

-- N(p) = N(q)
unfoldable pub false_twins : View → ℕ → ℕ → Bool
false_twins v p q = all v.nodes (λ r. beq (v.edge p r) (v.edge q r))

-- N+(p) = N+(q)
unfoldable pub true_twins : View → ℕ → ℕ → Bool
true_twins v p q = all v.nodes (λ r. beq (closed v.edge p r) (closed v.edge q r))

-- who shares a group: nodes of one class for which line 6 of Algorithm 1 holds
unfoldable pub similar : View → ℕ → ℕ → Bool
similar v p q = eqb (v.class p) (v.class q) && (false_twins v p q || true_twins v p q)

-- Algorithm 1, lines 3 to 8, for any relation r in the place of line 6: `us` are the nodes that the loop of line 3 has yet to
-- come to, `done` those whose status is True.
unfoldable pub greedy : List ℕ → (ℕ → ℕ → Bool) → List ℕ → List ℕ → List (List ℕ)
greedy vs r [] done = []
greedy vs r (u ∷ us) done =
    elim (member u done) [
      | true ↦ greedy vs r us done
      | false ↦
          let s : List ℕ = filter (λ v. eqb u v || (not (member v done) && r u v)) vs in
          s ∷ greedy vs r us (s ++ done)
    ]

unfoldable pub algorithm1 : View → List (List ℕ)
algorithm1 v = greedy v.nodes (similar v) v.nodes []

-- the group of p among the nodes vs, where r says who shares a group; its least member; the nodes that are the least of theirs
unfoldable pub group : List ℕ → (ℕ → ℕ → Bool) → ℕ → List ℕ
group vs r p = filter (r p) vs

unfoldable pub least : List ℕ → (ℕ → ℕ → Bool) → ℕ → ℕ
least vs r p = head_or p (group vs r p)

unfoldable pub leaders : List ℕ → (ℕ → ℕ → Bool) → List ℕ
leaders vs r = filter (λ p. eqb (least vs r p) p) vs

-- two groups have a superedge (are joined) if a member of one has an edge to a member of the other
unfoldable pub adjacent : (ℕ → ℕ → Bool) → List ℕ → List ℕ → Bool
adjacent e g h = any g (λ p. any h (e p))

-- lone, independent, clique
pub data Kind : Type 0 where
  singleton : Kind
  independent : Kind
  clique : Kind

-- in a group of two or more, either nobody is tied to anybody or everybody to everybody (the laws), so one edge tells
unfoldable pub kind_of : (ℕ → ℕ → Bool) → List ℕ → Kind
kind_of e g = cond (leb (length g) 1) singleton (cond (adjacent e g g) clique independent)

unfoldable pub is_clique : Kind → Bool
is_clique singleton = false
is_clique independent = false
is_clique clique = true

-- keys: nodes counted from 1, exponent 3, wrapping at 32 bits
abbrev pub cube : ℕ → ℕ
cube p = (p + 1) * (p + 1) * (p + 1)

unfoldable pub sum_cubes : List ℕ → ℕ
sum_cubes [] = 0
sum_cubes (q ∷ qs) = cube q + sum_cubes qs

unfoldable pub open_key : View → ℕ → ℕ
open_key v p = sum_cubes (filter (v.edge p) v.nodes) % 2 ^ 32

unfoldable pub closed_key : View → ℕ → ℕ
closed_key v p = (sum_cubes (filter (v.edge p) v.nodes) + cube p) % 2 ^ 32
