-- Document 02, order 1: how many edges separate two nodes, and how their groups tell it.
use Rattle.std.specs.Prelude.{◌≡◌, Bool, true, false, not, ◌&&◌, cond, ◌⊎◌, ℕ, suc, zero, ◌≤◌, eqb, length}
use Rattle.model.specs.Lists.{any, filter, head_or, nodes}
use Rattle.model.specs.Graph.{View}
use Rattle.model.specs.Summary.{Summary, groups_of}

-- there is a walk (a chain) of k edges from p to q
unfoldable pub walk : View → ℕ → ℕ → ℕ → Bool
walk v zero p q = eqb p q
walk v (suc k) p q = any v.nodes (λ r. walk v k p r && v.edge r q)

-- the answer where no walk exists
abbrev pub unreachable : ℕ
unreachable = 65535

-- d is the length of the shortest walk from p to q, or there is no walk and d says so
pub record Shortest (v : View) (p q d : ℕ) : Type 0 where
  pub there : (walk v d p q ≡ true) ⊎ ((d ≡ unreachable) × ((k : ℕ) → walk v k p q ≡ false))
  pub least : (k : ℕ) → walk v k p q ≡ true → d ≤ k

-- the same as a number: the least length below the number of nodes, since a longer walk can be cut short (the laws)
unfoldable pub distance : View → ℕ → ℕ → ℕ
distance v p q = head_or unreachable (filter (λ k. walk v k p q) (nodes (length v.nodes)))

-- a group has a superedge
unfoldable pub is_joined : Summary → ℕ → Bool
is_joined d i = any (nodes d.count) ((groups_of d).edge i)

-- the distance of two nodes by their groups: in different ones that of the groups; in one, 1 in a clique, and 2 if there is a superedge
unfoldable pub distance_by : Summary → ℕ → ℕ → ℕ
distance_by d p q =
    cond (eqb p q) 0
    (cond (not (eqb (d.group_of p) (d.group_of q))) (distance (groups_of d) (d.group_of p) (d.group_of q))
    (cond (d.cliques (d.group_of p)) 1
    (cond (is_joined d (d.group_of p)) 2 unreachable)))
