-- The search for the group that a node joins.
use Rattle.std.specs.Prelude.{◌≡◌, Bool, true, false, not, cond, ◌&&◌, ◌||◌, List, ℕ, zero, suc, ◌+◌, ◌*◌, ◌/◌, ◌%◌, ◌^◌, ◌≤◌, ◌<◌, eqb, ltb, get_or, take, drop, Option, Some, None, MatchOption}
use Rattle.std.specs.Int.Bits.{bit_xor}
use Rattle.model.specs.Graph.{Graph, max_nodes, row_words, whole}
use Rattle.model.specs.Grouping.{similar}
use Rattle.model.specs.Tables.{classed_in, edges_in, edges_of, graph_in, keys_of, node_number}

-- an edge table without a bit for a number n or above
pub record Within (n : ℕ) (edges : List ℕ) : Type 0 where
  pub small : n ≤ max_nodes
  pub edges_of_lem : edges ≡ edges_of (graph_in n edges)

-- the tables of edges and keys are those of a graph without loops
pub record Ready (n : ℕ) (edges keys : List ℕ) : Type 0 where
  pub small : n ≤ max_nodes
  pub loops : (p : ℕ) → edges_in n edges p p ≡ false
  pub edges_of_lem : edges ≡ edges_of (graph_in n edges)
  pub keys_of_lem : keys ≡ keys_of (graph_in n edges)

-- the least number from q on, of k in all, that passes; q + k if none does
unfoldable pub first_from : (ℕ → Bool) → ℕ → ℕ → ℕ
first_from P q zero = q
first_from P q (suc k) = cond (P q) q (first_from P (suc q) k)

-- the place x of the first of m that passes, or none where x is m
unfoldable pub found : ℕ → ℕ → Option ℕ
found m x = cond (ltb x m) (Some x) None

-- how many nodes are passed over at once
abbrev pub block : ℕ
block = 16

-- none passes from one number up to another
abbrev pub Passed : (ℕ → Bool) → ℕ → ℕ → Type 0
Passed P from to = (k : ℕ) → from ≤ k → k < to → P k ≡ false

-- a search up to m has got as far as r
abbrev pub Skipped : (ℕ → Bool) → ℕ → ℕ → ℕ → Type 0
Skipped P from m r = (from ≤ r) × (r ≤ m) × Passed P from r

-- a search below m got as far as a number below m, or passed all
abbrev pub NextFrom : (ℕ → Bool) → ℕ → ℕ → Option ℕ → Type 0
NextFrom P from m r = MatchOption r (Passed P from m) (λ q. Skipped P from m q × q < m)

-- the edges and classes of tables, nobody hidden
abbrev pub classed : ℕ → List ℕ → List ℕ → Graph
classed n edges table = classed_in n edges (λ p. node_number table p 4)

-- q, neither u nor w, is the least of its group, and u is similar to it
unfoldable pub joins : ℕ → List ℕ → List ℕ → ℕ → ℕ → ℕ → Bool
joins n edges table u w q = not (eqb q u) && (not (eqb q w) && (eqb (node_number table q 0) q && similar (whole (classed n edges table)) u q))

-- what the code looks at: key k of u and of q (0 open, 1 closed)
unfoldable pub key_agrees : List ℕ → ℕ → ℕ → ℕ → Bool
key_agrees keys k u q = eqb (get_or keys (2 * u + k) 0) (get_or keys (2 * q + k) 0)

unfoldable pub keys_agree : List ℕ → ℕ → ℕ → Bool
keys_agree keys u q = key_agrees keys 0 u q || key_agrees keys 1 u q

unfoldable pub same_class : List ℕ → ℕ → ℕ → Bool
same_class table u q = eqb (node_number table u 4) (node_number table q 4)

-- q, neither u nor w, is the least of a group that u may join by the keys and the class
unfoldable pub may_join : List ℕ → List ℕ → ℕ → ℕ → ℕ → Bool
may_join table keys u w q = keys_agree keys u q && (not (eqb q u) && (not (eqb q w) && (same_class table u q && eqb (node_number table q 0) q)))

-- node q's own bit in word i of a row
unfoldable pub own_bit : ℕ → ℕ → ℕ
own_bit q i = cond (eqb (q / 64) i) (2 ^ (q % 64)) 0

-- where word i of the rows of u and q may differ: nowhere for open rows, in their own bits for closed ones
unfoldable pub own_bits : Bool → ℕ → ℕ → ℕ → ℕ
own_bits closed u q i = cond closed (bit_xor (own_bit u i) (own_bit q i)) 0

-- the first k words of two rows differ in these bits only, and in all of them
unfoldable pub meets : Bool → ℕ → ℕ → List ℕ → List ℕ → ℕ → Bool
meets closed u q row other zero = true
meets closed u q row other (suc k) = eqb (bit_xor (get_or row k 0) (get_or other k 0)) (own_bits closed u q k) && meets closed u q row other k

-- node p's row
abbrev pub row_in : List ℕ → ℕ → List ℕ
row_in edges p = take row_words (drop (row_words * p) edges)

-- the rows are compared as closed ones where the open keys do not agree
unfoldable pub tried : List ℕ → List ℕ → List ℕ → ℕ → ℕ → List ℕ → ℕ → Bool
tried edges table keys u w row q = may_join table keys u w q && meets (not (key_agrees keys 0 u q)) u q row (row_in edges q) row_words
