-- Document 01, "Unfolding" and "A division": what a summary of a graph is, ours and every rival's.
use Rattle.std.specs.Prelude.{◌≡◌, Bool, not, ◌&&◌, ◌||◌, cond, ℕ, suc, ◌<◌, eqb, length, get_or}
use mathlib.Core.List.{List, [], ◌∷◌, Memᴰ}
use Rattle.model.specs.Lists.{◌∈◌, head_or, member, nodes}
use Rattle.model.specs.Graph.{View}
use Rattle.model.specs.Grouping.{adjacent, kind_of, is_clique}

-- groups by number, each of one class, any of them cliques, any pairs of different groups with a superedge
pub record Summary : Type 0 where
  pub count : ℕ
  pub group_of : ℕ → ℕ
  pub cliques : ℕ → Bool
  pub classes : ℕ → ℕ
  pub superedges : ℕ → ℕ → Bool

-- unfolding: a clique gives every pair inside, a superedge every pair across
unfoldable pub reconstruct : Summary → ℕ → ℕ → Bool
reconstruct d p q =
    cond (eqb (d.group_of p) (d.group_of q))
    (d.cliques (d.group_of p) && not (eqb p q))
    (d.superedges (d.group_of p) (d.group_of q) || d.superedges (d.group_of q) (d.group_of p))

-- the groups as nodes of a graph of their own, whose edges are the superedges between different ones
abbrev pub groups_of : Summary → View
groups_of d = record { nodes = nodes d.count; edge = λ i j. not (eqb i j) && (d.superedges i j || d.superedges j i); class = d.classes }

-- d puts each node in exactly one group of its class, none empty, and unfolds to exactly the edges among them
pub record Summarises (v : View) (d : Summary) : Type 0 where
  pub placed : (p : ℕ) → p ∈ v.nodes → d.group_of p < d.count
  pub inhabited : (i : ℕ) → i < d.count → (p : ℕ) × (p ∈ v.nodes) × (d.group_of p ≡ i)
  pub exact : (p q : ℕ) → p ∈ v.nodes → q ∈ v.nodes → reconstruct d p q ≡ v.edge p q
  pub classed : (p : ℕ) → p ∈ v.nodes → d.classes (d.group_of p) ≡ v.class p

-- p and q stand in one group of a list of groups
abbrev pub Share : List (List ℕ) → ℕ → ℕ → Type 0
Share gs p q = (g : List ℕ) × Memᴰ g gs × (p ∈ g) × (q ∈ g)

-- the place of p's group in a list of groups
unfoldable pub position : ℕ → List (List ℕ) → ℕ
position p [] = 0
position p (g ∷ gs) = cond (member p g) 0 (suc (position p gs))

-- groups of nodes, with their kinds and superedges by the edges, and the classes of their first members
unfoldable pub summary_of : View → List (List ℕ) → Summary
summary_of v gs = record {
  count = length gs;
  group_of = λ p. position p gs;
  cliques = λ i. is_clique (kind_of v.edge (get_or gs i []));
  classes = λ i. v.class (head_or 0 (get_or gs i []));
  superedges = λ i j. adjacent v.edge (get_or gs i []) (get_or gs j []);
}
