-- Sets of nodes as rows of bits, and the search from group to group.
use Rattle.std.specs.Prelude.{◌≡◌, Bool, true, false, ◌&&◌, List, ℕ, ◌*◌, ◌/◌, ◌%◌, ◌≤◌, ◌<◌, eqb, length, get_or}
use Rattle.model.specs.Lists.{any, nodes}
use Rattle.model.specs.Graph.{View, max_nodes, row_words}
use Rattle.model.specs.Summary.{Summary}
use Rattle.model.specs.Tables.{bit_at, edge_bit}
use Rattle.model.proofs.DistanceLaws.{within}
use Rattle.compressed.specs.Compressed.{clique}

-- the nodes with an edge from a chosen one, in row 0 of a table
unfoldable pub from_any : (ℕ → Bool) → List ℕ → ℕ → ℕ → Bool
from_any P joined a b = eqb a 0 && any (nodes max_nodes) (λ r. P r && edge_bit joined r b)

-- the nodes of a set, and those of a word as word w of one
abbrev pub in_set : List ℕ → ℕ → Bool
in_set set q = edge_bit set 0 q

unfoldable pub in_word : ℕ → ℕ → ℕ → Bool
in_word word w q = eqb (q / 64) w && bit_at word (q % 64)

-- a row has the bits of the nodes that are told
pub record SetOf (P : ℕ → Bool) (row : List ℕ) : Type 0 where
  pub size : length row ≡ row_words
  pub bits : (q : ℕ) → q < max_nodes → edge_bit row 0 q ≡ P q

-- two sets have a node in common
unfoldable pub have_common : List ℕ → List ℕ → Bool
have_common set other = any (nodes max_nodes) (λ q. edge_bit set 0 q && edge_bit other 0 q)

-- rows of superedges: of n nodes, and without direction
pub record SuperedgeRows (n : ℕ) (joined : List ℕ) : Type 0 where
  pub small : n ≤ max_nodes
  pub rows : row_words * n ≤ length joined
  pub inside : (p q : ℕ) → q < max_nodes → edge_bit joined p q ≡ true → q < n
  pub symmetric : (p q : ℕ) → p < max_nodes → q < max_nodes → edge_bit joined p q ≡ edge_bit joined q p

-- groups by their first members, with the superedges that rows tell
abbrev pub rows_view : ℕ → List ℕ → View
rows_view n joined = record { nodes = nodes n; edge = edge_bit joined; class = λ p. 0 }

-- the summary that arrays hold, its groups numbered by first members; distances ask for no class
unfoldable pub held_summary : ℕ → List ℕ → List ℕ → List ℕ → Summary
held_summary n least kinds joined = record {
  count = n;
  group_of = λ p. get_or least p 0;
  cliques = λ i. eqb (get_or kinds i 0) clique;
  classes = λ i. 0;
  superedges = edge_bit joined;
}

-- d steps of the search are done: who is seen, who is new among them, and j is not there
pub record Searching (n : ℕ) (joined : List ℕ) (i j d : ℕ) (seen frontier : List ℕ) : Type 0 where
  pub few : d ≤ n
  pub reached : SetOf (within (rows_view n joined) d i) seen
  pub size : length frontier ≡ row_words
  pub new : (q : ℕ) → q < max_nodes → edge_bit frontier 0 q ≡ true → within (rows_view n joined) d i q ≡ true
  -- from the others the search has gone on
  pub old : (q r : ℕ) → q < n → r < n → within (rows_view n joined) d i q ≡ true → edge_bit frontier 0 q ≡ false → edge_bit joined q r ≡ true → within (rows_view n joined) d i r ≡ true
  pub apart : within (rows_view n joined) d i j ≡ false
