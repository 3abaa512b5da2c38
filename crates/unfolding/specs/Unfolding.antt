-- Rows unfolded from groups.
use Rattle.std.specs.Prelude.{◌≡◌, Bool, not, ◌&&◌, cond, List, ℕ, ◌+◌, ◌*◌, ◌<◌, eqb, length, get_or}
use Rattle.model.specs.Graph.{max_nodes, row_words}
use Rattle.model.specs.Tables.{bit_at, edge_bit}
use Rattle.rows.specs.Rows.{no_node}
use Rattle.compressed.specs.Compressed.{placed, unfolded}

-- a row has the bits of p's neighbours in the graph that arrays unfold to
pub record NeighbourRow (n : ℕ) (first kinds joined : List ℕ) (p : ℕ) (row : List ℕ) : Type 0 where
  pub bits : (q : ℕ) → q < max_nodes → edge_bit row 0 q ≡ (unfolded n first kinds joined).edge p q

-- first members have bits in a row
abbrev pub FirstsFit : ℕ → List ℕ → Type 0
FirstsFit n first = (q : ℕ) → q < n → (get_or first q 0 ≡ no_node → ⊥) → get_or first q 0 < max_nodes

-- whether a row has the bit of a first member
unfoldable pub join_bit : List ℕ → ℕ → Bool
join_bit row l = not (eqb l no_node) && edge_bit row 0 l

-- q is one of n nodes, and its first member is chosen
unfoldable pub reached : ℕ → List ℕ → (ℕ → Bool) → ℕ → Bool
reached n first P q = placed n first q && P (get_or first q 0)

-- a row has the bits of the nodes whose first members are chosen
pub record Spread (n : ℕ) (first : List ℕ) (P : ℕ → Bool) (row : List ℕ) : Type 0 where
  pub size : length row ≡ row_words
  pub bits : (q : ℕ) → q < max_nodes → edge_bit row 0 q ≡ reached n first P q

-- and p's bit is the other way
pub record SpreadBut (p n : ℕ) (first : List ℕ) (P : ℕ → Bool) (row : List ℕ) : Type 0 where
  pub bits : (q : ℕ) → q < max_nodes → edge_bit row 0 q ≡ cond (eqb q p) (not (reached n first P q)) (reached n first P q)

-- a word of a row has the bits of its nodes whose first members are chosen
pub record SpreadWord (w n : ℕ) (first : List ℕ) (P : ℕ → Bool) (x : ℕ) : Type 0 where
  pub bits : (k : ℕ) → k < 64 → bit_at x k ≡ reached n first P (64 * w + k)
