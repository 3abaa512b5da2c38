-- What a change of an edge does to the edge table and to the keys.
use Rattle.std.specs.Prelude.{◌≡◌, ℕ, ◌+◌, ◌-◌, ◌*◌, ◌%◌, ◌^◌, ◌<◌, Bool, cond, not, ◌&&◌, List, length, ◌==◌, slice_index}
use Rattle.model.specs.Lists.{filter, nodes}
use Rattle.model.specs.Graph.{Graph, max_nodes}
use Rattle.model.specs.Grouping.{cube, sum_cubes}
use Rattle.model.specs.Tables.{Tables, edge_bit}
use Rattle.model.specs.Updates.{is_pair}

-- three lent tables
abbrev pub lent : List ℕ → List ℕ → List ℕ → Tables
lent edges nodes keys = record { edges = edges; nodes = nodes; keys = keys }

-- stands for no node, where a node number is kept
abbrev pub no_node : ℕ
no_node = 65535

-- p is the first member of its group, by the first member of each node's
unfoldable pub leads : List ℕ → ℕ → Bool
leads least p = slice_index least p == p

-- words of 64 bits
abbrev pub Words : List ℕ → Type 0
Words t = (i : ℕ) → slice_index t i < 2 ^ 64

-- the bit for q in p's row is the other one, everything else is as it was
pub record Flipped (p q : ℕ) (t after : List ℕ) : Type 0 where
  pub size : length after ≡ length t
  pub words : Words t → Words after
  pub bits : (a b : ℕ) → b < max_nodes → edge_bit after a b ≡ cond (a == p && b == q) (not (edge_bit t a b)) (edge_bit t a b)

-- the edge between u and v is changed, in both rows
pub record Changed (u v : ℕ) (t after : List ℕ) : Type 0 where
  pub size : length after ≡ length t
  pub words : Words t → Words after
  pub bits : (a b : ℕ) → b < max_nodes → edge_bit after a b ≡ cond (is_pair u v a b) (not (edge_bit t a b)) (edge_bit t a b)

-- number k of node p's keys: 0 open, 1 closed
abbrev pub key_of : Graph → ℕ → ℕ → ℕ
key_of g p k = (sum_cubes (filter (g.edge p) (nodes g.node_count)) + k * cube p) % 2 ^ 32

-- a key with a cube put in or taken out, wrapping at 32 bits
unfoldable pub moved_key : Bool → ℕ → ℕ → ℕ
moved_key insert k x = cond insert ((k + x) % 2 ^ 32) ((k + (2 ^ 32 - x % 2 ^ 32)) % 2 ^ 32)

-- both keys of p are moved by the cube of q
pub record KeysMoved (insert : Bool) (p q : ℕ) (t after : List ℕ) : Type 0 where
  pub size : length after ≡ length t
  pub keys : (a k : ℕ) → k < 2 → slice_index after (2 * a + k) ≡ cond (a == p) (moved_key insert (slice_index t (2 * a + k)) (cube q)) (slice_index t (2 * a + k))

-- the keys of u are moved by the cube of v, and those of v by the cube of u
pub record KeysChanged (insert : Bool) (u v : ℕ) (t after : List ℕ) : Type 0 where
  pub size : length after ≡ length t
  pub keys :
      (a k : ℕ) → k < 2
      → slice_index after (2 * a + k)
      ≡ cond (a == u) (moved_key insert (slice_index t (2 * a + k)) (cube v)) (cond (a == v) (moved_key insert (slice_index t (2 * a + k)) (cube u)) (slice_index t (2 * a + k)))
