-- The tables of a new graph, filled node by node.
use Rattle.std.specs.Prelude.{◌≡◌, cond, List, ◌≢◌, ℕ, ◌+◌, ◌*◌, ◌-◌, ◌<◌, ltb, eqb, length, get_or}
use Rattle.model.specs.Graph.{node_numbers}
use Rattle.model.specs.Grouping.{cube}
use Rattle.model.specs.Tables.{node_number}

-- without edges all nodes make one ring: p is followed by p + 1, the last by 0
unfoldable pub ring_next : ℕ → ℕ → ℕ
ring_next n p = cond (ltb (p + 1) n) (p + 1) 0

unfoldable pub ring_prev : ℕ → ℕ → ℕ
ring_prev n p = cond (eqb p 0) (n - 1) (p - 1)

-- node p's numbers are 0, next, prev, 0, 0, and everything else is as it was
pub record NodePut (p next prev : ℕ) (t after : List ℕ) : Type 0 where
  pub size : length after ≡ length t
  pub least_at : node_number after p 0 ≡ 0
  pub next_at : node_number after p 1 ≡ next
  pub prev_at : node_number after p 2 ≡ prev
  pub mark_at_lem : node_number after p 3 ≡ 0
  pub class_at_lem : node_number after p 4 ≡ 0
  pub off : (q k : ℕ) → q ≢ p → k < node_numbers → node_number after q k ≡ node_number t q k

-- the numbers of the first i nodes are written
pub record NodesFilled (n i : ℕ) (t after : List ℕ) : Type 0 where
  pub size : length after ≡ length t
  pub least : (p : ℕ) → p < i → node_number after p 0 ≡ 0
  pub next : (p : ℕ) → p < i → node_number after p 1 ≡ ring_next n p
  pub prev : (p : ℕ) → p < i → node_number after p 2 ≡ ring_prev n p
  pub mark : (p : ℕ) → p < i → node_number after p 3 ≡ 0
  pub class : (p : ℕ) → p < i → node_number after p 4 ≡ 0

-- the keys of the first i nodes are written
pub record KeysFilled (i : ℕ) (t after : List ℕ) : Type 0 where
  pub size : length after ≡ length t
  pub opened : (p : ℕ) → p < i → get_or after (2 * p) 0 ≡ 0
  pub closed : (p : ℕ) → p < i → get_or after (2 * p + 1) 0 ≡ cube p
