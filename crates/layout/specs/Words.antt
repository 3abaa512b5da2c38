-- Superedges found word by word: the leaders as a set of bits, and the words of a row that hold them.
use Rattle.std.specs.Prelude.{◌≡◌, Bool, ◌&&◌, List, map, ℕ, ◌+◌, ◌*◌, ◌/◌, ◌%◌, ◌^◌, ◌≤◌, ◌<◌, ltb, length, get_or}
use Rattle.std.specs.Int.Bits.{bit_and}
use Rattle.model.specs.Tables.{edge_bit}
use Rattle.buffers.specs.Scan.{scan}
use Rattle.buffers.specs.WordBits.{bits_from}
use Rattle.layout.specs.File.{superedges_to}

-- q is in the set and has an edge to p
unfoldable pub marked_edge : List ℕ → List ℕ → ℕ → ℕ → Bool
marked_edge edges set p q = edge_bit set 0 q && edge_bit edges p q

-- of the word that holds node q's bit, the marked nodes from q on
unfoldable pub later_word : List ℕ → List ℕ → ℕ → ℕ → ℕ
later_word edges set p q = bit_and (get_or set (q / 64) 0) (get_or edges (8 * p + q / 64) 0) / 2 ^ (q % 64) * 2 ^ (q % 64)

-- the positions of the nodes b + k for the bits k of a word
unfoldable pub positions_of : List ℕ → ℕ → ℕ → List ℕ
positions_of position b x = map (λ q. get_or position q 0) (bits_from b x)

-- the records of the i-th group's superedges to the groups of the marked nodes from q on
unfoldable pub later_records : List ℕ → List ℕ → List ℕ → ℕ → ℕ → ℕ → List ℕ
later_records edges set position i p q = superedges_to i (map (λ x. get_or position x 0) (scan (marked_edge edges set p) 512 q))

-- a set of bits while it is made: the nodes below p that P chooses
pub record Marking (P : ℕ → Bool) (set : List ℕ) (p : ℕ) : Type 0 where
  pub size : length set ≡ 8
  pub words : (i : ℕ) → get_or set i 0 < 2 ^ 64
  pub bits : (q : ℕ) → q < 512 → edge_bit set 0 q ≡ (ltb q p && P q)

-- leaders are nodes, and ascend; there are rows for them
pub record AscendingLeaders (leaders : List ℕ) : Type 0 where
  pub few : length leaders ≤ 512
  pub below : (i : ℕ) → i < length leaders → get_or leaders i 0 < 512
  pub ascends : (i j : ℕ) → i < j → j < length leaders → get_or leaders i 0 < get_or leaders j 0

pub record Rowed (edges leaders : List ℕ) : Type 0 where
  pub few : length leaders ≤ 512
  pub below : (i : ℕ) → i < length leaders → get_or leaders i 0 < 512
  pub rows : (i : ℕ) → i < length leaders → 8 * get_or leaders i 0 + 8 ≤ length edges

-- the leaders as a set of bits; and the position of each leader
pub record LeaderSet (leaders set : List ℕ) : Type 0 where
  pub size : length set ≡ 8
  pub words : (i : ℕ) → get_or set i 0 < 2 ^ 64
  pub list : leaders ≡ scan (edge_bit set 0) 512 0

pub record LeaderPlaces (leaders position : List ℕ) : Type 0 where
  pub size : length position ≡ 512
  pub place : (i : ℕ) → i < length leaders → get_or position (get_or leaders i 0) 0 ≡ i
