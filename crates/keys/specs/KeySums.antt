-- The keys that rows tell: sums of cubes, by bits, by fours and by eights; and those of a twin.
use Rattle.std.specs.Prelude.{◌≡◌, ℕ, zero, suc, ◌+◌, ◌*◌, ◌/◌, ◌%◌, ◌^◌, ◌<◌, ◌≤◌, Bool, true, false, cond, ◌≢◌, List, length, slice_index, slice_index_or, slice_set}
use Rattle.model.specs.Lists.{nodes}
use Rattle.model.specs.Graph.{Graph, max_nodes, row_words, whole}
use Rattle.model.specs.Grouping.{cube, least, open_key, similar}
use Rattle.model.specs.Tables.{bit_at, classed_in, edge_bit, graph_in}
use Rattle.rows.specs.Rows.{key_of, moved_key}

-- p's row has no bit for a number n or above
abbrev pub RowInside : ℕ → List ℕ → ℕ → Type 0
RowInside n edges p = (q : ℕ) → q < max_nodes → edge_bit edges p q ≡ true → q < n

-- the open key that p's row tells
abbrev pub row_key : ℕ → List ℕ → ℕ → ℕ
row_key n edges p = open_key (whole (graph_in n edges)) p

-- the open key of a twin p of l, by the keys of l: true twins have equal closed keys, false twins equal open ones
unfoldable pub twin_key : List ℕ → Bool → ℕ → ℕ → ℕ
twin_key keys closed l p = cond closed (moved_key false (slice_index keys (2 * l + 1)) (cube p)) (slice_index keys (2 * l))

-- the cubes of four nodes, chosen by the binary digits of v
abbrev pub four_cubes : ℕ → ℕ → ℕ
four_cubes b v = v % 2 * cube (4 * b) + v / 2 % 2 * cube (4 * b + 1) + v / 4 % 2 * cube (4 * b + 2) + v / 8 % 2 * cube (4 * b + 3)

-- the first m sums of four cubes, for the nodes of word w
pub record FoursFilled (w m : ℕ) (sums : List ℕ) : Type 0 where
  pub size : length sums ≡ 256
  pub entries : (e : ℕ) → e < m → slice_index sums e ≡ four_cubes (16 * w + e / 16) (e % 16)

-- the cubes of eight nodes, four by four
unfoldable pub eight_cubes : ℕ → ℕ → ℕ
eight_cubes b v = four_cubes (2 * b) (v % 16) + four_cubes (2 * b + 1) (v / 16)

-- the first m sums of eight cubes, for the nodes of word w
pub record Widened (w m : ℕ) (sums : List ℕ) : Type 0 where
  pub size : length sums ≡ 2048
  pub entries : (e : ℕ) → e < m → slice_index sums e ≡ eight_cubes (8 * w + e / 256) (e % 256)

-- the cubes of the nodes whose bits stand in the first m places of word w
unfoldable pub word_cubes : ℕ → ℕ → ℕ → ℕ
word_cubes w x zero = 0
word_cubes w x (suc m) = word_cubes w x m + cond (bit_at x m) (cube (64 * w + m)) 0

-- and in the first m words of p's row
unfoldable pub row_cubes : List ℕ → ℕ → ℕ → ℕ
row_cubes edges p zero = 0
row_cubes edges p (suc m) = row_cubes edges p m + word_cubes m (slice_index edges (row_words * p + m)) 64

-- how many words of a row n nodes take
abbrev pub words_for : ℕ → ℕ
words_for n = (n + 63) / 64

-- word w of p's row is added to p's total if p leads, the totals of all others stay
pub record WordAdded (stride : ℕ) (lst edges : List ℕ) (w p : ℕ) (t after : List ℕ) : Type 0 where
  pub size : length after ≡ length t
  pub own : slice_index_or lst (stride * p) 0 ≡ p → slice_index after p ≡ (slice_index t p + word_cubes w (slice_index edges (row_words * p + w)) 64) % 2 ^ 32
  pub others : (q : ℕ) → q ≢ p → slice_index after q ≡ slice_index t q

-- the totals of the nodes below n that lead are the cubes of the first w words of their rows; each stride-th number of lst is a node's leader
pub record LeadersSummed (n stride : ℕ) (lst edges : List ℕ) (w : ℕ) (totals : List ℕ) : Type 0 where
  pub size : length totals ≡ max_nodes
  pub sums : (p : ℕ) → p < n → slice_index lst (stride * p) ≡ p → slice_index totals p ≡ row_cubes edges p w % 2 ^ 32

-- each of the first m nodes leads
pub record AllLead (m : ℕ) (lst : List ℕ) : Type 0 where
  pub size : length lst ≡ max_nodes
  pub own : (p : ℕ) → p < m → slice_index lst p ≡ p

-- lst has the least member of each node's group, by an edge table and classes
pub record LeastTold (n : ℕ) (edges : List ℕ) (class : ℕ → ℕ) (lst : List ℕ) : Type 0 where
  pub size : n ≤ length lst
  pub told : (p : ℕ) → p < n → slice_index lst p ≡ least (nodes n) (similar (whole (classed_in n edges class))) p

-- the keys of p are those of a row whose cubes add up to sum
pub record KeysPut (p sum : ℕ) (t after : List ℕ) : Type 0 where
  pub put : after ≡ slice_set (slice_set t (2 * p) sum) (2 * p + 1) ((sum + cube p) % 2 ^ 32)

-- the keys of the first i nodes of a graph are summed
pub record Summed (g : Graph) (i : ℕ) (t after : List ℕ) : Type 0 where
  pub size : length after ≡ length t
  pub keys : (p k : ℕ) → p < i → k < 2 → slice_index after (2 * p + k) ≡ key_of g p k
