-- An edge table is symmetric: strips of 64 rows, transposed, against the words across the diagonal.
use Rattle.std.specs.Prelude.{◌≡◌, Bool, true, false, List, ℕ, ◌+◌, ◌*◌, ◌-◌, ◌/◌, ◌%◌, ◌^◌, ◌≤◌, ◌<◌, eqb, length, get_or}
use Rattle.std.specs.Bool.{beq}
use Rattle.model.specs.Lists.{all, nodes}
use Rattle.model.specs.Graph.{max_nodes, row_words}
use Rattle.model.specs.Tables.{bit_at, edge_bit}

-- every bit has its mirror
unfoldable pub symmetric : List ℕ → Bool
symmetric edges = all (nodes max_nodes) (λ p. all (nodes max_nodes) (λ q. beq (edge_bit edges p q) (edge_bit edges q p)))

-- no bit stands for a number from n to m, and for none from n on
abbrev pub InsideTo : ℕ → List ℕ → ℕ → Type 0
InsideTo n edges m = (p q : ℕ) → p < n → q < m → n ≤ q → edge_bit edges p q ≡ false

abbrev pub Inside : ℕ → List ℕ → Type 0
Inside n edges = InsideTo n edges max_nodes

-- the places whose digit k is 0
abbrev pub Zeros : ℕ → ℕ → Type 0
Zeros k mask = (c : ℕ) → c < 64 → bit_at mask c ≡ eqb (c / 2 ^ k % 2) 0

-- c with its binary digit k replaced by d
abbrev pub with_digit : ℕ → ℕ → ℕ → ℕ
with_digit k c d = c - c / 2 ^ k % 2 * 2 ^ k + d * 2 ^ k

-- of two rows f 0 and f 1, z is the one of number d after that number is exchanged with digit k of the columns
abbrev pub Crossed : ℕ → ℕ → ℕ → ℕ → ℕ → Type 0
Crossed k x y d z = (f : ℕ → ℕ) → f 0 ≡ x → f 1 ≡ y → (c : ℕ) → c < 64 → bit_at z c ≡ bit_at (f (c / 2 ^ k % 2)) (with_digit k c d)

-- the upper digit of the numbers of eight rows is exchanged with digit k of the columns and comes to be the lower one
pub record HalvesCrossed (k : ℕ) (x y : List ℕ) : Type 0 where
  pub size : length y ≡ 8
  pub bits : (e c : ℕ) → e < 8 → c < 64 → bit_at (get_or y e 0) c ≡ bit_at (get_or x (e / 2 + 4 * (c / 2 ^ k % 2)) 0) (with_digit k c (e % 2))

-- c with its binary digits s to s + 2 replaced by those of d
abbrev pub with_digits : ℕ → ℕ → ℕ → ℕ
with_digits s c d = c - c / 2 ^ s % 8 * 2 ^ s + d * 2 ^ s

-- the numbers of eight rows are exchanged with the digits s to s + 2 of the columns
pub record Exchanged (s : ℕ) (x y : List ℕ) : Type 0 where
  pub size : length y ≡ 8
  pub bits : (d c : ℕ) → d < 8 → c < 64 → bit_at (get_or y d 0) c ≡ bit_at (get_or x (c / 2 ^ s % 8) 0) (with_digits s c d)

-- the first m of eight words of a, so many words apart
pub record EightTaken (a : List ℕ) (at step m : ℕ) (x : List ℕ) : Type 0 where
  pub size : length x ≡ 8
  pub words : (d : ℕ) → d < m → get_or x d 0 ≡ get_or a (at + step * d) 0

-- the first m of eight words, put so many words apart
pub record EightPut (at step m : ℕ) (x b after : List ℕ) : Type 0 where
  pub size : length after ≡ length b
  pub put : (d : ℕ) → d < m → get_or after (at + step * d) 0 ≡ get_or x d 0
  pub others : (q : ℕ) → ((d : ℕ) → d < m → q ≡ at + step * d → ⊥) → get_or after q 0 ≡ get_or b q 0

-- Words from..to of a strip, eight rows at a time: those eight whose first word stands before t are exchanged, the others are as they
-- were. The rows are k, k + 8, .. (every 8 and 64 words) or 8 * k, 8 * k + 1, .. (every 64 and 8 words).
pub record Exchanging (every step s from to : ℕ) (a prior : List ℕ) (t : ℕ) (b : List ℕ) : Type 0 where
  pub size : length b ≡ 512
  pub done : (k w d c : ℕ) → k < 8 → from ≤ w → w < to → every * k + w < t → d < 8 → c < 64
      → bit_at (get_or b (every * k + w + step * d) 0) c ≡ bit_at (get_or a (every * k + w + step * (c / 2 ^ s % 8)) 0) (with_digits s c d)
  pub rest : (k w d : ℕ) → k < 8 → w < 8 → t ≤ every * k + w → d < 8 → get_or b (every * k + w + step * d) 0 ≡ get_or prior (every * k + w + step * d) 0

-- a strip of a table
pub record StripAt (edges : List ℕ) (at : ℕ) (strip : List ℕ) : Type 0 where
  pub size : length strip ≡ 512
  pub words : (k : ℕ) → k < 512 → get_or strip k 0 ≡ get_or edges (at + k) 0

-- words from..to of a strip, rows and columns exchanged
pub record Turned (a : List ℕ) (from to : ℕ) (b : List ℕ) : Type 0 where
  pub size : length b ≡ 512
  pub bits : (w r c : ℕ) → from ≤ w → w < to → r < 64 → c < 64 → bit_at (get_or b (row_words * r + w) 0) c ≡ bit_at (get_or a (row_words * c + w) 0) r

-- the columns of words from..to in the 64 rows of strip i
pub record Across (edges : List ℕ) (i from to : ℕ) (b : List ℕ) : Type 0 where
  pub size : length b ≡ 512
  pub bits : (w r c : ℕ) → from ≤ w → w < to → r < 64 → c < 64 → bit_at (get_or b (row_words * r + w) 0) c ≡ edge_bit edges (64 * i + c) (64 * w + r)

-- x has a bit from bit k on exactly if one of the words f 0 to f (m - 1) has
pub record Gathered (f : ℕ → ℕ) (k m x : ℕ) : Type 0 where
  pub each : x / 2 ^ k ≡ 0 → (r : ℕ) → r < m → f r / 2 ^ k ≡ 0
  pub none : ((r : ℕ) → r < m → f r / 2 ^ k ≡ 0) → x / 2 ^ k ≡ 0

-- the bits of strip i in words from..to have their mirrors
abbrev pub Even : ℕ → List ℕ → ℕ → ℕ → ℕ → Type 0
Even n edges i from to = (p q : ℕ) → p < n → q < n → p / 64 ≡ i → from ≤ q / 64 → q / 64 < to → edge_bit edges p q ≡ edge_bit edges q p

-- a test that tells Fact, or that the table is not symmetric
pub record Tells (Fact : Type 0) (edges : List ℕ) (r : Bool) : Type 0 where
  pub holds : r ≡ true → Fact
  pub fails : r ≡ false → symmetric edges ≡ false
