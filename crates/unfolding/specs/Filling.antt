-- The edge table filled: the other members of groups drawn into the rows of first members, then all rows by these.
use Rattle.std.specs.Prelude.{◌≡◌, Bool, true, not, cond, ◌&&◌, ◌||◌, List, ◌⊎◌, ℕ, ◌+◌, ◌*◌, ◌/◌, ◌%◌, ◌≤◌, ◌<◌, eqb, ltb, length, get_or}
use Rattle.std.specs.Bool.{xor}
use Rattle.model.specs.Graph.{max_nodes, row_words}
use Rattle.model.specs.Tables.{bit_at, edge_bit}
use Rattle.rows.specs.Rows.{leads}
use Rattle.drawing.specs.Drawing.{row_to}
use Rattle.compressed.specs.Compressed.{clique, single}

-- the bits for which a key is k, and those for which it is k or more
unfoldable pub only_at : (ℕ → ℕ → ℕ) → (ℕ → ℕ → Bool) → ℕ → ℕ → ℕ → Bool
only_at key f k a b = eqb (key a b) k && f a b

unfoldable pub rest_from : (ℕ → ℕ → ℕ) → (ℕ → ℕ → Bool) → ℕ → ℕ → ℕ → Bool
rest_from key f k a b = not (ltb (key a b) k) && f a b

-- such keys: the node whose bit it is, the word of the node whose row it is, the first member of the node whose bit it is
abbrev pub column : ℕ → ℕ → ℕ
column a b = b

abbrev pub word_of : ℕ → ℕ → ℕ
word_of a b = a / 64

abbrev pub first_member : List ℕ → ℕ → ℕ → ℕ
first_member least a b = get_or least b 0

-- q's first member is another node
unfoldable pub is_follower : ℕ → List ℕ → ℕ → Bool
is_follower n least q = ltb q n && ltb (get_or least q 0) q

-- the members of each group but its first, as a row of that one; p alone
unfoldable pub other_bit : ℕ → List ℕ → ℕ → ℕ → Bool
other_bit n least a b = is_follower n least b && eqb a (get_or least b 0)

unfoldable pub other_at : List ℕ → ℕ → ℕ → ℕ → Bool
other_at least p a b = eqb b p && (ltb (get_or least b 0) b && eqb a (get_or least b 0))

-- a set in the rows of the nodes of word w of a row, in those of l's row, in l's own if l leads a clique
unfoldable pub each_to : ℕ → ℕ → List ℕ → ℕ → ℕ → Bool
each_to word w set a b = (eqb (a / 64) w && bit_at word (a % 64)) && edge_bit set 0 b

unfoldable pub joined_to : List ℕ → ℕ → List ℕ → ℕ → ℕ → Bool
joined_to joined l set a b = (ltb a max_nodes && edge_bit joined l a) && edge_bit set 0 b

unfoldable pub own_to : ℕ → ℕ → List ℕ → ℕ → ℕ → Bool
own_to kind l set a b = eqb kind clique && row_to l set a b

-- these nodes have rows in a table of so many words
pub record Room (size w word : ℕ) : Type 0 where
  pub row : (j : ℕ) → j < 64 → bit_at word j ≡ true → row_words * (64 * w + j) + row_words ≤ size

pub record RowRoom (size : ℕ) (joined : List ℕ) (l : ℕ) : Type 0 where
  pub row : (a : ℕ) → a < max_nodes → edge_bit joined l a ≡ true → row_words * a + row_words ≤ size

-- the other members of l's group belong into a's row: a is joined to l, or is l and the group a clique
unfoldable pub reaches : List ℕ → List ℕ → ℕ → ℕ → Bool
reaches kinds joined l a = (ltb a max_nodes && edge_bit joined l a) || (eqb (get_or kinds l 0) clique && eqb a l)

-- the other members of l's group, and of all groups, in the rows of first members
unfoldable pub group_to : List ℕ → List ℕ → List ℕ → ℕ → ℕ → ℕ → Bool
group_to kinds joined members l a b = not (eqb (get_or kinds l 0) single) && (reaches kinds joined l a && edge_bit members l b)

unfoldable pub drawn_bit : ℕ → List ℕ → List ℕ → List ℕ → ℕ → ℕ → Bool
drawn_bit n least kinds joined a b = is_follower n least b && reaches kinds joined (get_or least b 0) a

-- row l is copied to row p
pub record RowCopied (l p : ℕ) (t after : List ℕ) : Type 0 where
  pub size : length after ≡ length t
  pub words : (w : ℕ) → w < row_words → get_or after (row_words * p + w) 0 ≡ get_or t (row_words * l + w) 0
  pub others : (i : ℕ) → (i < row_words * p) ⊎ (row_words * p + row_words ≤ i) → get_or after i 0 ≡ get_or t i 0

-- a bit of p's row by that of its first member's row: in a clique their own bits differ
unfoldable pub follow_bit : ℕ → ℕ → ℕ → Bool → ℕ → Bool
follow_bit kind l p bit b = xor bit (eqb kind clique && (eqb b l || eqb b p))

-- p's row is by that of its first member l, if that is another; nothing else is changed
pub record Followed (kind l p : ℕ) (t after : List ℕ) : Type 0 where
  pub size : length after ≡ length t
  pub bits : (a b : ℕ) → b < max_nodes → edge_bit after a b ≡ cond (eqb a p && ltb l p) (follow_bit kind l p (edge_bit t l b) b) (edge_bit t a b)

-- the first members of the first n nodes are their own
pub record FirstsLead (n : ℕ) (least : List ℕ) : Type 0 where
  pub first : (p : ℕ) → p < n → get_or least p 0 < p → leads least (get_or least p 0) ≡ true

-- the rows of the first k nodes are by those of their first members
pub record Following (least kinds : List ℕ) (k : ℕ) (t after : List ℕ) : Type 0 where
  pub size : length after ≡ length t
  pub rows :
      (a b : ℕ) → a < k → b < max_nodes
      → edge_bit after a b
      ≡ cond (ltb (get_or least a 0) a) (follow_bit (get_or kinds (get_or least a 0) 0) (get_or least a 0) a (edge_bit t (get_or least a 0) b) b) (edge_bit t a b)
  pub later : (a b : ℕ) → k ≤ a → b < max_nodes → edge_bit after a b ≡ edge_bit t a b
