-- Bits put into the rows of an edge table.
use Rattle.std.specs.Prelude.{◌≡◌, Bool, not, ◌&&◌, ◌||◌, List, ℕ, ◌/◌, ◌%◌, ◌<◌, eqb, ltb, length}
use Rattle.model.specs.Graph.{max_nodes}
use Rattle.model.specs.Tables.{bit_at, edge_bit}

-- the bits of f are put in, everything else is as it was
pub record Added (f : ℕ → ℕ → Bool) (t after : List ℕ) : Type 0 where
  pub size : length after ≡ length t
  pub bits : (a b : ℕ) → b < max_nodes → edge_bit after a b ≡ (edge_bit t a b || f a b)

-- underway: with the rest put in, all will have been put in
pub record Adding (all rest : ℕ → ℕ → Bool) (t now : List ℕ) : Type 0 where
  pub size : length now ≡ length t
  pub bits : (a b : ℕ) → b < max_nodes → (edge_bit now a b || rest a b) ≡ (edge_bit t a b || all a b)

-- the bit for q in p's row
unfoldable pub one_bit : ℕ → ℕ → ℕ → ℕ → Bool
one_bit p q a b = eqb a p && eqb b q

-- the bit for p in q's row, and that for q in p's row too if both
unfoldable pub pair_bits : Bool → ℕ → ℕ → ℕ → ℕ → Bool
pair_bits both p q a b = one_bit q p a b || (both && one_bit p q a b)

-- a word as word w of p's row
unfoldable pub word_to : ℕ → ℕ → ℕ → ℕ → ℕ → Bool
word_to p w x a b = eqb a p && (eqb (b / 64) w && bit_at x (b % 64))

-- a set in p's row; its word w; its words from w on
unfoldable pub row_to : ℕ → List ℕ → ℕ → ℕ → Bool
row_to p set a b = eqb a p && edge_bit set 0 b

unfoldable pub row_word_to : ℕ → List ℕ → ℕ → ℕ → ℕ → Bool
row_word_to p set w a b = eqb (b / 64) w && row_to p set a b

unfoldable pub row_from : ℕ → List ℕ → ℕ → ℕ → ℕ → Bool
row_from p set w a b = not (ltb (b / 64) w) && row_to p set a b
