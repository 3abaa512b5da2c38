-- A walk over the bits of a row: the lowest bit of a word is taken and cleared, word after word.
use Rattle.std.specs.Prelude.{ℕ, ◌/◌, ◌%◌, Bool, cond, ◌&&◌, List, ◌==◌, nat_lt}
use Rattle.model.specs.Tables.{bit_at, edge_bit}

-- node q's bit in p's row is yet to come: x is what is left of word w
unfoldable pub ahead : List ℕ → ℕ → ℕ → ℕ → ℕ → Bool
ahead edges p w x q = cond (q / 64 == w) (bit_at x (q % 64)) (nat_lt w (q / 64) && edge_bit edges p q)
