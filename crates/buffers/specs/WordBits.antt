-- The bits of a word as numbers.
use Rattle.std.specs.Prelude.{List, map, ℕ, ◌+◌}
use Rattle.model.specs.Tables.{bit_at}
use Rattle.buffers.specs.Scan.{scan}

-- the places of the bits of a word, ascending
unfoldable pub bits_of : ℕ → List ℕ
bits_of x = scan (bit_at x) 64 0

-- the numbers b + k for the bits k of a word, ascending
unfoldable pub bits_from : ℕ → ℕ → List ℕ
bits_from b x = map (λ k. b + k) (bits_of x)
