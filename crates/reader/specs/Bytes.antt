-- Bytes among numbers.
use Rattle.std.specs.Prelude.{ℕ, ◌<◌, List, get_or}

-- the numbers of a list are bytes
abbrev pub Bytes : List ℕ → Type 0
Bytes s = (i : ℕ) → get_or s i 0 < 256
