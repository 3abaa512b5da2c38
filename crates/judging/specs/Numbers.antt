-- Document 01's number for each case of a judged file: none is no release, some number is how many nodes the graph has.
use Rattle.std.specs.Prelude.{cond, ℕ, eqb, Option, Some, None}

-- to a question
unfoldable pub asked_number : Option ℕ → ℕ
asked_number None = 19
asked_number (Some m) = 0

-- to a reading for n
unfoldable pub read_number : ℕ → Option ℕ → ℕ
read_number n None = 19
read_number n (Some m) = cond (eqb m n) 0 20
