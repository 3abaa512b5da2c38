-- Further laws of these definitions, which no proof here cites.
use Rattle.std.specs.Prelude.{◌≡◌, ℕ, List, length}
use Rattle.std.proofs.Common.{arith}
use Rattle.checks.specs.Slots.{Seen, slot_words}

-- no key so far
module _ {table keys : List ℕ} {k : ℕ} where
  pub seen_none : {slots : List ℕ} → length slots ≡ slot_words → Seen table keys k 0 slots
  seen_none size = record { size = size; taken = λ q l. absurd (omega arith) }
