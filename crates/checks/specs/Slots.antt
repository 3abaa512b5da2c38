-- Slots for the keys of leaders: a key whose slot is free is new in its class.
use Rattle.std.specs.Prelude.{◌≡◌, ℕ, ◌+◌, ◌*◌, ◌/◌, ◌%◌, ◌<◌, Bool, true, List, length, slice_index}
use Rattle.model.specs.Graph.{max_nodes}
use Rattle.model.specs.Tables.{edge_bit, node_number}
use Rattle.drawing.specs.Drawing.{Added, one_bit}

abbrev pub slot_words : ℕ
slot_words = 1024

-- the slot of a key in a class: any number below 64 * slot_words would do
abbrev pub key_slot : ℕ → ℕ → ℕ
key_slot key class = (key + 257 * class) % 65521

-- the slot of a key is taken: slots are bits in rows, as those of edges
unfoldable pub is_taken : List ℕ → ℕ → ℕ → Bool
is_taken slots key class = edge_bit slots (key_slot key class / max_nodes) (key_slot key class % max_nodes)

-- the slots of key k of the leaders below u are taken
pub record Seen (table keys : List ℕ) (k u : ℕ) (slots : List ℕ) : Type 0 where
  pub size : length slots ≡ slot_words
  pub taken : (q : ℕ) → q < u → node_number table q 0 ≡ q → is_taken slots (slice_index keys (2 * q + k)) (node_number table q 4) ≡ true

-- the slot of a key is taken, and r says whether it was
pub record SlotTaken (key class : ℕ) (slots after : List ℕ) (r : Bool) : Type 0 where
  pub added : Added (one_bit (key_slot key class / max_nodes) (key_slot key class % max_nodes)) slots after
  pub was : r ≡ is_taken slots key class
