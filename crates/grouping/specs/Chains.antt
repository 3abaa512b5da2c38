-- Leaders chained by a hash of their rows: rows of twins have one slot.
use Rattle.std.specs.Prelude.{◌≡◌, ℕ, zero, suc, ◌+◌, ◌-◌, ◌*◌, ◌/◌, ◌%◌, ◌^◌, ◌<◌, ◌≤◌, Bool, true, false, cond, ◌&&◌, List, length, ◌==◌, bit_xor, slice_index, Option, None, Some}
use Rattle.model.specs.Graph.{max_nodes, row_words}
use Rattle.masking.specs.Masking.{drawn}
use Rattle.search.specs.Search.{own_bit}
use Rattle.compressed.specs.Compressed.{alike}
use Rattle.grouping.specs.declared.Leaders.{Leaders}
use Rattle.grouping.specs.Least.{leading}

-- word w of node p's row, of the open or of the closed one
unfoldable pub row_word : List ℕ → Bool → ℕ → ℕ → ℕ
row_word edges closed p w = bit_xor (slice_index edges (row_words * p + w)) (cond closed (own_bit p w) 0)

-- a word rotated by nine places
unfoldable pub rotated : ℕ → ℕ
rotated h = bit_xor (h * 2 ^ 9 % 2 ^ 64) (h / 2 ^ 55)

abbrev pub unrotated : ℕ → ℕ
unrotated h = h

-- the first k words of a row added up bit by bit, what is there rotated before each
unfoldable pub hash_of : (ℕ → ℕ) → List ℕ → Bool → ℕ → ℕ → ℕ
hash_of rotate edges closed p zero = 0
hash_of rotate edges closed p (suc k) = bit_xor (rotate (hash_of rotate edges closed p k)) (row_word edges closed p k)

-- node p's own bit where the rotations leave it
unfoldable pub own_rotated : ℕ → ℕ
own_rotated p = 2 ^ ((p + 63 - 9 * (p / 64)) % 64)

abbrev pub slots : ℕ
slots = 1024

-- a slot from a word, by its halves
unfoldable pub slot_in : ℕ → ℕ
slot_in y = bit_xor (y % 2 ^ 32 * 2654435769) (y / 2 ^ 32 * 2246822519) / 2 ^ 20 % slots

unfoldable pub slot_for : ℕ → ℕ → ℕ
slot_for h k = slot_in (bit_xor (bit_xor h (k / 2 ^ 5)) (k / 2 ^ 23))

-- the slot of a row, by the words rotated and by the words as they stand
unfoldable pub row_slot : List ℕ → Bool → ℕ → ℕ
row_slot edges closed p = slot_for (hash_of rotated edges closed p row_words) (hash_of unrotated edges closed p row_words)

-- a slot moved by a class, and the slot of a row moved by the class of its node
unfoldable pub slot_in_class : ℕ → ℕ → ℕ
slot_in_class s class = (s + 167 * class) % slots

unfoldable pub classed_slot : List ℕ → (Bool → ℕ → ℕ) → Bool → ℕ → ℕ
classed_slot classes slot closed q = slot_in_class (slot closed q) (slice_index classes q)

-- u and q have one class, and their rows agree
unfoldable pub class_alike : List ℕ → List ℕ → Bool → ℕ → ℕ → Bool
class_alike edges classes closed u q = slice_index classes u == slice_index classes q && alike edges closed u q

-- tables of chains, of nodes counted from 1
pub record Links (u : ℕ) (t : Leaders) : Type 0 where
  pub last_size : length t.last ≡ slots
  pub earlier_size : length t.earlier ≡ max_nodes
  pub below : (s : ℕ) → s < slots → slice_index t.last s ≤ u
  pub falls : (c : ℕ) → c < max_nodes → slice_index t.earlier c ≤ c

-- the chains hold the leaders below u
pub record Chains (slot : ℕ → ℕ) (leads : ℕ → Bool) (u : ℕ) (t : Leaders) : Type 0 where
  pub last : (q : ℕ) → q < u → leads q ≡ true → q < slice_index t.last (slot q)
  pub earlier : (c q : ℕ) → q < c → c < u → leads c ≡ true → leads q ≡ true → slot q ≡ slot c → q < slice_index t.earlier c
  pub last_in : (s c : ℕ) → s < slots → slice_index t.last s ≡ suc c → (leads c ≡ true) × (slot c ≡ s)
  pub earlier_in : (c d : ℕ) → c < u → leads c ≡ true → slice_index t.earlier c ≡ suc d → (leads d ≡ true) × (slot d ≡ slot c)

-- the leader below u in u's slot that is alike, if there is one
pub record Met (slot : ℕ → ℕ) (leads twin : ℕ → Bool) (u : ℕ) (r : Option ℕ) : Type 0 where
  pub hit : (q : ℕ) → r ≡ Some q → (q < u) × (leads q ≡ true) × (twin q ≡ true)
  pub miss : r ≡ None → (q : ℕ) → q < u → leads q ≡ true → slot q ≡ slot u → twin q ≡ false

-- u is put into the chain of slot s if it leads, that is if l is u
pub record Entered (u s l : ℕ) (t after : Leaders) : Type 0 where
  pub links : Links (u + 1) after
  pub chains : (slot : ℕ → ℕ) (leads : ℕ → Bool) → ((q : ℕ) → slot q < slots) → slot u ≡ s → leads u ≡ (l == u) → Chains slot leads u t → Chains slot leads (u + 1) after

-- slots that tell rows apart: rows of u's class that agree with u's have its slot
pub record SlotsTell (edges classes : List ℕ) (slot : Bool → ℕ → ℕ) (u : ℕ) : Type 0 where
  pub small : (closed : Bool) (q : ℕ) → slot closed q < slots
  pub same : (closed : Bool) (q : ℕ) → q < u → class_alike edges classes closed u q ≡ true → slot closed q ≡ slot closed u

-- the chains of open and of closed rows, by their slots
pub record Sought (slot : Bool → ℕ → ℕ) (n : ℕ) (edges marks classes : List ℕ) (u : ℕ) (opens closeds : Leaders) : Type 0 where
  pub open_links : Links u opens
  pub closed_links : Links u closeds
  pub open_chains : Chains (slot false) (leading (drawn n edges marks classes)) u opens
  pub closed_chains : Chains (slot true) (leading (drawn n edges marks classes)) u closeds
