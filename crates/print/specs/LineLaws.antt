-- Laws of lines that are written piece by piece.
use Rattle.std.specs.Prelude.{List, ◌++◌, ℕ, ◌+◌, ◌≤◌, length}
use Rattle.std.proofs.Common.{append_assoc, arith, length-append}
use Rattle.buffers.specs.Wrote.{Wrote}
use Rattle.buffers.specs.WroteLaws.{wrote_length, wrote_then}

-- the room that is left after a piece
pub room_first : (bs cs : List ℕ) (at k : ℕ) → at + length (bs ++ cs) ≤ k → at + length bs ≤ k
room_first bs cs at k h = omega (arith, length-append bs cs)

pub room_then : {s : List ℕ} {at : ℕ} {bs t : List ℕ} {mid : ℕ} → Wrote s at bs t mid → (cs : List ℕ) → at + length (bs ++ cs) ≤ length s → mid + length cs ≤ length t
room_then {s} {at} {bs} {t} {mid} w cs h = omega (arith, length-append bs cs, w.place, wrote_length w)

-- a label with its number, and what follows
pub label_room : (l d r : List ℕ) (at k : ℕ) → at + length (l ++ (d ++ r)) ≤ k → at + length (l ++ d) ≤ k
label_room l d r at k h = omega (arith, length-append l d, length-append l (d ++ r), length-append d r)

pub label_next : {s : List ℕ} {at : ℕ} {t : List ℕ} {mid : ℕ} (l d r : List ℕ) → Wrote s at (l ++ d) t mid → at + length (l ++ (d ++ r)) ≤ length s → mid + length r ≤ length t
label_next {s} {at} {t} {mid} l d r w h = room_then w r (rw (append_assoc l d r) h)

pub label_then : {s : List ℕ} {at : ℕ} {t : List ℕ} {mid : ℕ} {u : List ℕ} {next : ℕ} (l d r : List ℕ) → Wrote s at (l ++ d) t mid → Wrote t mid r u next → Wrote s at (l ++ (d ++ r)) u next
label_then l d r a b = rw (append_assoc l d r) at (wrote_then a b)
