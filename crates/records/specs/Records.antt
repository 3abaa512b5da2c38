-- Document 01, "Release file": the record at the front of bytes, and the head's counts used up one by one.
use Rattle.std.specs.Prelude.{Bool, true, false, ◌&&◌, cond, List, [], ◌∷◌, ℕ, ◌+◌, ◌*◌, ◌-◌, eqb, ltb, leb, length, get_or, drop, Option, Some, None, option_map}
use Rattle.model.specs.Reading.{is_mark, u16_at}
use Rattle.records.specs.declared.Counts.{Counts}
use Rattle.records.specs.declared.Record.{Record}
use Rattle.records.specs.declared.Record.TheVariants.{Head, Group, Superedge, End}
use Rattle.records.specs.declared.Read.{Read}

-- one member, one group less than the head promised
unfoldable pub less_member : Counts → Option Counts
less_member c = cond (eqb c.members 0) None (Some (record { members = c.members - 1; groups = c.groups }))

unfoldable pub less_group : Counts → Option Counts
less_group c = cond (eqb c.groups 0) None (Some (record { members = c.members; groups = c.groups - 1 }))

-- both are 0
unfoldable pub spent : Counts → Bool
spent c = eqb c.members 0 && eqb c.groups 0

-- a record, if the bytes are as many as it has
unfoldable pub if_whole : List ℕ → ℕ → Record → Option Record
if_whole r size i = cond (leb size (length r)) (Some i) None

unfoldable pub head_item : List ℕ → Option Record
head_item r = if_whole r 8 (Head (u16_at r 2) (u16_at r 4) (u16_at r 6))

unfoldable pub group_item : Bool → List ℕ → Option Record
group_item clique r = if_whole r 6 (Group clique (u16_at r 2) (u16_at r 4))

unfoldable pub superedge_item : List ℕ → Option Record
superedge_item r = if_whole r 6 (Superedge (u16_at r 2) (u16_at r 4))

-- the record that bytes begin with, if they begin with one
unfoldable pub item_in : List ℕ → Option Record
item_in r =
    cond (ltb (length r) 2) None
    (cond (is_mark r 0x53 0x45) (superedge_item r)
    (cond (is_mark r 0x47 0x49) (group_item false r)
    (cond (is_mark r 0x47 0x43) (group_item true r)
    (cond (is_mark r 0x48 0x44) (head_item r)
    (cond (is_mark r 0x45 0x4E) (Some End) None)))))

unfoldable pub size_of : Record → ℕ
size_of (Head n m g) = 8
size_of (Group clique count class) = 6
size_of (Superedge first second) = 6
size_of End = 2

-- a record at a place, with the place after it
unfoldable pub read_as : ℕ → Record → Read
read_as at i = record { next = at + size_of i; item = i }

unfoldable pub mark_at : List ℕ → ℕ → List ℕ → Bool
mark_at s at mark = is_mark (drop at s) (get_or mark 0 0) (get_or mark 1 0)

unfoldable pub head_at : List ℕ → ℕ → Option Read
head_at s at = option_map (read_as at) (head_item (drop at s))

unfoldable pub group_at : Bool → List ℕ → ℕ → Option Read
group_at clique s at = option_map (read_as at) (group_item clique (drop at s))

unfoldable pub superedge_at : List ℕ → ℕ → Option Read
superedge_at s at = option_map (read_as at) (superedge_item (drop at s))

unfoldable pub record_at : List ℕ → ℕ → Option Read
record_at s at = option_map (read_as at) (item_in (drop at s))

-- the number of 32 bits at a place
unfoldable pub u32_at : List ℕ → ℕ → ℕ
u32_at s at = u16_at s at + 65536 * u16_at s (at + 2)

-- the four bytes that a superedge from group i begins with, as one number
unfoldable pub lead_of : ℕ → ℕ
lead_of i = u16_at (0x53 ∷ 0x45 ∷ []) 0 + 65536 * i

-- a superedge from group i
unfoldable pub is_from : ℕ → Option Record → Bool
is_from i (Some (Superedge first second)) = eqb first i
is_from i (Some (Head n m g)) = false
is_from i (Some (Group clique count class)) = false
is_from i (Some End) = false
is_from i None = false

-- the superedge at a place that goes from group i, or no record
unfoldable pub superedge_from : ℕ → List ℕ → ℕ → Option Read
superedge_from i s at = cond (is_from i (item_in (drop at s))) (record_at s at) None
