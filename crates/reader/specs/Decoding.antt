-- A release file read record by record: what is taken, what is left of the counts, and what the file tells.
use Rattle.std.specs.Prelude.{◌≡◌, Bool, true, false, not, ◌&&◌, ◌||◌, cond, List, [], ◌∷◌, ℕ, zero, suc, ◌+◌, ◌*◌, ◌-◌, ◌/◌, ◌≤◌, ◌<◌, eqb, ltb, leb, length, get_or, drop, replicate, Option, Some, None, option_and_then}
use Rattle.model.specs.Lists.{head_or, member}
use Rattle.model.specs.Graph.{max_classes, max_nodes, row_words}
use Rattle.model.specs.Reading.{after_groups, groups_at, superedges_at, u16_at, u16s}
use Rattle.model.specs.Reading as reading
use Rattle.model.specs.Release.{u16_limit}
use Rattle.model.specs.InOrder.{follows, pair_key, told_groups, told_superedges}
use Rattle.records.specs.declared.Counts.{Counts}
use Rattle.records.specs.declared.Record.{Record}
use Rattle.records.specs.declared.Record.TheVariants.{Head, Group, Superedge, End}
use Rattle.records.specs.Records.{item_in, less_group, less_member, record_at, spent}
use Rattle.drawing.specs.Drawing.{Added, Adding, pair_bits}
use Rattle.mirroring.specs.Mirroring.{StripsFor}
use Rattle.rows.specs.Rows.{leads, no_node}
use Rattle.compressed.specs.declared.Groups.{Groups}
use Rattle.compressed.specs.Compressed.{Told, class_of, first_at, first_member_of, kind_in, kind_marked, led_by, single}
use Rattle.sums.specs.Joined.{JoinedSummed, SumsAdded, SumsAdding, pair_cubes}
use Rattle.sums.specs.Sums.{Cubed}
use Rattle.reader.specs.declared.Taken.{Taken}
use Rattle.reader.specs.declared.Rest.{Rest}

-- count numbers from a place on
unfoldable pub numbers_at : List ℕ → ℕ → ℕ → List ℕ
numbers_at s at count = u16s count (drop at s)

-- those of them from the k-th on
unfoldable pub rest_at : List ℕ → ℕ → ℕ → ℕ → List ℕ
rest_at s at count k = numbers_at s (at + 2 * k) (count - k)

-- the head of a group record at a place, how many members it has, and who they are
unfoldable pub group_head : List ℕ → ℕ → reading.Head
group_head s at = record { clique = eqb (get_or s (at + 1) 0) 0x43; class = u16_at s (at + 4) }

unfoldable pub count_at : List ℕ → ℕ → ℕ
count_at s at = u16_at s (at + 2)

unfoldable pub listed_at : List ℕ → ℕ → List ℕ
listed_at s at = numbers_at s (at + 6) (count_at s at)

-- a group has a member, a clique two
unfoldable pub least_count : Bool → ℕ
least_count clique = cond clique 2 1

-- a node that has a group
unfoldable pub taken : List ℕ → ℕ → Bool
taken least p = not (eqb (get_or least p 0) no_node)

-- members taken one after the other: nodes of no group, ascending from low on, and one member less is left
unfoldable pub members_read : ℕ → (ℕ → Bool) → ℕ → Counts → List ℕ → Option Counts
members_read n f low c [] = Some c
members_read n f low c (x ∷ xs) = cond (leb low x && (ltb x n && not (f x))) (option_and_then (λ d. members_read n f (suc x) d xs) (less_member c)) None

-- the members have l, everybody else is as before
pub record LeastPut (ms : List ℕ) (l : ℕ) (t after : List ℕ) : Type 0 where
  pub size : length after ≡ length t
  pub least : (p : ℕ) → get_or after p 0 ≡ cond (member p ms) l (get_or t p 0)

-- underway: with the rest put, all will have been put, and from low on nothing is put
pub record LeastPutting (l : ℕ) (all rest : List ℕ) (low : ℕ) (t now : List ℕ) : Type 0 where
  pub size : length now ≡ length t
  pub least : (p : ℕ) → cond (member p rest) l (get_or now p 0) ≡ cond (member p all) l (get_or t p 0)
  pub above : (p : ℕ) → low ≤ p → get_or now p 0 ≡ get_or t p 0

pub record MembersRead (n low : ℕ) (c : Counts) (ms t after : List ℕ) (r : Option Counts) : Type 0 where
  pub result : r ≡ members_read n (taken t) low c ms
  pub size : length after ≡ length t
  pub put : (d : Counts) → r ≡ Some d → LeastPut ms (head_or 0 ms) t after

-- a group record taken, with its members
abbrev pub group_by : ℕ → (ℕ → Bool) → ℕ → Counts → List ℕ → ℕ → Option Record → Option Taken
group_by n f low c s at (Some (Group clique count class)) =
    cond (ltb class max_classes && (leb (least_count clique) count && leb (at + 6 + 2 * count) (length s)))
    (option_and_then (λ d. option_and_then (λ e. Some (record { kind = kind_marked clique count; class = class; first = u16_at s (at + 6); next = at + 6 + 2 * count; left = e })) (members_read n f low d (numbers_at s (at + 6) count))) (less_group c))
    None
group_by n f low c s at (Some (Head x y z)) = None
group_by n f low c s at (Some (Superedge x y)) = None
group_by n f low c s at (Some End) = None
group_by n f low c s at None = None

unfoldable pub group_taken : ℕ → (ℕ → Bool) → ℕ → Counts → List ℕ → ℕ → Option Taken
group_taken n f low c s at = group_by n f low c s at (item_in (drop at s))

pub record GroupTaken (n low : ℕ) (c : Counts) (s : List ℕ) (at : ℕ) (t after : List ℕ) (r : Option Taken) : Type 0 where
  pub result : r ≡ group_taken n (taken t) low c s at
  pub size : length after ≡ length t
  pub put : (a : Taken) → r ≡ Some a → LeastPut (listed_at s at) a.first t after

-- k groups taken one after the other
unfoldable pub groups_read : ℕ → ℕ → (ℕ → Bool) → ℕ → Counts → List ℕ → ℕ → Option Rest
groups_read n zero f low c s at = Some (record { next = at; left = c })
groups_read n (suc k) f low c s at = option_and_then (λ a. groups_read n k (λ p. member p (listed_at s at) || f p) (suc a.first) a.left s a.next) (group_taken n f low c s at)

-- k groups from a place on, and what follows them
unfoldable pub groups_from : List ℕ → ℕ → ℕ → List (reading.Head × List ℕ)
groups_from s at k = groups_at k (drop at s)

unfoldable pub bytes_after : List ℕ → ℕ → ℕ → List ℕ
bytes_after s at k = after_groups k (drop at s)

-- first members of groups, by position, as nodes with rows among so many words
pub record FirstsPlaced (g words : ℕ) (firsts : List ℕ) : Type 0 where
  pub few : g ≤ max_nodes
  pub size : g ≤ length firsts
  pub small : (i : ℕ) → i < g → get_or firsts i 0 < max_nodes
  pub rows : (i : ℕ) → i < g → row_words * get_or firsts i 0 + row_words ≤ words

-- they ascend, and are nodes of n
pub record FirstsAscend (n g : ℕ) (firsts : List ℕ) : Type 0 where
  pub small : (i : ℕ) → i < g → get_or firsts i 0 < n
  pub order : (i j : ℕ) → i < j → j < g → get_or firsts i 0 < get_or firsts j 0

-- underway: a number of each group that is read stands at its first member, 0 elsewhere
pub record NumbersLeft (number : reading.Head × List ℕ → ℕ) (all rest : List (reading.Head × List ℕ)) (least t : List ℕ) : Type 0 where
  pub size : length t ≡ max_nodes
  pub told : (p : ℕ) → p < max_nodes → cond (leads least p) (get_or t p 0) (led_by number rest p) ≡ led_by number all p
  pub others : (p : ℕ) → p < max_nodes → leads least p ≡ false → get_or t p 0 ≡ 0

-- underway: i groups are read, and those from the place on are not
pub record GroupsLeft (n g : ℕ) (c : Counts) (s : List ℕ) (from i low : ℕ) (left : Counts) (at : ℕ) (least firsts kinds classes : List ℕ) : Type 0 where
  pub result : groups_read n (g - i) (taken least) low left s at ≡ groups_read n g (λ p. false) 0 c s from
  pub nodes : length least ≡ max_nodes
  pub first : (p : ℕ) → p < max_nodes → cond (taken least p) (get_or least p 0) (first_member_of (groups_from s at (g - i)) p) ≡ first_member_of (groups_from s from g) p
  pub kind : NumbersLeft kind_in (groups_from s from g) (groups_from s at (g - i)) least kinds
  pub class : NumbersLeft class_of (groups_from s from g) (groups_from s at (g - i)) least classes
  pub led : (k : ℕ) → k < i → get_or firsts k 0 ≡ first_at (groups_from s from g) k
  pub ascend : FirstsAscend n i firsts
  pub passed : (k : ℕ) → k < i → get_or firsts k 0 < low
  pub shifted : (k : ℕ) → first_at (groups_from s from g) (i + k) ≡ first_at (groups_from s at (g - i)) k
  pub rest : bytes_after s at (g - i) ≡ bytes_after s from g

-- all groups are read: first members, kinds and classes stand in the arrays, and what follows the groups stands at the next place
pub record GroupsHeld (n g : ℕ) (s : List ℕ) (from next : ℕ) (least firsts kinds classes : List ℕ) : Type 0 where
  pub first : (p : ℕ) → p < max_nodes → get_or least p 0 ≡ first_member_of (groups_from s from g) p
  pub kind : (p : ℕ) → p < max_nodes → get_or kinds p 0 ≡ led_by kind_in (groups_from s from g) p
  pub class : (p : ℕ) → p < max_nodes → get_or classes p 0 ≡ led_by class_of (groups_from s from g) p
  pub led : (i : ℕ) → i < g → get_or firsts i 0 ≡ first_at (groups_from s from g) i
  pub ascend : FirstsAscend n g firsts
  pub rest : drop next s ≡ bytes_after s from g

pub record GroupsRead (n g : ℕ) (c : Counts) (s : List ℕ) (from : ℕ) (least firsts₀ firsts kinds classes : List ℕ) (r : Option Rest) : Type 0 where
  pub result : r ≡ groups_read n g (λ p. false) 0 c s from
  pub nodes : length least ≡ max_nodes
  pub groups : length kinds ≡ max_nodes
  pub labels : length classes ≡ max_nodes
  pub size : length firsts ≡ length firsts₀
  pub held : (a : Rest) → r ≡ Some a → GroupsHeld n g s from a.next least firsts kinds classes

-- the first place, among at most k records, without a superedge in order, and the superedges before it
abbrev pub on_superedge : {A : Type 0} → Option Record → (ℕ → ℕ → A) → A → A
on_superedge (Some (Superedge i j)) f a = f i j
on_superedge (Some End) f a = a
on_superedge (Some (Head n m g)) f a = a
on_superedge (Some (Group q count class)) f a = a
on_superedge None f a = a

unfoldable pub stop_at : ℕ → List ℕ → ℕ → ℕ → ℕ → ℕ
stop_at g s last zero at = at
stop_at g s last (suc k) at = on_superedge (item_in (drop at s)) (λ i j. cond (follows g last i j) (stop_at g s (pair_key i j) k (at + 6)) at) at

unfoldable pub pairs_to : ℕ → List ℕ → ℕ → ℕ → ℕ → List (ℕ × ℕ)
pairs_to g s last zero at = []
pairs_to g s last (suc k) at = on_superedge (item_in (drop at s)) (λ i j. cond (follows g last i j) ((i, j) ∷ pairs_to g s (pair_key i j) k (at + 6)) []) []

-- the bits of first members whose groups have a superedge: in the row of the later one, and in that of the earlier one too if both
unfoldable pub drawn_by : Bool → List ℕ → List (ℕ × ℕ) → ℕ → ℕ → Bool
drawn_by both firsts [] a b = false
drawn_by both firsts (x ∷ xs) a b = pair_bits both (get_or firsts x.0 0) (get_or firsts x.1 0) a b || drawn_by both firsts xs a b

-- what a superedge between p and q adds to the sum of l: nothing where superedges are many
unfoldable pub pair_adds : Bool → List ℕ → ℕ → ℕ → ℕ → ℕ
pair_adds few sums p q l = cond few (pair_cubes sums p q l) 0

-- and what superedges add
unfoldable pub added_by : Bool → List ℕ → List ℕ → List (ℕ × ℕ) → ℕ → ℕ
added_by few firsts sums [] l = 0
added_by few firsts sums (x ∷ xs) l = pair_adds few sums (get_or firsts x.0 0) (get_or firsts x.1 0) l + added_by few firsts sums xs l

-- the same for the superedges of one first group
unfoldable pub in_run : ℕ → ℕ → ℕ → ℕ → ℕ → Bool
in_run g i last a j = eqb a i && (ltb last j && ltb j g)

unfoldable pub run_stop : ℕ → ℕ → List ℕ → ℕ → ℕ → ℕ → ℕ
run_stop g i s last zero at = at
run_stop g i s last (suc k) at = on_superedge (item_in (drop at s)) (λ a j. cond (in_run g i last a j) (run_stop g i s j k (at + 6)) at) at

unfoldable pub run_pairs : ℕ → ℕ → List ℕ → ℕ → ℕ → ℕ → List (ℕ × ℕ)
run_pairs g i s last zero at = []
run_pairs g i s last (suc k) at = on_superedge (item_in (drop at s)) (λ a j. cond (in_run g i last a j) ((i, j) ∷ run_pairs g i s j k (at + 6)) []) []

pub record RunRead (g i : ℕ) (few : Bool) (s : List ℕ) (from : ℕ) (firsts joined₀ joined sums₀ sums : List ℕ) (r : ℕ) : Type 0 where
  pub place : r ≡ run_stop g i s i (length s) from
  pub drawn : Added (drawn_by few firsts (run_pairs g i s i (length s) from)) joined₀ joined
  pub summed : SumsAdded (added_by few firsts sums₀ (run_pairs g i s i (length s) from)) sums₀ sums

-- underway: what is still to be read of a run, in at most so many records
pub record RunLeft (g i : ℕ) (few : Bool) (s : List ℕ) (from : ℕ) (firsts joined₀ joined sums₀ sums : List ℕ) (last at : ℕ) : Type 0 where
  pub most : ℕ
  pub enough : length s ≤ at + most
  pub place : run_stop g i s last most at ≡ run_stop g i s i (length s) from
  pub drawn : Adding (drawn_by few firsts (run_pairs g i s i (length s) from)) (drawn_by few firsts (run_pairs g i s last most at)) joined₀ joined
  pub summed : SumsAdding (added_by few firsts sums₀ (run_pairs g i s i (length s) from)) (added_by few firsts sums₀ (run_pairs g i s last most at)) sums₀ sums

-- no superedge from a group before i stands in order at a place
abbrev pub RunsPassed : ℕ → List ℕ → ℕ → ℕ → ℕ → Type 0
RunsPassed g s i last at = (a j : ℕ) → item_in (drop at s) ≡ Some (Superedge a j) → a < i → follows g last a j ≡ false

-- underway: the runs of the groups before i are read
pub record RunsLeft (g : ℕ) (few : Bool) (s : List ℕ) (from : ℕ) (firsts joined₀ joined sums₀ sums : List ℕ) (i at : ℕ) : Type 0 where
  pub most : ℕ
  pub last : ℕ
  pub enough : length s ≤ at + most
  pub low : last ≤ i * u16_limit
  pub passed : RunsPassed g s i last at
  pub place : stop_at g s last most at ≡ stop_at g s 0 (length s) from
  pub drawn : Adding (drawn_by few firsts (pairs_to g s 0 (length s) from)) (drawn_by few firsts (pairs_to g s last most at)) joined₀ joined
  pub summed : SumsAdding (added_by few firsts sums₀ (pairs_to g s 0 (length s) from)) (added_by few firsts sums₀ (pairs_to g s last most at)) sums₀ sums

pub record SuperedgesRead (g : ℕ) (few : Bool) (s : List ℕ) (from : ℕ) (firsts joined₀ joined sums₀ sums : List ℕ) (r : ℕ) : Type 0 where
  pub place : r ≡ stop_at g s 0 (length s) from
  pub drawn : Added (drawn_by few firsts (pairs_to g s 0 (length s) from)) joined₀ joined
  pub summed : SumsAdded (added_by few firsts sums₀ (pairs_to g s 0 (length s) from)) sums₀ sums

-- few superedges for n nodes, by the length of the file: besides a group of eight bytes for each node, 64 superedges and four for each word of each row
unfoldable pub is_few : ℕ → ℕ → Bool
is_few bytes n = leb bytes (384 + (8 + 24 * ((n + 63) / 64)) * n)

-- superedges read both ways, and the sums of cubes kept if they are few
pub record JoinedRead (n g : ℕ) (s : List ℕ) (from : ℕ) (least firsts joined₀ joined sums : List ℕ) (r : ℕ) : Type 0 where
  pub place : r ≡ stop_at g s 0 (length s) from
  pub drawn : Added (drawn_by true firsts (pairs_to g s 0 (length s) from)) joined₀ joined
  pub size : length sums ≡ 2 * max_nodes
  pub cubed : is_few (length s) n ≡ true → Cubed n least sums
  pub summed : is_few (length s) n ≡ true → JoinedSummed joined sums

-- no more bytes or counts than the end record
abbrev pub on_end : Option Record → Bool → Bool
on_end (Some End) b = b
on_end (Some (Superedge i j)) b = false
on_end (Some (Head n m g)) b = false
on_end (Some (Group q count class)) b = false
on_end None b = false

unfoldable pub ends_at : Counts → List ℕ → ℕ → Bool
ends_at c s at = on_end (item_in (drop at s)) (spent c && eqb (at + 2) (length s))

-- at most 512 nodes, at most all of them visible, at most as many groups as visible nodes
unfoldable pub counts_fit : ℕ → ℕ → ℕ → Bool
counts_fit n m g = leb n max_nodes && (leb m n && leb g m)

abbrev pub on_head : {A : Type 0} → Option Record → (ℕ → ℕ → ℕ → A) → A → A
on_head (Some (Head n m g)) f a = f n m g
on_head (Some (Group q count class)) f a = a
on_head (Some (Superedge i j)) f a = a
on_head (Some End) f a = a
on_head None f a = a

abbrev pub on_whole : Option Rest → (ℕ → Counts → Bool) → Bool
on_whole (Some a) f = f a.next a.left
on_whole None f = false

-- after the head, which has 8 bytes: all groups, all superedges, the end
unfoldable pub body_fits : List ℕ → ℕ → ℕ → ℕ → Bool
body_fits s n m g = on_whole (groups_read n g (λ p. false) 0 (record { members = m; groups = g }) s 8) (λ next left. ends_at left s (stop_at g s 0 (length s) next))

unfoldable pub accepted : List ℕ → Bool
accepted s = on_head (item_in s) (λ n m g. counts_fit n m g && body_fits s n m g) false

unfoldable pub decoded : List ℕ → Option ℕ
decoded s = cond (accepted s) (Some (u16_at s 2)) None

-- how many nodes the head tells; 0 if the bytes are too few for a head
unfoldable pub nodes_in : List ℕ → ℕ
nodes_in s = cond (ltb (length s) 8) 0 (u16_at s 2)

-- rows without a bit, for as many nodes as the head tells
pub record BlankRows (s joined : List ℕ) : Type 0 where
  pub bits : joined ≡ replicate (length joined) 0
  pub room : nodes_in s ≤ max_nodes → StripsFor (nodes_in s) (length joined)

-- no node has a group, a kind, a class or a bit
pub record Blank (s least kinds classes joined : List ℕ) : Type 0 where
  pub nodes : least ≡ replicate max_nodes no_node
  pub groups : kinds ≡ replicate max_nodes single
  pub labels : classes ≡ replicate max_nodes 0
  pub rows : BlankRows s joined

-- and no sum
abbrev pub BlankGroups : List ℕ → Groups → List ℕ → Type 0
BlankGroups s groups joined = Blank s groups.least groups.kinds groups.classes joined × (groups.sums ≡ replicate (2 * max_nodes) 0)

-- the body of a file read: the arrays hold what it tells
pub record BodyRead (s : List ℕ) (n m g : ℕ) (least kinds classes joined sums : List ℕ) (r : Bool) : Type 0 where
  pub result : r ≡ body_fits s n m g
  pub nodes : length least ≡ max_nodes
  pub groups : length kinds ≡ max_nodes
  pub labels : length classes ≡ max_nodes
  pub rows : row_words * n ≤ length joined
  pub told : r ≡ true → Told (groups_from s 8 g) (superedges_at (length s) (bytes_after s 8 g)) least kinds classes joined
  pub size : length sums ≡ 2 * max_nodes
  pub cubed : r ≡ true → is_few (length s) n ≡ true → Cubed n least sums
  pub summed : r ≡ true → is_few (length s) n ≡ true → JoinedSummed joined sums

-- the answer, and what the arrays hold then
pub record Decodes (s least kinds classes joined : List ℕ) (r : Option ℕ) : Type 0 where
  pub result : r ≡ decoded s
  pub nodes : length least ≡ max_nodes
  pub groups : length kinds ≡ max_nodes
  pub labels : length classes ≡ max_nodes
  pub rows : accepted s ≡ true → row_words * u16_at s 2 ≤ length joined
  pub told : accepted s ≡ true → Told (told_groups s) (told_superedges s) least kinds classes joined

-- where superedges are few, the sums of cubes were kept
pub record SumsKept (s least joined sums : List ℕ) : Type 0 where
  pub size : length sums ≡ 2 * max_nodes
  pub cubed : accepted s ≡ true → is_few (length s) (u16_at s 2) ≡ true → Cubed (u16_at s 2) least sums
  pub summed : accepted s ≡ true → is_few (length s) (u16_at s 2) ≡ true → JoinedSummed joined sums

-- the head was just read
pub record AfterHead (s : List ℕ) (at : ℕ) (head : Record) : Type 0 where
  pub read : Some (record { next = at; item = head }) ≡ record_at s 0
