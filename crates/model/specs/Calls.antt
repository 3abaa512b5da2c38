-- Every call as a function of all that it is lent, giving all that it returns and leaves. Each has its reasons to be refused
-- in the order of document 01's table; a refused call leaves tables and buffers, and returns 0 for every other number.
use Rattle.std.specs.Prelude.{Bool, false, not, ◌||◌, List, [], ◌∷◌, ◌++◌, ℕ, ◌*◌, eqb, ltb, ℤ, length, drop}
use Rattle.model.specs.Graph.{Graph, empty_graph, whole}
use Rattle.model.specs.Grouping.{kind_of}
use Rattle.model.specs.Tables.{Tables, tables_of, graph_of, group_in, holds}
use Rattle.model.specs.Store.{dropping, is_full, is_kept, is_store, keeping, kept_graph, no_states, places_in, store_of, wrong_name, wrong_store}
use Rattle.model.specs.Refusals.{Reasons, judged, lengths, pair_reasons, wrong_size}
use Rattle.model.specs.Updates.{update_count, wrong_batch, updates_in, batch_graph, answers}
use Rattle.model.specs.Queries.{neighbours, leader_in, pairs, kind_number}
use Rattle.model.specs.Distance.{distance}
use Rattle.model.specs.Release.{is_visible, visible, visible_groups, superedge_count, release}
use Rattle.model.specs.Reading.{decode, is_release}

-- a lent buffer with xs written at its start; what stands beyond keeps its value
abbrev pub onto : {A : Type 0} → List A → List A → List A
onto xs out = xs ++ drop (length xs) out

-- open a graph without edges, with an empty store
pub record Opened : Type 0 where
  pub result : ℕ
  pub tables : Tables
  pub store : List ℕ

abbrev pub open_refused : Tables → List ℕ → ℕ → Opened
open_refused t s r = record { result = r; tables = t; store = s }

unfoldable pub open_reasons : ℕ → Tables → List ℕ → Reasons
open_reasons n t s = (wrong_size n (lengths t) || wrong_store n (length s), 11) ∷ []

unfoldable pub open_call : ℕ → Tables → List ℕ → Opened
open_call n t s =
    judged (open_reasons n t s) (open_refused t s)
    (record { result = 0; tables = tables_of (empty_graph n); store = store_of n no_states })

-- keep the graph under a name, drop a name: what becomes of the store
pub record Stored : Type 0 where
  pub result : ℕ
  pub store : List ℕ

abbrev pub store_refused : List ℕ → ℕ → Stored
store_refused s r = record { result = r; store = s }

unfoldable pub keep_reasons : ℕ → Tables → List ℕ → List ℕ → Reasons
keep_reasons n t s name =
    (wrong_size n (lengths t) || wrong_name n (length s) name, 11)
    ∷ (not (holds n t) || not (is_store n s), 12)
    ∷ (is_kept name (places_in n s), 22)
    ∷ (is_full (places_in n s), 23)
    ∷ []

unfoldable pub keep_call : ℕ → Tables → List ℕ → List ℕ → Stored
keep_call n t s name =
    judged (keep_reasons n t s name) (store_refused s)
    (record { result = 0; store = store_of n (keeping name (graph_of n t) (places_in n s)) })

unfoldable pub drop_reasons : ℕ → List ℕ → List ℕ → Reasons
drop_reasons n s name =
    (wrong_name n (length s) name, 11)
    ∷ (not (is_store n s), 12)
    ∷ (not (is_kept name (places_in n s)), 21)
    ∷ []

unfoldable pub drop_call : ℕ → List ℕ → List ℕ → Stored
drop_call n s name =
    judged (drop_reasons n s name) (store_refused s)
    (record { result = 0; store = store_of n (dropping name (places_in n s)) })

-- come back to the graph kept under a name: what becomes of the tables
pub record Filled : Type 0 where
  pub result : ℕ
  pub tables : Tables

abbrev pub fill_refused : Tables → ℕ → Filled
fill_refused t r = record { result = r; tables = t }

unfoldable pub restore_reasons : ℕ → Tables → List ℕ → List ℕ → Reasons
restore_reasons n t s name =
    (wrong_size n (lengths t) || wrong_name n (length s) name, 11)
    ∷ (not (is_store n s), 12)
    ∷ (not (is_kept name (places_in n s)), 21)
    ∷ []

unfoldable pub restore_call : ℕ → Tables → List ℕ → List ℕ → Filled
restore_call n t s name =
    judged (restore_reasons n t s name) (fill_refused t)
    (record { result = 0; tables = tables_of (kept_graph name (places_in n s)) })

-- apply a batch (a sheet)
pub record Applied : Type 0 where
  pub result : ℕ
  pub tables : Tables
  pub answers : List ℤ

abbrev pub apply_refused : Tables → List ℤ → ℕ → Applied
apply_refused t out r = record { result = r; tables = t; answers = out }

unfoldable pub apply_reasons : ℕ → Tables → List ℕ → List ℤ → Reasons
apply_reasons n t xs out =
    (wrong_size n (lengths t) || wrong_batch xs, 11)
    ∷ (not (holds n t), 12)
    ∷ (ltb (length out) (update_count xs), 18)
    ∷ []

unfoldable pub apply_call : ℕ → Tables → List ℕ → List ℤ → Applied
apply_call n t xs out =
    judged (apply_reasons n t xs out) (apply_refused t out)
    (record { result = 0; tables = tables_of (batch_graph (graph_of n t) (updates_in xs)); answers = onto (answers (graph_of n t) (updates_in xs)) out })

-- neighbours of p, each followed by the least member of its group; the count is of neighbours alone
pub record Listed : Type 0 where
  pub result : ℕ
  pub count : ℕ
  pub out : List ℕ

abbrev pub list_refused : List ℕ → ℕ → Listed
list_refused out r = record { result = r; count = 0; out = out }

unfoldable pub listing : (ℕ → ℕ) → List ℕ → List ℕ → Listed
listing leader ps out = record { result = 0; count = length ps; out = onto (pairs leader ps) out }

unfoldable pub neighbours_reasons : ℕ → Tables → ℕ → List ℕ → Reasons
neighbours_reasons n t p out =
    (wrong_size n (lengths t), 11)
    ∷ (not (holds n t), 12)
    ∷ (not (ltb p n), 14)
    ∷ (ltb (length out) (2 * length (neighbours (graph_of n t) p)), 18)
    ∷ []

unfoldable pub neighbours_call : ℕ → Tables → ℕ → List ℕ → Listed
neighbours_call n t p out =
    judged (neighbours_reasons n t p out) (list_refused out)
    (listing (leader_in (whole (graph_of n t))) (neighbours (graph_of n t) p) out)

-- tied or not
pub record Tied : Type 0 where
  pub result : ℕ
  pub yes : Bool

abbrev pub tied_refused : ℕ → Tied
tied_refused r = record { result = r; yes = false }

unfoldable pub tied_reasons : ℕ → Tables → ℕ → ℕ → Reasons
tied_reasons n t p q = (wrong_size n (lengths t), 11) ∷ (not (holds n t), 12) ∷ pair_reasons n p q

unfoldable pub tied_call : ℕ → Tables → ℕ → ℕ → Tied
tied_call n t p q =
    judged (tied_reasons n t p q) tied_refused
    (record { result = 0; yes = (graph_of n t).edge p q })

-- the group of p
pub record Grouped : Type 0 where
  pub result : ℕ
  pub least : ℕ
  pub kind : ℕ
  pub size : ℕ

abbrev pub group_refused : ℕ → Grouped
group_refused r = record { result = r; least = 0; kind = 0; size = 0 }

unfoldable pub group_reasons : ℕ → Tables → ℕ → Reasons
group_reasons n t p =
    (wrong_size n (lengths t), 11)
    ∷ (not (holds n t), 12)
    ∷ (not (ltb p n), 14)
    ∷ []

unfoldable pub group_call : ℕ → Tables → ℕ → Grouped
group_call n t p =
    judged (group_reasons n t p) group_refused
    (record {
      result = 0;
      least = leader_in (whole (graph_of n t)) p;
      kind = kind_number (kind_of (graph_of n t).edge (group_in (graph_of n t) p));
      size = length (group_in (graph_of n t) p);
    })

-- write a release: its visible nodes m, groups g, superedges s and length
pub record Released : Type 0 where
  pub result : ℕ
  pub nodes : ℕ
  pub groups : ℕ
  pub superedges : ℕ
  pub bytes : ℕ
  pub out : List ℕ

abbrev pub release_refused : List ℕ → ℕ → Released
release_refused out r = record { result = r; nodes = 0; groups = 0; superedges = 0; bytes = 0; out = out }

unfoldable pub release_reasons : ℕ → Tables → List ℕ → Reasons
release_reasons n t out =
    (wrong_size n (lengths t), 11)
    ∷ (not (holds n t), 12)
    ∷ (ltb (length out) (length (release (graph_of n t))), 18)
    ∷ []

-- what is written where the buffer is long enough
unfoldable pub released : Graph → List ℕ → Released
released g out = record {
  result = 0;
  nodes = length (visible g).nodes;
  groups = length (visible_groups g);
  superedges = superedge_count g;
  bytes = length (release g);
  out = onto (release g) out;
}

unfoldable pub release_call : ℕ → Tables → List ℕ → Released
release_call n t out =
    judged (release_reasons n t out) (release_refused out) (released (graph_of n t) out)

-- read a release back into tables
unfoldable pub read_reasons : ℕ → Tables → List ℕ → Reasons
read_reasons n t file =
    (wrong_size n (lengths t), 11)
    ∷ (not (is_release file), 19)
    ∷ (not (eqb (decode file).node_count n), 20)
    ∷ []

unfoldable pub read_call : ℕ → Tables → List ℕ → Filled
read_call n t file =
    judged (read_reasons n t file) (fill_refused t)
    (record { result = 0; tables = tables_of (decode file) })

-- neighbours of p, each followed by the least member of its group, asked of a file
unfoldable pub file_neighbours_reasons : List ℕ → ℕ → List ℕ → Reasons
file_neighbours_reasons file p out =
    (not (is_release file), 19)
    ∷ (not (is_visible (decode file) p), 14)
    ∷ (ltb (length out) (2 * length (neighbours (decode file) p)), 18)
    ∷ []

unfoldable pub file_neighbours_call : List ℕ → ℕ → List ℕ → Listed
file_neighbours_call file p out =
    judged (file_neighbours_reasons file p out) (list_refused out)
    (listing (leader_in (visible (decode file))) (neighbours (decode file) p) out)

-- the distance of p and q, asked of a file
pub record Measured : Type 0 where
  pub result : ℕ
  pub distance : ℕ

abbrev pub distance_refused : ℕ → Measured
distance_refused r = record { result = r; distance = 0 }

unfoldable pub file_distance_reasons : List ℕ → ℕ → ℕ → Reasons
file_distance_reasons file p q =
    (not (is_release file), 19)
    ∷ (not (is_visible (decode file) p) || not (is_visible (decode file) q), 14)
    ∷ []

unfoldable pub file_distance_call : List ℕ → ℕ → ℕ → Measured
file_distance_call file p q =
    judged (file_distance_reasons file p q) distance_refused
    (record { result = 0; distance = distance (visible (decode file)) p q })
