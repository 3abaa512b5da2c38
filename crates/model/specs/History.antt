-- Document 01, "What demand 3 compares": histories on tables, the plain graph beside them, and graphs alike in what is visible.
use Rattle.std.specs.Prelude.{◌≡◌, Bool, true, false, not, ◌&&◌, ◌||◌, List, [], ◌∷◌, ℕ, ◌<◌, ltb, ℤ, length}
use Rattle.model.specs.Lists.{same_list}
use Rattle.model.specs.Graph.{Graph, empty_graph}
use Rattle.model.specs.Tables.{Tables, graph_of, holds}
use Rattle.model.specs.Store.{Place, dropping, is_full, is_kept, keeping, kept_graph, no_states, store_of, wrong_name, wrong_store}
use Rattle.model.specs.Refusals.{Lengths, Reasons, judged, lengths, wrong_size}
use Rattle.model.specs.Steps.{Stepped, run}
use Rattle.model.specs.Updates.{answers, batch_graph, update_count, updates_in, wrong_batch}
use Rattle.model.specs.Release.{is_visible}
use Rattle.model.specs.Calls.{Applied, Filled, Opened, Stored, apply_call, drop_call, keep_call, onto, open_call, restore_call}

-- what calls find and leave: the tables and one store
pub record State : Type 0 where
  pub tables : Tables
  pub store : List ℕ

-- a call of a history by its arguments: an opening for n; a batch for n, with its numbers and the answer buffer; a keep, a
-- return or a drop for n, with the name
pub data Call : Type 0 where
  opening : ℕ → Call
  batch : ℕ → List ℕ → List ℤ → Call
  keep : ℕ → List ℕ → Call
  restore : ℕ → List ℕ → Call
  drop : ℕ → List ℕ → Call

-- what a call gives back; only a batch has answers
pub record Outcome : Type 0 where
  pub result : ℕ
  pub answers : List ℤ

abbrev pub number : ℕ → Outcome
number r = record { result = r; answers = [] }

abbrev pub open_step : Opened → Stepped State Outcome
open_step o = record { outcome = number o.result; after = record { tables = o.tables; store = o.store } }

abbrev pub apply_step : List ℕ → Applied → Stepped State Outcome
apply_step s a = record { outcome = record { result = a.result; answers = a.answers }; after = record { tables = a.tables; store = s } }

abbrev pub store_step : Tables → Stored → Stepped State Outcome
store_step t o = record { outcome = number o.result; after = record { tables = t; store = o.store } }

abbrev pub fill_step : List ℕ → Filled → Stepped State Outcome
fill_step s o = record { outcome = number o.result; after = record { tables = o.tables; store = s } }

-- each call finds what the last one left
unfoldable pub call_step : State → Call → Stepped State Outcome
call_step s (opening n) = open_step (open_call n s.tables s.store)
call_step s (batch n xs out) = apply_step s.store (apply_call n s.tables xs out)
call_step s (keep n name) = store_step s.tables (keep_call n s.tables s.store name)
call_step s (restore n name) = fill_step s.store (restore_call n s.tables s.store name)
call_step s (drop n name) = store_step s.tables (drop_call n s.store name)

-- what the plain side knows of the memory: its lengths
pub record Room : Type 0 where
  pub tables : Lengths
  pub store : ℕ

abbrev pub room_of : State → Room
room_of s = record { tables = lengths s.tables; store = length s.store }

-- what else it knows: the graph, and the names with the graphs kept under them, by their places; before the first opening, nothing
pub record Plain : Type 0 where
  pub graph : Graph
  pub places : List Place

abbrev pub unopened : Plain
unopened = record { graph = empty_graph 0; places = no_states }

abbrev pub plain_refused : Plain → List ℤ → ℕ → Stepped Plain Outcome
plain_refused p out r = record { outcome = record { result = r; answers = out }; after = p }

-- why it refuses a call: of memory and answer buffers it knows the lengths, so 12 never arises
abbrev pub open_why : Room → ℕ → Reasons
open_why l n = (wrong_size n l.tables || wrong_store n l.store, 11) ∷ []

abbrev pub batch_why : Room → ℕ → List ℕ → List ℤ → Reasons
batch_why l n xs out = (wrong_size n l.tables || wrong_batch xs, 11) ∷ (ltb (length out) (update_count xs), 18) ∷ []

abbrev pub keep_why : Room → List Place → ℕ → List ℕ → Reasons
keep_why l ps n name = (wrong_size n l.tables || wrong_name n l.store name, 11) ∷ (is_kept name ps, 22) ∷ (is_full ps, 23) ∷ []

abbrev pub restore_why : Room → List Place → ℕ → List ℕ → Reasons
restore_why l ps n name = (wrong_size n l.tables || wrong_name n l.store name, 11) ∷ (not (is_kept name ps), 21) ∷ []

abbrev pub drop_why : Room → List Place → ℕ → List ℕ → Reasons
drop_why l ps n name = (wrong_name n l.store name, 11) ∷ (not (is_kept name ps), 21) ∷ []

-- it is fed the calls' arguments only
unfoldable pub plain_step : Room → Plain → Call → Stepped Plain Outcome
plain_step l p (opening n) =
    judged (open_why l n) (plain_refused p [])
    (record { outcome = number 0; after = record { graph = empty_graph n; places = no_states } })
plain_step l p (batch n xs out) =
    judged (batch_why l n xs out) (plain_refused p out)
    (record {
      outcome = record { result = 0; answers = onto (answers p.graph (updates_in xs)) out };
      after = record { graph = batch_graph p.graph (updates_in xs); places = p.places };
    })
plain_step l p (keep n name) =
    judged (keep_why l p.places n name) (plain_refused p [])
    (record { outcome = number 0; after = record { graph = p.graph; places = keeping name p.graph p.places } })
plain_step l p (restore n name) =
    judged (restore_why l p.places n name) (plain_refused p [])
    (record { outcome = number 0; after = record { graph = kept_graph name p.places; places = p.places } })
plain_step l p (drop n name) =
    judged (drop_why l p.places n name) (plain_refused p [])
    (record { outcome = number 0; after = record { graph = p.graph; places = dropping name p.places } })

-- calls that leave what is kept under a name: no opening, and no drop of that name
abbrev pub spares : List ℕ → Call → Bool
spares t (opening n) = false
spares t (batch n xs out) = true
spares t (keep n name) = true
spares t (restore n name) = true
spares t (drop n name) = not (same_list name t)

unfoldable pub spare : List ℕ → List Call → Bool
spare t [] = true
spare t (c ∷ cs) = spares t c && spare t cs

-- where tables come from: a history whose first call is an opening that is done, or handed in from elsewhere, holding a graph
pub data Source : Type 0 where
  by_history : (s : State) (n : ℕ) (cs : List Call) → (call_step s (opening n)).outcome.result ≡ 0 → Source
  handed_in : (t : Tables) (n : ℕ) → wrong_size n (lengths t) ≡ false → holds n t ≡ true → Source

-- its history, and the plain side of it
abbrev pub history : State → ℕ → List Call → Stepped State (List Outcome)
history s n cs = run call_step s (opening n ∷ cs)

abbrev pub plain : State → ℕ → List Call → Stepped Plain (List Outcome)
plain s n cs = run (plain_step (room_of s)) unopened (opening n ∷ cs)

-- its tables, and its plain graph: of tables handed in, read off the edge bits, marks and classes
abbrev pub tables_of_source : Source → Tables
tables_of_source (by_history s n cs ok) = (history s n cs).after.tables
tables_of_source (handed_in t n w h) = t

abbrev pub graph_of_source : Source → Graph
graph_of_source (by_history s n cs ok) = (plain s n cs).after.graph
graph_of_source (handed_in t n w h) = graph_of n t

-- after its history the store is the one of the plain list
abbrev pub StoreTold : Source → Type 0
StoreTold (by_history s n cs ok) = (history s n cs).after.store ≡ store_of (plain s n cs).after.graph.node_count (plain s n cs).after.places
StoreTold (handed_in t n w h) = Unit {0}

-- every call of its history gave the number and the answers that the plain graph and list tell
abbrev pub CallsTold : Source → Type 0
CallsTold (by_history s n cs ok) = (history s n cs).outcome ≡ (plain s n cs).outcome
CallsTold (handed_in t n w h) = Unit {0}

-- equally many nodes, and the same ones hidden
pub record SameHidden (a b : Graph) : Type 0 where
  pub node_count : a.node_count ≡ b.node_count
  pub hidden : (p : ℕ) → p < a.node_count → a.hidden p ≡ b.hidden p

-- these, and the same edges among the rest and classes of them
pub record Alike (a b : Graph) : Type 0 where
  pub marks : SameHidden a b
  pub edge : (p q : ℕ) → is_visible a p ≡ true → is_visible a q ≡ true → a.edge p q ≡ b.edge p q
  pub class : (p : ℕ) → is_visible a p ≡ true → a.class p ≡ b.class p
