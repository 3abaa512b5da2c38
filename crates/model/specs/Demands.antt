-- The customer's demands (document 00) over the definitions that the code's contracts cite. Each is one record of claims; that
-- they hold is proved in DemandLaws (demand1, demand2, demand3). Every call of the code is equated with its definition in
-- Calls, so what is said here of open_call, apply_call, release_call and the others is said of the code.
use Rattle.std.specs.Prelude.{◌≡◌, Bool, true, false, not, ◌&&◌, ◌||◌, ◌↔◌, ℕ, ◌+◌, ◌*◌, ◌≤◌, ◌<◌, eqb, ℤ, pos, nat_abs}
use mathlib.Core.List.{List, [], ◌∷◌, map, Memᴰ}
use Rattle.std.proofs.Math.IntN.{sub_ℕ}
use Rattle.std.proofs.Math.ListN.{length}
use Rattle.model.specs.Graph.{Graph, Proper, View, empty_graph, whole}
use Rattle.model.specs.Lists.{◌∈◌, filter, nodes}
use Rattle.model.specs.Grouping.{algorithm1, similar}
use Rattle.model.specs.Summary.{Share, Summarises, Summary, summary_of}
use Rattle.model.specs.Tables.{Tables, graph_of, groups_in, tables_of}
use Rattle.model.specs.Store.{is_kept, kept_graph, places_in}
use Rattle.model.specs.Steps.{run}
use Rattle.model.specs.Refusals.{Reasons, first_of, lengths, wrong_size}
use Rattle.model.specs.Updates.{LeavesClasses, RevealsNobody, Update, answer, answers, asked, batch_graph, group_count, is_frozen, on_class, on_mark, refusal, refusal_in, there, update_reasons, updated, updates_in}
use Rattle.model.specs.Release.{release, superedge_count, visible, visible_groups, visible_part, is_visible}
use Rattle.model.specs.Reading.{summary_in}
use Rattle.model.specs.Queries.{leader_in, pairs}
use Rattle.model.specs.Distance.{Shortest, distance, distance_by, is_joined}
use Rattle.model.specs.Calls.{Applied, Filled, Grouped, Listed, Measured, Opened, Released, Stored, Tied, apply_call, apply_reasons, apply_refused, distance_refused, drop_call, drop_reasons, file_distance_call, file_distance_reasons, file_neighbours_call, file_neighbours_reasons, fill_refused, group_call, group_reasons, group_refused, keep_call, keep_reasons, list_refused, neighbours_call, neighbours_reasons, onto, open_call, open_reasons, open_refused, read_call, read_reasons, release_call, release_reasons, release_refused, released, restore_call, restore_reasons, store_refused, tied_call, tied_reasons, tied_refused}
use Rattle.model.specs.History.{Alike, Call, CallsTold, SameHidden, Source, State, StoreTold, call_step, graph_of_source, history, keep, number, opening, restore, spare, tables_of_source}
use Rattle.model.specs.Program.{accepted, input_of, max_bytes}

-- DEMAND 1. A call is refused by the listed numbers, each for its listed reason.
pub record Refuses {A : Type 0} (result : A → ℕ) (refused : ℕ → A) (numbers : List ℕ) (rs : Reasons) (call : A) : Type 0 where
  -- the numbers, in the order in which their reasons are tested
  pub listed : map (λ (r : Bool × ℕ). r.1) rs ≡ numbers
  -- the first whose reason holds is given; 0 where none does
  pub first : result call ≡ first_of rs
  -- and then every table and buffer is as it was, and all else that is returned is 0 and `no`
  pub kept : (result call ≡ 0 → ⊥) → call ≡ refused (result call)

pub record Demand1 : Type 0 where
  pub opening : (n : ℕ) (t : Tables) (s : List ℕ) → Refuses (λ (o : Opened). o.result) (open_refused t s) (11 ∷ []) (open_reasons n t s) (open_call n t s)
  pub batch : (n : ℕ) (t : Tables) (xs : List ℕ) (out : List ℤ) → Refuses (λ (o : Applied). o.result) (apply_refused t out) (11 ∷ 12 ∷ 18 ∷ []) (apply_reasons n t xs out) (apply_call n t xs out)
  -- an update of a batch: a refused one only writes its number among the answers
  pub update : (g : Graph) (c : Update) (cs : List Update) → Refuses (λ (o : ℕ × Graph × List ℤ). o.0) (λ r. (r, batch_graph g cs, pos r ∷ answers g cs))
      (13 ∷ 14 ∷ 15 ∷ 24 ∷ 16 ∷ []) (update_reasons g c) (refusal g c, batch_graph g (c ∷ cs), answers g (c ∷ cs))
  pub neighbours : (n : ℕ) (t : Tables) (p : ℕ) (out : List ℕ) → Refuses (λ (o : Listed). o.result) (list_refused out) (11 ∷ 12 ∷ 14 ∷ 18 ∷ []) (neighbours_reasons n t p out) (neighbours_call n t p out)
  pub tied : (n : ℕ) (t : Tables) (p q : ℕ) → Refuses (λ (o : Tied). o.result) tied_refused (11 ∷ 12 ∷ 14 ∷ 15 ∷ []) (tied_reasons n t p q) (tied_call n t p q)
  pub group : (n : ℕ) (t : Tables) (p : ℕ) → Refuses (λ (o : Grouped). o.result) group_refused (11 ∷ 12 ∷ 14 ∷ []) (group_reasons n t p) (group_call n t p)
  pub releasing : (n : ℕ) (t : Tables) (out : List ℕ) → Refuses (λ (o : Released). o.result) (release_refused out) (11 ∷ 12 ∷ 18 ∷ []) (release_reasons n t out) (release_call n t out)
  pub keeping : (n : ℕ) (t : Tables) (s name : List ℕ) → Refuses (λ (o : Stored). o.result) (store_refused s) (11 ∷ 12 ∷ 22 ∷ 23 ∷ []) (keep_reasons n t s name) (keep_call n t s name)
  pub restoring : (n : ℕ) (t : Tables) (s name : List ℕ) → Refuses (λ (o : Filled). o.result) (fill_refused t) (11 ∷ 12 ∷ 21 ∷ []) (restore_reasons n t s name) (restore_call n t s name)
  pub dropping : (n : ℕ) (s name : List ℕ) → Refuses (λ (o : Stored). o.result) (store_refused s) (11 ∷ 12 ∷ 21 ∷ []) (drop_reasons n s name) (drop_call n s name)
  pub reading : (n : ℕ) (t : Tables) (file : List ℕ) → Refuses (λ (o : Filled). o.result) (fill_refused t) (11 ∷ 19 ∷ 20 ∷ []) (read_reasons n t file) (read_call n t file)
  pub file_neighbours : (file : List ℕ) (p : ℕ) (out : List ℕ) → Refuses (λ (o : Listed). o.result) (list_refused out) (19 ∷ 14 ∷ 18 ∷ []) (file_neighbours_reasons file p out) (file_neighbours_call file p out)
  pub file_distance : (file : List ℕ) (p q : ℕ) → Refuses (λ (o : Measured). o.result) distance_refused (19 ∷ 14 ∷ []) (file_distance_reasons file p q) (file_distance_call file p q)
  -- the program's release buffer is never too short
  pub program : (bytes : List ℕ) (n : ℕ) (cs : List Update) → input_of bytes ≡ accepted n cs → length (release (batch_graph (empty_graph n) cs)) ≤ max_bytes

-- DEMAND 2. What the tables of a source tell, for its plain graph g.
pub record GroupedExactly (g : Graph) (t : Tables) : Type 0 where
  -- the groups are exactly those of Algorithm 1
  pub groups : groups_in g.node_count t.nodes ≡ algorithm1 (whole g)
  -- two nodes stand in one of them exactly if they are of one class and line 6 of Algorithm 1 holds for the two
  pub shared : (p q : ℕ) → p < g.node_count → q < g.node_count → Share (groups_in g.node_count t.nodes) p q ↔ (similar (whole g) p q ≡ true)
  -- unfolding them, with the kinds, superedges and classes that the tables tell, gives exactly the edges and classes that the
  -- accepted updates leave
  pub exact : Summarises (whole g) (summary_of (whole (graph_of g.node_count t)) (groups_in g.node_count t.nodes))

-- what an accepted update asks holds after it, and it answers with the groups after it minus the groups before it, from -2 to 2
pub record Answered (g : Graph) (c : Update) : Type 0 where
  pub effect : there (updated g c) c ≡ asked c
  pub difference : answer g c ≡ sub_ℕ (group_count (updated g c)) (group_count g)
  pub range : nat_abs (answer g c) ≤ 2
  -- an update of a mark leaves the groups as they are
  pub mark : on_mark c ≡ true → answer g c ≡ pos 0
  -- one of a class moves them by at most one
  pub class : on_class c ≡ true → nat_abs (answer g c) ≤ 1

-- the bytes are no graph's release, for any n to 512
abbrev pub NoRelease : List ℕ → Type 0
NoRelease file = (g : Graph) → Proper g → file ≡ release g → ⊥

-- a file is read into tables of the right size
pub record ReadExactly (n : ℕ) (t : Tables) (file : List ℕ) : Type 0 where
  -- 19 exactly if it is no graph's release
  pub none : (read_call n t file).result ≡ 19 ↔ NoRelease file
  -- 20 exactly if it is the release of a graph with another number of nodes
  pub other : (read_call n t file).result ≡ 20 ↔ ((g : Graph) × Proper g × (g.node_count ≡ n → ⊥) × (file ≡ release g))
  -- 0 exactly if it is the release of a graph with n nodes
  pub done : (read_call n t file).result ≡ 0 ↔ ((g : Graph) × Proper g × (g.node_count ≡ n) × (file ≡ release g))
  -- the tables are then those of the visible part, whose hidden nodes have no edges and class 0
  pub tables : (g : Graph) → Proper g → g.node_count ≡ n → file ≡ release g → (read_call n t file).tables ≡ tables_of (visible_part g)
  -- released again, it has the same bytes
  pub again : (read_call n t file).result ≡ 0 → (out : List ℕ) → length file ≤ length out
      → ((release_call n (read_call n t file).tables out).result ≡ 0) × ((release_call n (read_call n t file).tables out).out ≡ onto file out)

-- the visible nodes with an edge to p, ascending
unfoldable pub visible_neighbours : Graph → ℕ → List ℕ
visible_neighbours g p = filter (λ q. is_visible g q && g.edge p q) (nodes g.node_count)

-- l is the least of the nodes that a summary puts into p's group
pub record LeastOf (v : View) (d : Summary) (p l : ℕ) : Type 0 where
  pub node : l ∈ v.nodes
  pub same : d.group_of l ≡ d.group_of p
  pub least : (q : ℕ) → q ∈ v.nodes → d.group_of q ≡ d.group_of p → l ≤ q

-- the neighbours of p, asked of a file: 19 exactly if it is no graph's release
pub record AskedExactly (file : List ℕ) (p : ℕ) (out : List ℕ) : Type 0 where
  pub none : (file_neighbours_call file p out).result ≡ 19 ↔ NoRelease file
  -- of a graph's release: 14 unless p is visible in it; 18 if its visible neighbours find no room in pairs
  pub hidden : (g : Graph) → Proper g → file ≡ release g → is_visible g p ≡ false → file_neighbours_call file p out ≡ list_refused out 14
  pub short : (g : Graph) → Proper g → file ≡ release g → is_visible g p ≡ true → length out < 2 * length (visible_neighbours g p) → file_neighbours_call file p out ≡ list_refused out 18
  -- else they are written, each with the least visible member of its group in the visible part
  pub told : (g : Graph) → Proper g → file ≡ release g → is_visible g p ≡ true → 2 * length (visible_neighbours g p) ≤ length out
      → file_neighbours_call file p out ≡ record { result = 0; count = length (visible_neighbours g p); out = onto (pairs (leader_in (visible g)) (visible_neighbours g p)) out }
  -- which is the least of the group that the file puts it into
  pub grouped : (g : Graph) → Proper g → file ≡ release g → (q : ℕ) → is_visible g q ≡ true → LeastOf (visible g) (summary_in file) q (leader_in (visible g) q)

-- the distance of two visible nodes of g, asked of its release
pub record DistanceTold (g : Graph) (file : List ℕ) (p q : ℕ) : Type 0 where
  -- that in the visible part, the length of the shortest walk over its edges
  pub told : file_distance_call file p q ≡ record { result = 0; distance = distance (visible g) p q }
  pub shortest : Shortest (visible g) p q (distance (visible g) p q)
  -- it is that of their groups
  pub grouped : distance (visible g) p q ≡ distance_by (summary_in file) p q
  -- two members of an independent group are 2 apart if the group has any superedge
  pub independent : (p ≡ q → ⊥) → (summary_in file).group_of p ≡ (summary_in file).group_of q → (summary_in file).cliques ((summary_in file).group_of p) ≡ false
      → is_joined (summary_in file) ((summary_in file).group_of p) ≡ true → (file_distance_call file p q).distance ≡ 2

-- the distance of p and q, asked of a file: 19 exactly if it is no graph's release
pub record MeasuredExactly (file : List ℕ) (p q : ℕ) : Type 0 where
  pub none : (file_distance_call file p q).result ≡ 19 ↔ NoRelease file
  -- of a graph's release: 14 unless both are visible in it
  pub hidden : (g : Graph) → Proper g → file ≡ release g → (is_visible g p && is_visible g q) ≡ false → file_distance_call file p q ≡ distance_refused 14
  pub visible : (g : Graph) → Proper g → file ≡ release g → is_visible g p ≡ true → is_visible g q ≡ true → DistanceTold g file p q

-- after a history that leaves the state a: what is kept under a name, then calls that spare it
pub record ReturnsExactly (n : ℕ) (a : State) (name : List ℕ) (cs : List Call) : Type 0 where
  -- a keep that is done, then these calls: a return gives the tables as they were when it was kept, and leaves the store
  pub back : (call_step a (keep n name)).outcome.result ≡ 0
      → call_step (run call_step (call_step a (keep n name)).after cs).after (restore n name)
      ≡ record { outcome = number 0; after = record { tables = a.tables; store = (run call_step (call_step a (keep n name)).after cs).after.store } }
  -- a name that is kept stays, with its graph
  pub stays : is_kept name (places_in n a.store) ≡ true
      → (is_kept name (places_in n (run call_step a cs).after.store) ≡ true)
      × (kept_graph name (places_in n (run call_step a cs).after.store) ≡ kept_graph name (places_in n a.store))

pub record Demand2 : Type 0 where
  -- the graph of a history is the one since the last return or opening that was done, on top of the state it gave
  pub returning : (s : State) (n : ℕ) (cs : List Call) → (call_step s (opening n)).outcome.result ≡ 0 → (name : List ℕ) (ds : List Call) → spare name ds ≡ true → ReturnsExactly n (history s n cs).after name ds
  pub grouped : (x : Source) → GroupedExactly (graph_of_source x) (tables_of_source x)
  pub answered : (x : Source) (c : Update) → refusal (graph_of_source x) c ≡ 0 → Answered (graph_of_source x) c
  -- a release unfolds to the edges among visible nodes
  pub unfolded : (x : Source) → Summarises (visible (graph_of_source x)) (summary_in (release (graph_of_source x)))
  pub reading : (n : ℕ) (t : Tables) (file : List ℕ) → wrong_size n (lengths t) ≡ false → ReadExactly n t file
  pub asking : (file : List ℕ) (p : ℕ) (out : List ℕ) → AskedExactly file p out
  pub measuring : (file : List ℕ) (p q : ℕ) → MeasuredExactly file p q

-- DEMAND 3. What is claimed of one source: a history, refused calls included, or tables handed in; g is its plain graph.
pub record Faithful (x : Source) (g : Graph) (t : Tables) : Type 0 where
  -- the tables hold the plain graph, the store has the plain list, and every call gave the number and the answers that these tell
  -- from the arguments
  pub tables : t ≡ tables_of g
  pub store : StoreTold x
  pub calls : CallsTold x
  -- the release is document 01's file, with its m, g, s and length, in every buffer that is long enough
  pub written : (out : List ℕ) → length (release g) ≤ length out → release_call g.node_count t out ≡ released g out
  -- a shorter one is refused with 18 and left as it is
  pub short : (out : List ℕ) → length out < length (release g)
      → release_call g.node_count t out ≡ release_refused out 18
  pub bytes : length (release g) ≡ 10 + 6 * length (visible_groups g) + 2 * length (visible g).nodes + 6 * superedge_count g
  -- its groups unfold to the edges among visible nodes, each is of one class, and its head counts them
  pub summarises : Summarises (visible g) (summary_in (release g))
  pub counted : (summary_in (release g)).count ≡ length (visible_groups g)
  -- every other division of these nodes into groups of one class that unfolds to the same edges has at least as many groups
  pub fewest : (d : Summary) → Summarises (visible g) d → length (visible_groups g) ≤ d.count

-- what one batch did to tables of two graphs alike in what is visible; `leaves` says that it sets no hidden node's class
pub record AppliedAlike (n : ℕ) (leaves : Type 0) (a b : Applied) : Type 0 where
  pub result : a.result ≡ b.result
  -- the same updates are refused, by the same numbers, where it sets none
  pub refusals : leaves → map refusal_in a.answers ≡ map refusal_in b.answers
  -- and the graphs are alike in what is visible afterwards
  pub after : Alike (graph_of n a.tables) (graph_of n b.tables)

pub record Demand3 : Type 0 where
  pub each : (x : Source) → Faithful x (graph_of_source x) (tables_of_source x)
  -- two sources with equally many nodes, the same ones hidden and the same edges among the rest and classes of them: their releases
  -- are alike in every number and every byte, and a buffer is too short for the one exactly when it is too short for the other
  pub alike : (x y : Source) → Alike (graph_of_source x) (graph_of_source y) → (out : List ℕ)
      → release_call (graph_of_source x).node_count (tables_of_source x) out ≡ release_call (graph_of_source y).node_count (tables_of_source y) out
  -- an update of an edge that names a hidden node is refused, and by which number does not depend on any edge
  pub frozen : (a b : Graph) → SameHidden a b → (c : Update) → is_frozen a c ≡ true → (refusal a c ≡ 0 → ⊥) × (refusal a c ≡ refusal b c)
  -- marks are not frozen: whoever is hidden can be revealed
  pub revealed : (x : Source) (p : ℕ) → (graph_of_source x).hidden p ≡ true → refusal (graph_of_source x) (record { kind = 2; u = p; v = 0; wanted = 0 }) ≡ 0
  -- one batch that reveals nobody does not tell two sources apart that are alike in what is visible, but for the numbers from -2 to 2
  -- that accepted updates answer, since these count groups of the whole graph, and for 16 where it sets a hidden node's class
  pub batches : (x y : Source) → Alike (graph_of_source x) (graph_of_source y) → (xs : List ℕ) → RevealsNobody (graph_of_source x) (updates_in xs) → (out : List ℤ)
      → AppliedAlike (graph_of_source x).node_count (LeavesClasses (graph_of_source x) (updates_in xs)) (apply_call (graph_of_source x).node_count (tables_of_source x) xs out) (apply_call (graph_of_source y).node_count (tables_of_source y) xs out)
  -- every batch whose updates are of edges or classes, or to hide, is one that reveals nobody
  pub nobody : (g : Graph) (cs : List Update) → ((c : Update) → Memᴰ c cs → (not (on_mark c) || eqb c.wanted 1) ≡ true) → RevealsNobody g cs
  -- the number of a refusal is told by the answer
  pub told : (x : Source) (c : Update) → refusal_in (answer (graph_of_source x) c) ≡ refusal (graph_of_source x) c
