-- The demands hold.
use Rattle.std.specs.Prelude.{◌≡◌, Bool, not, ◌&&◌, ◌||◌, ◌↔◌, eqb, ltb, ℤ, pos, drop}
use Rattle.std.proofs.Math.Path.{refl, sym, ap, ap₂}
use Rattle.std.proofs.Common.{◌∙◌, arith}
use Rattle.std.proofs.Math.Bool.{true, false, cond}
use mathlib.Core.List.{List, ◌∷◌, ◌++◌, map, map-append}
use Prim.Native.Nat.{ℕ, ◌*◌, ◌≤◌, ◌<◌}
use Rattle.std.proofs.Math.ListN.{length}
use borrow.Author.Tests.{eqb-true, eq-eqb, ne_eqb, lt-ltb, le-ltb, ltb-true, eqb-false}
use Rattle.model.specs.Graph.{Graph, Proper, View, whole}
use Rattle.model.specs.Grouping.{algorithm1, least, similar}
use Rattle.model.specs.Summary.{Summarises, Summary}
use Rattle.model.specs.Tables.{Tables, graph_of, groups_in, tables_of}
use Rattle.model.specs.Refusals.{Lengths, first_of, lengths, pair_reasons, wrong_size, Reasons, judged}
use Rattle.model.specs.Updates.{LeavesClasses, RevealsNobody, Update, answers, batch_graph, refusal, refusal_in, update_reasons, updates_in}
use Rattle.model.specs.Release.{release, superedge_count, superedges, visible, visible_groups, visible_part, is_visible, visible_edge}
use Rattle.model.specs.Lists.{◌∈◌, all, nodes}
use Rattle.model.specs.Steps.{Stepped, run}
use Rattle.model.specs.Queries.{leader_in, neighbours}
use Rattle.model.specs.Distance.{distance, distance_by}
use Rattle.model.specs.Reading.{decode, is_release, summary_by, summary_in}
use Rattle.model.specs.Calls.{Filled, Listed, Measured, Released, apply_call, apply_reasons, apply_refused, distance_refused, drop_call, drop_reasons, file_distance_call, file_distance_reasons, file_neighbours_call, file_neighbours_reasons, fill_refused, group_call, group_reasons, keep_call, keep_reasons, list_refused, listing, neighbours_call, neighbours_reasons, onto, open_call, open_reasons, read_call, read_reasons, release_call, release_reasons, release_refused, released, restore_call, restore_reasons, tied_call, tied_reasons}
use Rattle.model.specs.History.{Alike, CallsTold, Room, Source, StoreTold, by_history, graph_of_source, handed_in, room_of, tables_of_source}
use Rattle.model.proofs.TestLaws.{differ, fails}
use Rattle.model.proofs.ListLaws.{Ascending, filter_cong, nodes_ascending, nodes_in_lem}
use Rattle.model.proofs.DistanceLaws.{distance_shortest}
use Rattle.model.proofs.TwinLaws.{Simple, similar_sym}
use Rattle.model.proofs.ClassLaws.{least_in, least-le, least_rel}
use Rattle.model.proofs.HiddenLaws.{seen_equivalence, seen_in}
use Rattle.model.proofs.SummaryLaws.{algorithm1_summarises, share_similar, similar_share}
use Rattle.model.proofs.GroupDistanceLaws.{distance_by_groups, summarises_unfolds}
use Rattle.model.proofs.FewestLaws.{fewest}
use Rattle.model.proofs.TableLaws.{graph_test, groups_told, held_proper, held_tables, proper_simple, read_back}
use Rattle.model.proofs.ReleaseLaws.{alike-visible, length-release, non_interference, visible_ascending, visible-simple, alike_node}
use Rattle.model.proofs.UpdateLaws.{answer-accepted, answer_near, answer-told, asked-holds, class_near, length-answers, mark_answer, proper_batch, reveal_accepted, update_refused_lem}
use Rattle.model.proofs.FrozenLaws.{batch_alike, frozen_refused, reveals_nobody}
use Rattle.model.proofs.HistoryLaws.{Kept, history-told, kept_graph_lem, kept_holds, kept_size, lengths_of, lengths_for, name_stays, opened-size, returned, right_size}
use Rattle.model.proofs.RefusalLaws.{first_passes, judged_refused, judged_related, judged_result}
use Rattle.model.proofs.ReadingLaws.{marked, summary_encode, told-count, told-similar, told_summarises}
use Rattle.model.proofs.ReadBackLaws.{decode-release, only_releases, release_is, visible-alike, visible_proper}
use Rattle.model.proofs.ProgramLaws.{program_fits}
use Rattle.model.specs.Demands.{AppliedAlike, AskedExactly, Demand1, Demand2, Demand3, DistanceTold, GroupedExactly, LeastOf, MeasuredExactly, NoRelease, ReadExactly, Refuses, visible_neighbours}

-- what a source's tables hold
pub kept : (x : Source) → Kept (lengths (tables_of_source x)) (graph_of_source x) (tables_of_source x)
kept (by_history s n cs ok) = record {
  tables = k.tables;
  proper = k.proper;
  fits = ap lengths k.tables ∙ lengths_of (graph_of_source (by_history s n cs ok));
}
  where
    k : Kept (room_of s).tables (graph_of_source (by_history s n cs ok)) (tables_of_source (by_history s n cs ok))
    k = (history-told s n cs ok).0.tables
kept (handed_in t n w h) = record {
  tables = held_tables n t h;
  proper = held_proper n t h (right_size n (lengths t) w).0;
  fits = (right_size n (lengths t) w).1 ∙ unfold graph_of in refl;
}

pub store_of : (x : Source) → StoreTold x
store_of (by_history s n cs ok) = (history-told s n cs ok).0.store.words
store_of (handed_in t n w h) = tt

pub calls_of : (x : Source) → CallsTold x
calls_of (by_history s n cs ok) = (history-told s n cs ok).1
calls_of (handed_in t n w h) = tt

-- DEMAND 1
refuses : {A : Type 0} (result : A → ℕ) (refused : ℕ → A) (numbers : List ℕ) (rs : Reasons) (done : A) → map (λ (r : Bool × ℕ). r.1) rs ≡ numbers → ((r : ℕ) → result (refused r) ≡ r) → result done ≡ 0
    → Refuses result refused numbers rs (judged rs refused done)
refuses result refused numbers rs done l k d = record {
  listed = l;
  first = e;
  kept = λ h. judged_refused rs refused done (λ z. h (e ∙ z)) ∙ ap refused (sym e);
}
  where
    e : result (judged rs refused done) ≡ first_of rs
    e = judged_result result rs refused done k d

-- a refused update of a batch
batch_refused : (g : Graph) (c : Update) (cs : List Update) → (refusal g c ≡ 0 → ⊥)
    → ◌≡◌ {A = ℕ × Graph × List ℤ} (refusal g c, batch_graph g (c ∷ cs), answers g (c ∷ cs)) (refusal g c, batch_graph g cs, pos (refusal g c) ∷ answers g cs)
unfolding batch_graph answers run
batch_refused g c cs h = ap (λ (x : Stepped Graph ℤ). (refusal g c, batch_graph x.after cs, x.outcome ∷ answers x.after cs)) (update_refused_lem g c h)

pub demand1 : Demand1
unfolding open_reasons open_call keep_reasons keep_call restore_reasons restore_call drop_reasons drop_call apply_reasons apply_call neighbours_reasons neighbours_call listing tied_reasons pair_reasons tied_call group_reasons group_call release_reasons release_call released read_reasons read_call file_neighbours_reasons file_neighbours_call file_distance_reasons file_distance_call update_reasons refusal
demand1 = record {
  opening = λ n t s. refuses _ _ _ _ _ refl (λ r. refl) refl;
  batch = λ n t xs out. refuses _ _ _ _ _ refl (λ r. refl) refl;
  update = λ g c cs. record { listed = refl; first = refl; kept = batch_refused g c cs };
  neighbours = λ n t p out. refuses _ _ _ _ _ refl (λ r. refl) refl;
  tied = λ n t p q. refuses _ _ _ _ _ refl (λ r. refl) refl;
  group = λ n t p. refuses _ _ _ _ _ refl (λ r. refl) refl;
  releasing = λ n t out. refuses _ _ _ _ _ refl (λ r. refl) refl;
  keeping = λ n t s name. refuses _ _ _ _ _ refl (λ r. refl) refl;
  restoring = λ n t s name. refuses _ _ _ _ _ refl (λ r. refl) refl;
  dropping = λ n s name. refuses _ _ _ _ _ refl (λ r. refl) refl;
  reading = λ n t file. refuses _ _ _ _ _ refl (λ r. refl) refl;
  file_neighbours = λ file p out. refuses _ _ _ _ _ refl (λ r. refl) refl;
  file_distance = λ file p q. refuses _ _ _ _ _ refl (λ r. refl) refl;
  program = program_fits;
}

-- the release call on tables that hold a graph
module _ (l : Lengths) (g : Graph) (t : Tables) (h : Kept l g t) where
  abbrev file : List ℕ
  file = release g

  pub release-told : (out : List ℕ) → release_call g.node_count t out ≡ cond (ltb (length out) (length file)) (release_refused out 18) (released g out)
  unfolding release_call release_reasons first_of
  release-told out = rw (kept_size h, kept_holds h g.node_count refl, kept_graph_lem h g.node_count refl) (step (ltb (length out) (length file)))
    where
      step : (b : Bool) → cond (eqb (cond b 18 0) 0) (released g out) (release_refused out (cond b 18 0)) ≡ cond b (release_refused out 18) (released g out)
      step true = refl
      step false = refl

  pub release-written : (out : List ℕ) → length file ≤ length out → release_call g.node_count t out ≡ released g out
  release-written out k = release-told out ∙ rw (le-ltb (length out) (length file) k)

  pub release_short : (out : List ℕ) → length out < length file → release_call g.node_count t out ≡ release_refused out 18
  release_short out k = release-told out ∙ rw (lt-ltb (length out) (length file) k)

-- the file of a proper graph tells a summary of its visible part
module _ (g : Graph) (h : Proper g) where
  abbrev gs : List (List ℕ)
  gs = algorithm1 (visible g)

  pub file_summary : summary_in (release g) ≡ summary_by (map (marked (visible g)) gs) (superedges (visible g).edge 0 gs)
  unfolding release
  file_summary = summary_encode g.node_count (visible g) gs

  pub file_summarises : Summarises (visible g) (summary_in (release g))
  file_summarises = rw file_summary (told_summarises (visible g) (visible-simple g h) (visible_ascending g))

  pub file_count : (summary_in (release g)).count ≡ length (visible_groups g)
  unfolding visible_groups
  file_count = ap (λ (d : Summary). d.count) file_summary ∙ told-count (visible g) (visible-simple g h) (visible_ascending g)

  pub file_least : (p : ℕ) → p ∈ (visible g).nodes → LeastOf (visible g) (summary_in (release g)) p (leader_in (visible g) p)
  unfolding leader_in
  file_least p m = record {
    node = seen;
    same = eqb-true _ _ (alike l p seen m ∙ similar_sym (visible g) p l (least_rel (visible g).nodes (similar (visible g)) (seen_equivalence g h) (visible_ascending g) p m));
    least = λ q k s. least-le (visible g).nodes (similar (visible g)) (seen_equivalence g h) (visible_ascending g) p q k (sym (alike p q m k) ∙ eq-eqb _ _ (sym s));
  }
    where
      l : ℕ
      l = least (visible g).nodes (similar (visible g)) p

      seen : l ∈ (visible g).nodes
      seen = least_in (visible g).nodes (similar (visible g)) (seen_equivalence g h) (visible_ascending g) p m

      alike : (x y : ℕ) → x ∈ (visible g).nodes → y ∈ (visible g).nodes → eqb ((summary_in (release g)).group_of x) ((summary_in (release g)).group_of y) ≡ similar (visible g) x y
      alike x y mx my = rw file_summary (told-similar (visible g) (visible-simple g h) (visible_ascending g) x y mx my)

-- DEMAND 2
grouped_exactly : (l : Lengths) (g : Graph) (t : Tables) → Kept l g t → GroupedExactly g t
grouped_exactly l g t h = record {
  groups = told;
  shared = λ p q hp hq. let mp = nodes_in_lem n p hp in let mq = nodes_in_lem n q hq in rw told (share_similar (whole g) simple asc p q mp mq, similar_share (whole g) simple asc p q mp mq);
  exact = rw (told, ap (graph_of n) h.tables ∙ read_back g h.proper) (algorithm1_summarises (whole g) simple asc);
}
  where
    n : ℕ
    n = g.node_count

    simple : Simple (whole g)
    simple = proper_simple g h.proper

    asc : Ascending (nodes g.node_count)
    asc = nodes_ascending g.node_count

    told : groups_in g.node_count t.nodes ≡ algorithm1 (whole g)
    told = ap (λ (x : Tables). groups_in g.node_count x.nodes) h.tables ∙ unfold tables_of in groups_told g h.proper

-- the bytes of a graph's release
module _ (file : List ℕ) (g : Graph) (h : Proper g) (same : file ≡ release g) where
  passes : is_release file ≡ true
  passes = ap is_release same ∙ release_is g h

  told : decode file ≡ visible_part g
  told = ap decode same ∙ decode-release g h

  told-view : visible (decode file) ≡ visible g
  told-view = ap visible told ∙ alike-visible (visible_part g) g (visible-alike g)

  told_node : (p : ℕ) → is_visible (decode file) p ≡ is_visible g p
  told_node p = ap (λ (x : Graph). is_visible x p) told ∙ alike_node (visible_part g) g (visible-alike g) p

-- what passes for a release is one
no_release : (file : List ℕ) → is_release file ≡ false ↔ NoRelease file
no_release file = (λ z g h same. differ (passes file g h same) z, λ none. fails (is_release file) (λ t. let b = only_releases file t in none b.0 b.1 b.2))

-- a question to a file: 19 stands first, and no other reason has it
only_19 : (file : List ℕ) (rest : Reasons) → all (map (λ (r : Bool × ℕ). r.1) rest) (λ r. ltb r 19) ≡ true → first_of ((not (is_release file), 19) ∷ rest) ≡ 19 ↔ NoRelease file
unfolding first_of
only_19 file rest less = (λ z. (no_release file).0 (first (is_release file) z), λ z. rw ((no_release file).1 z))
  where
    first : (a : Bool) → first_of ((not a, 19) ∷ rest) ≡ 19 → a ≡ false
    first true z = absurd (omega (arith, ltb-true (first_of rest) 19 (first_passes (λ r. ltb r 19) rest refl less)))
    first false z = refl

-- a file read into tables of the right size
module _ (n : ℕ) (t : Tables) (file : List ℕ) (w : wrong_size n (lengths t) ≡ false) where
  -- the number, by whether the bytes are a release and for n
  numbered : Bool → Bool → ℕ
  numbered a b = cond a (cond b 0 20) 19

  result-is : (read_call n t file).result ≡ numbered (is_release file) (eqb (decode file).node_count n)
  unfolding read_call read_reasons numbered first_of
  result-is =
      judged_result (λ (o : Filled). o.result) (read_reasons n t file) (fill_refused t) (record { result = 0; tables = tables_of (decode file) }) (λ r. refl) refl
      ∙ rw w (step (is_release file) (eqb (decode file).node_count n))
    where
      step : (a b : Bool) → cond (not a) 19 (cond (not b) 20 0) ≡ numbered a b
      step true true = refl
      step true false = refl
      step false b = refl

  by-19 : (a b : Bool) → numbered a b ≡ 19 → a ≡ false
  unfolding numbered
  by-19 true true z = absurd (omega arith)
  by-19 true false z = absurd (omega arith)
  by-19 false b z = refl

  by-20 : (a b : Bool) → numbered a b ≡ 20 → (a ≡ true) × (b ≡ false)
  unfolding numbered
  by-20 true true z = absurd (omega arith)
  by-20 true false z = (refl, refl)
  by-20 false b z = absurd (omega arith)

  by-0 : (a b : Bool) → numbered a b ≡ 0 → (a ≡ true) × (b ≡ true)
  unfolding numbered
  by-0 true true z = (refl, refl)
  by-0 true false z = absurd (omega arith)
  by-0 false b z = absurd (omega arith)

  -- of a release
  module _ (g : Graph) (h : Proper g) (same : file ≡ release g) where
    count : (decode file).node_count ≡ g.node_count
    count = ap (λ (x : Graph). x.node_count) (told file g h same) ∙ unfold visible_part in refl

    read_other : (g.node_count ≡ n → ⊥) → (read_call n t file).result ≡ 20
    read_other d = result-is ∙ rw (passes file g h same, count, ne_eqb g.node_count n d) (unfold numbered in refl)

    module _ (size : g.node_count ≡ n) where
      read_done : read_call n t file ≡ record { result = 0; tables = tables_of (visible_part g) }
      unfolding read_call read_reasons first_of visible_part
      read_done = rw (w, passes file g h same, told file g h same, eq-eqb g.node_count n size)

      -- released again
      read_again : (out : List ℕ) → length file ≤ length out
          → ((release_call n (read_call n t file).tables out).result ≡ 0) × ((release_call n (read_call n t file).tables out).out ≡ onto file out)
      read_again out k = rw call (unfold released in (refl, ap (λ (s : List ℕ). onto s out) back))
        where
          v : Proper (visible_part g)
          v = visible_proper g h.small (graph_test g h)

          back : release (visible_part g) ≡ file
          back = non_interference (visible_part g) g (visible-alike g) ∙ sym same

          kept-part : Kept (lengths_for n) (visible_part g) (tables_of (visible_part g))
          kept-part = record { tables = refl; proper = v; fits = unfold visible_part in ap lengths_for (sym size) }

          part_size : n ≡ (visible_part g).node_count
          part_size = unfold visible_part in sym size

          call : release_call n (read_call n t file).tables out ≡ released (visible_part g) out
          call =
              ap₂ (λ (m : ℕ) (x : Filled). release_call m x.tables out) part_size read_done
              ∙ release-written (lengths_for n) (visible_part g) (tables_of (visible_part g)) kept-part out (rw back k)

  read_only : (read_call n t file).result ≡ 0 → (g : Graph) × Proper g × (g.node_count ≡ n) × (file ≡ release g)
  read_only z =
      let r = by-0 (is_release file) (eqb (decode file).node_count n) (sym result-is ∙ z) in
      let b = only_releases file r.0 in
      (b.0, b.1, sym (count b.0 b.1 b.2) ∙ eqb-true (decode file).node_count n r.1, b.2)

  other-only : (read_call n t file).result ≡ 20 → (g : Graph) × Proper g × (g.node_count ≡ n → ⊥) × (file ≡ release g)
  other-only z =
      let r = by-20 (is_release file) (eqb (decode file).node_count n) (sym result-is ∙ z) in
      let b = only_releases file r.0 in
      (b.0, b.1, λ e. eqb-false (decode file).node_count n r.1 (count b.0 b.1 b.2 ∙ e), b.2)

  read-exactly : ReadExactly n t file
  read-exactly = record {
    none = (
      λ z. (no_release file).0 (by-19 (is_release file) (eqb (decode file).node_count n) (sym result-is ∙ z)),
      λ z. result-is ∙ rw ((no_release file).1 z) (unfold numbered in refl),
    );
    other = (other-only, λ x. read_other x.0 x.1 x.3 x.2);
    done = (read_only, λ x. ap (λ (o : Filled). o.result) (read_done x.0 x.1 x.3 x.2));
    tables = λ g h s e. ap (λ (x : Filled). x.tables) (read_done g h e s);
    again = λ ok. let b = read_only ok in read_again b.0 b.1 b.3 b.2;
  }

-- a file asked for neighbours
module _ (file : List ℕ) (p : ℕ) (out : List ℕ) where
  module _ (g : Graph) (h : Proper g) (same : file ≡ release g) where
    listed : is_visible g p ≡ true → neighbours (visible_part g) p ≡ visible_neighbours g p
    unfolding neighbours visible_part visible_edge visible_neighbours
    listed v = filter_cong (λ q. is_visible g p && (is_visible g q && g.edge p q)) (λ q. is_visible g q && g.edge p q) (nodes g.node_count) (λ q m. rw v)

    asked : (b : Bool) → is_visible g p ≡ b
        → file_neighbours_call file p out ≡ cond b (cond (ltb (length out) (2 * length (neighbours (visible_part g) p))) (list_refused out 18) (listing (leader_in (visible g)) (neighbours (visible_part g) p) out)) (list_refused out 14)
    unfolding file_neighbours_call file_neighbours_reasons first_of
    asked b e = rw (passes file g h same, told_node file g h same p ∙ e, told-view file g h same, told file g h same) (step b (ltb (length out) (2 * length (neighbours (visible_part g) p))))
      where
        done : Listed
        done = listing (leader_in (visible g)) (neighbours (visible_part g) p) out

        step : (b c : Bool) → cond (eqb (cond (not b) 14 (cond c 18 0)) 0) done (list_refused out (cond (not b) 14 (cond c 18 0))) ≡ cond b (cond c (list_refused out 18) done) (list_refused out 14)
        step true true = refl
        step true false = refl
        step false c = refl

  asked-exactly : AskedExactly file p out
  unfolding file_neighbours_reasons all listing
  asked-exactly = record {
    none = rw (demand1.file_neighbours file p out).first (only_19 file _ refl);
    hidden = λ g h s v. asked g h s false v;
    short = λ g h s v l. asked g h s true v ∙ rw (listed g h s v, lt-ltb (length out) (2 * length (visible_neighbours g p)) l);
    told = λ g h s v l. asked g h s true v ∙ rw (listed g h s v, le-ltb (length out) (2 * length (visible_neighbours g p)) l);
    grouped = λ g h s q v. rw s (file_least g h q (seen_in g q v));
  }

-- a file asked for a distance
module _ (file : List ℕ) (p q : ℕ) where
  module _ (g : Graph) (h : Proper g) (same : file ≡ release g) where
    measured : file_distance_call file p q ≡ cond (is_visible g p && is_visible g q) (record { result = 0; distance = distance (visible g) p q }) (distance_refused 14)
    unfolding file_distance_call file_distance_reasons first_of
    measured = rw (passes file g h same, told_node file g h same p, told_node file g h same q, told-view file g h same) (step (is_visible g p) (is_visible g q))
      where
        done : Measured
        done = record { result = 0; distance = distance (visible g) p q }

        step : (b c : Bool) → cond (eqb (cond (not b || not c) 14 0) 0) done (distance_refused (cond (not b || not c) 14 0)) ≡ cond (b && c) done (distance_refused 14)
        step true true = refl
        step true false = refl
        step false c = refl

    module _ (x : is_visible g p ≡ true) (y : is_visible g q ≡ true) where
      measured-told : DistanceTold g file p q
      unfolding distance_by
      measured-told = record {
        told = call;
        shortest = distance_shortest (visible g) p q (seen_in g p x) (seen_in g q y);
        grouped = grouped;
        independent = λ other one c j. ap (λ (m : Measured). m.distance) call ∙ grouped ∙ rw (ne_eqb p q other, eq-eqb ((summary_in file).group_of p) ((summary_in file).group_of q) one, c, j);
      }
        where
          call : file_distance_call file p q ≡ record { result = 0; distance = distance (visible g) p q }
          call = measured ∙ rw (x, y)

          grouped : distance (visible g) p q ≡ distance_by (summary_in file) p q
          grouped = distance_by_groups (visible g) (summary_in file) (summarises_unfolds (visible g) (summary_in file) (rw same (file_summarises g h))) p q (seen_in g p x) (seen_in g q y)

  measured-exactly : MeasuredExactly file p q
  unfolding file_distance_reasons all
  measured-exactly = record {
    none = rw (demand1.file_distance file p q).first (only_19 file _ refl);
    hidden = λ g h s v. measured g h s ∙ rw v;
    visible = measured-told;
  }

pub demand2 : Demand2
demand2 = record {
  returning = λ s n cs ok name ds z.
      let l : Room = room_of s in
      let w : wrong_size n l.tables ≡ false = opened-size s n ok in
      let h = (history-told s n cs ok).0 in
      record { back = returned n l w _ _ h name ds z; stays = name_stays n l w _ _ h name ds z };
  grouped = λ x. grouped_exactly (lengths (tables_of_source x)) (graph_of_source x) (tables_of_source x) (kept x);
  answered = λ x c ok. record { effect = asked-holds (graph_of_source x) c (kept x).proper ok; difference = answer-accepted (graph_of_source x) c ok; range = answer_near (graph_of_source x) c (kept x).proper ok; mark = λ e. mark_answer (graph_of_source x) c e ok; class = class_near (graph_of_source x) c (kept x).proper ok };
  unfolded = λ x. file_summarises (graph_of_source x) (kept x).proper;
  reading = read-exactly;
  asking = asked-exactly;
  measuring = measured-exactly;
}

-- DEMAND 3
released-alike : (a b : Graph) → Alike a b → (out : List ℕ) → released a out ≡ released b out
unfolding released visible_groups superedge_count
released-alike a b h out =
    let seen = alike-visible a b h in
    rw (seen, ap (λ (v : View). v.nodes) seen, ap (λ (v : View). v.edge) seen, non_interference a b h)

-- one batch on tables of two graphs alike in what is visible
module _ (a b : Graph) (s t : Tables) (ks : Kept (lengths s) a s) (kt : Kept (lengths t) b t) (h : Alike a b) (xs : List ℕ) (nobody : RevealsNobody a (updates_in xs)) (out : List ℤ) where
  abbrev cs : List Update
  cs = updates_in xs

  alike-told : (LeavesClasses a cs → map refusal_in (answers a cs) ≡ map refusal_in (answers b cs)) × Alike (batch_graph a cs) (batch_graph b cs)
  alike-told = batch_alike a b ks.proper kt.proper h cs nobody

  told-on : (g : Graph) → map refusal_in (onto (answers g cs) out) ≡ map refusal_in (answers g cs) ++ map refusal_in (drop (length cs) out)
  told-on g = map-append refusal_in (answers g cs) (drop (length (answers g cs)) out) ∙ ap (λ (k : ℕ). map refusal_in (answers g cs) ++ map refusal_in (drop k out)) (length-answers cs g)

  after-back : (g : Graph) → Proper g → a.node_count ≡ g.node_count → graph_of a.node_count (tables_of (batch_graph g cs)) ≡ batch_graph g cs
  after-back g k e = let p = proper_batch cs g k in ap (λ (n : ℕ). graph_of n (tables_of (batch_graph g cs))) (e ∙ sym p.1) ∙ read_back (batch_graph g cs) p.0

  pub applied-alike : AppliedAlike a.node_count (LeavesClasses a (updates_in xs)) (apply_call a.node_count s xs out) (apply_call b.node_count t xs out)
  unfolding apply_call apply_reasons
  applied-alike =
      judged_related (AppliedAlike a.node_count (LeavesClasses a cs)) (apply_reasons a.node_count s xs out) (apply_reasons b.node_count t xs out) (apply_refused s out) (apply_refused t out) _ _
      (rw (kept_size ks, kept_size kt, kept_holds ks a.node_count refl, kept_holds kt b.node_count refl))
      (λ z. record { result = refl; refusals = λ w. refl; after = rw (kept_graph_lem ks a.node_count refl, kept_graph_lem kt a.node_count h.marks.node_count) h })
      (λ z. rw (kept_graph_lem ks a.node_count refl, kept_graph_lem kt b.node_count refl) (record {
        result = refl;
        refusals = λ w. told-on a ∙ ap (λ (x : List ℕ). x ++ map refusal_in (drop (length cs) out)) (alike-told.0 w) ∙ sym (told-on b);
        after = rw (after-back a ks.proper refl, after-back b kt.proper h.marks.node_count) alike-told.1;
      }))

pub demand3 : Demand3
demand3 = record {
  each = λ x. let g : Graph = graph_of_source x in let k = kept x in record {
    tables = k.tables;
    store = store_of x;
    calls = calls_of x;
    written = release-written (lengths (tables_of_source x)) g (tables_of_source x) k;
    short = release_short (lengths (tables_of_source x)) g (tables_of_source x) k;
    bytes = length-release g k.proper;
    summarises = file_summarises g k.proper;
    counted = file_count g k.proper;
    fewest = λ d s. unfold visible_groups in fewest (visible g) (visible-simple g k.proper) (visible_ascending g) d s;
  };
  alike = λ x y h out.
      release-told (lengths (tables_of_source x)) (graph_of_source x) (tables_of_source x) (kept x) out
      ∙ ap₂ (λ (s : List ℕ) (r : Released). cond (ltb (length out) (length s)) (release_refused out 18) r) (non_interference (graph_of_source x) (graph_of_source y) h) (released-alike (graph_of_source x) (graph_of_source y) h out)
      ∙ sym (release-told (lengths (tables_of_source y)) (graph_of_source y) (tables_of_source y) (kept y) out);
  frozen = frozen_refused;
  revealed = λ x p. reveal_accepted (graph_of_source x) (kept x).proper p;
  batches = λ x y h xs nobody out. applied-alike (graph_of_source x) (graph_of_source y) (tables_of_source x) (tables_of_source y) (kept x) (kept y) h xs nobody out;
  nobody = λ g cs. reveals_nobody cs g;
  told = λ x c. answer-told (graph_of_source x) c (kept x).proper;
}
