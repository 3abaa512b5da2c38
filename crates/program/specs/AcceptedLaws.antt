-- The three calls on an accepted input are done, and what is printed of it.
use Rattle.std.specs.Prelude.{◌≡◌, refl, false, ◌||◌, ℕ, ◌*◌, ◌/◌, ◌%◌, ◌≤◌, ltb, ℤ, length, take}
use Rattle.std.proofs.Common.{sym, ap₂, ◌∙◌, arith, length-take-le}
use Rattle.std.proofs.Math.Path.{ap}
use mathlib.Core.List.{List, [], ◌∷◌, ◌++◌}
use Rattle.std.proofs.Math.Seq.{take-append_seam}
use borrow.Author.Tests.{eq-eqb, le-ltb}
use Rattle.model.specs.Calls.{Applied, Opened, Released, apply_call, onto, open_call, open_reasons, release_call, released}
use Rattle.model.proofs.DemandLaws.{release-written}
use Rattle.model.specs.Graph.{empty_graph, max_nodes, max_updates, node_numbers, row_words}
use Rattle.model.specs.History.{Outcome, Plain, State, batch, call_step, plain_step, room_of}
use Rattle.model.proofs.HistoryLaws.{Agrees, Kept, call_told, history-told, lengths_for, size_right}
use Rattle.model.specs.Program.{accepted, change_lines, max_bytes, printed}
use Rattle.model.proofs.ProgramLaws.{fits}
use Rattle.model.specs.Refusals.{first_of, lengths, wrong_size}
use Rattle.model.specs.Release.{release}
use Rattle.model.specs.Steps.{run}
use Rattle.model.specs.Store.{no_states, store_words, wrong_store}
use Rattle.model.specs.Tables.{Tables}
use Rattle.model.proofs.UpdateLaws.{length-answers, length_updates, proper_batch, proper_empty}
use Rattle.model.specs.Updates.{answers, update_count, update_numbers, updates_in, wrong_batch}
use Rattle.rows.specs.Rows.{lent}
use Rattle.index.specs.Index.{applied, opened}
use Rattle.print.specs.Lines.{file_text}
use Rattle.print.specs.ReleaseTextLaws.{accepted-text}
use Rattle.program.specs.Accepted.{Done, Lent, WithinLimits, graph_after}

few_updates : {n : ℕ} (xs : List ℕ) → WithinLimits n xs → length (updates_in xs) ≤ max_updates
few_updates xs h = unfold update_count in omega (arith, length_updates xs, h.few)

module _ {n : ℕ} {t : Tables} {s xs : List ℕ} {out : List ℤ} {file : List ℕ} (h : Lent n t s xs out file) where
  sizes : lengths t ≡ lengths_for n
  unfolding lengths
  sizes = λ i. record { edges = h.sized.edges i; nodes = h.sized.nodes i; keys = h.sized.keys i }

  right : wrong_size n (lengths t) ≡ false
  right = ap (wrong_size n) sizes ∙ size_right n h.small.nodes

  whole : wrong_batch xs ≡ false
  unfolding wrong_batch update_count
  whole = rw (eq-eqb (length xs % update_numbers) 0 h.small.whole, le-ltb max_updates (length xs / update_numbers) (omega (arith, h.small.few)))

  right_store : wrong_store n (length s) ≡ false
  unfolding wrong_store
  right_store = rw (le-ltb max_nodes n h.small.nodes, eq-eqb (length s) (store_words n) h.store_room)

  open_done : (open_call n t s).result ≡ 0
  unfolding open_call open_reasons first_of
  open_done = rw (right, right_store)

  no-reason : first_of ((wrong_size n (lengths t) || wrong_batch xs, 11) ∷ (ltb (length out) (update_count xs), 18) ∷ []) ≡ 0
  unfolding first_of update_count
  no-reason = rw (right, whole, le-ltb (length out) (length xs / update_numbers) (omega (arith, h.small.few, h.answer_room)))

  -- what the opening finds and leaves, and the plain graph after it
  abbrev found : State
  found = record { tables = t; store = s }

  abbrev left : State
  left = record { tables = (open_call n t s).tables; store = (open_call n t s).store }

  abbrev fresh : Plain
  fresh = record { graph = empty_graph n; places = no_states }

  opened-agrees : Agrees (room_of found) left fresh
  unfolding run call_step plain_step first_of
  opened-agrees = rw (right, right_store) at (history-told found n [] open_done).0

  applied-told : Kept (lengths t) (graph_after n xs) (apply_call n (open_call n t s).tables xs out).tables × ((apply_call n (open_call n t s).tables xs out).answers ≡ onto (answers (empty_graph n) (updates_in xs)) out)
  unfolding call_step plain_step
  applied-told =
      let k = call_told (room_of found) left fresh (batch n xs out) opened-agrees in
      let e = eq-eqb (first_of ((wrong_size n (lengths t) || wrong_batch xs, 11) ∷ (ltb (length out) (update_count xs), 18) ∷ [])) 0 no-reason in
      (rw e at k.0.tables, ap (λ (o : Outcome). o.answers) (rw e at k.1))

  -- opened, applied, released
  pub done : {r₁ : ℕ} {t₁ : Tables} {s₁ : List ℕ} {r₂ : ℕ} {t₂ : Tables} {out₂ : List ℤ} {rel : Released} → opened r₁ t₁ s₁ ≡ open_call n t s → applied r₂ t₂ out₂ ≡ apply_call n t₁ xs out → rel ≡ release_call n t₂ file → Done n xs out out₂ file rel.out rel.bytes
  unfolding released
  done {r₁} {t₁} {s₁} {r₂} {t₂} {out₂} {rel} a b c = record {
    answered = ap (λ (o : Applied). o.answers) applied-is ∙ applied-told.1;
    written = ap (λ (o : Released). o.out) file_is;
    bytes = ap (λ (o : Released). o.bytes) file_is;
  }
    where
      applied-is : applied r₂ t₂ out₂ ≡ apply_call n (open_call n t s).tables xs out
      applied-is = b ∙ ap (λ (x : Tables). apply_call n x xs out) (ap (λ (o : Opened). o.tables) a)

      kept : Kept (lengths t) (graph_after n xs) t₂
      kept = rw (sym (ap (λ (o : Applied). o.tables) applied-is)) at applied-told.0

      count : n ≡ (graph_after n xs).node_count
      count = sym ((proper_batch (updates_in xs) (empty_graph n) (proper_empty n h.small.nodes)).1 ∙ unfold empty_graph in refl)

      file_is : rel ≡ released (graph_after n xs) file
      file_is =
          c
          ∙ ap (λ (m : ℕ). release_call m t₂ file) count
          ∙ release-written (lengths t) (graph_after n xs) t₂ kept file (omega (arith, fits n (updates_in xs) h.small.nodes (few_updates xs h.small), h.file_room))

-- tables and a store for 512 nodes, of which a graph of n nodes is lent the front
pub lent_parts : {n : ℕ} {xs : List ℕ} (edges nodes keys store : List ℕ) {out : List ℤ} {file : List ℕ} → WithinLimits n xs
    → row_words * max_nodes ≤ length edges → node_numbers * max_nodes ≤ length nodes → 2 * max_nodes ≤ length keys → store_words max_nodes ≤ length store → max_updates ≤ length out → max_bytes ≤ length file
    → {k : ℕ} → k ≡ store_words n
    → Lent n (lent (take (row_words * n) edges) (take (node_numbers * n) nodes) (take (2 * n) keys)) (take k store) xs out file
lent_parts {n} edges nodes keys store small a b c d answers-fit file-fits {k} e = record {
  small = small;
  sized = record {
    small = small.nodes;
    edges = length-take-le (row_words * n) edges (omega (arith, small.nodes));
    nodes = length-take-le (node_numbers * n) nodes (omega (arith, small.nodes));
    keys = length-take-le (2 * n) keys (omega (arith, small.nodes));
  };
  store_room = length-take-le k store (omega (arith, small.nodes)) ∙ e;
  answer_room = answers-fit;
  file_room = file-fits;
}

-- the file is within the buffer
pub done_fits : {n : ℕ} {xs : List ℕ} {out out' : List ℤ} {file file' : List ℕ} {k : ℕ} → WithinLimits n xs → Done n xs out out' file file' k → k ≤ max_bytes
done_fits {n} {xs} s h = omega (arith, h.bytes, fits n (updates_in xs) s.nodes (few_updates xs s))

-- what is printed of the answers and the file
pub done_text : {n : ℕ} {xs : List ℕ} {out out' : List ℤ} {file file' : List ℕ} {k : ℕ} → Done n xs out out' file file' k → change_lines 1 (take (length xs / update_numbers) out') ++ file_text (take k file') ≡ printed (accepted n (updates_in xs))
done_text {n} {xs} {out} {out'} {file} {file'} {k} h = ap₂ (λ (a : List ℤ) (f : List ℕ). change_lines 1 a ++ file_text f) the-answers the-file ∙ accepted-text n (updates_in xs)
  where
    the-answers : take (length xs / update_numbers) out' ≡ answers (empty_graph n) (updates_in xs)
    the-answers =
        let e : length xs / update_numbers ≡ length (answers (empty_graph n) (updates_in xs)) = sym (length-answers (updates_in xs) (empty_graph n) ∙ length_updates xs ∙ unfold update_count in refl) in
        rw (h.answered, e) (take-append_seam (answers (empty_graph n) (updates_in xs)) _)

    the-file : take k file' ≡ release (graph_after n xs)
    the-file = rw (h.written, h.bytes) (take-append_seam (release (graph_after n xs)) _)
