-- A batch, update by update.
use Rattle.std.specs.Prelude.{◌≡◌, true, false, not, List, [], ◌∷◌, ◌++◌, ◌⊎◌, ℕ, suc, zero, ◌+◌, ◌*◌, ◌%◌, ◌/◌, ◌≤◌, ◌<◌, eqb, ltb, leb, ℤ, length, get_or, set}
use Rattle.std.proofs.Math.Path.{refl}
use Rattle.std.proofs.Common.{sym, ap, ap₂, subst, ◌∙◌, append_assoc, inl, inr, length-set, add-zero, drop-drop, get_or-drop, get_or-take, take-append-drop, take-suc-set, drop-set-lt, eqb-true, eq-eqb, ne_eqb, leb-true, leb-false, le-ltb, lt-ltb}
use native.Mathlib.Omega.{arith}
use Rattle.std.proofs.Math.ListN.{take, drop}
use Rattle.std.proofs.lemmas.Bool.{not-false}
use Rattle.model.specs.Graph.{Graph, Proper, max_updates}
use Rattle.model.specs.Tables.{Tables, tables_of, graph_of}
use Rattle.model.specs.Updates.{Update, answers, batch_graph, update, update_count, update_numbers, updates_in, wrong_batch}
use Rattle.model.specs.Steps.{run}
use Rattle.model.specs.Calls.{onto}
use Rattle.model.proofs.TestLaws.{decide, or_none}
use Rattle.model.proofs.UpdateLaws.{answers_next, batch_next, proper_stepped, updates_next}
use Rattle.groups.specs.ChangeLaws.{tables_read}
use Rattle.groups.specs.Groups.{change}
use Rattle.tables.specs.Lent.{Held}
use Rattle.std.specs.Simd.{first_chunks}
use Rattle.updates.specs.Asked.{asked_by}
use Rattle.updates.specs.Batch.{Updated, rest, written, Underway}

drop_all : (xs : List ℕ) (k : ℕ) → length xs ≤ k → drop k xs ≡ []
drop_all [] zero h = refl
drop_all [] (suc k) h = refl
drop_all (x ∷ xs) zero h = absurd (omega arith)
drop_all (x ∷ xs) (suc k) h = drop_all xs k (omega arith)

-- one more written
module _ (out : List ℤ) (i : ℕ) (a : ℤ) (ys : List ℤ) (h : i < length out) where
  pub written_more : written (set out i a) (i + 1) ys ≡ written out i (a ∷ ys)
  written_more =
      let s : i + 1 ≡ suc i = omega arith in
      let e : suc i + length ys ≡ i + suc (length ys) = omega arith in
      rw (s, take-suc-set out i a h, drop-set-lt (suc i + length ys) out i a (omega arith), e)
      (append_assoc (take i out) (a ∷ []) (ys ++ drop (i + suc (length ys)) out))

pub underway_start : {n : ℕ} {xs : List ℕ} {t : Tables} {out : List ℤ} → Held n t → Underway n xs t out 0 t out
underway_start {n} {xs} {t} {out} h = record { held = h; graph = refl; told = ap (λ (k : ℕ). answers (graph_of n t) (updates_in xs) ++ drop k out) none; size = refl }
  where
    none : 0 + length (answers (graph_of n t) (updates_in xs)) ≡ length (answers (graph_of n t) (updates_in xs))
    none = omega arith

module _ {n : ℕ} {xs : List ℕ} {t₀ : Tables} {out₀ : List ℤ} {i : ℕ} {t : Tables} {out : List ℤ} (w : Underway n xs t₀ out₀ i t out) where
  pub underway_more : {t₁ : Tables} {a : ℤ} → update_numbers * i + update_numbers ≤ length xs → i < length out₀ → Updated n (change (get_or xs (update_numbers * i) 0) (get_or xs (update_numbers * i + 1) 0) (get_or xs (update_numbers * i + 2) 0) (get_or xs (update_numbers * i + 3) 0)) t t₁ a
      → Underway n xs t₀ out₀ (i + 1) t₁ (set out i a)
  underway_more {t₁} {a} room l u = record {
    held = record { same = u.tables ∙ ap tables_of (sym now); proper = subst Proper (sym now) p.0 };
    graph = ap₂ batch_graph now after ∙ sym (batch_next g c (updates_in (drop (update_numbers * i + update_numbers) xs))) ∙ ap (batch_graph g) (sym (updates_next xs (update_numbers * i) room)) ∙ w.graph;
    told =
        ap (written (set out i a) (i + 1)) (ap₂ answers now after)
        ∙ written_more out i a (answers (update g c).after (updates_in (drop (update_numbers * i + update_numbers) xs))) (omega (arith, w.size))
        ∙ ap (written out i) (ap (λ (x : ℤ). x ∷ answers (update g c).after (updates_in (drop (update_numbers * i + update_numbers) xs))) u.answered ∙ sym (answers_next g c (updates_in (drop (update_numbers * i + update_numbers) xs))) ∙ ap (answers g) (sym (updates_next xs (update_numbers * i) room)))
        ∙ w.told;
    size = length-set out i a ∙ w.size;
  }
    where
      g : Graph
      g = graph_of n t

      c : Update
      c = change (get_or xs (update_numbers * i) 0) (get_or xs (update_numbers * i + 1) 0) (get_or xs (update_numbers * i + 2) 0) (get_or xs (update_numbers * i + 3) 0)

      p : Proper (update g c).after × ((update g c).after.node_count ≡ g.node_count)
      p = proper_stepped g c w.held.proper

      count : (update g c).after.node_count ≡ n
      count = p.1 ∙ unfold graph_of in refl

      now : graph_of n t₁ ≡ (update g c).after
      now = ap (λ (m : ℕ). graph_of m t₁) (sym count) ∙ tables_read p.0 u.tables

      after : rest xs (i + 1) ≡ updates_in (drop (update_numbers * i + update_numbers) xs)
      after = let e : update_numbers * (i + 1) ≡ update_numbers * i + update_numbers = omega arith in ap (λ (k : ℕ). updates_in (drop k xs)) e

  -- with the numbers that the code has read, and the answer that it has stored
  pub underway_next : {t₁ : Tables} {a b : ℤ} {u v : ℕ} → update_numbers * i + update_numbers ≤ length xs → i < length out₀ → u ≡ get_or xs (update_numbers * i + 1) 0 → v ≡ get_or xs (update_numbers * i + 2) 0 → Updated n (change (get_or xs (update_numbers * i) 0) u v (get_or xs (update_numbers * i + 3) 0)) t t₁ a → b ≡ a
      → Underway n xs t₀ out₀ (i + 1) t₁ (set out i b)
  underway_next room l eu ev u e = rw e (underway_more room l (rw (eu, ev) at u))

  pub underway_done : length xs ≤ update_numbers * i → (t ≡ tables_of (batch_graph (graph_of n t₀) (updates_in xs))) × (out ≡ onto (answers (graph_of n t₀) (updates_in xs)) out₀)
  underway_done l = (w.held.same ∙ ap tables_of last, whole)
    where
      nil : rest xs i ≡ []
      nil = ap updates_in (drop_all xs (update_numbers * i) l) ∙ unfold updates_in in refl

      last : graph_of n t ≡ batch_graph (graph_of n t₀) (updates_in xs)
      last = sym (ap (batch_graph (graph_of n t)) nil ∙ unfold batch_graph run in refl) ∙ w.graph

      whole : out ≡ onto (answers (graph_of n t₀) (updates_in xs)) out₀
      whole = sym (ap (λ (us : List Update). written out i (answers (graph_of n t) us)) nil ∙ (unfold answers run in plain)) ∙ w.told
        where
          plain : take i out ++ ([] ++ drop (i + 0) out) ≡ out
          plain = let e : i + 0 ≡ i = omega arith in rw e (take-append-drop i out)

-- the numbers of update i, as the batch is cut in fours
chunk_at : (xs : List ℕ) (m i : ℕ) → i < m → get_or (first_chunks update_numbers m xs) i [] ≡ take update_numbers (drop (update_numbers * i) xs)
chunk_at xs zero i h = absurd (omega arith)
chunk_at xs (suc m) zero h = refl
chunk_at xs (suc m) (suc i) h =
    let e : update_numbers + update_numbers * i ≡ update_numbers * suc i = omega arith in
    chunk_at (drop update_numbers xs) m i (omega arith) ∙ ap (take update_numbers) (drop-drop (update_numbers * i) update_numbers xs ∙ ap (λ (k : ℕ). drop k xs) e)

chunk_number : (xs : List ℕ) (i k : ℕ) → k < update_numbers → get_or (take update_numbers (drop (update_numbers * i) xs)) k 0 ≡ get_or xs (update_numbers * i + k) 0
chunk_number xs i k h = get_or-take update_numbers (drop (update_numbers * i) xs) k 0 h ∙ get_or-drop (update_numbers * i) xs k 0

module _ {n : ℕ} {xs : List ℕ} {t₀ : Tables} {out₀ : List ℤ} {i : ℕ} {t : Tables} {out : List ℤ} (w : Underway n xs t₀ out₀ i t out) where
  pub underway_chunk : {cs : List (List ℕ)} (m : ℕ) {t₁ : Tables} {a b : ℤ} → cs ≡ first_chunks update_numbers m xs → length cs ≡ m → update_numbers * length cs ≡ length xs → i < length cs → i < length out₀ → Updated n (asked_by (get_or cs i [])) t t₁ a → b ≡ a
      → Underway n xs t₀ out₀ (i + 1) t₁ (set out i b)
  underway_chunk {cs} m {t₁} {a} c size whole h l u e =
      underway_next w (omega (arith, whole)) l refl refl
      (rw (ap (λ (ys : List (List ℕ)). get_or ys i []) c ∙ chunk_at xs m i (omega (arith, size, h)), chunk_number xs i 0 (omega arith), chunk_number xs i 1 (omega arith), chunk_number xs i 2 (omega arith), chunk_number xs i 3 (omega arith), add-zero (update_numbers * i)) at u) e

-- a batch of whole updates
pub chunks-whole : (xs : List ℕ) (k : ℕ) → k ≡ length xs / update_numbers → length xs % update_numbers ≡ 0 → update_numbers * k ≡ length xs
chunks-whole xs k e h = omega (arith, e, h)

pub chunks_fit : (xs : List ℕ) (k : ℕ) {m : ℕ} → k ≡ length xs / update_numbers → update_count xs ≤ m → k ≤ m
unfolding update_count
chunks_fit xs k e h = omega (arith, e, h)

pub count-whole : (xs : List ℕ) (k : ℕ) → k ≡ update_count xs → length xs % update_numbers ≡ 0 → update_numbers * k ≡ length xs
unfolding update_count
count-whole xs k e h = omega arith

pub whole-not : (xs : List ℕ) → (length xs % update_numbers ≡ 0 → ⊥) → false ≡ not (wrong_batch xs)
unfolding wrong_batch
whole-not xs h = rw (ne_eqb (length xs % update_numbers) 0 h)

pub whole_test : (xs : List ℕ) (k : ℕ) → length xs % update_numbers ≡ 0 → k ≡ update_count xs → leb k max_updates ≡ not (wrong_batch xs)
unfolding wrong_batch
whole_test xs k h e = rw (eq-eqb (length xs % update_numbers) 0 h, e) (step (decide (leb (update_count xs) max_updates)))
  where
    step : (leb (update_count xs) max_updates ≡ true) ⊎ (leb (update_count xs) max_updates ≡ false) → leb (update_count xs) max_updates ≡ not (ltb max_updates (update_count xs))
    step (inl t) = rw (t, le-ltb max_updates (update_count xs) (leb-true (update_count xs) max_updates t))
    step (inr t) = rw (t, lt-ltb max_updates (update_count xs) (leb-false (update_count xs) max_updates t))

pub whole_numbers : (xs : List ℕ) → wrong_batch xs ≡ false → length xs % update_numbers ≡ 0
unfolding wrong_batch
whole_numbers xs h = eqb-true (length xs % update_numbers) 0 (not-false _ (or_none (not (eqb (length xs % update_numbers) 0)) _ h).0)
