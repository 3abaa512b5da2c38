-- The calls on a store are those of the model.
use Rattle.std.specs.Option.{is_some, ok_or}
use Rattle.std.specs.Result.{IsErrAnd}
use Rattle.std.proofs.lemmas.Option.{same_Some}
use Rattle.std.proofs.lemmas.Result.{err_from_is_err_and}
use Rattle.std.proofs.Math.Path.{◌≡◌, refl, sym, ap}
use Rattle.std.proofs.Common.{Bor, ap₂, ◌∙◌, append-nil, inl, inr, arith, drop_of_length-le}
use Rattle.std.specs.Prelude.{Option, None, Some, Result, Err, Bool, cond, ◌&&◌, ◌||◌, List, [], ◌∷◌, ◌++◌, ◌≢◌, ◌⊎◌, ℕ, suc, zero, ◌+◌, ◌-◌, ◌≤◌, ◌<◌, eqb, ltb, length, get_or, take, drop, replicate, set}
use Rattle.std.proofs.Math.Bool.{true, false, not, or-true}
use borrow.Author.Tests.{eqb-true, eq-eqb, ne_eqb, lt-ltb, le-ltb, not-true, not-false}
use Rattle.model.specs.Lists.{all, nodes}
use Rattle.model.specs.Graph.{Graph, max_nodes}
use Rattle.model.specs.Tables.{Tables, edges_of, graph_of, holds, tables_of}
use Rattle.model.proofs.TableLaws.{held_proper, held_tables}
use Rattle.model.specs.Store.{Place, dropping, free, graph_at, is_full, is_kept, is_name, is_store, keeping, kept, kept_graph, max_states, name_bytes, node_words, number as word, place_in, place_of, place_words, places_in, store_of, store_words, words_at, wrong_name, wrong_store}
use Rattle.model.specs.Refusals.{first_of, lengths, wrong_size}
use Rattle.model.specs.Calls.{drop_call, drop_reasons, fill_refused, keep_call, keep_reasons, restore_call, restore_reasons, store_refused}
use Rattle.model.proofs.TestLaws.{and_fst, and_snd, and_true, decide, or_none}
use Rattle.model.proofs.ListLaws.{all_elim, nodes_in_lem}
use Rattle.model.proofs.RefusalLaws.{call_done, call_refused, first_none}
use Rattle.answers.specs.declared.Refusal.{Refusal}
use Rattle.answers.specs.Numbers.{code, number}
use Rattle.model.proofs.StoreLaws.{fit_at, length_place, places_length, store_sound, store_words_lem}
use Rattle.rows.specs.Rows.{Words, lent}
use Rattle.search.specs.Search.{first_from}
use Rattle.tables.specs.Lent.{Held, Sized, filled, lent_reasons, table_reasons}
use Rattle.tables.specs.LentLaws.{lent_passed, lent_refused, lent-rest, sized}
use Rattle.places.specs.declared.Name.{Name}
use Rattle.places.specs.declared.Store.{Store}
use Rattle.places.specs.Places.{Found, free_at, place_word, put_at, under_at}
use Rattle.places.specs.PlacesLaws.{dropping_found, full_found, graph_found, keeping_found, kept_found, put_store, word_at}
use Rattle.places.specs.StepLaws.{store_sized}
use Rattle.store.specs.Judging.{place_holds}
use Rattle.store.proofs.JudgeLaws.{passed, place_size, readable}
use Rattle.store.specs.Stored.{Judged, Put, Read, Written, fill_reasons, name_reasons, kept_reasons, store_reasons, stored}

-- a name is lent as bytes
pub bytes_all : (s : List ℕ) → ((i : ℕ) → get_or s i 0 < 256) → all s (λ b. ltb b 256) ≡ true
unfolding all
bytes_all [] h = refl
bytes_all (x ∷ xs) h = and_true (lt-ltb x 256 (h 0)) (bytes_all xs (λ i. h (suc i)))

-- refused as another call was, or by a search without a result
pub refused_as : {A : Type 0} (r : Result A Refusal) (d : Refusal) {x : ℕ} → IsErrAnd r (λ e. e ≡ d) → number d ≡ x → code r ≡ x
refused_as r d h e = let p = err_from_is_err_and r h in ap code p.1 ∙ ap number p.2 ∙ e

pub none_refused : {A B : Type 0} (o : Option A) (r : Result B Refusal) (e d : Refusal) {x : ℕ} → IsErrAnd r (λ y. y ≡ d) → Err d ≡ ok_or o e → number e ≡ x → code r ≡ x
none_refused None r e d h q p = refused_as r d h (ap code q ∙ p)
none_refused (Some y) r e d h q p = cc

-- 11 of a store and a name
module _ (n : ℕ) (s name : List ℕ) where
  pub store_wrong : wrong_store n (length s) ≡ true → 11 ≡ first_of (name_reasons n s name)
  unfolding first_of wrong_name
  store_wrong h = rw h

  pub name_wrong : length name ≢ name_bytes → 11 ≡ first_of (name_reasons n s name)
  unfolding first_of wrong_name is_name
  name_wrong h = rw (ne_eqb (length name) name_bytes h, or-true (wrong_store n (length s)))

  pub both_right : (k : Store) → k.n ≡ n → k.words.now ≡ s → length name ≡ name_bytes → ((i : ℕ) → get_or name i 0 < 256) → 0 ≡ first_of (name_reasons n s name)
  unfolding first_of wrong_name is_name wrong_store
  both_right k c w e bytes = let z = rw (c, w) at k.sized in rw (le-ltb max_nodes n z.small, eq-eqb (length s) (store_words n) z.words, eq-eqb (length name) name_bytes e, bytes_all name bytes)

  module _ (e : 0 ≡ first_of (name_reasons n s name)) where
    pub name_right : wrong_name n (length s) name ≡ false
    name_right = (first_none (wrong_name n (length s) name) 11 [] refl (sym e)).0

pub named : (n k : ℕ) (name : List ℕ) → wrong_name n k name ≡ false → (n ≤ max_nodes) × (k ≡ store_words n) × (is_name name ≡ true)
unfolding wrong_name
named n k name h =
    let a = or_none (wrong_store n k) _ h in
    let b = store_sized n k true (sym (ap not a.0)) refl in
    (b.0, b.1, not-false _ a.1)

-- 11 and 12 of them
module _ (n : ℕ) (s name : List ℕ) where
  pub name_refused : {r : ℕ} → r ≡ first_of (name_reasons n s name) → r ≢ 0 → r ≡ first_of (store_reasons n s name [])
  unfolding first_of
  name_refused {r} e d = step (wrong_name n (length s) name) e
    where
      step : (b : Bool) → r ≡ cond b 11 0 → r ≡ cond b 11 (cond (not (is_store n s)) 12 0)
      step true h = h
      step false h = absurd (d h)

  module _ (e : 0 ≡ first_of (name_reasons n s name)) {b : Bool} (y : b ≡ is_store n s) where
    pub store_none : b ≡ false → 12 ≡ first_of (store_reasons n s name [])
    unfolding first_of
    store_none q = rw (name_right n s name e, sym y ∙ q)

    pub store_held : b ≡ true → 0 ≡ first_of (store_reasons n s name [])
    unfolding first_of
    store_held q = rw (name_right n s name e, sym y ∙ q)

-- 11 and 12 with tables: of wrong size; of the right size
module _ (n : ℕ) (t : Tables) (s name : List ℕ) (f : Bool) (e : f ≡ not (wrong_size n (lengths t))) where
  pub fill_size : f ≡ false → 11 ≡ first_of (fill_reasons n t s name [])
  unfolding first_of
  fill_size h = rw (not-false (wrong_size n (lengths t)) (sym e ∙ h))

  pub fill_store : f ≡ true → {r : ℕ} → r ≡ first_of (store_reasons n s name []) → r ≡ first_of (fill_reasons n t s name [])
  fill_store h k = rw (not-true (wrong_size n (lengths t)) (sym e ∙ h)) k

-- and of tables that are judged
module _ (n : ℕ) (t : Tables) (s name : List ℕ) where
  abbrev size : Bool
  size = wrong_size n (lengths t)

  abbrev other : Bool
  other = wrong_name n (length s) name

  pub keep_name : {r : ℕ} → r ≡ first_of (name_reasons n s name) → r ≢ 0 → r ≡ first_of (kept_reasons n t s name [])
  unfolding first_of
  keep_name {r} e d = step other size e
    where
      step : (b a : Bool) → r ≡ cond b 11 0 → r ≡ cond (a || b) 11 (cond (not (holds n t) || not (is_store n s)) 12 0)
      step true true h = h
      step true false h = h
      step false a h = absurd (d h)

  module _ (e : 0 ≡ first_of (name_reasons n s name)) (r : ℕ) (x : r ≡ first_of (table_reasons n t [])) where
    pub keep_table : r ≢ 0 → r ≡ first_of (kept_reasons n t s name [])
    unfolding first_of
    keep_table d = rw (name_right n s name e) (x ∙ step size refl (holds n t) refl)
      where
        step : (a : Bool) → size ≡ a → (b : Bool) → holds n t ≡ b → first_of (table_reasons n t []) ≡ first_of (lent_reasons (size || false) (not (holds n t) || not (is_store n s)) [])
        step true p b q = rw p
        step false p false q = rw (p, q)
        step false p true q = absurd (d (x ∙ rw (p, q)))

    module _ (z : r ≡ 0) {b : Bool} (y : b ≡ is_store n s) where
      tables-pass : (size ≡ false) × (holds n t ≡ true)
      tables-pass = let p = lent_passed size (not (holds n t)) r x z in (p.0, not-false (holds n t) p.1)

      pub keep_none : b ≡ false → 12 ≡ first_of (kept_reasons n t s name [])
      unfolding first_of
      keep_none q = rw (name_right n s name e, tables-pass.0, tables-pass.1, sym y ∙ q)

      pub keep_held : b ≡ true → 0 ≡ first_of (kept_reasons n t s name [])
      unfolding first_of
      keep_held q = rw (name_right n s name e, tables-pass.0, tables-pass.1, sym y ∙ q)

-- what a search finds
first_passes : (P : ℕ → Bool) (k q : ℕ) → first_from P q k < q + k → P (first_from P q k) ≡ true
unfolding first_from
first_passes P zero q h = absurd (omega arith)
first_passes P (suc k) q h = step (decide (P q)) h (first_passes P k (suc q))
  where
    step : (P q ≡ true) ⊎ (P q ≡ false) → cond (P q) q (first_from P (suc q) k) < q + suc k → (first_from P (suc q) k < suc q + k → P (first_from P (suc q) k) ≡ true) → P (cond (P q) q (first_from P (suc q) k)) ≡ true
    step (inl t) h below = rw t t
    step (inr t) h below = let l : first_from P (suc q) k < q + suc k = rw t at h in rw t (below (omega arith))

module _ (n : ℕ) (s name : List ℕ) (j : Judged n s name) (words : Words s) where
  held : all (nodes max_states) (λ i. place_holds n (words_at n s i)) ≡ true
  held = and_fst (all (nodes max_states) (λ i. place_holds n (words_at n s i))) _ (and_snd (eqb (get_or s 0 0) (suc n)) _ (passed n j.small s j.size j.store))

  pub place_holds_lem : (i : ℕ) → i < max_states → place_holds n (words_at n s i) ≡ true
  place_holds_lem i l = all_elim (nodes max_states) (λ i. place_holds n (words_at n s i)) held i (nodes_in_lem max_states i l)

  -- a place written anew
  put-place : (i : ℕ) (x : Place) → i < max_states → store_of n (set (places_in n s) i x) ≡ put_at n s i (place_of n x)
  put-place i x l =
      put_store n (places_in n s) i x (omega (arith, places_length n s)) (λ k h. length_place n (get_or (places_in n s) k free) (fit_at n (places_in n s) (store_sound n j.small s j.store).fit k h))
      ∙ ap (λ (t : List ℕ). put_at n t i (place_of n x)) (sym (store_words_lem n j.small s j.store))

  module _ (a b : ℕ) (first : a ≡ word (take 8 name)) (second : b ≡ word (drop 8 name)) (i : ℕ) (found : i ≡ first_from (under_at n s a b) 0 max_states) where
    kept-told : is_kept name (places_in n s) ≡ ltb i max_states
    kept-told = kept_found n s (readable n j.small s j.size held words) name j.named a b i first second found

    pub found_used : i < max_states → get_or (words_at n s i) 0 0 ≡ 1
    found_used l = word_at n s i 0 (omega arith) ∙ eqb-true (place_word n s i 0) 1 (and_fst (eqb (place_word n s i 0) 1) _ under)
      where
        under : (eqb (place_word n s i 0) 1 && (eqb (place_word n s i 1) a && eqb (place_word n s i 2) b)) ≡ true
        under = unfold under_at in rw found (first_passes (under_at n s a b) max_states 0 (rw (← found) l))

    -- its place as it is lent
    pub place_ready : i < max_states → (length (words_at n s i) ≡ place_words n) × (place_holds n (words_at n s i) ≡ true) × (get_or (words_at n s i) 0 0 ≡ 1)
    place_ready l = (place_size n j.small s j.size i l, place_holds_lem i l, found_used l)

    pub not_kept : i ≡ max_states → is_kept name (places_in n s) ≡ false
    not_kept e = kept-told ∙ le-ltb i max_states (omega arith)

    pub is_kept_lem : i < max_states → is_kept name (places_in n s) ≡ true
    is_kept_lem l = kept-told ∙ lt-ltb i max_states l

    pub graph-told : i < max_states → graph_at (place_in n (words_at n s i)) ≡ kept_graph name (places_in n s)
    graph-told l = sym (graph_found n s (readable n j.small s j.size held words) name j.named a b i first second found l)

    pub dropped_told : i < max_states → put_at n s i (replicate (place_words n) 0) ≡ store_of n (dropping name (places_in n s))
    dropped_told l =
        sym (ap (store_of n) (dropping_found n s (readable n j.small s j.size held words) name j.named a b i first second found (store_sound n j.small s j.store).apart) ∙ put-place i free l ∙ unfold place_of in refl)

  -- what is kept in the lowest free place
  module _ (i : ℕ) (found : i ≡ first_from (free_at n s) 0 max_states) where
    pub kept_new : (a b : ℕ) → a ≡ word (take 8 name) → b ≡ word (drop 8 name) → (g : Graph) → i < max_states
        → put_at n s i (1 ∷ (a ∷ (b ∷ (edges_of g ++ node_words g)))) ≡ store_of n (keeping name g (places_in n s))
    kept_new a b first second g l = sym (ap (store_of n) (keeping_found n s name g i found) ∙ put-place i (kept name g) l ∙ ap (put_at n s i) (unfold place_of in rw (first, second)))

-- a place written: the state, then the first words
pub place_written : (n : ℕ) (edges nodes : List ℕ) (a b : ℕ) (p to : List ℕ) {after : List ℕ} → length p ≡ place_words n
    → ((keys : List ℕ) → Held n (lent edges nodes keys) → to ≡ edges_of (graph_of n (lent edges nodes keys)) ++ node_words (graph_of n (lent edges nodes keys)))
    → after ≡ set (set (set (take 3 p ++ (to ++ drop (length p - 3) (drop 3 p))) 0 1) 1 a) 2 b → Written n edges nodes a b after
place_written n edges nodes a b [] to size h e = absurd (omega arith)
place_written n edges nodes a b (x ∷ []) to size h e = absurd (omega arith)
place_written n edges nodes a b (x ∷ (y ∷ [])) to size h e = absurd (omega arith)
place_written n edges nodes a b (x ∷ (y ∷ (z ∷ rest))) to size h e = record { words = λ keys k. e ∙ ap (λ (l : List ℕ). 1 ∷ (a ∷ (b ∷ l))) (ap₂ ◌++◌ (h keys k) nothing ∙ append-nil _) }
  where
    nothing : drop (suc (suc (suc (length rest))) - 3) rest ≡ []
    nothing = drop_of_length-le rest {i = suc (suc (suc (length rest))) - 3} (omega arith)

-- the words that were read are words
read_words : {n : ℕ} {s name : List ℕ} {k : Store} {m : Name} → Read n s name k m → Words s
read_words {k = k} read = rw read.words at k.fits

-- what was looked for in the store that was read
pub found_at : {n : ℕ} {s name : List ℕ} {k : Store} {m : Name} (o : Option ℕ) → Read n s name k m → Found o (first_from (under_at k.n k.words.now m.first m.second) 0 max_states) → Found o (first_from (under_at n s m.first m.second) 0 max_states)
found_at o read found = rw (← read.count, ← read.words) found

pub free_at_lem : {n : ℕ} {s name : List ℕ} {k : Store} {m : Name} (o : Option ℕ) → Read n s name k m → Found o (first_from (free_at k.n k.words.now) 0 max_states) → Found o (first_from (free_at n s) 0 max_states)
free_at_lem o read found = rw (← read.count, ← read.words) found

found_none : (o : Option ℕ) {r : ℕ} → Found o r → o ≡ None → r ≡ max_states
found_none None h e = h
found_none (Some i) h e = cc

found_some : (o : Option ℕ) {r i : ℕ} → Found o r → o ≡ Some i → (i ≡ r) × (i < max_states)
found_some None h e = cc
found_some (Some j) {r} h e = let same = same_Some _ _ e in rw same at h

pub found_place : (o : Option ℕ) (r : ℕ) {i : ℕ} → Found o r → o ≡ Some i → i < max_states
found_place o r h e = (found_some o h e).1

-- drop
module _ (n : ℕ) (s name : List ℕ) where
  pub drop_refused : {r : ℕ} → r ≡ first_of (store_reasons n s name []) → r ≢ 0 → stored r s ≡ drop_call n s name
  unfolding drop_call drop_reasons
  drop_refused {r} e d = call_refused _ (store_refused s) _ r (lent_refused (wrong_name n (length s) name) (not (is_store n s)) r e _ d) d

  module _ (e : 0 ≡ first_of (store_reasons n s name [])) where
    pub judged : Judged n s name
    judged =
        let p = lent_passed (wrong_name n (length s) name) (not (is_store n s)) 0 e refl in
        let q = named n (length s) name p.0 in
        record { small = q.0; size = q.1; named = q.2; store = not-false _ p.1 }

    module _ {k : Store} {m : Name} (read : Read n s name k m) (o : Option ℕ) (found : Found o (first_from (under_at k.n k.words.now m.first m.second) 0 max_states)) where
      pub drop_unknown : o ≡ None → stored 21 s ≡ drop_call n s name
      unfolding drop_call drop_reasons
      drop_unknown h =
          call_refused _ (store_refused s) _ 21
          (lent-rest (wrong_name n (length s) name) (not (is_store n s)) 0 e refl _ ∙ unfold first_of in rw (not_kept n s name judged (read_words read) m.first m.second read.named.first read.named.second _ refl (found_none o (found_at o read found) h))) (omega arith)

      pub drop_done : {i : ℕ} → o ≡ Some i → {after : List ℕ} → after ≡ put_at n s i (replicate (place_words n) 0) → stored 0 after ≡ drop_call n s name
      unfolding drop_call drop_reasons
      drop_done {i} h x =
          let f = found_some o (found_at o read found) h in
          ap (stored 0) (x ∙ dropped_told n s name judged (read_words read) m.first m.second read.named.first read.named.second i f.0 f.1)
          ∙ call_done _ (store_refused s) _ (lent-rest (wrong_name n (length s) name) (not (is_store n s)) 0 e refl ((not (is_kept name (places_in n s)), 21) ∷ []) ∙ unfold first_of in rw (is_kept_lem n s name judged (read_words read) m.first m.second read.named.first read.named.second i f.0 f.1))

-- restore
module _ (n : ℕ) (t : Tables) (s name : List ℕ) where
  abbrev wrong : Bool
  wrong = wrong_size n (lengths t) || wrong_name n (length s) name

  pub restore_refused : {r : ℕ} → r ≡ first_of (fill_reasons n t s name []) → r ≢ 0 → filled r t ≡ restore_call n t s name
  unfolding restore_call restore_reasons
  restore_refused {r} e d = call_refused _ (fill_refused t) _ r (lent_refused wrong (not (is_store n s)) r e _ d) d

  module _ (e : 0 ≡ first_of (fill_reasons n t s name [])) where
    pub restore_judged : Sized n t × Judged n s name
    restore_judged =
        let p = lent_passed wrong (not (is_store n s)) 0 e refl in
        let w = or_none (wrong_size n (lengths t)) _ p.0 in
        let q = named n (length s) name w.1 in
        (sized n t true (sym (ap not w.0)) refl, record { small = q.0; size = q.1; named = q.2; store = not-false _ p.1 })

    module _ {k : Store} {m : Name} (read : Read n s name k m) (o : Option ℕ) (found : Found o (first_from (under_at k.n k.words.now m.first m.second) 0 max_states)) where
      pub restore_unknown : o ≡ None → filled 21 t ≡ restore_call n t s name
      unfolding restore_call restore_reasons
      restore_unknown h =
          call_refused _ (fill_refused t) _ 21
          (lent-rest wrong (not (is_store n s)) 0 e refl _ ∙ unfold first_of in rw (not_kept n s name restore_judged.1 (read_words read) m.first m.second read.named.first read.named.second _ refl (found_none o (found_at o read found) h))) (omega arith)

      module _ {i : ℕ} (h : o ≡ Some i) where
        found-i : (i ≡ first_from (under_at n s m.first m.second) 0 max_states) × (i < max_states)
        found-i = found_some o (found_at o read found) h

        pub restore_ready : {w : List ℕ} → w ≡ words_at k.n k.words.now i → (length w ≡ place_words n) × (place_holds n w ≡ true) × (get_or w 0 0 ≡ 1)
        restore_ready x = rw (x, read.count, read.words) (place_ready n s name restore_judged.1 (read_words read) m.first m.second read.named.first read.named.second i found-i.0 found-i.1)

        pub restore_done : {after : Tables} {w : List ℕ} → w ≡ words_at k.n k.words.now i → after ≡ tables_of (graph_at (place_in n w)) → filled 0 after ≡ restore_call n t s name
        unfolding restore_call restore_reasons
        restore_done x y =
            ap (filled 0) (y ∙ ap (λ (l : List ℕ). tables_of (graph_at (place_in n l))) (x ∙ ap₂ (λ (c : ℕ) (l : List ℕ). words_at c l i) read.count read.words) ∙ ap tables_of (graph-told n s name restore_judged.1 (read_words read) m.first m.second read.named.first read.named.second i found-i.0 found-i.1))
            ∙ call_done _ (fill_refused t) _ (lent-rest wrong (not (is_store n s)) 0 e refl ((not (is_kept name (places_in n s)), 21) ∷ []) ∙ unfold first_of in rw (is_kept_lem n s name restore_judged.1 (read_words read) m.first m.second read.named.first read.named.second i found-i.0 found-i.1))

-- a place written from tables that were read
pub put_same : {m n : ℕ} {e f : Bor (List ℕ)} {p q : Bor (List ℕ)} {a b i : ℕ} {s after : List ℕ} → m ≡ n → e ≡ f → p ≡ q → Put m e.now p.now a b i s after → Put n f.now q.now a b i s after
put_same c x y h = rw (← c, ← x, ← y) h

-- keep
module _ (n : ℕ) (edges nodes keys s name : List ℕ) where
  abbrev t : Tables
  t = lent edges nodes keys

  abbrev wrong-lent : Bool
  wrong-lent = wrong_size n (lengths t) || wrong_name n (length s) name

  abbrev none_held : Bool
  none_held = not (holds n t) || not (is_store n s)

  pub keep_refused : {r : ℕ} → r ≡ first_of (kept_reasons n (lent edges nodes keys) s name []) → r ≢ 0 → stored r s ≡ keep_call n (lent edges nodes keys) s name
  unfolding keep_call keep_reasons
  keep_refused {r} e d = call_refused _ (store_refused s) _ r (lent_refused wrong-lent none_held r e _ d) d

  module _ (e : 0 ≡ first_of (kept_reasons n (lent edges nodes keys) s name [])) where
    pub keep_judged : Held n (lent edges nodes keys) × Judged n s name
    keep_judged =
        let p = lent_passed wrong-lent none_held 0 e refl in
        let w = or_none (wrong_size n (lengths t)) _ p.0 in
        let h = or_none (not (holds n t)) _ p.1 in
        let q = named n (length s) name w.1 in
        let k = not-false _ h.0 in
        (record { same = held_tables n t k; proper = held_proper n t k q.0 }, record { small = q.0; size = q.1; named = q.2; store = not-false _ h.1 })

    module _ {k : Store} {m : Name} (read : Read n s name k m) (o : Option ℕ) (found : Found o (first_from (under_at k.n k.words.now m.first m.second) 0 max_states)) where
      pub keep_twice : is_some o ≡ true → stored 22 s ≡ keep_call n (lent edges nodes keys) s name
      unfolding keep_call keep_reasons
      keep_twice h = step o (found_at o read found) h
        where
          step : (o : Option ℕ) → Found o (first_from (under_at n s m.first m.second) 0 max_states) → is_some o ≡ true → stored 22 s ≡ keep_call n (lent edges nodes keys) s name
          step None f h = cc
          step (Some i) f h =
              call_refused _ (store_refused s) _ 22 (lent-rest wrong-lent none_held 0 e refl _ ∙ unfold first_of in rw (is_kept_lem n s name keep_judged.1 (read_words read) m.first m.second read.named.first read.named.second i f.0 f.1)) (omega arith)

      module _ (none : is_some o ≡ false) (q : Option ℕ) (empty : Found q (first_from (free_at k.n k.words.now) 0 max_states)) where
        new : is_kept name (places_in n s) ≡ false
        new = step o (found_at o read found) none
          where
            step : (o : Option ℕ) → Found o (first_from (under_at n s m.first m.second) 0 max_states) → is_some o ≡ false → is_kept name (places_in n s) ≡ false
            step None f h = not_kept n s name keep_judged.1 (read_words read) m.first m.second read.named.first read.named.second _ refl f
            step (Some i) f h = cc

        pub keep_full : q ≡ None → stored 23 s ≡ keep_call n (lent edges nodes keys) s name
        unfolding keep_call keep_reasons
        keep_full h =
            call_refused _ (store_refused s) _ 23
            (lent-rest wrong-lent none_held 0 e refl _ ∙ unfold first_of in rw (new, full_found n s _ refl ∙ eq-eqb _ max_states (found_none q (free_at_lem q read empty) h))) (omega arith)

        module _ {i : ℕ} (h : q ≡ Some i) where
          free-i : (i ≡ first_from (free_at n s) 0 max_states) × (i < max_states)
          free-i = found_some q (free_at_lem q read empty) h

          pub keep_done : {after : List ℕ} → Put n edges nodes m.first m.second i s after → stored 0 after ≡ keep_call n (lent edges nodes keys) s name
          unfolding keep_call keep_reasons
          keep_done {after} p =
              ap (stored 0) written
              ∙ call_done _ (store_refused s) _ (lent-rest wrong-lent none_held 0 e refl ((is_kept name (places_in n s), 22) ∷ (is_full (places_in n s), 23) ∷ []) ∙ unfold first_of in rw (new, full_found n s i free-i.0 ∙ ne_eqb i max_states (λ x. omega (arith, x, free-i.1))))
            where
              written : after ≡ store_of n (keeping name (graph_of n t) (places_in n s))
              written = p.words ∙ ap (put_at n s i) (p.written.words keys keep_judged.0) ∙ kept_new n s name keep_judged.1 (read_words read) i free-i.0 m.first m.second read.named.first read.named.second (graph_of n t) free-i.1
