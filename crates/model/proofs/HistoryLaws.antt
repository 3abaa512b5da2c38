-- After a history the tables hold its plain graph, the store has its plain list, and each call gave the number and the answers that these tell.
use Rattle.std.specs.Prelude.{◌≡◌, true, false, ◌||◌, ◌⊎◌, ℕ, ◌*◌, ◌≤◌, eqb, ltb, ℤ, length}
use Rattle.std.proofs.Math.Path.{refl, sym, ap, ap₂}
use Rattle.std.proofs.Common.{◌∙◌, inl, inr, arith, eqb-true, eq-eqb, ltb-false, le-ltb}
use Rattle.std.proofs.Math.Bool.{not}
use mathlib.Core.List.{List, [], ◌∷◌}
use Rattle.std.proofs.lemmas.Bool.{not-false, not-true}
use Rattle.model.specs.Graph.{Graph, Proper, empty_graph, max_nodes, node_numbers, row_words}
use Rattle.model.specs.Tables.{Tables, graph_of, holds, tables_of}
use Rattle.model.specs.Store.{Place, dropping, is_full, is_kept, is_name, is_store, keeping, kept_graph, no_states, places_in, store_of, store_words, wrong_name, wrong_store}
use Rattle.model.specs.Refusals.{Lengths, first_of, lengths, wrong_size}
use Rattle.model.specs.Steps.{Stepped, run}
use Rattle.model.specs.Updates.{answers, batch_graph, update_count, updates_in, wrong_batch}
use Rattle.model.specs.Calls.{Opened, apply_call, apply_reasons, apply_refused, drop_call, drop_reasons, fill_refused, keep_call, keep_reasons, onto, open_call, open_reasons, open_refused, restore_call, restore_reasons, store_refused}
use Rattle.model.specs.History.{Call, Outcome, Plain, Room, State, apply_step, batch, batch_why, call_step, drop, drop_why, fill_step, history, keep, keep_why, number, open_step, open_why, opening, plain, plain_refused, plain_step, restore, restore_why, room_of, spare, spares, store_step, unopened}
use Rattle.model.proofs.TestLaws.{and_fst, and_snd, decide, differ, or_none}
use Rattle.model.proofs.TableLaws.{length_edges, length_keys, length-nodes_of, proper_holds, read_back}
use Rattle.model.proofs.StoreLaws.{Sound, Under, dropping_other, keeping_new, keeping_other, kept_proper, sound_back, sound_dropping, sound_keeping, sound_length, sound_none, sound_store}
use Rattle.model.proofs.UpdateLaws.{proper_batch, proper_empty}
use Rattle.model.proofs.RefusalLaws.{first_none, judged_done, judged_keeps, judged_related, judged_result}
use Rattle.model.proofs.StepLaws.{Matched, run_matched}

-- tables of a graph have the right lengths
abbrev pub lengths_for : ℕ → Lengths
lengths_for n = record { edges = row_words * n; nodes = node_numbers * n; keys = 2 * n }

pub lengths_of : (g : Graph) → lengths (tables_of g) ≡ lengths_for g.node_count
unfolding lengths tables_of
lengths_of g = λ i. record { edges = length_edges g i; nodes = length-nodes_of g i; keys = length_keys g i }

-- a size that is not wrong
pub right_size : (n : ℕ) (l : Lengths) → wrong_size n l ≡ false → (n ≤ max_nodes) × (l ≡ lengths_for n)
unfolding wrong_size
right_size n l h =
    let a = or_none (ltb max_nodes n) _ h in
    let b = or_none (not (eqb l.edges (row_words * n))) _ a.1 in
    let c = or_none (not (eqb l.nodes (node_numbers * n))) _ b.1 in
    let e : l.edges ≡ row_words * n = eqb-true l.edges (row_words * n) (not-false _ b.0) in
    let d : l.nodes ≡ node_numbers * n = eqb-true l.nodes (node_numbers * n) (not-false _ c.0) in
    let k : l.keys ≡ 2 * n = eqb-true l.keys (2 * n) (not-false _ c.1) in
    (ltb-false max_nodes n a.0, λ i. record { edges = e i; nodes = d i; keys = k i })

pub size_right : (n : ℕ) → n ≤ max_nodes → wrong_size n (lengths_for n) ≡ false
unfolding wrong_size
size_right n h = rw (le-ltb max_nodes n h, eq-eqb (row_words * n) (row_words * n) refl, eq-eqb (node_numbers * n) (node_numbers * n) refl, eq-eqb (2 * n) (2 * n) refl)

-- tables t of lengths l hold the graph g
pub record Kept (l : Lengths) (g : Graph) (t : Tables) : Type 0 where
  pub tables : t ≡ tables_of g
  pub proper : Proper g
  pub fits : l ≡ lengths_for g.node_count

-- they have the right size, hold a graph, and are read as that one
module _ {l : Lengths} {g : Graph} {t : Tables} (h : Kept l g t) where
  pub kept_size : wrong_size g.node_count (lengths t) ≡ false
  kept_size = ap (wrong_size g.node_count) (ap lengths h.tables ∙ lengths_of g) ∙ size_right g.node_count h.proper.small

  module _ (n : ℕ) (e : n ≡ g.node_count) where
    pub kept_holds : holds n t ≡ true
    kept_holds = ap₂ holds e h.tables ∙ proper_holds g h.proper

    pub kept_graph_lem : graph_of n t ≡ g
    kept_graph_lem = ap₂ graph_of e h.tables ∙ read_back g h.proper

-- a store s of length k for n nodes has these places
pub record StoreKept (k n : ℕ) (xs : List Place) (s : List ℕ) : Type 0 where
  pub words : s ≡ store_of n xs
  pub sound : Sound n xs
  pub fits : k ≡ store_words n

-- lengths that are not wrong
right_store : (n k : ℕ) → wrong_store n k ≡ false → k ≡ store_words n
unfolding wrong_store
right_store n k w = eqb-true k (store_words n) (not-false _ (or_none (ltb max_nodes n) _ w).1)

right_name : (n k : ℕ) (name : List ℕ) → wrong_name n k name ≡ false → (wrong_store n k ≡ false) × (is_name name ≡ true)
unfolding wrong_name
right_name n k name w = let a = or_none (wrong_store n k) _ w in (a.0, not-false _ a.1)

-- what calls find and leave agrees with what the plain side knows
pub record Agrees (l : Room) (s : State) (p : Plain) : Type 0 where
  pub tables : Kept l.tables p.graph s.tables
  pub store : StoreKept l.store p.graph.node_count p.places s.store

-- what a done opening leaves
opening_agrees : (n : ℕ) (l : Room) → first_of (open_why l n) ≡ 0
    → Agrees l (record { tables = tables_of (empty_graph n); store = store_of n no_states }) (record { graph = empty_graph n; places = no_states })
unfolding empty_graph
opening_agrees n l ok =
    let a = or_none (wrong_size n l.tables) _ (first_none _ 11 [] refl ok).0 in
    let w = right_size n l.tables a.0 in record {
      tables = record { tables = refl; proper = proper_empty n w.0; fits = w.1 };
      store = record { words = refl; sound = sound_none n; fits = right_store n l.store a.1 };
    }

module _ (l : Room) (s : State) (p : Plain) (h : Agrees l s p) where
  abbrev g : Graph
  g = p.graph

  abbrev xs : List Place
  xs = p.places

  abbrev t : Tables
  t = s.tables

  abbrev st : List ℕ
  st = s.store

  room-t : lengths s.tables ≡ l.tables
  room-t = ap lengths h.tables.tables ∙ lengths_of g ∙ sym h.tables.fits

  room-s : length s.store ≡ l.store
  room-s = ap length h.store.words ∙ sound_length g.node_count xs h.store.sound ∙ sym h.store.fits

  by-tables : (n : ℕ) → wrong_size n l.tables ≡ false → n ≡ p.graph.node_count
  by-tables n w =
      let a : l.tables.edges ≡ row_words * n = ap (λ (x : Lengths). x.edges) (right_size n l.tables w).1 in
      let z : l.tables.edges ≡ row_words * p.graph.node_count = ap (λ (x : Lengths). x.edges) h.tables.fits in
      omega arith

  by-store : (n : ℕ) → wrong_store n l.store ≡ false → n ≡ p.graph.node_count
  by-store n w = omega (arith, right_store n l.store w, h.store.fits)

  -- read with the right n
  module _ (n : ℕ) (e : n ≡ p.graph.node_count) where
    store-n : is_store n s.store ≡ true
    store-n = ap₂ is_store e h.store.words ∙ sound_store g.node_count xs h.store.sound

    places-n : places_in n s.store ≡ p.places
    places-n = ap₂ places_in e h.store.words ∙ sound_back g.node_count xs h.store.sound

  -- what is to be shown of a call
  abbrev Told : Call → Type 0
  Told c = Matched (Agrees l) (call_step s c) (plain_step l p c)

  opening-told : (n : ℕ) → Told (opening n)
  unfolding call_step plain_step open_call open_reasons
  opening-told n =
      judged_related (λ o x. Matched (Agrees l) (open_step o) x)
      (open_reasons n t st) (open_why l n) (open_refused t st) (plain_refused p []) _ _
      (ap₂ (λ (k : Lengths) (m : ℕ). first_of ((wrong_size n k || wrong_store n m, 11) ∷ [])) room-t room-s)
      (λ z. (h, refl))
      (λ ok. (opening_agrees n l ok, refl))

  -- with the right n, 12 never arises
  batch-refusal : (n : ℕ) (cs : List ℕ) (out : List ℤ) → first_of (apply_reasons n s.tables cs out) ≡ first_of (batch_why l n cs out)
  unfolding apply_reasons first_of
  batch-refusal n cs out = rw room-t (step (decide (wrong_size n l.tables)))
    where
      step : (wrong_size n l.tables ≡ true) ⊎ (wrong_size n l.tables ≡ false)
          → first_of ((wrong_size n l.tables || wrong_batch cs, 11) ∷ (not (holds n t), 12) ∷ (ltb (length out) (update_count cs), 18) ∷ [])
          ≡ first_of (batch_why l n cs out)
      step (inl w) = rw w
      step (inr w) = rw (kept_holds h.tables n (by-tables n w))

  batch-told : (n : ℕ) (cs : List ℕ) (out : List ℤ) → Told (batch n cs out)
  unfolding call_step plain_step apply_call
  batch-told n cs out =
      judged_related (λ a x. Matched (Agrees l) (apply_step st a) x)
      (apply_reasons n t cs out) (batch_why l n cs out) (apply_refused t out) (plain_refused p out) _ _
      (batch-refusal n cs out)
      (λ z. (h, refl))
      done
    where
      done : first_of (batch_why l n cs out) ≡ 0
          → Matched (Agrees l)
          (apply_step st (record { result = 0; tables = tables_of (batch_graph (graph_of n t) (updates_in cs)); answers = onto (answers (graph_of n t) (updates_in cs)) out }))
          (record { outcome = record { result = 0; answers = onto (answers g (updates_in cs)) out }; after = record { graph = batch_graph g (updates_in cs); places = xs } })
      done ok =
          let w = (or_none (wrong_size n l.tables) _ (first_none _ 11 _ refl ok).0).0 in
          let q : graph_of n t ≡ g = kept_graph_lem h.tables n (by-tables n w) in
          let k = proper_batch (updates_in cs) g h.tables.proper in (
            record {
              tables = record {
                tables = ap (λ (d : Graph). tables_of (batch_graph d (updates_in cs))) q;
                proper = k.0;
                fits = h.tables.fits ∙ ap lengths_for (sym k.1);
              };
              store = rw k.1 h.store;
            },
            ap (λ (d : Graph). record { result = 0; answers = onto (answers d (updates_in cs)) out }) q,
          )

  keep-refusal : (n : ℕ) (name : List ℕ) → first_of (keep_reasons n s.tables s.store name) ≡ first_of (keep_why l p.places n name)
  unfolding keep_reasons first_of
  keep-refusal n name = rw (room-t, room-s) (step (decide (wrong_size n l.tables)))
    where
      step : (wrong_size n l.tables ≡ true) ⊎ (wrong_size n l.tables ≡ false)
          → first_of ((wrong_size n l.tables || wrong_name n l.store name, 11) ∷ (not (holds n t) || not (is_store n st), 12) ∷ (is_kept name (places_in n st), 22) ∷ (is_full (places_in n st), 23) ∷ [])
          ≡ first_of (keep_why l xs n name)
      step (inl w) = rw w
      step (inr w) = let e = by-tables n w in rw (kept_holds h.tables n e, store-n n e, places-n n e)

  keep-told : (n : ℕ) (name : List ℕ) → Told (keep n name)
  unfolding call_step plain_step keep_call
  keep-told n name =
      judged_related (λ o x. Matched (Agrees l) (store_step t o) x)
      (keep_reasons n t st name) (keep_why l xs n name) (store_refused st) (plain_refused p []) _ _
      (keep-refusal n name)
      (λ z. (h, refl))
      done
    where
      done : first_of (keep_why l xs n name) ≡ 0
          → Matched (Agrees l) (store_step t (record { result = 0; store = store_of n (keeping name (graph_of n t) (places_in n st)) })) (record { outcome = number 0; after = record { graph = g; places = keeping name g xs } })
      done ok =
          let a = first_none _ 11 _ refl ok in
          let w = or_none (wrong_size n l.tables) _ a.0 in
          let b = first_none (is_kept name xs) 22 _ refl a.1 in
          let e = by-tables n w.0 in (
            record {
              tables = h.tables;
              store = record {
                words = ap (λ (m : ℕ). store_of m (keeping name (graph_of n t) (places_in n st))) e ∙ ap₂ (λ (d : Graph) (ys : List Place). store_of g.node_count (keeping name d ys)) (kept_graph_lem h.tables n e) (places-n n e);
                sound = sound_keeping name g g.node_count xs (right_name n l.store name w.1).1 h.tables.proper refl b.0 h.store.sound;
                fits = h.store.fits;
              };
            },
            refl,
          )

  restore-refusal : (n : ℕ) (name : List ℕ) → first_of (restore_reasons n s.tables s.store name) ≡ first_of (restore_why l p.places n name)
  unfolding restore_reasons first_of
  restore-refusal n name = rw (room-t, room-s) (step (decide (wrong_size n l.tables)))
    where
      step : (wrong_size n l.tables ≡ true) ⊎ (wrong_size n l.tables ≡ false)
          → first_of ((wrong_size n l.tables || wrong_name n l.store name, 11) ∷ (not (is_store n st), 12) ∷ (not (is_kept name (places_in n st)), 21) ∷ [])
          ≡ first_of (restore_why l xs n name)
      step (inl w) = rw w
      step (inr w) = let e = by-tables n w in rw (store-n n e, places-n n e)

  restore-told : (n : ℕ) (name : List ℕ) → Told (restore n name)
  unfolding call_step plain_step restore_call
  restore-told n name =
      judged_related (λ o x. Matched (Agrees l) (fill_step st o) x)
      (restore_reasons n t st name) (restore_why l xs n name) (fill_refused t) (plain_refused p []) _ _
      (restore-refusal n name)
      (λ z. (h, refl))
      done
    where
      done : first_of (restore_why l xs n name) ≡ 0
          → Matched (Agrees l) (fill_step st (record { result = 0; tables = tables_of (kept_graph name (places_in n st)) })) (record { outcome = number 0; after = record { graph = kept_graph name xs; places = xs } })
      done ok =
          let a = first_none _ 11 _ refl ok in
          let w = or_none (wrong_size n l.tables) _ a.0 in
          let b = first_none (not (is_kept name xs)) 21 _ refl a.1 in
          let k = kept_proper g.node_count name xs h.store.sound.fit (not-false _ b.0) in (
            record {
              tables = record {
                tables = ap (λ (ys : List Place). tables_of (kept_graph name ys)) (places-n n (by-tables n w.0));
                proper = k.0;
                fits = h.tables.fits ∙ ap lengths_for (sym k.1);
              };
              store = rw k.1 h.store;
            },
            refl,
          )

  drop-refusal : (n : ℕ) (name : List ℕ) → first_of (drop_reasons n s.store name) ≡ first_of (drop_why l p.places n name)
  unfolding drop_reasons first_of
  drop-refusal n name = rw room-s (step (decide (wrong_name n l.store name)))
    where
      step : (wrong_name n l.store name ≡ true) ⊎ (wrong_name n l.store name ≡ false)
          → first_of ((wrong_name n l.store name, 11) ∷ (not (is_store n st), 12) ∷ (not (is_kept name (places_in n st)), 21) ∷ [])
          ≡ first_of (drop_why l xs n name)
      step (inl w) = rw w
      step (inr w) = let e = by-store n (right_name n l.store name w).0 in rw (store-n n e, places-n n e)

  drop-told : (n : ℕ) (name : List ℕ) → Told (drop n name)
  unfolding call_step plain_step drop_call
  drop-told n name =
      judged_related (λ o x. Matched (Agrees l) (store_step t o) x)
      (drop_reasons n st name) (drop_why l xs n name) (store_refused st) (plain_refused p []) _ _
      (drop-refusal n name)
      (λ z. (h, refl))
      done
    where
      done : first_of (drop_why l xs n name) ≡ 0
          → Matched (Agrees l) (store_step t (record { result = 0; store = store_of n (dropping name (places_in n st)) })) (record { outcome = number 0; after = record { graph = g; places = dropping name xs } })
      done ok =
          let e = by-store n (right_name n l.store name (first_none _ 11 _ refl ok).0).0 in (
            record {
              tables = h.tables;
              store = record {
                words = ap₂ (λ (m : ℕ) (ys : List Place). store_of m (dropping name ys)) e (places-n n e);
                sound = sound_dropping name g.node_count xs h.store.sound;
                fits = h.store.fits;
              };
            },
            refl,
          )

pub call_told : (l : Room) (s : State) (p : Plain) (c : Call) → Agrees l s p → Matched (Agrees l) (call_step s c) (plain_step l p c)
call_told l s p (opening n) h = opening-told l s p h n
call_told l s p (batch n cs out) h = batch-told l s p h n cs out
call_told l s p (keep n name) h = keep-told l s p h n name
call_told l s p (restore n name) h = restore-told l s p h n name
call_told l s p (drop n name) h = drop-told l s p h n name

-- the first call, an opening that is done
opened_none : (s : State) (n : ℕ) → (call_step s (opening n)).outcome.result ≡ 0 → first_of (open_why (room_of s) n) ≡ 0
unfolding call_step open_call open_reasons
opened_none s n ok = sym (judged_result (λ (o : Opened). o.result) (open_why (room_of s) n) (open_refused s.tables s.store) (record { result = 0; tables = tables_of (empty_graph n); store = store_of n no_states }) (λ r. refl) refl) ∙ ok

first_told : (s : State) (p : Plain) (n : ℕ) → (call_step s (opening n)).outcome.result ≡ 0 → Matched (Agrees (room_of s)) (call_step s (opening n)) (plain_step (room_of s) p (opening n))
unfolding call_step plain_step open_call open_reasons
first_told s p n ok =
    judged_related (λ o x. Matched (Agrees (room_of s)) (open_step o) x)
    (open_why (room_of s) n) (open_why (room_of s) n) (open_refused s.tables s.store) (plain_refused p []) _ _ refl
    (λ d. absurd (d (opened_none s n ok)))
    (λ d. (opening_agrees n (room_of s) d, refl))

-- its n is right for the tables
pub opened-size : (s : State) (n : ℕ) → (call_step s (opening n)).outcome.result ≡ 0 → wrong_size n (lengths s.tables) ≡ false
unfolding call_step open_call open_reasons
opened-size s n ok = (or_none (wrong_size n (lengths s.tables)) _ (first_none _ 11 [] refl (opened_none s n ok)).0).0

-- calls one after the other
pub run-told : (l : Room) (cs : List Call) (s : State) (p : Plain) → Agrees l s p → Matched (Agrees l) (run call_step s cs) (run (plain_step l) p cs)
run-told l = run_matched (Agrees l) call_step (plain_step l) (λ x p c. call_told l x p c)

-- a whole history
pub history-told : (s : State) (n : ℕ) (cs : List Call) → (call_step s (opening n)).outcome.result ≡ 0 → Matched (Agrees (room_of s)) (history s n cs) (plain s n cs)
unfolding run
history-told s n cs ok =
    let k = first_told s unopened n ok in
    let m = run-told (room_of s) cs (call_step s (opening n)).after (plain_step (room_of s) unopened (opening n)).after k.0 in
    (m.0, ap₂ ◌∷◌ k.1 m.1)

-- what is kept under a name stays there through calls that spare it
module _ (l : Room) (t : List ℕ) (g : Graph) where
  abbrev Stays : Stepped Plain Outcome → Type 0
  Stays x = Under t g x.after.places

  stay : (p : Plain) (c : Call) → spares t c ≡ true → Under t g p.places → Stays (plain_step l p c)
  unfolding plain_step
  stay p (opening n) z u = differ z refl
  stay p (batch n cs out) z u = judged_keeps Stays (batch_why l n cs out) (plain_refused p out) _ u (λ ok. u)
  stay p (keep n name) z u = judged_keeps Stays (keep_why l p.places n name) (plain_refused p []) _ u (λ ok. keeping_other name p.graph t g p.places (first_none (is_kept name p.places) 22 _ refl (first_none _ 11 _ refl ok).1).0 u)
  stay p (restore n name) z u = judged_keeps Stays (restore_why l p.places n name) (plain_refused p []) _ u (λ ok. u)
  stay p (drop n name) z u = judged_keeps Stays (drop_why l p.places n name) (plain_refused p []) _ u (λ ok. dropping_other name t g (not-true _ z) p.places u)

  pub stays : (cs : List Call) (p : Plain) → spare t cs ≡ true → Under t g p.places → Under t g (run (plain_step l) p cs).after.places
  unfolding run spare
  stays [] p z u = u
  stays (c ∷ cs) p z u = stays cs (plain_step l p c).after (and_snd (spares t c) _ z) (stay p c (and_fst (spares t c) _ z) u)

-- a return, in a history for n
module _ (n : ℕ) (l : Room) (w : wrong_size n l.tables ≡ false) (a : State) (p : Plain) (h : Agrees l a p) (name : List ℕ) (cs : List Call) (z : spare name cs ≡ true) where
  places-told : (b : State) (q : Plain) → Agrees l b q → places_in n b.store ≡ q.places
  places-told b q k = places-n l b q k n (by-tables l b q k n w)

  pub name_stays : is_kept name (places_in n a.store) ≡ true
      → (is_kept name (places_in n (run call_step a cs).after.store) ≡ true)
      × (kept_graph name (places_in n (run call_step a cs).after.store) ≡ kept_graph name (places_in n a.store))
  name_stays k =
      let e = places-told a p h in
      let f = places-told _ _ (run-told l cs a p h).0 in
      let u = stays l name (kept_graph name p.places) cs p z (record { name = ap (is_kept name) (sym e) ∙ k; graph = refl }) in
      (ap (is_kept name) f ∙ u.name, ap (kept_graph name) f ∙ u.graph ∙ sym (ap (kept_graph name) e))

  module _ (ok : (call_step a (keep n name)).outcome.result ≡ 0) where
    abbrev done : Stepped Plain Outcome
    done = record { outcome = number 0; after = record { graph = p.graph; places = keeping name p.graph p.places } }

    k : Matched (Agrees l) (call_step a (keep n name)) (plain_step l p (keep n name))
    k = keep-told l a p h n name

    none : first_of (keep_why l p.places n name) ≡ 0
    unfolding plain_step
    none = sym (judged_result (λ (x : Stepped Plain Outcome). x.outcome.result) (keep_why l p.places n name) (plain_refused p []) done (λ r. refl) refl) ∙ sym (ap (λ (o : Outcome). o.result) k.1) ∙ ok

    right : wrong_name n l.store name ≡ false
    right = (or_none (wrong_size n l.tables) _ (first_none _ 11 _ refl none).0).1

    kept-plain : plain_step l p (keep n name) ≡ done
    unfolding plain_step
    kept-plain = judged_done (keep_why l p.places n name) (plain_refused p []) done none

    under : Under name p.graph (plain_step l p (keep n name)).after.places
    under =
        let b = first_none (is_kept name p.places) 22 _ refl (first_none _ 11 _ refl none).1 in
        rw kept-plain (keeping_new name p.graph p.places b.0 (first_none (is_full p.places) 23 _ refl b.1).0)

    abbrev b : State
    b = (run call_step (call_step a (keep n name)).after cs).after

    abbrev q : Plain
    q = (run (plain_step l) (plain_step l p (keep n name)).after cs).after

    m : Agrees l b q
    m = (run-told l cs (call_step a (keep n name)).after (plain_step l p (keep n name)).after k.0).0

    u : Under name p.graph q.places
    u = stays l name p.graph cs (plain_step l p (keep n name)).after z under

    back-plain : plain_step l q (restore n name) ≡ record { outcome = number 0; after = record { graph = kept_graph name q.places; places = q.places } }
    unfolding plain_step first_of
    back-plain = judged_done (restore_why l q.places n name) (plain_refused q []) (record { outcome = number 0; after = record { graph = kept_graph name q.places; places = q.places } }) (rw (w, right, u.name))

    r : Matched (Agrees l) (call_step b (restore n name)) (plain_step l q (restore n name))
    r = restore-told l b q m n name

    told : (call_step b (restore n name)).outcome ≡ number 0
    told = r.1 ∙ ap (λ (x : Stepped Plain Outcome). x.outcome) back-plain

    tables : (call_step b (restore n name)).after.tables ≡ a.tables
    tables = r.0.tables.tables ∙ ap (λ (x : Stepped Plain Outcome). tables_of x.after.graph) back-plain ∙ ap tables_of u.graph ∙ sym h.tables.tables

    pub returned : call_step b (restore n name) ≡ record { outcome = number 0; after = record { tables = a.tables; store = b.store } }
    unfolding call_step
    returned = λ i. record { outcome = told i; after = record { tables = tables i; store = b.store } }
