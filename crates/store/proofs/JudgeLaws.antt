-- The test of a store, place by place, is the model's.
use Rattle.std.specs.Prelude.{◌≡◌, Bool, ◌&&◌, ◌≢◌, ℕ, suc, zero, ◌+◌, ◌*◌, ◌/◌, ◌%◌, ◌-◌, ◌≤◌, ◌<◌, eqb, ltb, length, take, drop, replicate}
use Rattle.std.proofs.Math.Path.{refl, ap}
use Rattle.std.proofs.Common.{sym, ap₂, ◌∙◌, arith, take-append-drop, drop-drop, take_all, eqb-true, eq-eqb, ne_eqb, ltb-true, lt-ltb}
use Rattle.std.proofs.Math.Bool.{true, false}
use mathlib.Core.List.Memᴰ
use mathlib.Core.List.{List, [], ◌∷◌, ◌++◌, map}
use Rattle.std.proofs.Math.Decide.{ℕ_discrete}
use Rattle.std.proofs.Math.ListN.{get_or, length-drop}
use Rattle.std.proofs.Math.Seq.{length-take-le}
use Rattle.model.specs.Lists.{◌∈◌, all, nodes, same_list}
use Rattle.model.specs.Graph.{Graph, max_classes, max_nodes, row_words}
use Rattle.model.specs.Tables.{edges_of, is_graph, simple}
use Rattle.model.specs.Store.{are_apart, are_states, graph_at, is_state, is_store, max_states, node_words, place_in, place_of, place_words, places_in, state_graph, store_of, store_words, words_at}
use Rattle.model.proofs.TestLaws.{and_fst, and_one, and_snd, and_true, differ, iff_eq}
use Rattle.model.proofs.ListLaws.{all_elim, all_intro, nodes_in_lem, nodes_out, same_eq, same_refl}
use Rattle.model.proofs.TableLaws.{length_edges}
use Rattle.model.proofs.StoreLaws.{AllFit, Sound, all_states, length_store, place_at, places_fit, places_length, state_proper, store_ext, store_sound, store_words_lem, words_at_lem}
use Rattle.buffers.specs.UnionLaws.{is_none}
use Rattle.rows.specs.Rows.{Words}
use Rattle.edges.specs.Edges.{edges_hold}
use Rattle.edges.specs.EdgesLaws.{held_with, same_of}
use Rattle.places.specs.Places.{Readable, new_at}
use Rattle.places.specs.PlacesLaws.{apart_found, word_at}
use Rattle.places.specs.StepLaws.{place_inside}
use Rattle.places.specs.NameLaws.{first_word, second_word}
use Rattle.states.specs.States.{State, word_limit}
use Rattle.states.specs.StateLaws.{told_class, words_told}
use Rattle.store.specs.Judging.{place_holds}

place_held : (n : ℕ) (w : List ℕ) → w ≡ place_of n (place_in n w) → is_state (place_in n w) ≡ true → place_holds n w ≡ true
unfolding place_holds
place_held n w e h = and_true (ap (same_list w) (sym e) ∙ same_refl w) h

held_place : (n : ℕ) (w : List ℕ) → place_holds n w ≡ true → w ≡ place_of n (place_in n w)
unfolding place_holds
held_place n w h = same_eq w (place_of n (place_in n w)) (and_fst (same_list w (place_of n (place_in n w))) _ h)

states_each : (n : ℕ) (f : ℕ → List ℕ) (l : List ℕ) → all l (λ i. place_holds n (f i)) ≡ true → are_states (map (λ i. place_in n (f i)) l) ≡ true
unfolding all are_states place_holds
states_each n f [] h = refl
states_each n f (i ∷ l) h = and_true (and_snd (same_list (f i) _) _ (and_fst (place_holds n (f i)) _ h)) (states_each n f l (and_snd (place_holds n (f i)) _ h))

state_at : (n : ℕ) (f : ℕ → List ℕ) (l : List ℕ) → are_states (map (λ i. place_in n (f i)) l) ≡ true → (i : ℕ) → i ∈ l → is_state (place_in n (f i)) ≡ true
unfolding are_states
state_at n f [] h i x' = elim x' [ ]
state_at n f (x ∷ l) h i (Memᴰ.head e) = rw e (and_fst (is_state (place_in n (f x))) _ h)
state_at n f (x ∷ l) h i (Memᴰ.tail m) = state_at n f l (and_snd (is_state (place_in n (f x))) _ h) i m

-- words are a store exactly if the first is n + 1, every place holds, and names differ
module _ (n : ℕ) (small : n ≤ max_nodes) (s : List ℕ) (size : length s ≡ store_words n) where
  abbrev tested : Bool
  tested = eqb (get_or s 0 0) (suc n) && (all (nodes max_states) (λ i. place_holds n (words_at n s i)) && are_apart (places_in n s))

  pub passed : is_store n s ≡ true → tested ≡ true
  passed h = and_true (eq-eqb _ _ first) (and_true (all_intro (nodes max_states) _ (λ i m. place i (nodes_out max_states i m))) sound.apart)
    where
      sound : Sound n (places_in n s)
      sound = store_sound n small s h

      first : get_or s 0 0 ≡ suc n
      first = ap (λ (l : List ℕ). get_or l 0 0) (store_words_lem n small s h) ∙ unfold store_of in refl

      states : are_states (map (λ i. place_in n (words_at n s i)) (nodes max_states)) ≡ true
      states = unfold places_in in all_states n (places_in n s) sound.fit

      words : (i : ℕ) → i < max_states → words_at n s i ≡ place_of n (place_in n (words_at n s i))
      words i l = ap (λ (x : List ℕ). words_at n x i) (store_words_lem n small s h) ∙ words_at_lem n (places_in n s) sound.fit i (omega (arith, sound.size)) ∙ ap (place_of n) (place_at n s i l)

      place : (i : ℕ) → i < max_states → place_holds n (words_at n s i) ≡ true
      place i l = place_held n (words_at n s i) (words i l) (state_at n (words_at n s) (nodes max_states) states i (nodes_in_lem max_states i l))

  pub store_test : is_store n s ≡ tested
  store_test = iff_eq (is_store n s) tested passed back
    where
      back : tested ≡ true → is_store n s ≡ true
      back h = unfold is_store in and_true (ap (same_list s) (sym same) ∙ same_refl s) (and_true (and_snd (all (nodes max_states) _) _ rest) states)
        where
          rest : (all (nodes max_states) (λ i. place_holds n (words_at n s i)) && are_apart (places_in n s)) ≡ true
          rest = and_snd (eqb (get_or s 0 0) (suc n)) _ h

          each : all (nodes max_states) (λ i. place_holds n (words_at n s i)) ≡ true
          each = and_fst (all (nodes max_states) _) _ rest

          states : are_states (places_in n s) ≡ true
          states = unfold places_in in states_each n (words_at n s) (nodes max_states) each

          fit : AllFit n (places_in n s)
          fit = unfold places_in in places_fit n small (words_at n s) (nodes max_states) (unfold places_in in states)

          words : (i : ℕ) → i < max_states → words_at n s i ≡ words_at n (store_of n (places_in n s)) i
          words i l =
              held_place n (words_at n s i) (all_elim (nodes max_states) (λ j. place_holds n (words_at n s j)) each i (nodes_in_lem max_states i l))
              ∙ sym (words_at_lem n (places_in n s) fit i (omega (arith, places_length n s)) ∙ ap (place_of n) (place_at n s i l))

          same : s ≡ store_of n (places_in n s)
          same = store_ext n s (store_of n (places_in n s)) size (length_store n (places_in n s) fit (places_length n s)) (eqb-true _ _ (and_fst (eqb (get_or s 0 0) (suc n)) _ h) ∙ unfold store_of in refl) words

-- a free place
zeros : (w : List ℕ) (k : ℕ) → length w ≡ k → same_list w (replicate k 0) ≡ all w (λ x. ltb x 1)
unfolding same_list all
zeros [] zero e = refl
zeros [] (suc k) e = absurd (omega arith)
zeros (x ∷ xs) zero e = absurd (omega arith)
zeros (x ∷ xs) (suc k) e = ap₂ ◌&&◌ (is_none x) (zeros xs k (omega arith))

-- two lists of equal beginnings
same_append : (p q r t : List ℕ) → length p ≡ length q → same_list (p ++ r) (q ++ t) ≡ (same_list p q && same_list r t)
unfolding same_list
same_append [] [] r t e = refl
same_append [] (y ∷ q) r t e = absurd (omega arith)
same_append (x ∷ p) [] r t e = absurd (omega arith)
same_append (x ∷ p) (y ∷ q) r t e = ap (λ (b : Bool). eqb x y && b) (same_append p q r t (omega arith)) ∙ step (eqb x y) _ _
  where
    step : (a b c : Bool) → (a && (b && c)) ≡ ((a && b) && c)
    step true b c = refl
    step false b c = refl

-- all numbers of a list, by their places
all_by : (f : ℕ → Bool) (l : List ℕ) → ((i : ℕ) → i < length l → f (get_or l i 0) ≡ true) → all l f ≡ true
unfolding all
all_by f [] h = refl
all_by f (x ∷ xs) h = and_true (h 0 (omega arith)) (all_by f xs (λ i l. h (suc i) (omega arith)))

by_all : (f : ℕ → Bool) (l : List ℕ) → all l f ≡ true → (i : ℕ) → i < length l → f (get_or l i 0) ≡ true
unfolding all
by_all f [] h i l = absurd (omega arith)
by_all f (x ∷ xs) h zero l = and_fst (f x) _ h
by_all f (x ∷ xs) h (suc i) l = by_all f xs (and_snd (f x) _ h) i (omega arith)

-- a place by its first word
module _ (n : ℕ) (w : List ℕ) (size : length w ≡ place_words n) where
  pub free_holds : get_or w 0 0 ≡ 0 → all w (λ x. ltb x 1) ≡ place_holds n w
  unfolding place_holds place_in place_of is_state
  free_holds e = rw (eq-eqb (get_or w 0 0) 0 e) (sym (and_one (same_list w (replicate (place_words n) 0)) ∙ zeros w (place_words n) size))

  pub other_fails : get_or w 0 0 ≢ 0 → get_or w 0 0 ≢ 1 → false ≡ place_holds n w
  unfolding place_holds place_in place_of same_list is_state
  other_fails d f = rw (ne_eqb (get_or w 0 0) 0 d) (step w _ _ f)
    where
      step : (v rest : List ℕ) (b : Bool) → get_or v 0 0 ≢ 1 → false ≡ (same_list v (1 ∷ rest) && b)
      step [] rest b f = refl
      step (x ∷ v) rest b f = rw (ne_eqb x 1 f)

-- the words of a state
module _ (n : ℕ) (edges words : List ℕ) (long : length edges ≡ row_words * n) (size : length words ≡ n) where
  abbrev state : Graph
  state = state_graph n edges words

  edges-test : edges_hold n edges ≡ (simple (state_graph n edges words) && same_list edges (edges_of (state_graph n edges words)))
  unfolding state_graph
  edges-test = held_with n edges (λ p. get_or words p 0 % 2) (λ p. get_or words p 0 / 2)

  length-told : length (edges_of (state_graph n edges words)) ≡ row_words * n
  unfolding state_graph
  length-told = length_edges (state_graph n edges words)

  -- words tell classes exactly if they are below the limit
  words-test : all (nodes n) (λ p. ltb ((state_graph n edges words).class p) max_classes) ≡ all words (λ x. ltb x word_limit)
  words-test = iff_eq _ _ there back
    where
      there : all (nodes n) (λ p. ltb (state.class p) max_classes) ≡ true → all words (λ x. ltb x word_limit) ≡ true
      there h = all_by _ words (λ p l. lt-ltb (get_or words p 0) word_limit (omega (arith, told_class n edges words p (omega arith), ltb-true (state.class p) max_classes (all_elim (nodes n) _ h p (nodes_in_lem n p (omega arith))))))

      back : all words (λ x. ltb x word_limit) ≡ true → all (nodes n) (λ p. ltb (state.class p) max_classes) ≡ true
      back h = all_intro (nodes n) _ (λ p m. let l = nodes_out n p m in lt-ltb (state.class p) max_classes (omega (arith, told_class n edges words p l, ltb-true (get_or words p 0) word_limit (by_all _ words h p (omega arith)))))

  graph-told : is_graph (state_graph n edges words) ≡ (simple (state_graph n edges words) && all words (λ x. ltb x word_limit))
  graph-told = unfold is_graph state_graph in ap (λ (b : Bool). simple (state_graph n edges words) && b) words-test

  state-test : (same_list (edges ++ words) (edges_of (state_graph n edges words) ++ node_words (state_graph n edges words)) && is_graph (state_graph n edges words)) ≡ (edges_hold n edges && all words (λ x. ltb x word_limit))
  state-test =
      ap₂ ◌&&◌ (same_append edges (edges_of state) words (node_words state) (long ∙ sym length-told) ∙ ap (λ (b : Bool). same_list edges (edges_of state) && b) (same_of (words_told n edges words size))) graph-told
      ∙ turn (same_list edges (edges_of state)) (all words (λ x. ltb x word_limit)) (simple state)
      ∙ ap (λ (b : Bool). b && all words (λ x. ltb x word_limit)) (sym edges-test)
    where
      turn : (x y z : Bool) → ((x && true) && (z && y)) ≡ ((z && x) && y)
      turn true y true = refl
      turn true y false = refl
      turn false y true = refl
      turn false y false = refl

  -- what the code has tested
  state-held : n ≤ max_nodes → (edges_hold n edges && all words (λ x. ltb x word_limit)) ≡ true → State n edges words
  state-held small h = record {
    proper = state_proper n edges words small (and_snd (same_list (edges ++ words) _) _ (state-test ∙ h));
    edges_of_lem = same_eq edges (edges_of state) (and_snd (simple state) _ (sym edges-test ∙ and_fst (edges_hold n edges) _ h));
    size = size;
  }

-- where the state lies in a place
abbrev edges_at : ℕ → List ℕ → List ℕ
edges_at n w = take (row_words * n) (drop 3 w)

abbrev nodes_at : ℕ → List ℕ → List ℕ
nodes_at n w = drop (3 + row_words * n) w

module _ (n : ℕ) (w : List ℕ) (size : length w ≡ place_words n) where
  edges-long : length (take (row_words * n) (drop 3 w)) ≡ row_words * n
  edges-long = length-take-le (row_words * n) (drop 3 w) (omega (arith, length-drop 3 w))

  nodes-long : length (drop (3 + row_words * n) w) ≡ n
  nodes-long = length-drop (3 + row_words * n) w ∙ omega arith

-- a used place
pub used-holds : (n : ℕ) (w : List ℕ) → length w ≡ place_words n → Words w → get_or w 0 0 ≡ 1 → (edges_hold n (take (row_words * n) (drop 3 w)) && all (drop (3 + row_words * n) w) (λ x. ltb x word_limit)) ≡ place_holds n w
unfolding place_holds place_in place_of is_state same_list
used-holds n [] size words e = absurd (omega arith)
used-holds n (x ∷ []) size words e = absurd (omega arith)
used-holds n (x ∷ (a ∷ [])) size words e = absurd (omega arith)
used-holds n (x ∷ (a ∷ (b ∷ rest))) size words e = sym all_told
  where
    w : List ℕ
    w = x ∷ (a ∷ (b ∷ rest))

    state' : Graph
    state' = state_graph n (edges_at n w) (nodes_at n w)

    whole : rest ≡ edges_at n w ++ nodes_at n w
    whole = sym (ap (λ (l : List ℕ). edges_at n w ++ l) (sym (drop-drop (row_words * n) 3 w)) ∙ take-append-drop (row_words * n) rest)

    parts : (same_list rest (edges_of state' ++ node_words state') && is_graph state') ≡ (edges_hold n (edges_at n w) && all (nodes_at n w) (λ x. ltb x word_limit))
    parts = ap (λ (l : List ℕ). same_list l (edges_of state' ++ node_words state') && is_graph state') whole ∙ state-test n (edges_at n w) (nodes_at n w) (edges-long n w size) (nodes-long n w size)

    all_told : place_holds n w ≡ (edges_hold n (edges_at n w) && all (nodes_at n w) (λ x. ltb x word_limit))
    all_told = rw (ne_eqb x 0 (omega arith), eq-eqb x 1 e, first_word a b (words 1), second_word a b (words 2), eq-eqb a a refl, eq-eqb b b refl) parts

module _ (n : ℕ) (w : List ℕ) (size : length w ≡ place_words n) (h : place_holds n w ≡ true) where
  pub held-used : get_or w 0 0 ≤ 1
  held-used = step (ℕ_discrete (get_or w 0 0) 0) (ℕ_discrete (get_or w 0 0) 1)
    where
      step : Dec (get_or w 0 0 ≡ 0) → Dec (get_or w 0 0 ≡ 1) → get_or w 0 0 ≤ 1
      step (yes e) d = omega arith
      step (no e) (yes d) = omega arith
      step (no e) (no d) = differ h (sym (other_fails n w size e d))

  module _ (small : n ≤ max_nodes) (words : Words w) (used : get_or w 0 0 ≡ 1) where
    pub held_state : State n (take (row_words * n) (drop 3 w)) (drop (3 + row_words * n) w)
    held_state = state-held n (edges_at n w) (nodes_at n w) (edges-long n w size) (nodes-long n w size) small (used-holds n w size words used ∙ h)

    pub held-graph : state_graph n (take (row_words * n) (drop 3 w)) (drop (3 + row_words * n) w) ≡ graph_at (place_in n w)
    unfolding place_in graph_at
    held-graph = rw (ne_eqb (get_or w 0 0) 0 (omega arith))

-- the steps of the code
module _ (n : ℕ) (small : n ≤ max_nodes) (s : List ℕ) (size : length s ≡ store_words n) where
  pub place_size : (i : ℕ) → i < max_states → length (words_at n s i) ≡ place_words n
  unfolding words_at
  place_size i l = length-take-le (place_words n) (drop (1 + place_words n * i) s) (omega (arith, length-drop (1 + place_words n * i) s, place_inside n i l))

  abbrev held : Bool
  held = all (nodes max_states) (λ i. place_holds n (words_at n s i))

  pub readable : all (nodes max_states) (λ i. place_holds n (words_at n s i)) ≡ true → Words s → Readable n s
  readable h words = record { words = words; used = λ i l. rw (← word_at n s i 0 (omega arith)) (held-used n (words_at n s i) (place_size i l) (all_elim (nodes max_states) _ h i (nodes_in_lem max_states i l))) }

  pub count_wrong : get_or s 0 0 ≢ n + 1 → false ≡ is_store n s
  count_wrong d = sym (store_test n small s size ∙ rw (ne_eqb (get_or s 0 0) (suc n) (λ e. d (omega arith))))

  pub place_fails : all (nodes max_states) (λ i. place_holds n (words_at n s i)) ≡ false → false ≡ is_store n s
  place_fails h = sym (store_test n small s size ∙ rw h (step (eqb (get_or s 0 0) (suc n))))
    where
      step : (b : Bool) → (b && false) ≡ false
      step true = refl
      step false = refl

  pub names_tell : {r : Bool} → get_or s 0 0 ≡ n + 1 → all (nodes max_states) (λ i. place_holds n (words_at n s i)) ≡ true → Words s → r ≡ all (nodes max_states) (new_at n s) → r ≡ is_store n s
  names_tell e h words k = sym (store_test n small s size ∙ rw (eq-eqb (get_or s 0 0) (suc n) (omega arith), h) (apart_found n s (readable h words) ∙ sym k))

-- edges, then words of nodes
module _ (n : ℕ) (edges words : List ℕ) where
  pub words_tell : {b : Bool} → edges_hold n edges ≡ true → b ≡ all words (λ x. ltb x word_limit) → b ≡ (edges_hold n edges && all words (λ x. ltb x word_limit))
  words_tell e k = rw e k

-- the parts of a place as they are lent
module _ (n : ℕ) (w : List ℕ) (size : length w ≡ place_words n) {x y : List ℕ} (edges : x ≡ take (row_words * n) (take (length w - 3) (drop 3 w))) (nodes : y ≡ drop (row_words * n) (take (length w - 3) (drop 3 w))) where
  rest_part : take (length w - 3) (drop 3 w) ≡ drop 3 w
  rest_part = take_all (length w - 3) (drop 3 w) (omega (arith, length-drop 3 w))

  pub edges_part : x ≡ take (row_words * n) (drop 3 w)
  edges_part = edges ∙ ap (take (row_words * n)) rest_part

  pub nodes_part : y ≡ drop (3 + row_words * n) w
  nodes_part = nodes ∙ ap (drop (row_words * n)) rest_part ∙ drop-drop (row_words * n) 3 w

  module _ (h : place_holds n w ≡ true) (small : n ≤ max_nodes) (words : Words w) (used : get_or w 0 0 ≡ 1) where
    pub parts_state : State n x y
    parts_state = rw (edges_part, nodes_part) (held_state n w size h small words used)

    pub parts_graph : state_graph n x y ≡ graph_at (place_in n w)
    parts_graph = ap₂ (state_graph n) edges_part nodes_part ∙ held-graph n w size h small words used

  pub used_parts : {r : Bool} → Words w → get_or w 0 0 ≡ 1 → r ≡ (edges_hold n x && all y (λ x. ltb x word_limit)) → r ≡ place_holds n w
  used_parts words e k = k ∙ ap₂ (λ (x y : List ℕ). edges_hold n x && all y (λ x. ltb x word_limit)) edges_part nodes_part ∙ used-holds n w size words e
