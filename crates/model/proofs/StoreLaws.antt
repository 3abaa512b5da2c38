-- Laws of stores: what is written is read back, what passes for a store is one, and what is kept, dropped or emptied is one again.
use Rattle.std.specs.Prelude.{◌≡◌, Bool, ◌&&◌, ◌||◌, cond, ◌⊎◌, eqb, ltb, get_or, drop, replicate}
use Rattle.std.proofs.Math.Path.{refl, ap}
use Rattle.std.proofs.Common.{sym, ap₂, ◌∙◌, inl, inr, arith, length-drop, take-append-drop, drop_at, drop-cons, drop-drop, length-take-le, ext_get_or}
use Rattle.std.proofs.Math.Bool.{true, false, not}
use mathlib.Core.List.{List, [], ◌∷◌, ◌++◌, map}
use Prim.Native.Nat.{ℕ, suc, zero, ◌+◌, ◌*◌, ◌/◌, ◌%◌, ◌^◌, ◌≤◌, ◌<◌}
use Rattle.std.proofs.Math.Nat.{pow-succ', mul-zero, mul-suc}
use Rattle.std.proofs.Math.ListN.{length, take, length-append, length-map}
use Rattle.std.proofs.lemmas.List.{length-replicate, get_or-replicate}
use Rattle.std.proofs.Math.Seq.{take_at, drop-append-add}
use borrow.Author.Tests.{eqb-true, eq-eqb, ltb-true, lt-ltb, not-true}
use Rattle.model.specs.Lists.{all, concat, nodes, same_list}
use Rattle.model.specs.Graph.{Graph, Proper, max_nodes, row_words}
use Rattle.model.specs.Tables.{edges_of, is_graph}
use Rattle.model.specs.Store.{Place, are_apart, are_states, bytes_of, dropping, free, graph_at, is_free, is_full, is_kept, is_name, is_new, is_state, is_store, is_under, keeping, kept, kept_graph, max_states, name_bytes, no_states, node_word, node_words, number, place_in, place_of, place_words, places_in, state_graph, store_of, store_words, words_at}
use Rattle.model.proofs.TestLaws.{and_fst, and_snd, and_true, decide, differ, fails, or_none}
use Rattle.model.proofs.ListLaws.{same_eq, same_refl}
use Rattle.model.proofs.TableLaws.{get_d_map_at, get_d_nodes, graph_test, labels_back, labels_proper, length_edges, length-nodes}

-- bytes and numbers
pub number_bytes : (k w : ℕ) → w < 256 ^ k → number (bytes_of k w) ≡ w
unfolding number bytes_of
number_bytes zero w h = omega arith
number_bytes (suc k) w h = omega (arith, number_bytes k (w / 256) (omega (arith, pow-succ' 256 k)))

pub bytes_number : (s : List ℕ) → all s (λ b. ltb b 256) ≡ true → bytes_of (length s) (number s) ≡ s
unfolding number bytes_of all
bytes_number [] h = refl
bytes_number (b ∷ bs) h = ap₂ ◌∷◌ low (ap (bytes_of (length bs)) high ∙ bytes_number bs (and_snd (ltb b 256) _ h))
  where
    small : b < 256
    small = ltb-true b 256 (and_fst (ltb b 256) _ h)

    low : (b + 256 * number bs) % 256 ≡ b
    low = omega (arith, small)

    high : (b + 256 * number bs) / 256 ≡ number bs
    high = omega (arith, small)

pub length_bytes : (k w : ℕ) → length (bytes_of k w) ≡ k
unfolding bytes_of
length_bytes zero w = refl
length_bytes (suc k) w = ap suc (length_bytes k (w / 256))

bytes_below : (k w : ℕ) → all (bytes_of k w) (λ b. ltb b 256) ≡ true
unfolding bytes_of all
bytes_below zero w = refl
bytes_below (suc k) w = and_true (lt-ltb (w % 256) 256 (omega arith)) (bytes_below k (w / 256))

all_append : (s t : List ℕ) (f : ℕ → Bool) → all s f ≡ true → all t f ≡ true → all (s ++ t) f ≡ true
unfolding all
all_append [] t f a b = b
all_append (x ∷ xs) t f a b = and_true (and_fst (f x) _ a) (all_append xs t f (and_snd (f x) _ a) b)

all_take : (k : ℕ) (s : List ℕ) (f : ℕ → Bool) → all s f ≡ true → all (take k s) f ≡ true
unfolding all
all_take zero s f h = refl
all_take (suc k) [] f h = refl
all_take (suc k) (x ∷ xs) f h = and_true (and_fst (f x) _ h) (all_take k xs f (and_snd (f x) _ h))

all_drop : (k : ℕ) (s : List ℕ) (f : ℕ → Bool) → all s f ≡ true → all (drop k s) f ≡ true
unfolding all
all_drop zero s f h = h
all_drop (suc k) [] f h = refl
all_drop (suc k) (x ∷ xs) f h = all_drop k xs f (and_snd (f x) _ h)

-- names are read back from two words, and any two words tell one
module _ (s : List ℕ) (h : is_name s ≡ true) where
  pub name-length : length s ≡ name_bytes
  unfolding is_name
  name-length = eqb-true (length s) name_bytes (and_fst (eqb (length s) name_bytes) _ h)

  pub name_below : all s (λ b. ltb b 256) ≡ true
  unfolding is_name
  name_below = and_snd (eqb (length s) name_bytes) _ h

  pub name_back : bytes_of 8 (number (take 8 s)) ++ bytes_of 8 (number (drop 8 s)) ≡ s
  name_back = ap₂ ◌++◌ (half (take 8 s) (length-take-le 8 s (omega (arith, name-length))) (all_take 8 s _ name_below)) (half (drop 8 s) (length-drop 8 s ∙ omega (arith, name-length)) (all_drop 8 s _ name_below)) ∙ take-append-drop 8 s
    where
      half : (t : List ℕ) → length t ≡ 8 → all t (λ b. ltb b 256) ≡ true → bytes_of 8 (number t) ≡ t
      half t l b = ap (λ (k : ℕ). bytes_of k (number t)) (sym l) ∙ bytes_number t b

pub bytes_name : (a b : ℕ) → is_name (bytes_of 8 a ++ bytes_of 8 b) ≡ true
unfolding is_name
bytes_name a b = and_true (eq-eqb _ 16 (length-append (bytes_of 8 a) (bytes_of 8 b) ∙ ap₂ ◌+◌ (length_bytes 8 a) (length_bytes 8 b))) (all_append (bytes_of 8 a) (bytes_of 8 b) _ (bytes_below 8 a) (bytes_below 8 b))

-- the words of nodes
pub length_words : (g : Graph) → length (node_words g) ≡ g.node_count
unfolding node_words
length_words g = length-map (nodes g.node_count) (node_word g) ∙ length-nodes g.node_count

pub word_at : (g : Graph) (p : ℕ) → p < g.node_count → get_or (node_words g) p 0 ≡ node_word g p
unfolding node_words
word_at g p h = get_d_map_at (node_word g) 0 (nodes g.node_count) p (rw length-nodes h) ∙ ap (node_word g) (get_d_nodes g.node_count p h)

-- mark and class of a word
pub word_mark : (g : Graph) (p : ℕ) → node_word g p % 2 ≡ cond (g.hidden p) 1 0
unfolding node_word
word_mark g p = step (g.hidden p)
  where
    step : (b : Bool) → (cond b 1 0 + 2 * g.class p) % 2 ≡ cond b 1 0
    step true = omega arith
    step false = omega arith

pub word_class : (g : Graph) (p : ℕ) → node_word g p / 2 ≡ g.class p
unfolding node_word
word_class g p = step (g.hidden p)
  where
    step : (b : Bool) → (cond b 1 0 + 2 * g.class p) / 2 ≡ g.class p
    step true = omega arith
    step false = omega arith

pub state_back : (g : Graph) → Proper g → state_graph g.node_count (edges_of g) (node_words g) ≡ g
unfolding state_graph
state_back g h =
    labels_back g h (λ p. get_or (node_words g) p 0 % 2) (λ p. get_or (node_words g) p 0 / 2)
    (λ p l. ap (λ (w : ℕ). w % 2) (word_at g p l) ∙ word_mark g p)
    (λ p l. ap (λ (w : ℕ). w / 2) (word_at g p l) ∙ word_class g p)

-- a place for n nodes: free, or a proper graph of n nodes under a name
abbrev pub Fits : ℕ → Place → Type 0
Fits n free = Unit {0}
Fits n (kept s g) = (is_name s ≡ true) × Proper g × (g.node_count ≡ n)

abbrev pub AllFit : ℕ → List Place → Type 0
AllFit n [] = Unit {0}
AllFit n (x ∷ xs) = Fits n x × AllFit n xs

length_state : (n : ℕ) (g : Graph) → g.node_count ≡ n → length (edges_of g ++ node_words g) ≡ 9 * n
length_state n g e = length-append (edges_of g) (node_words g) ∙ omega (arith, length_edges g, length_words g)

pub length_place : (n : ℕ) (x : Place) → Fits n x → length (place_of n x) ≡ place_words n
unfolding place_of
length_place n free f = length-replicate (place_words n) 0
length_place n (kept s g) f = omega (arith, length_state n g f.2)

pub place_back : (n : ℕ) (x : Place) → Fits n x → place_in n (place_of n x) ≡ x
unfolding place_of place_in
place_back n free f = rw (eq-eqb (get_or (replicate (place_words n) 0) 0 0) 0 (get_or-replicate (place_words n) 0 0 0 (omega arith)))
place_back n (kept s g) f = ap₂ kept (name_back s f.0) graph
  where
    w : List ℕ
    w = edges_of g ++ node_words g

    edges : take (row_words * n) w ≡ edges_of g
    edges = take_at (edges_of g) (node_words g) (row_words * n) (length_edges g ∙ ap (λ (k : ℕ). 8 * k) f.2)

    words : drop (3 + row_words * n) (place_of n (kept s g)) ≡ node_words g
    words = sym (drop-drop (row_words * n) 3 (place_of n (kept s g))) ∙ drop_at (edges_of g) (node_words g) (row_words * n) (length_edges g ∙ ap (λ (k : ℕ). 8 * k) f.2)

    graph : state_graph n (take (row_words * n) w) (drop (3 + row_words * n) (place_of n (kept s g))) ≡ g
    graph = ap₂ (state_graph n) edges words ∙ ap (λ (k : ℕ). state_graph k (edges_of g) (node_words g)) (sym f.2) ∙ state_back g f.1

-- the words of a store, place by place
module _ (n : ℕ) where
  abbrev all_words : List Place → List ℕ
  all_words xs = concat (map (place_of n) xs)

  length-places : (xs : List Place) → AllFit n xs → length (all_words xs) ≡ place_words n * length xs
  unfolding concat
  length-places [] f = omega (arith, mul-zero (place_words n))
  length-places (x ∷ xs) f = length-append (place_of n x) (all_words xs) ∙ omega (arith, length_place n x f.0, length-places xs f.1, mul-suc (place_words n) (length xs))

  block_at : (xs : List Place) → AllFit n xs → (i : ℕ) → i < length xs → take (place_words n) (drop (place_words n * i) (all_words xs)) ≡ place_of n (get_or xs i free)
  unfolding concat
  block_at [] f i h = absurd (omega arith)
  block_at (x ∷ xs) f zero h = ap (λ (k : ℕ). take (place_words n) (drop k (place_of n x ++ all_words xs))) (mul-zero (place_words n)) ∙ take_at (place_of n x) (all_words xs) (place_words n) (length_place n x f.0)
  block_at (x ∷ xs) f (suc i) h =
      let e : place_words n * suc i ≡ length (place_of n x) + place_words n * i = omega (arith, mul-suc (place_words n) i, length_place n x f.0) in
      ap (λ (k : ℕ). take (place_words n) (drop k (place_of n x ++ all_words xs))) e
      ∙ ap (take (place_words n)) (drop-append-add (place_of n x) (all_words xs) (place_words n * i))
      ∙ block_at xs f.1 i (omega arith)

  pub length_store : (xs : List Place) → AllFit n xs → length xs ≡ max_states → length (store_of n xs) ≡ store_words n
  unfolding store_of
  length_store xs f l = omega (arith, length-places xs f, ap (λ (k : ℕ). place_words n * k) l)

  pub words_at_lem : (xs : List Place) → AllFit n xs → (i : ℕ) → i < length xs → words_at n (store_of n xs) i ≡ place_of n (get_or xs i free)
  unfolding words_at store_of
  words_at_lem xs f i h = ap (take (place_words n)) (sym (drop-drop (place_words n * i) 1 (store_of n xs))) ∙ block_at xs f i h

  pub places_length : (s : List ℕ) → length (places_in n s) ≡ max_states
  unfolding places_in
  places_length s = length-map (nodes max_states) (λ i. place_in n (words_at n s i)) ∙ length-nodes max_states

  pub place_at : (s : List ℕ) (i : ℕ) → i < max_states → get_or (places_in n s) i free ≡ place_in n (words_at n s i)
  unfolding places_in
  place_at s i h = get_d_map_at (λ i. place_in n (words_at n s i)) free (nodes max_states) i (rw length-nodes h) ∙ ap (λ (j : ℕ). place_in n (words_at n s j)) (get_d_nodes max_states i h)

  pub fit_at : (xs : List Place) → AllFit n xs → (i : ℕ) → i < length xs → Fits n (get_or xs i free)
  fit_at [] f i h = tt
  fit_at (x ∷ xs) f zero h = f.0
  fit_at (x ∷ xs) f (suc i) h = fit_at xs f.1 i (omega arith)

  pub places_back : (xs : List Place) → AllFit n xs → length xs ≡ max_states → places_in n (store_of n xs) ≡ xs
  places_back xs f l = ext_get_or free (places_in n (store_of n xs)) xs (places_length (store_of n xs) ∙ sym l) at
    where
      at : (i : ℕ) → i < length (places_in n (store_of n xs)) → get_or (places_in n (store_of n xs)) i free ≡ get_or xs i free
      at i h =
          let k : i < max_states = omega (arith, places_length (store_of n xs)) in
          place_at (store_of n xs) i k ∙ ap (place_in n) (words_at_lem xs f i (omega arith)) ∙ place_back n (get_or xs i free) (fit_at xs f i (omega arith))

-- the places of a store for n nodes
pub record Sound (n : ℕ) (xs : List Place) : Type 0 where
  pub size : length xs ≡ max_states
  pub fit : AllFit n xs
  pub apart : are_apart xs ≡ true

pub all_states : (n : ℕ) (xs : List Place) → AllFit n xs → are_states xs ≡ true
unfolding are_states is_state
all_states n [] f = refl
all_states n (free ∷ xs) f = all_states n xs f.1
all_states n (kept s g ∷ xs) f = and_true (graph_test g f.0.1) (all_states n xs f.1)

-- sound places are read back from their words, which pass for a store
module _ (n : ℕ) (xs : List Place) (h : Sound n xs) where
  pub sound_back : places_in n (store_of n xs) ≡ xs
  sound_back = places_back n xs h.fit h.size

  pub sound_store : is_store n (store_of n xs) ≡ true
  unfolding is_store
  sound_store = rw sound_back (and_true (same_refl (store_of n xs)) (and_true h.apart (all_states n xs h.fit)))

  pub sound_length : length (store_of n xs) ≡ store_words n
  sound_length = length_store n xs h.fit h.size

-- what passes for a store
pub state_proper : (n : ℕ) (edges words : List ℕ) → n ≤ max_nodes → is_graph (state_graph n edges words) ≡ true → Proper (state_graph n edges words)
unfolding state_graph
state_proper n edges words = labels_proper n edges (λ p. get_or words p 0 % 2) (λ p. get_or words p 0 / 2)

module _ (n : ℕ) (small : n ≤ max_nodes) where
  pub place_fits : (w : List ℕ) → is_state (place_in n w) ≡ true → Fits n (place_in n w)
  unfolding place_in is_state
  place_fits w h = step (eqb (get_or w 0 0) 0) h
    where
      name : List ℕ
      name = bytes_of 8 (get_or w 1 0) ++ bytes_of 8 (get_or w 2 0)

      g : Graph
      g = state_graph n (take (row_words * n) (drop 3 w)) (drop (3 + row_words * n) w)

      step : (b : Bool) → is_state (cond b free (kept name g)) ≡ true → Fits n (cond b free (kept name g))
      step true h = tt
      step false h = (bytes_name (get_or w 1 0) (get_or w 2 0), state_proper n (take (row_words * n) (drop 3 w)) (drop (3 + row_words * n) w) small h, unfold state_graph in refl)

  pub places_fit : (f : ℕ → List ℕ) (l : List ℕ) → are_states (map (λ i. place_in n (f i)) l) ≡ true → AllFit n (map (λ i. place_in n (f i)) l)
  unfolding are_states
  places_fit f [] h = tt
  places_fit f (i ∷ l) h = (place_fits (f i) (and_fst (is_state (place_in n (f i))) _ h), places_fit f l (and_snd (is_state (place_in n (f i))) _ h))

  module _ (s : List ℕ) (h : is_store n s ≡ true) where
    pub store_words_lem : s ≡ store_of n (places_in n s)
    unfolding is_store
    store_words_lem = same_eq s (store_of n (places_in n s)) (and_fst (same_list s (store_of n (places_in n s))) _ h)

    pub store_sound : Sound n (places_in n s)
    unfolding is_store
    store_sound =
        let a = and_snd (same_list s (store_of n (places_in n s))) _ h in record {
          size = places_length n s;
          fit = unfold places_in in places_fit (words_at n s) (nodes max_states) (and_snd (are_apart (places_in n s)) _ a);
          apart = and_fst (are_apart (places_in n s)) _ a;
        }

-- names that are not the same
pub same_sym : (s t : List ℕ) → same_list s t ≡ false → same_list t s ≡ false
same_sym s t h = fails (same_list t s) (λ e. differ (rw (same_eq t s e) (same_refl s)) h)

-- a name that is not kept is another than one that is
other_name : (name t : List ℕ) (xs : List Place) → is_kept t xs ≡ true → is_kept name xs ≡ false → same_list name t ≡ false
other_name name t xs a b = fails (same_list name t) (λ e. differ (rw (same_eq name t e) a) b)

-- the graph g is kept under the name t
pub record Under (t : List ℕ) (g : Graph) (xs : List Place) : Type 0 where
  pub name : is_kept t xs ≡ true
  pub graph : kept_graph t xs ≡ g

under_here : (t s : List ℕ) (g : Graph) (xs : List Place) → same_list s t ≡ true → Under t g (kept s g ∷ xs)
unfolding is_kept kept_graph is_under graph_at
under_here t s g xs e = record { name = rw e; graph = rw e }

under_later : (t : List ℕ) (h : Graph) (x : Place) (xs : List Place) → is_under t x ≡ false → Under t h xs → Under t h (x ∷ xs)
unfolding is_kept kept_graph
under_later t h x xs e u = record { name = rw e u.name; graph = rw e u.graph }

under_rest : (t : List ℕ) (h : Graph) (x : Place) (xs : List Place) → is_under t x ≡ false → Under t h (x ∷ xs) → Under t h xs
unfolding is_kept kept_graph
under_rest t h x xs e u = record { name = rw e at u.name; graph = rw e at u.graph }

under_first : (t s : List ℕ) (h g : Graph) (xs : List Place) → same_list s t ≡ true → Under t h (kept s g ∷ xs) → g ≡ h
unfolding kept_graph is_under graph_at
under_first t s h g xs e u = rw e at u.graph

-- kept in the lowest free place
module _ (name : List ℕ) (g : Graph) where
  pub length-keeping : (xs : List Place) → length (keeping name g xs) ≡ length xs
  unfolding keeping is_free
  length-keeping [] = refl
  length-keeping (free ∷ xs) = refl
  length-keeping (kept s h ∷ xs) = ap suc (length-keeping xs)

  fit-keeping : (n : ℕ) → Fits n (kept name g) → (xs : List Place) → AllFit n xs → AllFit n (keeping name g xs)
  unfolding keeping is_free
  fit-keeping n f [] a = tt
  fit-keeping n f (free ∷ xs) a = (f, a.1)
  fit-keeping n f (kept s h ∷ xs) a = (a.0, fit-keeping n f xs a.1)

  kept-keeping : (t : List ℕ) → same_list name t ≡ false → (xs : List Place) → is_kept t (keeping name g xs) ≡ is_kept t xs
  unfolding keeping is_free is_kept is_under
  kept-keeping t d [] = refl
  kept-keeping t d (free ∷ xs) = rw d
  kept-keeping t d (kept s h ∷ xs) = ap (λ (b : Bool). same_list s t || b) (kept-keeping t d xs)

  apart-keeping : (xs : List Place) → is_kept name xs ≡ false → are_apart xs ≡ true → are_apart (keeping name g xs) ≡ true
  unfolding keeping is_free are_apart is_new is_kept is_under
  apart-keeping [] k a = refl
  apart-keeping (free ∷ xs) k a = and_true (ap not k) a
  apart-keeping (kept s h ∷ xs) k a =
      let d = or_none (same_list s name) (is_kept name xs) k in
      and_true (ap not (kept-keeping s (same_sym s name d.0) xs) ∙ and_fst (not (is_kept s xs)) _ a) (apart-keeping xs d.1 (and_snd (not (is_kept s xs)) _ a))

  pub sound_keeping : (n : ℕ) (xs : List Place) → is_name name ≡ true → Proper g → g.node_count ≡ n → is_kept name xs ≡ false → Sound n xs → Sound n (keeping name g xs)
  sound_keeping n xs is p c k h = record { size = length-keeping xs ∙ h.size; fit = fit-keeping n (is, p, c) xs h.fit; apart = apart-keeping xs k h.apart }

  -- it is under its name then, and every other one stays
  pub keeping_new : (xs : List Place) → is_kept name xs ≡ false → is_full xs ≡ false → Under name g (keeping name g xs)
  unfolding keeping is_free is_full is_kept is_under
  keeping_new [] k f = differ refl f
  keeping_new (free ∷ xs) k f = under_here name name g xs (same_refl name)
  keeping_new (kept s h ∷ xs) k f = let d = or_none (same_list s name) (is_kept name xs) k in under_later name g (kept s h) (keeping name g xs) d.0 (keeping_new xs d.1 f)

  pub keeping_other : (t : List ℕ) (h : Graph) (xs : List Place) → is_kept name xs ≡ false → Under t h xs → Under t h (keeping name g xs)
  unfolding keeping is_free is_under
  keeping_other t h xs k u = step xs (other_name name t xs u.name k) u
    where
      step : (ys : List Place) → same_list name t ≡ false → Under t h ys → Under t h (keeping name g ys)
      step [] d v = v
      step (free ∷ ys) d v = under_later t h (kept name g) ys d (under_rest t h free ys refl v)
      step (kept s j ∷ ys) d v = turn (decide (same_list s t)) (step ys d)
        where
          turn : (same_list s t ≡ true) ⊎ (same_list s t ≡ false) → (Under t h ys → Under t h (keeping name g ys)) → Under t h (kept s j ∷ keeping name g ys)
          turn (inl e) below = rw (← under_first t s h j ys e v) (under_here t s j (keeping name g ys) e)
          turn (inr e) below = under_later t h (kept s j) (keeping name g ys) e (below (under_rest t h (kept s j) ys e v))

-- dropped
module _ (name : List ℕ) where
  pub length-dropping : (xs : List Place) → length (dropping name xs) ≡ length xs
  unfolding dropping
  length-dropping [] = refl
  length-dropping (x ∷ xs) = ap suc (length-dropping xs)

  fit-dropping : (n : ℕ) (xs : List Place) → AllFit n xs → AllFit n (dropping name xs)
  unfolding dropping is_under
  fit-dropping n [] a = tt
  fit-dropping n (free ∷ xs) a = (tt, fit-dropping n xs a.1)
  fit-dropping n (kept s h ∷ xs) a = (step (same_list s name), fit-dropping n xs a.1)
    where
      step : (b : Bool) → Fits n (cond b free (kept s h))
      step true = tt
      step false = a.0

  less-kept : (t : List ℕ) (xs : List Place) → is_kept t xs ≡ false → is_kept t (dropping name xs) ≡ false
  unfolding dropping is_kept is_under
  less-kept t [] k = refl
  less-kept t (free ∷ xs) k = less-kept t xs k
  less-kept t (kept s h ∷ xs) k = let d = or_none (same_list s t) (is_kept t xs) k in step (same_list s name) d.0 (less-kept t xs d.1)
    where
      step : (b : Bool) → same_list s t ≡ false → is_kept t (dropping name xs) ≡ false → (is_under t (cond b free (kept s h)) || is_kept t (dropping name xs)) ≡ false
      step true e r = r
      step false e r = rw (e, r)

  apart-dropping : (xs : List Place) → are_apart xs ≡ true → are_apart (dropping name xs) ≡ true
  unfolding dropping are_apart is_new is_under
  apart-dropping [] a = refl
  apart-dropping (free ∷ xs) a = apart-dropping xs a
  apart-dropping (kept s h ∷ xs) a = step (same_list s name) (less-kept s xs (not-true (is_kept s xs) (and_fst (not (is_kept s xs)) _ a))) (apart-dropping xs (and_snd (not (is_kept s xs)) _ a))
    where
      step : (b : Bool) → is_kept s (dropping name xs) ≡ false → are_apart (dropping name xs) ≡ true → (is_new (cond b free (kept s h)) (dropping name xs) && are_apart (dropping name xs)) ≡ true
      step true k r = r
      step false k r = and_true (ap not k) r

  pub sound_dropping : (n : ℕ) (xs : List Place) → Sound n xs → Sound n (dropping name xs)
  sound_dropping n xs h = record { size = length-dropping xs ∙ h.size; fit = fit-dropping n xs h.fit; apart = apart-dropping xs h.apart }

  pub dropping_other : (t : List ℕ) (h : Graph) → same_list name t ≡ false → (xs : List Place) → Under t h xs → Under t h (dropping name xs)
  unfolding dropping is_under
  dropping_other t h d [] u = u
  dropping_other t h d (free ∷ xs) u = under_later t h free (dropping name xs) refl (dropping_other t h d xs (under_rest t h free xs refl u))
  dropping_other t h d (kept s j ∷ xs) u = turn (decide (same_list s t)) (dropping_other t h d xs)
    where
      other : same_list s t ≡ true → same_list s name ≡ false
      other e = fails (same_list s name) (λ z. differ (rw (← same_eq s name z) e) d)

      place : (b : Bool) → same_list s t ≡ false → is_under t (cond b free (kept s j)) ≡ false
      place true e = refl
      place false e = e

      turn : (same_list s t ≡ true) ⊎ (same_list s t ≡ false) → (Under t h xs → Under t h (dropping name xs)) → Under t h (cond (same_list s name) free (kept s j) ∷ dropping name xs)
      turn (inl e) below = rw (other e, ← under_first t s h j xs e u) (under_here t s j (dropping name xs) e)
      turn (inr e) below = under_later t h (cond (same_list s name) free (kept s j)) (dropping name xs) (place (same_list s name) e) (below (under_rest t h (kept s j) xs e u))

-- emptied
free_fit : (n k : ℕ) → AllFit n (replicate k free)
free_fit n zero = tt
free_fit n (suc k) = (tt, free_fit n k)

pub sound_none : (n : ℕ) → Sound n no_states
unfolding are_apart is_new
sound_none n = record { size = refl; fit = free_fit n max_states; apart = refl }

-- what is kept under a name is a graph of n nodes
pub kept_proper : (n : ℕ) (name : List ℕ) (xs : List Place) → AllFit n xs → is_kept name xs ≡ true → Proper (kept_graph name xs) × ((kept_graph name xs).node_count ≡ n)
unfolding is_kept kept_graph is_under graph_at
kept_proper n name [] f k = differ k refl
kept_proper n name (free ∷ xs) f k = kept_proper n name xs f.1 k
kept_proper n name (kept s g ∷ xs) f k = turn (decide (same_list s name)) (kept_proper n name xs f.1)
  where
    turn : (same_list s name ≡ true) ⊎ (same_list s name ≡ false) → (is_kept name xs ≡ true → Proper (kept_graph name xs) × ((kept_graph name xs).node_count ≡ n))
        → Proper (cond (same_list s name) g (kept_graph name xs)) × ((cond (same_list s name) g (kept_graph name xs)).node_count ≡ n)
    turn (inl e) below = rw e (f.0.1, f.0.2)
    turn (inr e) below = rw e (below (rw e at k))

-- words of m blocks of length k each, which are equal block by block
by_blocks : (k m : ℕ) (a b : List ℕ) → length a ≡ k * m → length b ≡ k * m → ((i : ℕ) → i < m → take k (drop (k * i) a) ≡ take k (drop (k * i) b)) → a ≡ b
by_blocks k zero a b la lb h = nil a (la ∙ mul-zero k) ∙ sym (nil b (lb ∙ mul-zero k))
  where
    nil : (l : List ℕ) → length l ≡ 0 → l ≡ []
    nil [] e = refl
    nil (x ∷ xs) e = absurd (omega arith)
by_blocks k (suc m) a b la lb h = sym (take-append-drop k a) ∙ ap₂ ◌++◌ first (by_blocks k m (drop k a) (drop k b) (shorter a la) (shorter b lb) rest) ∙ take-append-drop k b
  where
    first : take k a ≡ take k b
    first = ap (λ (j : ℕ). take k (drop j a)) (sym (mul-zero k)) ∙ h 0 (omega arith) ∙ ap (λ (j : ℕ). take k (drop j b)) (mul-zero k)

    shorter : (l : List ℕ) → length l ≡ k * suc m → length (drop k l) ≡ k * m
    shorter l e = length-drop k l ∙ omega (arith, mul-suc k m)

    later : (l : List ℕ) (i : ℕ) → drop (k * i) (drop k l) ≡ drop (k * suc i) l
    later l i = let e : k + k * i ≡ k * suc i = omega (arith, mul-suc k i) in drop-drop (k * i) k l ∙ ap (λ (j : ℕ). drop j l) e

    rest : (i : ℕ) → i < m → take k (drop (k * i) (drop k a)) ≡ take k (drop (k * i) (drop k b))
    rest i l = ap (take k) (later a i) ∙ h (suc i) (omega arith) ∙ sym (ap (take k) (later b i))

-- two stores that are equal place by place
pub store_ext : (n : ℕ) (s t : List ℕ) → length s ≡ store_words n → length t ≡ store_words n → get_or s 0 0 ≡ get_or t 0 0 → ((i : ℕ) → i < max_states → words_at n s i ≡ words_at n t i) → s ≡ t
unfolding words_at
store_ext n s t ls lt e h = split s ls ∙ ap₂ ◌∷◌ e (by_blocks (place_words n) max_states (drop 1 s) (drop 1 t) (shorter s ls) (shorter t lt) (λ i l. later s i ∙ h i l ∙ sym (later t i))) ∙ sym (split t lt)
  where
    split : (l : List ℕ) → length l ≡ store_words n → l ≡ get_or l 0 0 ∷ drop 1 l
    split l k = drop-cons l 0 0 (omega arith)

    shorter : (l : List ℕ) → length l ≡ store_words n → length (drop 1 l) ≡ place_words n * max_states
    shorter l k = length-drop 1 l ∙ omega arith

    later : (l : List ℕ) (i : ℕ) → take (place_words n) (drop (place_words n * i) (drop 1 l)) ≡ take (place_words n) (drop (1 + place_words n * i) l)
    later l i = ap (take (place_words n)) (drop-drop (place_words n * i) 1 l)
