-- What is saved are the edges of a graph and the words of its nodes, and what is restored from them are its tables.
use Rattle.std.specs.Prelude.{◌≡◌, cond, List, [], ◌++◌, ℕ, suc, zero, ◌+◌, ◌*◌, ◌/◌, ◌%◌, ◌-◌, ◌≤◌, ◌<◌, eqb, length, drop, take}
use Rattle.std.proofs.Math.Path.{refl, sym, ap, ap₂}
use Rattle.std.proofs.Common.{subst, ◌∙◌, append-nil, drop_of_length-le, length-append, length-drop, length-take, ext_get_or, length-take-le, take_all, take_at, lt-ltb}
use native.Mathlib.Omega.{arith}
use Rattle.std.proofs.lemmas.List.{nil_from_length}
use Rattle.std.proofs.Math.ListN.{get_or}
use Rattle.model.specs.Graph.{Graph, node_numbers, row_words}
use Rattle.model.specs.Tables.{Tables, edges_of, graph_in, graph_of, keys_of, tables_of}
use Rattle.model.specs.Store.{node_word, node_words, state_graph}
use Rattle.model.proofs.TableLaws.{class_at_lem, length_edges, length_keys, length-nodes_of, mark_at_lem}
use Rattle.model.proofs.StoreLaws.{length_words, word_at}
use Rattle.buffers.specs.Filled.{Filled}
use Rattle.buffers.specs.FilledLaws.{filled_is}
use Rattle.rows.specs.Rows.{lent}
use Rattle.search.specs.Search.{Within}
use Rattle.rings.specs.Steps.{Built, LabelsPut, Leading}
use Rattle.groups.specs.FillLaws.{filled-leading, filled_proper, filled_tables, filled_within}
use Rattle.keys.specs.KeySums.{LeastTold}
use Rattle.grouping.specs.Keyed.{KeysTold}
use Rattle.tables.specs.Lent.{Held, Sized}
use Rattle.tables.specs.LentLaws.{held_sized}
use Rattle.states.specs.States.{State, WordsFit, word_in}

-- mark and class of the graph that words tell
module _ (n : ℕ) (edges words : List ℕ) where
  abbrev told : Graph
  told = state_graph n edges words

  one_bit_lem : (x : ℕ) → x < 2 → x ≡ cond (eqb x 1) 1 0
  one_bit_lem zero l = refl
  one_bit_lem (suc zero) l = refl
  one_bit_lem (suc (suc x)) l = absurd (omega arith)

  pub told_mark : (p : ℕ) → p < n → get_or words p 0 % 2 ≡ cond ((state_graph n edges words).hidden p) 1 0
  unfolding state_graph
  told_mark p l = rw (lt-ltb p n l) (one_bit_lem (get_or words p 0 % 2) (omega arith))

  pub told_class : (p : ℕ) → p < n → get_or words p 0 / 2 ≡ (state_graph n edges words).class p
  unfolding state_graph
  told_class p l = rw (lt-ltb p n l)

  -- whose words are these again
  pub words_told : length words ≡ n → words ≡ node_words (state_graph n edges words)
  words_told size = ext_get_or 0 words (node_words told) (size ∙ sym (length_words told ∙ unfold state_graph in refl)) (λ p l. same p (omega arith) ∙ sym (word_at told p (unfold state_graph in omega arith)))
    where
      same : (p : ℕ) → p < n → get_or words p 0 ≡ node_word told p
      same p l = let e : get_or words p 0 ≡ get_or words p 0 % 2 + 2 * (get_or words p 0 / 2) = omega arith in e ∙ (unfold node_word in ap₂ (λ (x y : ℕ). x + 2 * y) (told_mark p l) (told_class p l))

-- what is saved
drop-rest : (k : ℕ) (l : List ℕ) → drop (length l - k) (drop k l) ≡ []
drop-rest k l = drop_of_length-le (drop k l) {i = length l - k} (simp length-drop (omega arith))

module _ {n : ℕ} {t : Tables} (h : Held n t) where
  held_word : (p : ℕ) → p < n → word_in t.nodes p ≡ node_word (graph_of n t) p
  unfolding node_word
  held_word p l = ap (λ (x : Tables). word_in x.nodes p) h.same ∙ unfold tables_of graph_of in ap₂ (λ (x y : ℕ). x + 2 * y) (mark_at_lem (graph_of n t) p l) (class_at_lem (graph_of n t) p l)

  held-edges : t.edges ≡ edges_of (graph_of n t)
  held-edges = ap (λ (x : Tables). x.edges) h.same ∙ unfold tables_of in refl

  saved-words : {s s₁ : List ℕ} → length s ≡ n → Filled (word_in t.nodes) (length s) s s₁ → s₁ ≡ node_words (graph_of n t)
  saved-words {s} {s₁} l a =
      let c : (graph_of n t).node_count ≡ n = unfold graph_of in refl in
      filled_is (node_words (graph_of n t)) a (omega arith) (length_words (graph_of n t) ∙ c ∙ sym l) (λ p k. word_at (graph_of n t) p (omega arith) ∙ sym (held_word p (omega arith)))

  -- the edges are copied to the front, and the words of the nodes to the rest
  module _ (to es ws : List ℕ) (room : length to ≡ 9 * n) (c : es ≡ take (length (take (8 * n) to)) t.edges) where
    edges-copied : es ≡ t.edges
    edges-copied = c ∙ take_all (length (take (8 * n) to)) t.edges (omega (arith, length-take-le (8 * n) to (omega arith), (held_sized h).edges))

    front : length es ≡ 8 * n
    front = ap length edges-copied ∙ (held_sized h).edges

    whole_length : length (es ++ drop (8 * n) to) ≡ 9 * n
    whole_length = simp (length-append, length-drop) (omega (arith, front))

    pub saved : Filled (word_in t.nodes) (length (take (length (es ++ drop (8 * n) to) - 8 * n) (drop (8 * n) (es ++ drop (8 * n) to)))) (take (length (es ++ drop (8 * n) to) - 8 * n) (drop (8 * n) (es ++ drop (8 * n) to))) ws
        → take (8 * n) (es ++ drop (8 * n) to) ++ (ws ++ drop (length (es ++ drop (8 * n) to) - 8 * n) (drop (8 * n) (es ++ drop (8 * n) to)))
        ≡ edges_of (graph_of n t) ++ node_words (graph_of n t)
    saved f =
        ap₂ (λ (x y : List ℕ). x ++ (ws ++ y)) (take_at es (drop (8 * n) to) (8 * n) front ∙ edges-copied ∙ held-edges) (drop-rest (8 * n) (es ++ drop (8 * n) to))
        ∙ ap (λ (y : List ℕ). edges_of (graph_of n t) ++ y) (append-nil ws ∙ saved-words (simp (length-take, length-drop) (omega (arith, whole_length))) f)

-- where there is nobody, their lengths alone tell tables
empty : {xs ys : List ℕ} → length xs ≡ 0 → length ys ≡ 0 → xs ≡ ys
empty {xs} {ys} a b = nil_from_length xs a ∙ sym (nil_from_length ys b)

pub empty_restored : (from words : List ℕ) {n : ℕ} {t : Tables} → n ≡ 0 → Sized n t → t ≡ tables_of (state_graph n from words)
unfolding tables_of
empty_restored from words {n} none sized =
    let g = state_graph n from words in
    let c : g.node_count ≡ n = unfold state_graph in refl in
    let e = empty (omega (arith, sized.edges)) (omega (arith, length_edges g, c)) in
    let d = empty (omega (arith, sized.nodes)) (omega (arith, length-nodes_of g, c)) in
    let k = empty (omega (arith, sized.keys)) (omega (arith, length_keys g, c)) in
    λ i. record { edges = e i; nodes = d i; keys = k i }

-- what is restored
module _ {n : ℕ} {edges words : List ℕ} (s : State n edges words) where
  abbrev state : Graph
  state = state_graph n edges words

  pub state_within : Within n edges
  state_within = unfold state_graph in filled_within state s.proper s.edges_of_lem

  pub words_fit : WordsFit words
  words_fit p l = omega (arith, told_class n edges words p (omega (arith, s.size)), s.proper.classed p)

  -- the classes that are listed
  module _ {none classes : List ℕ} (room : n ≤ length none) (c : Filled (λ p. get_or words p 0 / 2) n none classes) where
    pub state_keys : {keys : List ℕ} → keys ≡ keys_of (graph_in n edges) → KeysTold n edges keys classes
    state_keys e = record {
      within = state_within;
      proper = unfold state_graph in filled_proper state s.proper s.edges_of_lem;
      keys_of_lem = e;
      labelled = omega (arith, c.size);
      classed = λ p l. omega (arith, c.numbers p l, words_fit p (omega (arith, s.size)));
    }

    -- and the labels that are put
    module _ {lst ns ns₁ : List ℕ} (t : LeastTold n edges (λ p. get_or classes p 0) lst) (l : length ns ≡ node_numbers * n) (m : LabelsPut (λ p. get_or words p 0 % 2) (λ p. get_or words p 0 / 2) n ns ns₁) where
      listed : LabelsPut (λ p. get_or words p 0 % 2) (λ p. get_or classes p 0) n ns ns₁
      listed = record { size = m.size; marks = m.marks; classes = λ p k. m.classes p k ∙ sym (c.numbers p k) }

      class-told : (p : ℕ) → p < n → get_or classes p 0 ≡ (state_graph n edges words).class p
      class-told p k = c.numbers p k ∙ told_class n edges words p k

      pub state_leading : Leading n lst
      state_leading = unfold state_graph in filled-leading state s.proper s.edges_of_lem t.told l listed (told_mark n edges words) class-told t.size

      pub restored : {ns₂ ks : List ℕ} → ks ≡ keys_of (graph_in n edges) → Built n lst ns₁ ns₂ → lent edges ns₂ ks ≡ tables_of (state_graph n edges words)
      restored k b = unfold state_graph in filled_tables state s.proper s.edges_of_lem t.told l listed (told_mark n edges words) class-told k b

-- edges that are copied
module _ {n : ℕ} {from words : List ℕ} (s : State n from words) where
  pub state_edges : length from ≡ row_words * n
  state_edges = ap length s.edges_of_lem ∙ length_edges (state_graph n from words) ∙ unfold state_graph in refl

  module _ {k : ℕ} {edges : List ℕ} (l : k ≡ row_words * n) (e : edges ≡ take k from) where
    pub copied_edges : edges ≡ from
    copied_edges = e ∙ take_all k from (omega (arith, state_edges))

    pub copied_state : State n edges words
    copied_state = subst (λ (x : List ℕ). State n x words) (sym copied_edges) s
