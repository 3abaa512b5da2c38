-- Further laws of these definitions, which no proof here cites.
use Rattle.std.specs.Prelude.{◌≡◌, List, [], ◌++◌, ℕ, ◌+◌, ◌*◌, ◌-◌, ◌<◌, length, drop, take}
use Rattle.std.proofs.Math.Path.{refl, sym, ap, ap₂}
use Rattle.std.proofs.Common.{◌∙◌, append-nil, drop_of_length-le, length-append, length-drop, length-take, length-take-le, take_all, take_at}
use native.Mathlib.Omega.{arith}
use Rattle.std.proofs.Math.ListN.{get_or}
use Rattle.model.specs.Tables.{Tables, edges_of, graph_of, tables_of}
use Rattle.model.specs.Store.{node_word, node_words}
use Rattle.model.proofs.TableLaws.{class_at_lem, mark_at_lem}
use Rattle.model.proofs.StoreLaws.{length_words, word_at}
use Rattle.buffers.specs.Filled.{Filled}
use Rattle.buffers.specs.FilledLaws.{filled_is}
use Rattle.tables.specs.Lent.{Held}
use Rattle.tables.specs.LentLaws.{held_sized}
use Rattle.states.specs.States.{State, word_in, word_limit}
use Rattle.states.specs.StateLaws.{told_class}

-- what is saved
drop-rest : (k : ℕ) (l : List ℕ) → drop (length l - k) (drop k l) ≡ []
drop-rest k l = drop_of_length-le (drop k l) {i = length l - k} (simp length-drop (omega arith))

module _ {n : ℕ} {t : Tables} (h : Held n t) where
  held_word : (p : ℕ) → p < n → word_in t.nodes p ≡ node_word (graph_of n t) p
  unfolding node_word
  held_word p l = ap (λ (x : Tables). word_in x.nodes p) h.same ∙ unfold tables_of graph_of in ap₂ (λ (x y : ℕ). x + 2 * y) (mark_at_lem (graph_of n t) p l) (class_at_lem (graph_of n t) p l)

  held-edges : t.edges ≡ edges_of (graph_of n t)
  held-edges = ap (λ (x : Tables). x.edges) h.same ∙ unfold tables_of in refl

  saved-words : {s s₁ : List ℕ} → length s ≡ n → Filled (word_in t.nodes) n s s₁ → s₁ ≡ node_words (graph_of n t)
  saved-words {s} {s₁} l a =
      let c : (graph_of n t).node_count ≡ n = unfold graph_of in refl in
      filled_is (node_words (graph_of n t)) a (omega arith) (length_words (graph_of n t) ∙ c ∙ sym l) (λ p k. word_at (graph_of n t) p (omega arith) ∙ sym (held_word p (omega arith)))

  -- the edges are copied to the front, and the words of the nodes to the rest
  module _ (to es ws : List ℕ) (room : length to ≡ 9 * n) (c : es ≡ take (length (take (8 * n) to)) t.edges) where
    edges-copied : es ≡ t.edges
    edges-copied = c ∙ take_all (length (take (8 * n) to)) t.edges (omega (arith, length-take-le (8 * n) to (omega arith), (held_sized h).edges))

    front : length es ≡ 8 * n
    front = ap length edges-copied ∙ (held_sized h).edges

    whole_length : length (es ++ drop (8 * n) to) ≡ 9 * n
    whole_length = simp (length-append, length-drop) (omega (arith, front))

    pub saved : Filled (word_in t.nodes) n (take (length (es ++ drop (8 * n) to) - 8 * n) (drop (8 * n) (es ++ drop (8 * n) to))) ws
        → take (8 * n) (es ++ drop (8 * n) to) ++ (ws ++ drop (length (es ++ drop (8 * n) to) - 8 * n) (drop (8 * n) (es ++ drop (8 * n) to)))
        ≡ edges_of (graph_of n t) ++ node_words (graph_of n t)
    saved f =
        ap₂ (λ (x y : List ℕ). x ++ (ws ++ y)) (take_at es (drop (8 * n) to) (8 * n) front ∙ edges-copied ∙ held-edges) (drop-rest (8 * n) (es ++ drop (8 * n) to))
        ∙ ap (λ (y : List ℕ). edges_of (graph_of n t) ++ y) (append-nil ws ∙ saved-words (simp (length-take, length-drop) (omega (arith, whole_length))) f)

-- what is restored
module _ {n : ℕ} {edges words : List ℕ} (s : State n edges words) where
  pub word_small : (p : ℕ) → p < n → get_or words p 0 < word_limit
  word_small p l = omega (arith, told_class n edges words p l, s.proper.classed p)
