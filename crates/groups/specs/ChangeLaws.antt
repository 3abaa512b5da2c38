-- The three tables before, within and after the update of an edge or a class.
use Rattle.std.specs.Prelude.{◌≡◌, ◌≢◌, ◌⊎◌, true, false, List, ℕ, ◌+◌, ◌*◌, ◌≤◌, ◌<◌, min, max, eqb, ltb, length}
use Rattle.std.proofs.Math.Path.{refl, ap}
use Rattle.std.proofs.Common.{subst, ◌∙◌, inl, inr, arith, ltb-true, ltb-false, lt-ltb}
use Rattle.std.proofs.Math.IntN.{sub_ℕ}
use Rattle.model.specs.Graph.{Graph, Proper, max_nodes, node_numbers, row_words, whole}
use Rattle.model.specs.Grouping.{closed_key, open_key, similar}
use Rattle.model.specs.Tables.{Tables, edges_of, graph_of, key_pair, keys_of, node_number, row_of, tables_of}
use Rattle.model.specs.Updates.{Update, answer, updated}
use Rattle.model.proofs.TestLaws.{decide}
use Rattle.model.proofs.TableLaws.{length_edges, length_keys, length-nodes_of, read_back}
use Rattle.model.proofs.UpdateLaws.{apart, proper_updated, u_inside, v_inside}
use Rattle.rows.specs.Rows.{Changed, KeysChanged, lent}
use Rattle.search.specs.Search.{Ready}
use Rattle.search.specs.SearchLaws.{ready}
use Rattle.rows.specs.EdgeLaws.{edges_updated}
use Rattle.rows.specs.KeyLaws.{keys_updated}
use Rattle.rings.specs.Steps.{Back, OthersLeft, Sound, Stored, Taken}
use Rattle.rings.specs.UpdateLaws.{alone₀, alone₂, back_cong, back_rest, sound₀, sound₁, sound₂, sound₃}
use Rattle.rings.specs.GraphLaws.{ClassUpdate, EdgeUpdate, Ends, class_answer, class_move, class_nodes, stored_class, stored_rings, update-answer, update-nodes, update_shift}
use Rattle.groups.specs.Groups.{Asked, change, similar_in}
use Rattle.groups.specs.FillLaws.{similar-told}

-- the tables of a graph are read as it
pub tables_read : {g : Graph} {t : Tables} → Proper g → t ≡ tables_of g → graph_of g.node_count t ≡ g
tables_read {g} h e = ap (graph_of g.node_count) e ∙ read_back g h

pub asked_sizes : {n : ℕ} {c : Update} {t : Tables} → Asked n c t → (n ≤ max_nodes) × (length t.edges ≡ row_words * n) × (length t.nodes ≡ node_numbers * n) × (length t.keys ≡ 2 * n)
unfolding graph_of tables_of
asked_sizes {n} {c} {t} a =
    let g : Graph = graph_of n t in
    (a.proper.small, ap (λ (s : Tables). length s.edges) a.same ∙ length_edges g, ap (λ (s : Tables). length s.nodes) a.same ∙ length-nodes_of g, ap (λ (s : Tables). length s.keys) a.same ∙ length_keys g)

-- the class that a table has is the graph's
class_read : (n : ℕ) (t : Tables) (p : ℕ) → p < n → node_number t.nodes p 4 ≡ (graph_of n t).class p
unfolding graph_of
class_read n t p l = rw (lt-ltb p n l)

module _ {n u v wanted : ℕ} {t : Tables} (a : Asked n (change 1 u v wanted) t) where
  abbrev g : Graph
  g = graph_of n t

  abbrev c : Update
  c = change 1 u v wanted

  new : Proper (updated (graph_of n t) (change 1 u v wanted))
  new = proper_updated g c a.proper a.accepted

  pub asked_ends : (u < n) × (v < n) × (u ≢ v)
  unfolding graph_of
  asked_ends = (u_inside g c a.proper a.accepted, v_inside g c a.proper a.accepted refl, apart g c a.proper a.accepted refl)

  pub asked_lesser : {x : ℕ} → x ≡ min u v → x < n
  asked_lesser e = let h = asked_ends in omega (arith, h.0, h.1)

  pub asked_greater : {x : ℕ} → x ≡ max u v → x < n
  asked_greater e = let h = asked_ends in omega (arith, h.0, h.1)

  -- the lesser and the greater of u and v are the edge's ends
  ends : {x y : ℕ} → x ≡ min u v → y ≡ max u v → Ends (change 1 u v wanted) x y
  ends {x} {y} e f = step (decide (ltb u v))
    where
      step : (ltb u v ≡ true) ⊎ (ltb u v ≡ false) → ((x ≡ u) × (y ≡ v)) ⊎ ((x ≡ v) × (y ≡ u))
      step (inl t) = let h = ltb-true u v t in inl (omega arith, omega arith)
      step (inr t) = let h = ltb-false u v t in inr (omega arith, omega arith)

  asked-update : {x y : ℕ} → x ≡ min u v → y ≡ max u v → EdgeUpdate (graph_of n t) (change 1 u v wanted) x y t.nodes
  asked-update e f = record { proper = a.proper; accepted = a.accepted; edge = refl; ends = ends e f; table = unfold tables_of in ap (λ (s : Tables). s.nodes) a.same }

  module _ {x y : ℕ} (lx : x ≡ min u v) (my : y ≡ max u v) where
    pub asked₀ : Sound n t.nodes
    unfolding graph_of
    asked₀ = sound₀ (update_shift (asked-update lx my))

    module _ {t₁ : List ℕ} (x₁ : Taken n x t.nodes t₁) where
      pub asked₁ : Sound n t₁
      unfolding graph_of
      asked₁ = sound₁ (update_shift (asked-update lx my)) x₁

      module _ {t₂ : List ℕ} (x₂ : Taken n y t₁ t₂) where
        pub asked₂ : Sound n t₂
        unfolding graph_of
        asked₂ = sound₂ (update_shift (asked-update lx my)) x₁ x₂

        module _ {es ks : List ℕ} (d : Changed u v t.edges es) (k : KeysChanged (eqb wanted 1) u v t.keys ks) where
          edges-after : es ≡ edges_of (updated (graph_of n t) (change 1 u v wanted))
          unfolding tables_of
          edges-after = edges_updated g c a.proper a.accepted refl es (subst (λ s. Changed u v s es) (ap (λ (s : Tables). s.edges) a.same) d)

          keys-after : ks ≡ keys_of (updated (graph_of n t) (change 1 u v wanted))
          unfolding tables_of
          keys-after =
              keys_updated g c a.proper a.accepted refl ks
              (subst (λ s. KeysChanged (eqb wanted 1) u v s ks) (ap (λ (s : Tables). s.keys) a.same) k)

          pub asked_ready : Ready n es ks
          unfolding graph_of updated
          asked_ready = rw (edges-after, keys-after) (ready (updated g c) new)

          -- classes stay, whatever else the table has become
          alike : (s : List ℕ) → ((p : ℕ) → p < n → node_number s p 4 ≡ node_number t₂ p 4) → (p q : ℕ) → p < n → q < n → similar_in n es s p q ≡ similar (whole (updated (graph_of n t) (change 1 u v wanted))) p q
          unfolding graph_of updated
          alike s kept = similar-told (updated g c) new edges-after (λ p l. kept p l ∙ x₂.rest p 4 l (omega arith) (omega arith) ∙ x₁.rest p 4 l (omega arith) (omega arith) ∙ class_read n t p l)

          module _ {z₃ : ℕ} {t₃ : List ℕ} (x₃ : Back n x y z₃ (similar_in n es t₂ x) t₂ t₃) where
            back₃ : Back n x y z₃ (similar (whole (updated (graph_of n t) (change 1 u v wanted))) x) t₂ t₃
            back₃ = back_cong (λ q l. alike t₂ (λ p k. refl) x q (asked_lesser lx) l) x₃

            pub asked₃ : Sound n t₃
            unfolding graph_of
            asked₃ = sound₃ (update_shift (asked-update lx my)) x₁ x₂ back₃

            module _ {z₄ : ℕ} {t₄ : List ℕ} (x₄ : Back n y y z₄ (similar_in n es t₃ y) t₃ t₄) where
              back₄ : Back n y y z₄ (similar (whole (updated (graph_of n t) (change 1 u v wanted))) y) t₃ t₄
              back₄ = back_cong (λ q l. alike t₃ (λ p k. back_rest x₃ p 4 k (omega arith) (omega arith)) y q (asked_greater my) l) x₄

              pub asked_tables : lent es t₄ ks ≡ tables_of (updated (graph_of n t) (change 1 u v wanted))
              unfolding graph_of tables_of
              asked_tables =
                  let e₁ = edges-after in
                  let e₂ = update-nodes (asked-update lx my) x₁ x₂ back₃ back₄ in
                  let e₃ = keys-after in
                  λ i. record { edges = e₁ i; nodes = e₂ i; keys = e₃ i }

              pub asked-answer : {z₁ z₂ : ℕ} → OthersLeft (node_number t.nodes x 1) x z₁ → OthersLeft (node_number t₁ y 1) y z₂ → sub_ℕ (z₁ + z₂) (z₃ + z₄) ≡ answer (graph_of n t) (change 1 u v wanted)
              unfolding graph_of
              asked-answer p₁ p₂ = update-answer (asked-update lx my) x₁ x₂ back₃ back₄ p₁ p₂

-- the update of a class: u is taken out, its class stored, and u put back
module _ {n u class : ℕ} {t : Tables} (a : Asked n (change 3 u class 0) t) where
  abbrev G : Graph
  G = graph_of n t

  abbrev d : Update
  d = change 3 u class 0

  pub class_inside : u < n
  unfolding graph_of
  class_inside = u_inside G d a.proper a.accepted

  class-new : Proper (updated (graph_of n t) (change 3 u class 0))
  class-new = proper_updated G d a.proper a.accepted

  pub class_ready : Ready n t.edges t.keys
  unfolding graph_of tables_of
  class_ready = rw (ap (λ (s : Tables). s.edges) a.same, ap (λ (s : Tables). s.keys) a.same) (ready G a.proper)

  class-edges : t.edges ≡ edges_of (updated (graph_of n t) (change 3 u class 0))
  unfolding tables_of updated edges_of row_of
  class-edges = ap (λ (s : Tables). s.edges) a.same

  class-keys : t.keys ≡ keys_of (updated (graph_of n t) (change 3 u class 0))
  unfolding tables_of updated keys_of key_pair open_key closed_key
  class-keys = ap (λ (s : Tables). s.keys) a.same

  class-update : ClassUpdate (graph_of n t) (change 3 u class 0) t.nodes
  class-update = record { proper = a.proper; accepted = a.accepted; class = refl; table = unfold tables_of in ap (λ (s : Tables). s.nodes) a.same }

  pub class₀ : Sound n t.nodes
  unfolding graph_of
  class₀ = alone₀ (class_move class-update)

  module _ {t₁ t₂ : List ℕ} (x₁ : Taken n u t.nodes t₁) (x₂ : Stored u 4 class t₁ t₂) where
    pub class₂ : Sound n t₂
    unfolding graph_of
    class₂ = alone₂ (class_move class-update) x₁ (stored_rings class-update x₁ x₂)

    module _ {z : ℕ} {t₃ : List ℕ} (x₃ : Back n u u z (similar_in n t.edges t₂ u) t₂ t₃) where
      class₃ : Back n u u z (similar (whole (updated (graph_of n t) (change 3 u class 0))) u) t₂ t₃
      unfolding graph_of updated
      class₃ = back_cong (λ q l. similar-told (updated G d) class-new class-edges (stored_class class-update x₁ x₂) u q class_inside l) x₃

      pub class_tables : lent t.edges t₃ t.keys ≡ tables_of (updated (graph_of n t) (change 3 u class 0))
      unfolding graph_of tables_of
      class_tables =
          let e₁ = class-edges in
          let e₂ = class_nodes class-update x₁ x₂ class₃ in
          let e₃ = class-keys in
          λ i. record { edges = e₁ i; nodes = e₂ i; keys = e₃ i }

      pub class_answered : {r : ℕ} → OthersLeft (node_number t.nodes u 1) u r → sub_ℕ r z ≡ answer (graph_of n t) (change 3 u class 0)
      unfolding graph_of
      class_answered p = class_answer class-update x₁ x₂ class₃ p
