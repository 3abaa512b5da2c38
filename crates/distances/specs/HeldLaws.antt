-- The distance in the graph that arrays hold by its groups.
use Rattle.std.specs.Prelude.{◌≡◌, Bool, true, false, not, ◌&&◌, ◌||◌, cond, List, ◌⊎◌, ℕ, ◌<◌, eqb, get_or}
use Rattle.std.proofs.Math.Path.{refl, sym, ap}
use Rattle.std.proofs.Common.{◌∙◌, inl, inr, arith}
use borrow.Author.Tests.{eqb-true, eq-eqb, ne_eqb}
use Rattle.model.specs.Lists.{◌∈◌, any, nodes}
use Rattle.model.specs.Graph.{Graph, max_nodes}
use Rattle.model.specs.Summary.{Summary, groups_of, reconstruct}
use Rattle.model.specs.Tables.{edge_bit}
use Rattle.model.specs.Release.{visible, visible_edge}
use Rattle.model.specs.Distance.{Shortest, distance, distance_by, is_joined, unreachable}
use Rattle.model.proofs.TestLaws.{decide, iff_eq, or_same}
use Rattle.model.proofs.ListLaws.{any_elim, any_intro, member_elim, member_intro, nodes_in_lem, nodes_out}
use Rattle.model.proofs.ReadBackLaws.{member-visible}
use Rattle.model.proofs.DistanceLaws.{distance_cong, shortest_distance}
use Rattle.model.proofs.GroupDistanceLaws.{Unfolds, distance_by_groups}
use Rattle.rows.specs.Rows.{leads}
use Rattle.compressed.specs.Compressed.{Compressed, clique, placed, unfolded, unfolded_edge}
use Rattle.compressed.specs.PlacedLaws.{placed_in, placed-lt, placed-visible}
use Rattle.distances.specs.Distances.{SuperedgeRows, have_common, held_summary, rows_view}
use Rattle.distances.specs.SetLaws.{own_common, row_part}

module _ (n : ℕ) (least kinds joined : List ℕ) (h : Compressed n least kinds joined) where
  abbrev G : Graph
  G = unfolded n least kinds joined

  abbrev d : Summary
  d = held_summary n least kinds joined

  abbrev first : ℕ → ℕ
  first p = get_or least p 0

  -- what the search asks of rows
  pub held_rows : SuperedgeRows n joined
  held_rows = record { small = h.small; rows = h.rows; inside = λ p q l t. (h.joins p q l t).1; symmetric = h.symmetric }

  node : (p : ℕ) → placed n least p ≡ true → p ∈ (visible G).nodes
  node p t = member_elim p (visible G).nodes (member-visible G p ∙ placed-visible n least p kinds joined ∙ t)

  placed_of : (p : ℕ) → p ∈ (visible G).nodes → placed n least p ≡ true
  placed_of p m = sym (placed-visible n least p kinds joined) ∙ sym (member-visible G p) ∙ member_intro p (visible G).nodes m

  pub held_first : (p : ℕ) → placed n least p ≡ true → first p < n
  held_first p t = omega (arith, h.before p t, placed-lt n least p t)

  -- the superedges that rows tell
  bit : (i j : ℕ) → i < n → j < n → (groups_of d).edge i j ≡ edge_bit joined i j
  unfolding held_summary
  bit i j a b = step (decide (eqb i j))
    where
      turn : edge_bit joined j i ≡ edge_bit joined i j
      turn = h.symmetric j i (omega (arith, h.small)) (omega (arith, h.small))

      step : (eqb i j ≡ true) ⊎ (eqb i j ≡ false) → (not (eqb i j) && (edge_bit joined i j || edge_bit joined j i)) ≡ edge_bit joined i j
      step (inl t) = rw t (sym (ap (edge_bit joined i) (sym (eqb-true i j t)) ∙ h.irreflexive i (omega (arith, h.small))))
      step (inr t) = rw (t, turn) (or_same (edge_bit joined i j))

  -- arrays hold a summary of the visible part, though its groups are not counted from 0 on
  met : (i j : ℕ) → i < n → j < n → (groups_of d).edge i j ≡ true → (p : ℕ) × (p ∈ (visible G).nodes) × (d.group_of p ≡ i)
  unfolding held_summary leads
  met i j a b e =
      let l : first i ≡ i = eqb-true (first i) i (h.joins i j (omega (arith, h.small)) (sym (bit i j a b) ∙ e)).2 in
      (i, node i (placed_in n least i a (λ z. omega (arith, h.small))), l)

  exact : (p q : ℕ) → placed n least p ≡ true → placed n least q ≡ true → reconstruct d p q ≡ visible_edge G p q
  unfolding reconstruct held_summary visible_edge
  exact p q a b =
      rw (placed-visible n least p kinds joined ∙ a, placed-visible n least q kinds joined ∙ b, turn)
      (unfold unfolded unfolded_edge in rw (a, b, or_same (edge_bit joined (first p) (first q))))
    where
      turn : edge_bit joined (first q) (first p) ≡ edge_bit joined (first p) (first q)
      turn = h.symmetric (first q) (first p) (omega (arith, held_first q b, h.small)) (omega (arith, held_first p a, h.small))

  unfolds : Unfolds (visible G) (held_summary n least kinds joined)
  unfolds = record {
    placed = λ p m. unfold held_summary in held_first p (placed_of p m);
    met = λ i j a b e. met i j (unfold held_summary in a) (unfold held_summary in b) e;
    exact = λ p q mp mq. exact p q (placed_of p mp) (placed_of q mq);
  }

  -- the same superedges and distances of groups
  joined_is : (i : ℕ) → i < n → is_joined d i ≡ any (nodes max_nodes) (edge_bit joined i)
  unfolding is_joined held_summary
  joined_is i a =
      iff_eq (any (nodes n) ((groups_of d).edge i)) (any (nodes max_nodes) (edge_bit joined i))
      (λ t. let x = any_elim (nodes n) ((groups_of d).edge i) t in let l = nodes_out n x.0 x.1 in any_intro (nodes max_nodes) (edge_bit joined i) x.0 (nodes_in_lem max_nodes x.0 (omega (arith, l, h.small))) (sym (bit i x.0 a l) ∙ x.2))
      (λ t. let x = any_elim (nodes max_nodes) (edge_bit joined i) t in let l = (h.joins i x.0 (nodes_out max_nodes x.0 x.1) x.2).1 in any_intro (nodes n) ((groups_of d).edge i) x.0 (nodes_in_lem n x.0 l) (bit i x.0 a l ∙ x.2))

  same-distance : (i j : ℕ) → j < n → distance (rows_view n joined) i j ≡ distance (groups_of d) i j
  unfolding held_summary
  same-distance i j b = distance_cong (rows_view n joined) (groups_of d) refl (λ x y mx my. sym (bit x y (nodes_out n x mx) (nodes_out n y my))) i j (nodes_in_lem n j b)

  module _ (p q : ℕ) (a : placed n least p ≡ true) (b : placed n least q ≡ true) where
    by_groups : distance (visible G) p q ≡ distance_by d p q
    by_groups = distance_by_groups (visible G) d unfolds p q (node p a) (node q b)

    -- the distance of a node and itself, of members of one group, of members of two
    pub held_same : p ≡ q → 0 ≡ distance (visible G) p q
    held_same e = sym (by_groups ∙ unfold distance_by in rw (eq-eqb p q e))

    module _ {i j : ℕ} (ei : i ≡ first p) (ej : j ≡ first q) where
      pub held_across : (i ≡ j → ⊥) → {r : ℕ} → Shortest (rows_view n joined) i j r → r ≡ distance (visible G) p q
      held_across other s =
          let x : i < n = omega (arith, held_first p a) in
          let y : j < n = omega (arith, held_first q b) in
          shortest_distance (rows_view n joined) i j (nodes_in_lem n i x) (nodes_in_lem n j y) s
          ∙ same-distance i j y
          ∙ rw (ei, ej) (sym (by_groups ∙ unfold distance_by held_summary in rw (ne_eqb p q (λ z. other (ei ∙ ap first z ∙ sym ej)), ne_eqb (first p) (first q) (λ z. other (ei ∙ z ∙ sym ej)))))

      -- in one group: by its kind, and by whether its row tells a superedge
      module _ (other : p ≡ q → ⊥) (one : i ≡ j) where
        inside : cond (eqb (get_or kinds i 0) clique) 1 (cond (any (nodes max_nodes) (edge_bit joined i)) 2 unreachable) ≡ distance (visible G) p q
        inside = rw ei (sym (by_groups ∙ unfold distance_by held_summary in rw (ne_eqb p q other, eq-eqb (first p) (first q) (sym ei ∙ one ∙ ej), joined_is (first p) (held_first p a))))

        pub held-clique : get_or kinds i 0 ≡ clique → 1 ≡ distance (visible G) p q
        held-clique k = rw (eq-eqb (get_or kinds i 0) clique k) at inside

        module _ (k : get_or kinds i 0 ≡ clique → ⊥) {met : Bool} (told : met ≡ have_common (row_part joined i) (row_part joined i)) where
          known : cond met 2 unreachable ≡ distance (visible G) p q
          known = rw (told, own_common joined i) (rw (ne_eqb (get_or kinds i 0) clique k) at inside)

          pub held_linked : met ≡ true → 2 ≡ distance (visible G) p q
          held_linked t = rw t at known

          pub held-alone : met ≡ false → unreachable ≡ distance (visible G) p q
          held-alone t = rw t at known
