-- The graph that a file tells whose groups and superedges stand in order: it is proper, and they are a summary of its visible part.
use Rattle.std.specs.Prelude.{◌≡◌, Bool, ◌&&◌, List, ◌⊎◌, ℕ, ◌≤◌, ◌<◌, eqb, ltb}
use Rattle.std.proofs.Math.Path.{refl, ap₂}
use Rattle.std.proofs.Common.{sym, ap, ◌∙◌, inl, inr, arith}
use Rattle.std.proofs.Math.Bool.{true, false, not, cond, and-false, or_comm}
use Rattle.std.proofs.Math.ListN.{length}
use borrow.Author.Tests.{eqb-true, eqb-false, eq-eqb, ne_eqb, ltb-true, lt-ltb}
use Rattle.model.specs.Lists.{◌∈◌, head_or, nodes}
use Rattle.model.specs.Graph.{Graph, Proper, max_classes, max_nodes}
use Rattle.model.specs.Summary.{Summarises, Summary, reconstruct}
use Rattle.model.specs.Release.{is_visible, visible, visible_class, visible_edge}
use Rattle.model.specs.Reading.{Head, decode, graph_by, summary_by, summary_in}
use Rattle.model.specs.InOrder.{class_at, file_by, groups_fit, members_at, told_groups, told_superedges}
use Rattle.model.proofs.TestLaws.{and_fst, decide, iff_eq}
use Rattle.model.proofs.ListLaws.{filter_elim, filter_intro, nodes_in_lem}
use Rattle.model.proofs.InOrderLaws.{class_at_lem, file_count, file_told_groups, file_told_superedges, first_in, members_below, place_in, place_of_lem, place_of}

-- what unfolds has no direction and no loops
pub reconstruct_turn : (d : Summary) (p q : ℕ) → reconstruct d p q ≡ reconstruct d q p
unfolding reconstruct
reconstruct_turn d p q = step (decide (eqb (d.group_of p) (d.group_of q)))
  where
    turn : (a b : ℕ) → eqb a b ≡ eqb b a
    turn a b = iff_eq (eqb a b) (eqb b a) (λ t. eq-eqb b a (sym (eqb-true a b t))) (λ t. eq-eqb a b (sym (eqb-true b a t)))

    step : (eqb (d.group_of p) (d.group_of q) ≡ true) ⊎ (eqb (d.group_of p) (d.group_of q) ≡ false) → reconstruct d p q ≡ reconstruct d q p
    step (inl t) =
        let e = eqb-true (d.group_of p) (d.group_of q) t in
        rw (t, eq-eqb (d.group_of q) (d.group_of p) (sym e), e, turn p q)
    step (inr t) = rw (t, ne_eqb (d.group_of q) (d.group_of p) (λ z. eqb-false (d.group_of p) (d.group_of q) t (sym z))) (or_comm (d.superedges (d.group_of p) (d.group_of q)) (d.superedges (d.group_of q) (d.group_of p)))

pub reconstruct_loop : (d : Summary) (p : ℕ) → reconstruct d p p ≡ false
unfolding reconstruct
reconstruct_loop d p = rw (eq-eqb (d.group_of p) (d.group_of p) refl, eq-eqb p p refl) (and-false (d.cliques (d.group_of p)))

-- the graph that a file tells is that of its groups and superedges
pub decode_file : (n : ℕ) (gs : List (Head × List ℕ)) (js : List (ℕ × ℕ)) → decode (file_by n gs js) ≡ graph_by n (summary_by gs js)
decode_file n gs js = (unfold decode summary_in told_groups told_superedges in ap₂ graph_by (file_count n gs js) (ap₂ summary_by (file_told_groups n gs js) (file_told_superedges n gs js)))

module _ (n : ℕ) (gs : List (Head × List ℕ)) (js : List (ℕ × ℕ)) (small : n ≤ max_nodes) (fits : groups_fit n (λ p. false) 0 gs ≡ true) where
  abbrev d : Summary
  d = summary_by gs js

  abbrev G : Graph
  G = graph_by n (summary_by gs js)

  pub place_below : (p : ℕ) → place_of gs p < length gs → p < n
  place_below p l = members_below n gs fits (place_of gs p) p l (place_in n gs fits p l)

  pub told_proper : Proper (graph_by n (summary_by gs js))
  unfolding graph_by summary_by
  told_proper = record {
    small = small;
    symmetric = λ p q. turn (ltb (place_of gs p) (length gs)) (ltb (place_of gs q) (length gs)) (reconstruct d p q) (reconstruct d q p) (reconstruct_turn d p q);
    irreflexive = λ p. none (ltb (place_of gs p) (length gs)) (reconstruct d p p) (reconstruct_loop d p);
    inside = λ p q t. place_below p (ltb-true (place_of gs p) (length gs) (and_fst (ltb (place_of gs p) (length gs)) _ t));
    held = λ p t. ltb-true p n (and_fst (ltb p n) _ t);
    classed = λ p. bound p (decide (ltb (place_of gs p) (length gs)));
    unclassed = λ p l. outside p l (decide (ltb (place_of gs p) (length gs)));
  }
    where
      bound : (p : ℕ) → (ltb (place_of gs p) (length gs) ≡ true) ⊎ (ltb (place_of gs p) (length gs) ≡ false) → cond (ltb (place_of gs p) (length gs)) (d.classes (place_of gs p)) 0 < max_classes
      bound p (inl t) = rw t (unfold class_at in class_at_lem n (λ q. false) 0 gs fits (place_of gs p) (ltb-true (place_of gs p) (length gs) t))
      bound p (inr t) = rw t (omega arith)

      outside : (p : ℕ) → n ≤ p → (ltb (place_of gs p) (length gs) ≡ true) ⊎ (ltb (place_of gs p) (length gs) ≡ false) → cond (ltb (place_of gs p) (length gs)) (d.classes (place_of gs p)) 0 ≡ 0
      outside p l (inl t) = absurd (omega (arith, place_below p (ltb-true (place_of gs p) (length gs) t)))
      outside p l (inr t) = rw t

      turn : (x y s t : Bool) → s ≡ t → (x && (y && s)) ≡ (y && (x && t))
      turn true y s t e = ap (λ (z : Bool). y && z) e
      turn false y s t e = sym (and-false y)

      none : (x t : Bool) → t ≡ false → (x && (x && t)) ≡ false
      none true t e = e
      none false t e = refl

  told_visible : (p : ℕ) → is_visible (graph_by n (summary_by gs js)) p ≡ ltb (place_of gs p) (length gs)
  unfolding is_visible graph_by summary_by
  told_visible p = step (decide (ltb (place_of gs p) (length gs)))
    where
      hidden : (x : Bool) → (x && not (x && true)) ≡ false
      hidden true = refl
      hidden false = refl

      step : (ltb (place_of gs p) (length gs) ≡ true) ⊎ (ltb (place_of gs p) (length gs) ≡ false) → (ltb p n && not (ltb p n && not (ltb (place_of gs p) (length gs)))) ≡ ltb (place_of gs p) (length gs)
      step (inl t) = rw (t, lt-ltb p n (place_below p (ltb-true (place_of gs p) (length gs) t)))
      step (inr t) = rw t (hidden (ltb p n))

  -- the nodes in groups are the visible ones
  pub told_node : (p : ℕ) → place_of gs p < length gs → p ∈ (visible (graph_by n (summary_by gs js))).nodes
  told_node p l = filter_intro (is_visible G) (nodes G.node_count) p (nodes_in_lem G.node_count p (unfold graph_by in place_below p l)) (told_visible p ∙ lt-ltb (place_of gs p) (length gs) l)

  pub told_place : (p : ℕ) → p ∈ (visible (graph_by n (summary_by gs js))).nodes → place_of gs p < length gs
  told_place p m = ltb-true (place_of gs p) (length gs) (sym (told_visible p) ∙ (filter_elim (is_visible G) (nodes G.node_count) p m).1)

  pub file_summarises : Summarises (visible (graph_by n (summary_by gs js))) (summary_by gs js)
  file_summarises = record {
    placed = λ p m. unfold summary_by in told_place p m;
    inhabited = λ i l. unfold summary_by in inhabitant i l;
    exact = λ p q mp mq. exact p q (told_place p mp) (told_place q mq);
    classed = λ p m. class p (told_place p m);
  }
    where
      inhabitant : (i : ℕ) → i < length gs → (p : ℕ) × (p ∈ (visible G).nodes) × (place_of gs p ≡ i)
      inhabitant i l =
          let e : place_of gs (head_or 0 (members_at gs i)) ≡ i = place_of_lem n gs fits i (head_or 0 (members_at gs i)) l (first_in n gs fits i l) in
          (head_or 0 (members_at gs i), told_node (head_or 0 (members_at gs i)) (omega arith), e)

      class : (p : ℕ) → place_of gs p < length gs → d.classes (d.group_of p) ≡ visible_class G p
      class p a = unfold visible_class in rw (told_visible p, lt-ltb (place_of gs p) (length gs) a) (unfold graph_by summary_by in rw (lt-ltb (place_of gs p) (length gs) a))

      exact : (p q : ℕ) → place_of gs p < length gs → place_of gs q < length gs → reconstruct d p q ≡ visible_edge G p q
      exact p q a b = unfold visible_edge in rw (told_visible p, told_visible q, lt-ltb (place_of gs p) (length gs) a, lt-ltb (place_of gs q) (length gs) b) (unfold graph_by summary_by in rw (lt-ltb (place_of gs p) (length gs) a, lt-ltb (place_of gs q) (length gs) b))
