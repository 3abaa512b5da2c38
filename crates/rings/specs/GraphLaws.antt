-- An update of a graph, carried out on its node table: two nodes taken out and put back give the new graph's table and the answer.
use Rattle.std.specs.Prelude.{◌≡◌, ◌≢◌, ◌⊎◌, Bool, true, List, ◌∷◌, ltb}
use Rattle.std.proofs.Math.Path.{refl, sym, subst, ap}
use Rattle.std.proofs.Common.{◌∙◌, inl, inr, le_antisymm}
use Rattle.std.proofs.Math.Logic.{⊎_elim}
use Rattle.std.proofs.Math.Bool.{false, cond, and-false}
use Prim.Native.Nat.{ℕ, suc, zero, ◌+◌, ◌-◌, ◌≤◌, ◌<◌}
use native.Mathlib.Omega.{arith}
use Rattle.std.proofs.Math.Decide.{ℕ_discrete}
use Rattle.std.proofs.Math.Dec.{eqb}
use Rattle.std.proofs.Math.ListN.{length}
use Rattle.std.proofs.Math.IntN.{sub_ℕ}
use borrow.Author.Tests.{eqb-true, eq-eqb, ne_eqb, ltb-true, ltb-false, lt-ltb, le-ltb}
use Rattle.model.specs.Lists.{filter, from, nodes}
use Rattle.model.specs.Graph.{Graph, Proper, node_numbers, whole}
use Rattle.model.specs.Grouping.{leaders, least, similar}
use Rattle.model.specs.Tables.{node_number, nodes_of}
use Rattle.model.specs.Updates.{Update, answer, group_count, on_class, on_edge, on_mark, refusal, updated}
use Rattle.model.proofs.TestLaws.{decide}
use Rattle.model.proofs.ListLaws.{nodes_ascending}
use Rattle.model.proofs.SummaryLaws.{length_groups}
use Rattle.model.proofs.TableLaws.{class_at_lem, least_at, length-nodes_of, mark_at_lem, proper_simple}
use Rattle.model.proofs.BoundLaws.{SameAt, similar_cong, view_with}
use Rattle.model.proofs.UpdateLaws.{answer-accepted, apart, class_kept, classes_kept, edges_kept, marks_kept, proper_updated, same_at, u_inside, v_inside, wanted_bit}
use Rattle.rings.specs.Ring.{Table, Of}
use Rattle.rings.specs.Steps.{Back, OthersLeft, Stored, Taken}
use Rattle.rings.specs.StoreLaws.{at, beside, off, size}
use Rattle.rings.specs.CountLaws.{bit, count, count_same, leads_in}
use Rattle.rings.specs.UpdateLaws.{Move, RingsKept, Shift, alone-size, back_rest, counted, counted_alone, moved, moved_alone, moved_rest, moved_size, rings_table}
use Rattle.rings.specs.NodesLaws.{graph_parts, is_nodes, of_nodes}

count-from : (f : ℕ → Bool) (a k : ℕ) → length (filter f (from a k)) + count a f ≡ count (a + k) f
unfolding filter from
count-from f a zero = let e : a ≡ a + 0 = omega arith in let c = ap (λ (i : ℕ). count i f) e in omega arith
count-from f a (suc k) = step (f a) refl (count-from f (suc a) k) ∙ ap (λ (i : ℕ). count i f) (omega arith)
  where
    step : (b : Bool) → f a ≡ b → length (filter f (from (suc a) k)) + count (suc a) f ≡ count (suc a + k) f
        → length (cond b (a ∷ filter f (from (suc a) k)) (filter f (from (suc a) k))) + count a f ≡ count (suc a + k) f
    step true e below = let c = one true e in omega arith
      where
        one : (b : Bool) → f a ≡ b → count (suc a) f ≡ count a f + bit b
        one b e = unfold count in ap (λ (x : Bool). count a f + bit x) e
    step false e below = let c = one false e in omega arith
      where
        one : (b : Bool) → f a ≡ b → count (suc a) f ≡ count a f + bit b
        one b e = unfold count in ap (λ (x : Bool). count a f + bit x) e

pub count-nodes : (f : ℕ → Bool) (n : ℕ) → length (filter f (nodes n)) ≡ count n f
unfolding nodes
count-nodes f n = let z = none in let c = count-from f 0 n in let e : 0 + n ≡ n = omega arith in let d = ap (λ (i : ℕ). count i f) e in omega arith
  where
    none : count 0 f ≡ 0
    none = unfold count in refl

-- a table of the graph's groups leads with as many nodes as there are groups
module _ (g : Graph) (h : Proper g) where
  least-of : {t : List ℕ} → Table g.node_count (Of g.node_count (similar (whole g))) t → (p : ℕ) → p < g.node_count → node_number t p 0 ≡ least (whole g).nodes (similar (whole g)) p
  least-of a p hp =
      let b = of_nodes g h in
      le_antisymm ((a.least p hp).near _ (b.least p hp).mem) ((b.least p hp).near _ (a.least p hp).mem) ∙ least_at g p hp

  pub count_groups : {t : List ℕ} → Table g.node_count (Of g.node_count (similar (whole g))) t → count g.node_count (leads_in t) ≡ group_count g
  unfolding group_count leaders
  count_groups a =
      count_same g.node_count (λ p hp. ap (λ (v : ℕ). eqb v p) (least-of a p hp))
      ∙ sym (count-nodes _ g.node_count)
      ∙ sym (length_groups (whole g) (proper_simple g h) (nodes_ascending g.node_count))

-- equal sums have equal differences
pub same_difference : (a b c d : ℕ) → a + d ≡ b + c → sub_ℕ a b ≡ sub_ℕ c d
same_difference a b c d e = step (decide (ltb c d))
  where
    step : (ltb c d ≡ true) ⊎ (ltb c d ≡ false) → sub_ℕ a b ≡ sub_ℕ c d
    step (inl t) =
        let l = ltb-true c d t in
        let s : b - suc a ≡ d - suc c = omega arith in
        rw (lt-ltb a b (omega arith), t, s) refl
    step (inr t) =
        let l = ltb-false c d t in
        let s : a - b ≡ c - d = omega arith in
        rw (le-ltb a b (omega arith), t, s) refl

-- u and v are the ends of the update's edge, in either order
abbrev pub Ends : Update → ℕ → ℕ → Type 0
Ends c u v = ((u ≡ c.u) × (v ≡ c.v)) ⊎ ((u ≡ c.v) × (v ≡ c.u))

-- an accepted update of an edge of g, whose node table is t
pub record EdgeUpdate (g : Graph) (c : Update) (u v : ℕ) (t : List ℕ) : Type 0 where
  pub proper : Proper g
  pub accepted : refusal g c ≡ 0
  pub edge : on_edge c ≡ true
  pub ends : Ends c u v
  pub table : t ≡ nodes_of g

module _ {g : Graph} {c : Update} {u v : ℕ} {t : List ℕ} (a : EdgeUpdate g c u v t) where
  old : Table g.node_count (Of g.node_count (similar (whole g))) t
  old = subst (λ x. Table g.node_count (Of g.node_count (similar (whole g))) x) (sym a.table) (of_nodes g a.proper)

  new : Proper (updated g c)
  new = proper_updated g c a.proper a.accepted

  row : (p : ℕ) → p ≢ u → p ≢ v → SameAt (whole g) (whole (updated g c)) p
  row p nu nv = ⊎_elim (λ x. kept (λ i. nu (i ∙ sym x.0)) (λ i. nv (i ∙ sym x.1))) (λ x. kept (λ i. nv (i ∙ sym x.1)) (λ i. nu (i ∙ sym x.0))) a.ends
    where
      kept : p ≢ c.u → p ≢ c.v → SameAt (whole g) (whole (updated g c)) p
      kept = same_at g c a.proper a.accepted p

  pub update_shift : Shift g.node_count u v (similar (whole g)) (similar (whole (updated g c))) t
  unfolding updated
  update_shift =
      record {
        small = a.proper.small;
        parts = graph_parts g a.proper;
        parts' = graph_parts (updated g c) new;
        hu = ⊎_elim (λ x. subst (λ z. z < g.node_count) (sym x.0) (u_inside g c a.proper a.accepted)) (λ x. subst (λ z. z < g.node_count) (sym x.0) (v_inside g c a.proper a.accepted a.edge)) a.ends;
        hv = ⊎_elim (λ x. subst (λ z. z < g.node_count) (sym x.1) (v_inside g c a.proper a.accepted a.edge)) (λ x. subst (λ z. z < g.node_count) (sym x.1) (u_inside g c a.proper a.accepted)) a.ends;
        ne = ⊎_elim (λ x i. apart g c a.proper a.accepted a.edge (sym x.0 ∙ i ∙ x.1)) (λ x i. apart g c a.proper a.accepted a.edge (sym x.1 ∙ sym i ∙ x.0)) a.ends;
        agree = λ p q pu pv qu qv. similar_cong (whole g) (updated g c).edge (updated g c).class p q (row p pu pv) (row q qu qv);
        size = ap length a.table ∙ length-nodes_of g;
        table = old;
      }

  module _ {t₁ t₂ t₃ t₄ : List ℕ} {z₃ z₄ : ℕ} (x₁ : Taken g.node_count u t t₁) (x₂ : Taken g.node_count v t₁ t₂)
      (x₃ : Back g.node_count u v z₃ (similar (whole (updated g c)) u) t₂ t₃)
      (x₄ : Back g.node_count v v z₄ (similar (whole (updated g c)) v) t₃ t₄) where
    pub update-nodes : t₄ ≡ nodes_of (updated g c)
    unfolding updated
    update-nodes =
        is_nodes (updated g c) new (moved update_shift x₁ x₂ x₃ x₄) (moved_size update_shift x₁ x₂ x₃ x₄)
        (record {
          marks = λ p hp. kept p 3 hp (omega arith) (omega arith) ∙ mark_at_lem g p hp ∙ ap (λ (f : ℕ → Bool). cond (f p) 1 0) (sym (marks_kept g c (other 2 refl)));
          classes = λ p hp. kept p 4 hp (omega arith) (omega arith) ∙ class_at_lem g p hp ∙ ap (λ (f : ℕ → ℕ). f p) (sym (classes_kept g c (other 3 refl)));
        })
      where
        kept : (p k : ℕ) → p < g.node_count → 3 ≤ k → k < node_numbers → node_number t₄ p k ≡ node_number (nodes_of g) p k
        kept p k hp h l = moved_rest update_shift x₁ x₂ x₃ x₄ p k hp h l ∙ ap (λ x. node_number x p k) a.table

        -- it is of no other kind
        other : (k : ℕ) → eqb 1 k ≡ false → eqb c.kind k ≡ false
        other k e = ap (λ (x : ℕ). eqb x k) (eqb-true c.kind 1 a.edge) ∙ e

    pub update-answer : {z₁ z₂ : ℕ} → OthersLeft (node_number t u 1) u z₁ → OthersLeft (node_number t₁ v 1) v z₂ → sub_ℕ (z₁ + z₂) (z₃ + z₄) ≡ answer g c
    unfolding updated
    update-answer {z₁} {z₂} p₁ p₂ =
        let b = count_groups g a.proper old in
        let d = count_groups (updated g c) new (moved update_shift x₁ x₂ x₃ x₄) in
        let s = counted update_shift x₁ x₂ x₃ x₄ refl p₁ refl p₂ in
        sym (same_difference (group_count (updated g c)) (group_count g) (z₁ + z₂) (z₃ + z₄) (omega arith)) ∙ sym (answer-accepted g c a.accepted)

-- an accepted update of a class of g, whose node table is t
pub record ClassUpdate (g : Graph) (c : Update) (t : List ℕ) : Type 0 where
  pub proper : Proper g
  pub accepted : refusal g c ≡ 0
  pub class : on_class c ≡ true
  pub table : t ≡ nodes_of g

module _ {g : Graph} {c : Update} {t : List ℕ} (a : ClassUpdate g c t) where
  new-classed : Proper (updated g c)
  new-classed = proper_updated g c a.proper a.accepted

  of-class : (k : ℕ) → eqb 3 k ≡ false → eqb c.kind k ≡ false
  of-class k e = ap (λ (x : ℕ). eqb x k) (eqb-true c.kind 3 a.class) ∙ e

  before : Table g.node_count (Of g.node_count (similar (whole g))) t
  before = subst (λ x. Table g.node_count (Of g.node_count (similar (whole g))) x) (sym a.table) (of_nodes g a.proper)

  same_row : (p : ℕ) → p ≢ c.u → SameAt (whole g) (whole (updated g c)) p
  same_row p nu = record { edge = λ r. ap (λ (f : ℕ → ℕ → Bool). f p r) (sym (edges_kept g c (of-class 1 refl))); class = sym (class_kept g c a.proper a.accepted p nu) }

  pub class_move : Move g.node_count c.u (similar (whole g)) (similar (whole (updated g c))) t
  unfolding updated
  class_move = record {
    small = a.proper.small;
    parts = graph_parts g a.proper;
    parts' = graph_parts (updated g c) new-classed;
    hu = u_inside g c a.proper a.accepted;
    agree = λ p q pu qu. similar_cong (whole g) (updated g c).edge (updated g c).class p q (same_row p pu) (same_row q qu);
    size = ap length a.table ∙ length-nodes_of g;
    table = before;
  }

  module _ {t₁ t₂ : List ℕ} (x₁ : Taken g.node_count c.u t t₁) (x₂ : Stored c.u 4 c.v t₁ t₂) where
    pub stored_rings : RingsKept t₁ t₂
    stored_rings = record { rings = λ p k h. beside x₂ p k (omega arith) (omega arith) (omega arith); size = size x₂ }

    class-told : (p : ℕ) → p < g.node_count → Dec (p ≡ c.u) → node_number t₂ p 4 ≡ (updated g c).class p
    unfolding updated
    class-told p hp (yes e) = rw (e, eq-eqb c.u c.u refl, a.class) (at x₂ (omega (arith, x₁.size, ap length a.table ∙ length-nodes_of g)))
    class-told p hp (no d) = off x₂ p 4 (omega arith) (omega arith) d ∙ x₁.rest p 4 hp (omega arith) (omega arith) ∙ ap (λ x. node_number x p 4) a.table ∙ class_at_lem g p hp ∙ rw (ne_eqb p c.u d, and-false (on_class c))

    pub stored_class : (p : ℕ) → p < g.node_count → node_number t₂ p 4 ≡ (updated g c).class p
    stored_class p hp = class-told p hp (ℕ_discrete p c.u)

    module _ {t₃ : List ℕ} {z : ℕ} (x₃ : Back g.node_count c.u c.u z (similar (whole (updated g c)) c.u) t₂ t₃) where
      pub class_nodes : t₃ ≡ nodes_of (updated g c)
      unfolding updated
      class_nodes =
          is_nodes (updated g c) new-classed (moved_alone class_move x₁ stored_rings x₃) (alone-size class_move x₁ stored_rings x₃)
          (record {
            marks = λ p hp. back_rest x₃ p 3 hp (omega arith) (omega arith) ∙ beside x₂ p 3 (omega arith) (omega arith) (omega arith) ∙ x₁.rest p 3 hp (omega arith) (omega arith) ∙ ap (λ x. node_number x p 3) a.table ∙ mark_at_lem g p hp ∙ ap (λ (f : ℕ → Bool). cond (f p) 1 0) (sym (marks_kept g c (of-class 2 refl)));
            classes = λ p hp. back_rest x₃ p 4 hp (omega arith) (omega arith) ∙ stored_class p hp;
          })

      pub class_answer : {r : ℕ} → OthersLeft (node_number t c.u 1) c.u r → sub_ℕ r z ≡ answer g c
      unfolding updated
      class_answer {r} p =
          let b = count_groups g a.proper before in
          let d = count_groups (updated g c) new-classed (moved_alone class_move x₁ stored_rings x₃) in
          let s = counted_alone class_move x₁ stored_rings x₃ refl p in
          sym (same_difference (group_count (updated g c)) (group_count g) r z (omega arith)) ∙ sym (answer-accepted g c a.accepted)

-- an accepted update of a mark of g: it is stored, and the groups stay
module _ (g : Graph) (c : Update) (h : Proper g) (ok : refusal g c ≡ 0) (mark : on_mark c ≡ true) {t : List ℕ} (x : Stored c.u 3 c.wanted (nodes_of g) t) where
  of-mark : (k : ℕ) → eqb 2 k ≡ false → eqb c.kind k ≡ false
  of-mark k e = ap (λ (z : ℕ). eqb z k) (eqb-true c.kind 2 mark) ∙ e

  same-groups : Table g.node_count (Of g.node_count (similar (whole (updated g c)))) (nodes_of g)
  unfolding updated
  same-groups =
      subst (λ (e : ℕ → ℕ → Bool). Table g.node_count (Of g.node_count (similar (view_with (whole g) e (updated g c).class))) (nodes_of g)) (sym (edges_kept g c (of-mark 1 refl)))
      (subst (λ (k : ℕ → ℕ). Table g.node_count (Of g.node_count (similar (view_with (whole g) g.edge k))) (nodes_of g)) (sym (classes_kept g c (of-mark 3 refl))) (of_nodes g h))

  mark-told : (p : ℕ) → p < g.node_count → Dec (p ≡ c.u) → node_number t p 3 ≡ cond ((updated g c).hidden p) 1 0
  unfolding updated
  mark-told p hp (yes e) = rw (e, eq-eqb c.u c.u refl, mark) (at x (omega (arith, length-nodes_of g)) ∙ sym (wanted_bit g c h ok))
  mark-told p hp (no d) = off x p 3 (omega arith) (omega arith) d ∙ mark_at_lem g p hp ∙ rw (ne_eqb p c.u d, and-false (on_mark c))

  pub mark_nodes : t ≡ nodes_of (updated g c)
  unfolding updated
  mark_nodes =
      is_nodes (updated g c) (proper_updated g c h ok)
      (rings_table (record { rings = λ p k l. beside x p k (omega arith) (omega arith) (omega arith); size = size x }) same-groups)
      (size x ∙ length-nodes_of g)
      (record {
        marks = λ p hp. mark-told p hp (ℕ_discrete p c.u);
        classes = λ p hp. beside x p 4 (omega arith) (omega arith) (omega arith) ∙ class_at_lem g p hp ∙ ap (λ (f : ℕ → ℕ). f p) (sym (classes_kept g c (of-mark 3 refl)));
      })
