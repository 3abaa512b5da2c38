-- The length of a release, and what it does not depend on.
use Rattle.std.specs.Prelude.{◌≡◌, Bool, ◌&&◌, ◌⊎◌, ℕ, suc, ◌+◌, ◌*◌, ◌<◌, ltb}
use Rattle.std.proofs.Math.Path.{refl, ap, ap₂, fun_ext}
use Rattle.std.proofs.Common.{sym, ◌∙◌, inl, inr, arith}
use Rattle.std.proofs.Math.Bool.{true, false, not, cond, and-false}
use mathlib.Core.List.Memᴰ
use mathlib.Core.List.{List, [], ◌∷◌, ◌++◌, map}
use Rattle.std.proofs.Math.Dec.{eqb}
use Rattle.std.proofs.Math.ListN.{length, length-append}
use borrow.Author.Tests.{eqb-true, eq-eqb, ne_eqb, ltb-true}
use Rattle.model.specs.Lists.{◌∈◌, concat, filter, nodes}
use Rattle.model.specs.Graph.{Graph, Proper, View, max_classes}
use Rattle.model.specs.Grouping.{algorithm1, group, leaders, least, similar}
use Rattle.model.specs.Release.{encode, end_record, group_record, head_record, is_visible, release, superedge_count, superedge_record, superedges, u16, visible, visible_class, visible_edge, visible_groups}
use Rattle.model.specs.History.{Alike}
use Rattle.model.proofs.TestLaws.{decide, iff_eq}
use Rattle.model.proofs.ListLaws.{Ascending, filter_ascending, filter_cong, nodes_ascending}
use Rattle.model.proofs.TwinLaws.{Simple, similar_sym}
use Rattle.model.proofs.ClassLaws.{Equivalence, leader_out, leaders_ascending, least_eq, least-leads, least_rel}
use Rattle.model.proofs.SummaryLaws.{algorithm1-classes, equivalence}

-- graphs alike in what is visible have one release
module _ (a b : Graph) (h : Alike a b) where
  pub alike_node : (p : ℕ) → is_visible a p ≡ is_visible b p
  unfolding is_visible
  alike_node p = rw (← h.marks.node_count) (step (decide (ltb p a.node_count)))
    where
      step : (ltb p a.node_count ≡ true) ⊎ (ltb p a.node_count ≡ false) → (ltb p a.node_count && not (a.hidden p)) ≡ (ltb p a.node_count && not (b.hidden p))
      step (inl t) = rw (h.marks.hidden p (ltb-true p a.node_count t))
      step (inr t) = rw t

  alike-edge : (p q : ℕ) → visible_edge a p q ≡ visible_edge b p q
  unfolding visible_edge
  alike-edge p q = rw (← alike_node p, ← alike_node q) (step (is_visible a p) refl (is_visible a q) refl)
    where
      step : (x : Bool) → is_visible a p ≡ x → (y : Bool) → is_visible a q ≡ y → (x && (y && a.edge p q)) ≡ (x && (y && b.edge p q))
      step true s true t = h.edge p q s t
      step true s false t = refl
      step false s y t = refl

  alike-class : (p : ℕ) → visible_class a p ≡ visible_class b p
  unfolding visible_class
  alike-class p = rw (← alike_node p) (step (is_visible a p) refl)
    where
      step : (x : Bool) → is_visible a p ≡ x → cond x (a.class p) 0 ≡ cond x (b.class p) 0
      step true s = h.class p s
      step false s = refl

  pub alike-visible : visible a ≡ visible b
  alike-visible = rw (fun_ext alike_node, fun_ext (λ p. fun_ext (alike-edge p)), fun_ext alike-class, h.marks.node_count)

  pub non_interference : release a ≡ release b
  unfolding release
  non_interference = ap₂ (λ (n : ℕ) (v : View). encode n v (algorithm1 v)) h.marks.node_count alike-visible

-- the length of the records
pub length-u16s : (l : List ℕ) → length (concat (map u16 l)) ≡ 2 * length l
unfolding concat u16
length-u16s [] = refl
length-u16s (x ∷ xs) = omega (arith, length-u16s xs)

pub length-group_record : (v : View) (g : List ℕ) → length (group_record v g) ≡ 6 + 2 * length g
unfolding group_record u16
length-group_record v g = omega (arith, length-u16s g)

pub length-group_records : (v : View) (gs : List (List ℕ)) → length (concat (map (group_record v) gs)) ≡ 6 * length gs + 2 * length (concat gs)
unfolding concat
length-group_records v [] = refl
length-group_records v (g ∷ gs) = omega (arith, length-append (group_record v g) (concat (map (group_record v) gs)), length-group_record v g, length-group_records v gs, length-append g (concat gs))

pub length_superedge_records : (js : List (ℕ × ℕ)) → length (concat (map superedge_record js)) ≡ 6 * length js
unfolding concat superedge_record u16
length_superedge_records [] = refl
length_superedge_records (j ∷ js) = omega (arith, length_superedge_records js)

pub length-encode : (n : ℕ) (v : View) (gs : List (List ℕ)) → length (encode n v gs) ≡ 10 + 6 * length gs + 2 * length (concat gs) + 6 * length (superedges v.edge 0 gs)
unfolding encode head_record u16 end_record
length-encode n v gs =
    omega (
      arith,
      length-append (concat (map (group_record v) gs)) (concat (map superedge_record (superedges v.edge 0 gs)) ++ end_record),
      length-append (concat (map superedge_record (superedges v.edge 0 gs))) end_record,
      length-group_records v gs,
      length_superedge_records (superedges v.edge 0 gs),
    )

-- the groups hold each node once, so their sizes add up to the number of nodes
module _ (r : ℕ → ℕ → Bool) where
  abbrev parts : List ℕ → List ℕ → List ℕ
  parts vs ls = concat (map (λ l. filter (r l) vs) ls)

  parts-nil : (ls : List ℕ) → length (parts [] ls) ≡ 0
  unfolding concat filter
  parts-nil [] = refl
  parts-nil (l ∷ ls) = parts-nil ls

  parts-cons : (v : ℕ) (vs ls : List ℕ) → length (parts (v ∷ vs) ls) ≡ length (filter (λ l. r l v) ls) + length (parts vs ls)
  unfolding concat filter
  parts-cons v vs [] = refl
  parts-cons v vs (l ∷ ls) = step (r l v) (parts-cons v vs ls)
    where
      step : (b : Bool) → length (parts (v ∷ vs) ls) ≡ length (filter (λ l. r l v) ls) + length (parts vs ls)
          → length (cond b (v ∷ filter (r l) vs) (filter (r l) vs) ++ parts (v ∷ vs) ls) ≡ length (cond b (l ∷ filter (λ l. r l v) ls) (filter (λ l. r l v) ls)) + length (filter (r l) vs ++ parts vs ls)
      step true h = omega (arith, length-append (filter (r l) vs) (parts (v ∷ vs) ls), length-append (filter (r l) vs) (parts vs ls))
      step false h = omega (arith, length-append (filter (r l) vs) (parts (v ∷ vs) ls), length-append (filter (r l) vs) (parts vs ls))

  pub parts_length : (vs ls : List ℕ) → ((v : ℕ) → v ∈ vs → length (filter (λ l. r l v) ls) ≡ 1) → length (parts vs ls) ≡ length vs
  parts_length [] ls h = parts-nil ls
  parts_length (v ∷ vs) ls h = omega (arith, parts-cons v vs ls, h v (Memᴰ.head refl), parts_length vs ls (λ x m. h x (Memᴰ.tail m)))

none_of : (x : ℕ) (l : List ℕ) → (x ∈ l → ⊥) → length (filter (eqb x) l) ≡ 0
unfolding filter
none_of x [] h = refl
none_of x (y ∷ ys) h = rw (ne_eqb x y (λ q. h (Memᴰ.head q))) (none_of x ys (λ m. h (Memᴰ.tail m)))

pub one_of : (x : ℕ) (l : List ℕ) → Ascending l → x ∈ l → length (filter (eqb x) l) ≡ 1
unfolding filter
one_of x [] a x3 = elim x3 [ ]
one_of x (y ∷ ys) a (Memᴰ.head q) = rw (eq-eqb x y q) (ap suc (none_of x ys (λ m. omega (arith, a.0 x m))))
one_of x (y ∷ ys) a (Memᴰ.tail m) = rw (ne_eqb x y (λ q. omega (arith, a.0 x m))) (one_of x ys a.1 m)

module _ (v : View) (g : Simple v) (asc : Ascending v.nodes) where
  abbrev eq : Equivalence v.nodes (similar v)
  eq = equivalence v g asc

  pub length-concat_groups : length (concat (algorithm1 v)) ≡ length v.nodes
  unfolding group
  length-concat_groups = rw (algorithm1-classes v g asc) (parts_length (similar v) v.nodes (leaders v.nodes (similar v)) one-leader)
    where
      one-leader : (p : ℕ) → p ∈ v.nodes → length (filter (λ l. similar v l p) (leaders v.nodes (similar v))) ≡ 1
      one-leader p m =
          ap length (filter_cong (λ l. similar v l p) (eqb (least v.nodes (similar v) p)) (leaders v.nodes (similar v)) (λ l k. iff_eq _ _ (there l k) (back l)))
          ∙ one_of (least v.nodes (similar v) p) (leaders v.nodes (similar v)) (leaders_ascending v.nodes (similar v) eq asc) (least-leads v.nodes (similar v) eq asc p m)
        where
          there : (l : ℕ) → l ∈ leaders v.nodes (similar v) → similar v l p ≡ true → eqb (least v.nodes (similar v) p) l ≡ true
          there l k h = let t = leader_out v.nodes (similar v) eq asc l k in eq-eqb _ l (sym (least_eq v.nodes (similar v) eq asc l p t.0 m h) ∙ t.1)

          back : (l : ℕ) → eqb (least v.nodes (similar v) p) l ≡ true → similar v l p ≡ true
          back l h = rw (← eqb-true (least v.nodes (similar v) p) l h) (similar_sym v p _ (least_rel v.nodes (similar v) eq asc p m))

  pub length_law : (n : ℕ) → length (encode n v (algorithm1 v)) ≡ 10 + 6 * length (algorithm1 v) + 2 * length v.nodes + 6 * length (superedges v.edge 0 (algorithm1 v))
  length_law n = omega (arith, length-encode n v (algorithm1 v), length-concat_groups)

-- the visible part of a proper graph is a simple graph
pub visible_ascending : (g : Graph) → Ascending (visible g).nodes
visible_ascending g = filter_ascending (is_visible g) (nodes g.node_count) (nodes_ascending g.node_count)

pub visible-simple : (g : Graph) → Proper g → Simple (visible g)
unfolding visible_edge
visible-simple g h = record {
  symmetric = λ p q mp mq. turn (is_visible g p) (is_visible g q) (g.edge p q) (g.edge q p) (h.symmetric p q);
  irreflexive = λ p m. rw (h.irreflexive p) (none (is_visible g p));
}
  where
    turn : (x y s t : Bool) → s ≡ t → (x && (y && s)) ≡ (y && (x && t))
    turn true y s t e = ap (λ (z : Bool). y && z) e
    turn false y s t e = sym (and-false y)

    none : (x : Bool) → (x && (x && false)) ≡ false
    none true = refl
    none false = refl

pub visible-classed : (g : Graph) → Proper g → (p : ℕ) → visible_class g p < max_classes
unfolding visible_class
visible-classed g h p = step (is_visible g p)
  where
    step : (b : Bool) → cond b (g.class p) 0 < max_classes
    step true = h.classed p
    step false = omega arith

-- m, g and s of a release and its length
pub length-release : (g : Graph) → Proper g → length (release g) ≡ 10 + 6 * length (visible_groups g) + 2 * length (visible g).nodes + 6 * superedge_count g
unfolding release visible_groups superedge_count
length-release g h = length_law (visible g) (visible-simple g h) (visible_ascending g) g.node_count
