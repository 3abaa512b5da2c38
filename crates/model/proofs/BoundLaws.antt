-- One update moves the number of groups by at most two.
use Rattle.std.specs.Prelude.{◌≡◌, refl, Bool, true, false, ◌&&◌, ◌||◌, cond, List, [], ◌∷◌, ◌⊎◌, ℕ, suc, ◌+◌, ◌≤◌, eqb, length}
use Rattle.std.proofs.Common.{sym, ap, ap₂, ◌∙◌, inl, inr, arith}
use Rattle.std.proofs.Math.Bool.{not}
use Rattle.std.specs.Bool.{beq}
use mathlib.Core.List.Memᴰ
use borrow.Author.Tests.{eqb-true, eqb-false, ne_eqb, not-true}
use Rattle.model.specs.Lists.{◌∈◌, filter}
use Rattle.model.specs.Graph.{View}
use Rattle.model.specs.Grouping.{algorithm1, closed, false_twins, leaders, least, similar, true_twins}
use Rattle.model.proofs.TestLaws.{decide}
use Rattle.model.proofs.ListLaws.{Ascending, all_cong, filter_ascending, filter_elim, pigeonhole, without}
use Rattle.model.proofs.TwinLaws.{Simple, similar_sym, similar_trans}
use Rattle.model.proofs.ClassLaws.{leader_out, leaders-apart, leaders_ascending, least_in, least-leads, least_rel}
use Rattle.model.proofs.SummaryLaws.{equivalence, length_groups}

none_gone : (x : ℕ) (l : List ℕ) → (x ∈ l → ⊥) → length (without x l) ≡ length l
unfolding filter
none_gone x [] h = refl
none_gone x (y ∷ ys) h = rw (ne_eqb x y (λ q. h (Memᴰ.head q))) (ap suc (none_gone x ys (λ m. h (Memᴰ.tail m))))

one_gone : (x : ℕ) (l : List ℕ) → Ascending l → length l ≤ suc (length (without x l))
unfolding filter
one_gone x [] a = omega arith
one_gone x (y ∷ ys) a = step (one_gone x ys a.1) (decide (eqb x y))
  where
    step : length ys ≤ suc (length (without x ys)) → (eqb x y ≡ true) ⊎ (eqb x y ≡ false) → suc (length ys) ≤ suc (length (cond (not (eqb x y)) (y ∷ without x ys) (without x ys)))
    step below (inl t) = rw t (omega (arith, none_gone x ys (λ m. omega (arith, a.0 x m, eqb-true x y t))))
    step below (inr t) = rw t (omega (arith, below))

-- the same nodes with other edges and classes
abbrev pub view_with : View → (ℕ → ℕ → Bool) → (ℕ → ℕ) → View
view_with v e c = record { nodes = v.nodes; edge = e; class = c }

-- two graphs have the same class and the same edges at p
pub record SameAt (v w : View) (p : ℕ) : Type 0 where
  pub edge : (r : ℕ) → v.edge p r ≡ w.edge p r
  pub class : v.class p ≡ w.class p

pub similar_cong : (v : View) (f : ℕ → ℕ → Bool) (c : ℕ → ℕ) (p q : ℕ) → SameAt v (view_with v f c) p → SameAt v (view_with v f c) q → similar v p q ≡ similar (view_with v f c) p q
unfolding similar false_twins true_twins closed
similar_cong v f c p q hp hq =
    ap₂ ◌&&◌ (ap₂ eqb hp.class hq.class)
    (ap₂ ◌||◌
    (all_cong _ _ v.nodes (λ r m. ap₂ beq (hp.edge r) (hq.edge r)))
    (all_cong _ _ v.nodes (λ r m. ap₂ (λ (x y : Bool). beq (x || eqb p r) (y || eqb q r)) (hp.edge r) (hq.edge r))))

module _ (v : View) (f : ℕ → ℕ → Bool) (c : ℕ → ℕ) (gv : Simple v) (gw : Simple (view_with v f c)) (asc : Ascending v.nodes) (x y : ℕ) (same : (p : ℕ) → (p ≡ x → ⊥) → (p ≡ y → ⊥) → SameAt v (view_with v f c) p) where
  abbrev w : View
  w = view_with v f c

  L : List ℕ
  L = leaders v.nodes (similar v)

  rest : List ℕ
  rest = without y (without x L)

  rest_out : (p : ℕ) → p ∈ rest → (p ∈ L) × (p ≡ x → ⊥) × (p ≡ y → ⊥)
  unfolding rest
  rest_out p m =
      let a = filter_elim (λ z. not (eqb y z)) (without x L) p m in
      let b = filter_elim (λ z. not (eqb x z)) L p a.0 in
      (b.0, λ q. eqb-false x p (not-true (eqb x p) b.1) (sym q), λ q. eqb-false y p (not-true (eqb y p) a.1) (sym q))

  -- where x and y are one, one leader is gone at most
  rest-one : x ≡ y → length L ≤ 1 + length rest
  unfolding rest L
  rest-one e =
      let up = leaders_ascending v.nodes (similar v) (equivalence v gv asc) asc in
      omega (arith, one_gone x L up, none_gone y (without x L) (λ m. eqb-false x y (not-true (eqb x y) (filter_elim (λ z. not (eqb x z)) L y m).1) e))

  rest-long : length L ≤ 2 + length rest
  unfolding rest L
  rest-long = omega (arith, one_gone x L (leaders_ascending v.nodes (similar v) (equivalence v gv asc) asc), one_gone y (without x L) (filter_ascending _ L (leaders_ascending v.nodes (similar v) (equivalence v gv asc) asc)))

  -- every other leader has a group of its own in w
  rest-few : length rest ≤ length (algorithm1 w)
  unfolding rest L
  rest-few = omega (arith, length_groups w gw asc, pigeonhole rest (least v.nodes (similar w)) (leaders v.nodes (similar w)) ordered into inj)
    where
      ordered : Ascending rest
      ordered = filter_ascending _ (without x L) (filter_ascending _ L (leaders_ascending v.nodes (similar v) (equivalence v gv asc) asc))

      inside : (p : ℕ) → p ∈ rest → p ∈ v.nodes
      inside p m = (leader_out v.nodes (similar v) (equivalence v gv asc) asc p (rest_out p m).0).0

      into : (p : ℕ) → p ∈ rest → least v.nodes (similar w) p ∈ leaders v.nodes (similar w)
      into p m = least-leads v.nodes (similar w) (equivalence w gw asc) asc p (inside p m)

      inj : (p q : ℕ) → p ∈ rest → q ∈ rest → least v.nodes (similar w) p ≡ least v.nodes (similar w) q → p ≡ q
      inj p q mp mq h =
          let a = rest_out p mp in
          let b = rest_out q mq in
          let l : ℕ = least v.nodes (similar w) p in
          let lin = least_in v.nodes (similar w) (equivalence w gw asc) asc p (inside p mp) in
          let pl : similar w p l ≡ true = least_rel v.nodes (similar w) (equivalence w gw asc) asc p (inside p mp) in
          let ql : similar w q l ≡ true = rw h (least_rel v.nodes (similar w) (equivalence w gw asc) asc q (inside q mq)) in
          let pq : similar w p q ≡ true = similar_trans w gw p l q (inside p mp) lin (inside q mq) pl (similar_sym w q l ql) in
          leaders-apart v.nodes (similar v) (equivalence v gv asc) asc p q (inside p mp) (inside q mq) (leader_out v.nodes (similar v) (equivalence v gv asc) asc p a.0).1 (leader_out v.nodes (similar v) (equivalence v gv asc) asc q b.0).1
          (similar_cong v f c p q (same p a.1 a.2) (same q b.1 b.2) ∙ pq)

  pub at_most_two : length (algorithm1 v) ≤ 2 + length (algorithm1 w)
  unfolding L
  at_most_two = omega (arith, rest-long, length_groups v gv asc, rest-few)

  pub at_most_one : x ≡ y → length (algorithm1 v) ≤ 1 + length (algorithm1 w)
  unfolding L
  at_most_one e = omega (arith, rest-one e, length_groups v gv asc, rest-few)
