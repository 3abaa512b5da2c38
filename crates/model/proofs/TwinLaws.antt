-- Line 6 of Algorithm 1 within a class is an equivalence on the nodes of a simple graph.
use Rattle.std.specs.Prelude.{◌≡◌, false, ◌&&◌, ◌⊎◌, ℕ, eqb}
use Rattle.std.proofs.Math.Path.{refl}
use Rattle.std.proofs.Common.{sym, ◌∙◌, inl, inr}
use Rattle.std.proofs.Math.Bool.{true, beq}
use borrow.Author.Tests.{eqb-true, eqb-false, eq-eqb}
use Rattle.model.specs.Lists.{◌∈◌}
use Rattle.model.specs.Graph.{View}
use Rattle.model.specs.Grouping.{closed, false_twins, similar, true_twins}
use Rattle.model.proofs.TestLaws.{and_fst, and_snd, and_true, beq_eq, decide, differ, eq_beq, or_cases, or_left, or_right}
use Rattle.model.proofs.ListLaws.{all_elim, all_intro}

-- edges have no direction, and no node has an edge to itself
pub record Simple (v : View) : Type 0 where
  pub symmetric : (p q : ℕ) → p ∈ v.nodes → q ∈ v.nodes → v.edge p q ≡ v.edge q p
  pub irreflexive : (p : ℕ) → p ∈ v.nodes → v.edge p p ≡ false

module _ (v : View) where
  pub false_twins_at : (p q : ℕ) → false_twins v p q ≡ true → (r : ℕ) → r ∈ v.nodes → v.edge p r ≡ v.edge q r
  unfolding false_twins
  false_twins_at p q h r m = beq_eq (v.edge p r) (v.edge q r) (all_elim v.nodes (λ r. beq (v.edge p r) (v.edge q r)) h r m)

  pub true_twins_at : (p q : ℕ) → true_twins v p q ≡ true → (r : ℕ) → r ∈ v.nodes → closed v.edge p r ≡ closed v.edge q r
  unfolding true_twins
  true_twins_at p q h r m = beq_eq (closed v.edge p r) (closed v.edge q r) (all_elim v.nodes (λ r. beq (closed v.edge p r) (closed v.edge q r)) h r m)

  pub false_twins_by : (p q : ℕ) → ((r : ℕ) → r ∈ v.nodes → v.edge p r ≡ v.edge q r) → false_twins v p q ≡ true
  unfolding false_twins
  false_twins_by p q h = all_intro v.nodes _ (λ r m. eq_beq (v.edge p r) (v.edge q r) (h r m))

  pub true_twins_by : (p q : ℕ) → ((r : ℕ) → r ∈ v.nodes → closed v.edge p r ≡ closed v.edge q r) → true_twins v p q ≡ true
  unfolding true_twins
  true_twins_by p q h = all_intro v.nodes _ (λ r m. eq_beq (closed v.edge p r) (closed v.edge q r) (h r m))

  pub similar_cases : (p q : ℕ) → similar v p q ≡ true → (false_twins v p q ≡ true) ⊎ (true_twins v p q ≡ true)
  unfolding similar
  similar_cases p q h = or_cases (false_twins v p q) (true_twins v p q) (and_snd (eqb (v.class p) (v.class q)) _ h)

  pub similar_class : (p q : ℕ) → similar v p q ≡ true → v.class p ≡ v.class q
  unfolding similar
  similar_class p q h = eqb-true (v.class p) (v.class q) (and_fst (eqb (v.class p) (v.class q)) _ h)

  pub similar_N : (p q : ℕ) → v.class p ≡ v.class q → false_twins v p q ≡ true → similar v p q ≡ true
  unfolding similar
  similar_N p q e h = and_true (eq-eqb (v.class p) (v.class q) e) (or_left (true_twins v p q) h)

  pub similar_N+ : (p q : ℕ) → v.class p ≡ v.class q → true_twins v p q ≡ true → similar v p q ≡ true
  unfolding similar
  similar_N+ p q e h = and_true (eq-eqb (v.class p) (v.class q) e) (or_right (false_twins v p q) h)

  -- by the classes, and by the edges alone
  pub similar_split : (p q : ℕ) → similar v p q ≡ (eqb (v.class p) (v.class q) && similar (record { nodes = v.nodes; edge = v.edge; class = λ p. 0 }) p q)
  unfolding similar false_twins true_twins
  similar_split p q = refl

  pub similar_refl : (p : ℕ) → similar v p p ≡ true
  similar_refl p = similar_N p p refl (false_twins_by p p (λ r m. refl))

  pub similar_sym : (p q : ℕ) → similar v p q ≡ true → similar v q p ≡ true
  similar_sym p q h = step (similar_cases p q h)
    where
      step : (false_twins v p q ≡ true) ⊎ (true_twins v p q ≡ true) → similar v q p ≡ true
      step (inl n) = similar_N q p (sym (similar_class p q h)) (false_twins_by q p (λ r m. sym (false_twins_at p q n r m)))
      step (inr n) = similar_N+ q p (sym (similar_class p q h)) (true_twins_by q p (λ r m. sym (true_twins_at p q n r m)))

  module _ (g : Simple v) where
    -- N(p) = N(q) leaves the two without an edge, N+(p) = N+(q) gives them one
    pub false_twins_no_edge : (p q : ℕ) → q ∈ v.nodes → false_twins v p q ≡ true → v.edge p q ≡ false
    false_twins_no_edge p q m n = false_twins_at p q n q m ∙ g.irreflexive q m

    pub true_twins_edge : (p q : ℕ) → q ∈ v.nodes → (p ≡ q → ⊥) → true_twins v p q ≡ true → v.edge p q ≡ true
    unfolding closed
    true_twins_edge p q m ne n = step (or_cases (v.edge p q) (eqb p q) (true_twins_at p q n q m ∙ or_right (v.edge q q) (eq-eqb q q refl)))
      where
        step : (v.edge p q ≡ true) ⊎ (eqb p q ≡ true) → v.edge p q ≡ true
        step (inl h) = h
        step (inr h) = absurd (ne (eqb-true p q h))

    -- the mixed case: N(p) = N(q), N+(q) = N+(r), the three different, cannot be
    pub never_mixed : (p q r : ℕ) → p ∈ v.nodes → q ∈ v.nodes → r ∈ v.nodes → (p ≡ q → ⊥) → (q ≡ r → ⊥) → false_twins v p q ≡ true → true_twins v q r ≡ true → p ≡ r
    unfolding closed
    never_mixed p q r mp mq mr pq qr n c = step (or_cases (v.edge r p) (eqb r p) closed-rp)
      where
        -- q has an edge to r, so p has one to r; then r's closed neighbourhood holds p, so q's does: q has an edge to p
        edge-pr : v.edge p r ≡ true
        edge-pr = false_twins_at p q n r mr ∙ true_twins_edge q r mr qr c

        closed-rp : closed v.edge r p ≡ true
        closed-rp = or_left (eqb r p) (g.symmetric r p mr mp ∙ edge-pr)

        closed-qp : (v.edge q p ≡ true) ⊎ (eqb q p ≡ true)
        closed-qp = or_cases (v.edge q p) (eqb q p) (true_twins_at q r c p mp ∙ closed-rp)

        clash : (v.edge q p ≡ true) ⊎ (eqb q p ≡ true) → p ≡ r
        clash (inl h) = differ (g.symmetric p q mp mq ∙ h) (false_twins_no_edge p q mq n)
        clash (inr h) = absurd (pq (sym (eqb-true q p h)))

        step : (v.edge r p ≡ true) ⊎ (eqb r p ≡ true) → p ≡ r
        step (inl h) = clash closed-qp
        step (inr h) = sym (eqb-true r p h)

    pub similar_trans : (p q r : ℕ) → p ∈ v.nodes → q ∈ v.nodes → r ∈ v.nodes → similar v p q ≡ true → similar v q r ≡ true → similar v p r ≡ true
    similar_trans p q r mp mq mr h k = apart (decide (eqb p q)) (decide (eqb q r))
      where
        one_class : v.class p ≡ v.class r
        one_class = similar_class p q h ∙ similar_class q r k

        by-eq : p ≡ r → similar v p r ≡ true
        by-eq x = rw x (similar_refl r)

        both : (p ≡ q → ⊥) → (q ≡ r → ⊥) → (false_twins v p q ≡ true) ⊎ (true_twins v p q ≡ true) → (false_twins v q r ≡ true) ⊎ (true_twins v q r ≡ true) → similar v p r ≡ true
        both pq qr (inl a) (inl b) = similar_N p r one_class (false_twins_by p r (λ x m. false_twins_at p q a x m ∙ false_twins_at q r b x m))
        both pq qr (inr a) (inr b) = similar_N+ p r one_class (true_twins_by p r (λ x m. true_twins_at p q a x m ∙ true_twins_at q r b x m))
        both pq qr (inl a) (inr b) = by-eq (never_mixed p q r mp mq mr pq qr a b)
        both pq qr (inr a) (inl b) =
            by-eq (sym (never_mixed r q p mr mq mp (λ x. qr (sym x)) (λ x. pq (sym x)) (false_twins_by r q (λ x m. sym (false_twins_at q r b x m))) (true_twins_by q p (λ x m. sym (true_twins_at p q a x m)))))

        apart : (eqb p q ≡ true) ⊎ (eqb p q ≡ false) → (eqb q r ≡ true) ⊎ (eqb q r ≡ false) → similar v p r ≡ true
        apart (inl x) y = rw (eqb-true p q x) k
        apart (inr x) (inl y) = rw (← eqb-true q r y) h
        apart (inr x) (inr y) = both (eqb-false p q x) (eqb-false q r y) (similar_cases p q h) (similar_cases q r k)
