-- What superedges in order add to the sums of cubes: each pair once, so that the sums are those of the rows.
use Rattle.std.specs.Prelude.{◌≡◌, Bool, false, ◌&&◌, ◌||◌, ◌⊎◌, eqb, ltb}
use Rattle.std.proofs.Math.Path.{refl, sym, ap₂}
use Rattle.std.proofs.Common.{ap, ◌∙◌, inl, inr}
use Rattle.std.proofs.Math.Bool.{true, cond}
use mathlib.Core.List.{List, [], ◌∷◌, ◌++◌}
use Prim.Native.Nat.{ℕ, ◌+◌, ◌<◌}
use native.Mathlib.Omega.{arith}
use Rattle.std.proofs.Math.ListN.{get_or}
use borrow.Author.Tests.{eq-eqb, eqb-true, ltb-false, ltb-true, ne_eqb}
use Rattle.model.specs.Graph.{max_nodes}
use Rattle.model.specs.Reading.{has_pair}
use Rattle.model.specs.InOrder.{follows, pair_key, superedges_fit}
use Rattle.model.proofs.TestLaws.{and_fst, and_snd, and_true, decide, differ, or_cases, or_left, or_right}
use Rattle.model.proofs.InOrderLaws.{pair_fits}
use Rattle.drawing.specs.Drawing.{one_bit, pair_bits}
use Rattle.keys.specs.TotalLaws.{total_add, total_cong, total_none, total_one}
use Rattle.sums.specs.Joined.{PairAdded, SumsAdded, SumsAdding, chosen_cubes, own_cubes, pair_cubes}
use Rattle.sums.specs.JoinedLaws.{cubes_done, cubes_step}
use Rattle.reader.specs.Decoding.{added_by, drawn_by, pair_adds}

-- one superedge: the cubes of both groups, or nothing
pub few_adds : (few : Bool) (t : List ℕ) (p q : ℕ) {after : List ℕ} → few ≡ true → PairAdded p q t after → SumsAdded (pair_adds few t p q) t after
unfolding pair_adds
few_adds few t p q e x = rw e x

pub many_add : (few : Bool) (t : List ℕ) (p q : ℕ) → few ≡ false → SumsAdded (pair_adds few t p q) t t
unfolding pair_adds
many_add few t p q e = rw e (record { size = refl; own = λ l. refl; near = λ l h b. omega arith })

module _ (few : Bool) (firsts : List ℕ) where
  -- own cubes alone tell what is added
  module _ (t sums : List ℕ) (same : (l : ℕ) → own_cubes sums l ≡ own_cubes t l) where
    pair-kept : (p q l : ℕ) → pair_adds few t p q l ≡ pair_adds few sums p q l
    unfolding pair_adds pair_cubes
    pair-kept p q l = ap₂ (λ (x y : ℕ). cond few (cond (eqb l p) x 0 + cond (eqb l q) y 0) 0) (sym (same q)) (sym (same p))

    added-kept : (xs : List (ℕ × ℕ)) (l : ℕ) → added_by few firsts t xs l ≡ added_by few firsts sums xs l
    unfolding added_by
    added-kept [] l = refl
    added-kept (x ∷ xs) l = ap₂ (λ (a b : ℕ). a + b) (pair-kept (get_or firsts x.0 0) (get_or firsts x.1 0) l) (added-kept xs l)

  added-append : (sums : List ℕ) (xs ys : List (ℕ × ℕ)) (l : ℕ) → added_by few firsts sums (xs ++ ys) l ≡ added_by few firsts sums xs l + added_by few firsts sums ys l
  unfolding added_by
  added-append sums [] ys l = omega arith
  added-append sums (x ∷ xs) ys l = omega (arith, added-append sums xs ys l)

  -- underway: one superedge more, some more, none left
  module _ {all : ℕ → ℕ} {t sums : List ℕ} {rest : List (ℕ × ℕ)} (h : SumsAdding all (added_by few firsts t rest) t sums) where
    pub one_added : (i j : ℕ) (xs : List (ℕ × ℕ)) (p q : ℕ) {after : List ℕ} → rest ≡ (i, j) ∷ xs → p ≡ get_or firsts i 0 → q ≡ get_or firsts j 0
        → SumsAdded (pair_adds few sums p q) sums after → SumsAdding all (added_by few firsts t xs) t after
    one_added i j xs p q e ep eq x =
        cubes_step h x
        (λ l. ap (λ (ys : List (ℕ × ℕ)). added_by few firsts t ys l) e ∙ (unfold added_by in rw (← ep, ← eq) (ap (λ (y : ℕ). y + added_by few firsts t xs l) (pair-kept t sums h.own p q l))))

    pub some_added : (xs ys : List (ℕ × ℕ)) {after : List ℕ} → rest ≡ xs ++ ys → SumsAdded (added_by few firsts sums xs) sums after → SumsAdding all (added_by few firsts t ys) t after
    some_added xs ys e x =
        cubes_step h x
        (λ l. ap (λ (zs : List (ℕ × ℕ)). added_by few firsts t zs l) e ∙ added-append t xs ys l ∙ ap (λ (y : ℕ). y + added_by few firsts t ys l) (added-kept t sums h.own xs l))

    pub all_added : rest ≡ [] → SumsAdded all t sums
    all_added e = cubes_done h (λ l. ap (λ (ys : List (ℕ × ℕ)). added_by few firsts t ys l) e ∙ (unfold added_by in refl))

-- a bit of a pair: which two nodes
pair_ends : (p q a b : ℕ) → pair_bits true p q a b ≡ true → ((a ≡ p) × (b ≡ q)) ⊎ ((a ≡ q) × (b ≡ p))
unfolding pair_bits one_bit
pair_ends p q a b t = step (or_cases (eqb a q && eqb b p) (eqb a p && eqb b q) t)
  where
    step : ((eqb a q && eqb b p) ≡ true) ⊎ ((eqb a p && eqb b q) ≡ true) → ((a ≡ p) × (b ≡ q)) ⊎ ((a ≡ q) × (b ≡ p))
    step (inr y) = inl (eqb-true a p (and_fst (eqb a p) _ y), eqb-true b q (and_snd (eqb a p) _ y))
    step (inl y) = inr (eqb-true a q (and_fst (eqb a q) _ y), eqb-true b p (and_snd (eqb a q) _ y))

-- a drawn bit is that of one of the superedges
record DrawnPair (firsts : List ℕ) (xs : List (ℕ × ℕ)) (a b : ℕ) : Type 0 where
  i : ℕ
  j : ℕ
  has : has_pair xs i j ≡ true
  ends : ((a ≡ get_or firsts i 0) × (b ≡ get_or firsts j 0)) ⊎ ((a ≡ get_or firsts j 0) × (b ≡ get_or firsts i 0))

drawn_pair : (firsts : List ℕ) (xs : List (ℕ × ℕ)) (a b : ℕ) → drawn_by true firsts xs a b ≡ true → DrawnPair firsts xs a b
unfolding drawn_by has_pair
drawn_pair firsts [] a b t = differ t refl
drawn_pair firsts (x ∷ xs) a b t = step (drawn_pair firsts xs a b) (or_cases (pair_bits true (get_or firsts x.0 0) (get_or firsts x.1 0) a b) (drawn_by true firsts xs a b) t)
  where
    step : (drawn_by true firsts xs a b ≡ true → DrawnPair firsts xs a b) → (pair_bits true (get_or firsts x.0 0) (get_or firsts x.1 0) a b ≡ true) ⊎ (drawn_by true firsts xs a b ≡ true) → DrawnPair firsts (x ∷ xs) a b
    step rest (inl y) = record {
      i = x.0;
      j = x.1;
      has = or_left (has_pair xs x.0 x.1) (and_true (eq-eqb x.0 x.0 refl) (eq-eqb x.1 x.1 refl));
      ends = pair_ends (get_or firsts x.0 0) (get_or firsts x.1 0) a b y;
    }
    step rest (inr y) = let d = rest y in record { i = d.i; j = d.j; has = or_right (eqb x.0 d.i && eqb x.1 d.j) d.has; ends = d.ends }

-- choices that exclude each other add up
or_apart : (u v : Bool) (x : ℕ) → (u ≡ true → v ≡ true → ⊥) → cond (u || v) x 0 ≡ cond u x 0 + cond v x 0
or_apart true true x h = absurd (h refl refl)
or_apart true false x h = omega arith
or_apart false v x h = omega arith

module _ (g : ℕ) (firsts sums : List ℕ) (small : (i : ℕ) → i < g → get_or firsts i 0 < max_nodes) (rising : (i j : ℕ) → i < j → j < g → get_or firsts i 0 < get_or firsts j 0) where
  -- the bits of one superedge stand for its cubes
  one-pair : (p q l : ℕ) → p < q → q < max_nodes → chosen_cubes (pair_bits true p q l) sums ≡ pair_cubes sums p q l
  unfolding pair_cubes pair_bits one_bit
  one-pair p q l h b = step (decide (eqb l p)) (decide (eqb l q))
    where
      step : (eqb l p ≡ true) ⊎ (eqb l p ≡ false) → (eqb l q ≡ true) ⊎ (eqb l q ≡ false) → chosen_cubes (pair_bits true p q l) sums ≡ cond (eqb l p) (own_cubes sums q) 0 + cond (eqb l q) (own_cubes sums p) 0
      step (inl y) (inl z) = absurd (omega (arith, eqb-true l p y, eqb-true l q z))
      step (inl y) (inr z) =
          total_one 512 q (λ b. cond (pair_bits true p q l b) (own_cubes sums b) 0) b (λ c d. rw (y, z, ne_eqb c q d))
          ∙ rw (y, z, eq-eqb q q refl) (omega arith)
      step (inr y) (inl z) =
          total_one 512 p (λ b. cond (pair_bits true p q l b) (own_cubes sums b) 0) (omega arith) (λ c d. rw (y, z, ne_eqb c p d))
          ∙ rw (y, z, eq-eqb p p refl) (omega arith)
      step (inr y) (inr z) = total_none 512 (λ b. cond (pair_bits true p q l b) (own_cubes sums b) 0) (λ c d. rw (y, z)) ∙ rw (y, z)

  -- positions are told by first members
  one_place : (i k : ℕ) → i < g → k < g → get_or firsts i 0 ≡ get_or firsts k 0 → i ≡ k
  one_place i k a b e = step (decide (ltb i k)) (decide (ltb k i))
    where
      step : (ltb i k ≡ true) ⊎ (ltb i k ≡ false) → (ltb k i ≡ true) ⊎ (ltb k i ≡ false) → i ≡ k
      step (inl y) z = absurd (omega (arith, rising i k (ltb-true i k y) b))
      step (inr y) (inl z) = absurd (omega (arith, rising k i (ltb-true k i z) a))
      step (inr y) (inr z) = omega (arith, ltb-false i k y, ltb-false k i z)

  module _ (last : ℕ) (x : ℕ × ℕ) (xs : List (ℕ × ℕ)) (fits : superedges_fit g last (x ∷ xs) ≡ true) where
    first : (x.0 < x.1) × (x.1 < g) × (last < pair_key x.0 x.1)
    unfolding has_pair
    first = pair_fits g last (x ∷ xs) fits x.0 x.1 (or_left (has_pair xs x.0 x.1) (and_true (eq-eqb x.0 x.0 refl) (eq-eqb x.1 x.1 refl)))

    rest : superedges_fit g (pair_key x.0 x.1) xs ≡ true
    unfolding superedges_fit
    rest = and_snd (follows g last x.0 x.1) (superedges_fit g (pair_key x.0 x.1) xs) fits

    -- no later superedge has a bit of the first
    apart : (a b : ℕ) → pair_bits true (get_or firsts x.0 0) (get_or firsts x.1 0) a b ≡ true → drawn_by true firsts xs a b ≡ true → ⊥
    apart a b t u = step (pair_ends (get_or firsts x.0 0) (get_or firsts x.1 0) a b t) drawn.ends
      where
        drawn : DrawnPair firsts xs a b
        drawn = drawn_pair firsts xs a b u

        later : (drawn.i < drawn.j) × (drawn.j < g) × (pair_key x.0 x.1 < pair_key drawn.i drawn.j)
        later = pair_fits g (pair_key x.0 x.1) xs rest drawn.i drawn.j drawn.has

        up : get_or firsts drawn.i 0 < get_or firsts drawn.j 0
        up = rising drawn.i drawn.j later.0 later.1

        own : get_or firsts x.0 0 < get_or firsts x.1 0
        own = rising x.0 x.1 first.0 first.1

        same : get_or firsts x.0 0 ≡ get_or firsts drawn.i 0 → get_or firsts x.1 0 ≡ get_or firsts drawn.j 0 → ⊥
        same e d =
            let i = one_place x.0 drawn.i (omega (arith, first.0, first.1)) (omega (arith, later.0, later.1)) e in
            let j = one_place x.1 drawn.j first.1 later.1 d in
            omega (arith, later.2, ap₂ pair_key i j)

        step : ((a ≡ get_or firsts x.0 0) × (b ≡ get_or firsts x.1 0)) ⊎ ((a ≡ get_or firsts x.1 0) × (b ≡ get_or firsts x.0 0))
            → ((a ≡ get_or firsts drawn.i 0) × (b ≡ get_or firsts drawn.j 0)) ⊎ ((a ≡ get_or firsts drawn.j 0) × (b ≡ get_or firsts drawn.i 0)) → ⊥
        step (inl y) (inl z) = same (sym y.0 ∙ z.0) (sym y.1 ∙ z.1)
        step (inl y) (inr z) = omega (arith, up, own, y.0, y.1, z.0, z.1)
        step (inr y) (inl z) = omega (arith, up, own, y.0, y.1, z.0, z.1)
        step (inr y) (inr z) = same (sym y.1 ∙ z.1) (sym y.0 ∙ z.0)

  pub added_drawn : (last : ℕ) (xs : List (ℕ × ℕ)) → superedges_fit g last xs ≡ true → (l : ℕ) → added_by true firsts sums xs l ≡ chosen_cubes (drawn_by true firsts xs l) sums
  unfolding added_by drawn_by pair_adds
  added_drawn last [] fits l = sym (total_none 512 (λ b. 0) (λ q h. refl))
  added_drawn last (x ∷ xs) fits l =
      sym
      (total_cong 512 (λ b. cond (drawn_by true firsts (x ∷ xs) l b) (own_cubes sums b) 0) (λ b. cond (pair_bits true p q l b) (own_cubes sums b) 0 + cond (drawn_by true firsts xs l b) (own_cubes sums b) 0) (λ b h. or_apart (pair_bits true p q l b) (drawn_by true firsts xs l b) (own_cubes sums b) (apart last x xs fits l b))
      ∙ total_add 512 (λ b. cond (pair_bits true p q l b) (own_cubes sums b) 0) (λ b. cond (drawn_by true firsts xs l b) (own_cubes sums b) 0)
      ∙ ap₂ (λ (a b : ℕ). a + b) (one-pair p q l (rising x.0 x.1 f.0 f.1) (small x.1 f.1)) (sym (added_drawn (pair_key x.0 x.1) xs (rest last x xs fits) l)))
    where
      p : ℕ
      p = get_or firsts x.0 0

      q : ℕ
      q = get_or firsts x.1 0

      f : (x.0 < x.1) × (x.1 < g) × (last < pair_key x.0 x.1)
      f = first last x xs fits
