-- Laws of sums over the numbers below n.
use Rattle.std.specs.Prelude.{◌≡◌, ℕ, zero, suc, ◌+◌, ◌%◌, ◌^◌, ◌<◌, Bool, true, false, cond, ◌⊎◌, [], ◌∷◌, ◌==◌, ◌≢◌}
use Rattle.std.proofs.Math.Path.{refl, ap}
use Rattle.std.proofs.Common.{sym, ap₂, ◌∙◌, subst, inl, inr, arith, eqb-true}
use Rattle.std.proofs.lemmas.Bool.{eqb-false}
use Rattle.model.specs.Lists.{filter, from, nodes}
use Rattle.model.specs.Grouping.{cube, sum_cubes}
use Rattle.model.proofs.TestLaws.{decide}
use Rattle.keys.specs.Totals.{sum_of, sum_to}

pub total_cong : (n : ℕ) (f g : ℕ → ℕ) → ((q : ℕ) → q < n → f q ≡ g q) → sum_to n f ≡ sum_to n g
unfolding sum_to
total_cong zero f g e = refl
total_cong (suc n) f g e = ap₂ ◌+◌ (total_cong n f g (λ q l. e q (omega arith))) (e n (omega arith))

pub total_none : (n : ℕ) (f : ℕ → ℕ) → ((q : ℕ) → q < n → f q ≡ 0) → sum_to n f ≡ 0
unfolding sum_to
total_none zero f e = refl
total_none (suc n) f e = omega (arith, total_none n f (λ q l. e q (omega arith)), e n (omega arith))

pub total_add : (n : ℕ) (f g : ℕ → ℕ) → sum_to n (λ q. f q + g q) ≡ sum_to n f + sum_to n g
unfolding sum_to
total_add zero f g = omega arith
total_add (suc n) f g = omega (arith, total_add n f g)

-- two functions that differ at one number
pub total_set : (n i d : ℕ) (f g : ℕ → ℕ) → i < n → f i ≡ d + g i → ((j : ℕ) → (j ≢ i) → f j ≡ g j) → sum_to n f ≡ d + sum_to n g
unfolding sum_to
total_set zero i d f g l e s = absurd (omega arith)
total_set (suc n) i d f g l e s = step (decide (n == i)) (λ k. total_set n i d f g k e s)
  where
    step : ((n == i) ≡ true) ⊎ ((n == i) ≡ false) → (i < n → sum_to n f ≡ d + sum_to n g) → sum_to n f + f n ≡ d + (sum_to n g + g n)
    step (inl z) r =
        let here : f n ≡ d + g n = subst (λ (m : ℕ). f m ≡ d + g m) (sym (eqb-true n i z)) e in
        omega (arith, total_cong n f g (λ j k. s j (λ y. omega (arith, eqb-true n i z))))
    step (inr z) r = let k : i < n = omega (arith, eqb-false n i z) in omega (arith, r k, s n (eqb-false n i z))

-- a function that is 0 but at one number
pub total_one : (n i : ℕ) (f : ℕ → ℕ) → i < n → ((j : ℕ) → (j ≢ i) → f j ≡ 0) → sum_to n f ≡ f i
total_one n i f l s = omega (arith, total_set n i (f i) f (λ q. 0) l (omega arith) s, total_none n (λ q. 0) (λ q k. refl))

-- the order of two sums is free
pub total_swap : (n m : ℕ) (f : ℕ → ℕ → ℕ) → sum_to n (λ i. sum_to m (f i)) ≡ sum_to m (λ j. sum_to n (λ i. f i j))
unfolding sum_to
total_swap zero m f = sym (total_none m (λ j. 0) (λ q l. refl))
total_swap (suc n) m f = ap (λ (x : ℕ). x + sum_to m (f n)) (total_swap n m f) ∙ sym (total_add m (λ j. sum_to n (λ i. f i j)) (f n))

-- a sum of keys, wrapping at 32 bits
pub total_mod : (n : ℕ) (f : ℕ → ℕ) → sum_to n (λ q. f q % 2 ^ 32) % 2 ^ 32 ≡ sum_to n f % 2 ^ 32
unfolding sum_to
total_mod zero f = refl
total_mod (suc n) f = omega (arith, total_mod n f)

-- sums of cubes over a stretch of nodes
pub cubes_split : (f : ℕ → Bool) (a k l : ℕ) → sum_cubes (filter f (from a (k + l))) ≡ sum_cubes (filter f (from a k)) + sum_cubes (filter f (from (a + k) l))
unfolding filter sum_cubes from
cubes_split f a zero l =
    let x : 0 + l ≡ l = omega arith in
    let y : a ≡ a + 0 = omega arith in
    let e : sum_cubes (filter f (from a (0 + l))) ≡ sum_cubes (filter f (from (a + 0) l)) = ap₂ (λ (i j : ℕ). sum_cubes (filter f (from i j))) y x in
    omega arith
cubes_split f a (suc k) l = ap (λ (i : ℕ). sum_cubes (filter f (from a i))) (suc-add k l) ∙ step (f a) (cubes_split f (suc a) k l)
  where
    suc-add : (k l : ℕ) → suc k + l ≡ suc (k + l)
    suc-add k l = omega arith

    shift : sum_cubes (filter f (from (suc a + k) l)) ≡ sum_cubes (filter f (from (a + suc k) l))
    shift = ap (λ (i : ℕ). sum_cubes (filter f (from i l))) (omega arith)

    step : (b : Bool) → sum_cubes (filter f (from (suc a) (k + l))) ≡ sum_cubes (filter f (from (suc a) k)) + sum_cubes (filter f (from (suc a + k) l))
        → sum_cubes (cond b (a ∷ filter f (from (suc a) (k + l))) (filter f (from (suc a) (k + l)))) ≡ sum_cubes (cond b (a ∷ filter f (from (suc a) k)) (filter f (from (suc a) k))) + sum_cubes (filter f (from (a + suc k) l))
    step true e = omega (arith, shift)
    step false e = omega (arith, shift)

pub cubes_one : (f : ℕ → Bool) (a : ℕ) → sum_cubes (filter f (from a 1)) ≡ cond (f a) (cube a) 0
unfolding filter sum_cubes from
cubes_one f a = step (f a)
  where
    step : (b : Bool) → sum_cubes (cond b (a ∷ []) []) ≡ cond b (cube a) 0
    step true = omega arith
    step false = refl

-- and over the chosen nodes
pub total_cubes : (n : ℕ) (P : ℕ → Bool) → sum_cubes (filter P (nodes n)) ≡ sum_of n P (λ q. cube q)
unfolding nodes
total_cubes n P = cubes n
  where
    more : (m : ℕ) → sum_cubes (filter P (from 0 (suc m))) ≡ sum_cubes (filter P (from 0 m)) + cond (P m) (cube m) 0
    more m =
        let s : m + 1 ≡ suc m = omega arith in
        let z : 0 + m ≡ m = omega arith in
        ap (λ (k : ℕ). sum_cubes (filter P (from 0 k))) (sym s)
        ∙ cubes_split P 0 m 1
        ∙ ap (λ (x : ℕ). sum_cubes (filter P (from 0 m)) + x) (cubes_one P (0 + m) ∙ ap (λ (k : ℕ). cond (P k) (cube k) 0) z)

    cubes : (m : ℕ) → sum_cubes (filter P (from 0 m)) ≡ sum_of m P (λ q. cube q)
    cubes zero = unfold filter sum_cubes from sum_to in refl
    cubes (suc m) = more m ∙ ap (λ (x : ℕ). x + cond (P m) (cube m) 0) (cubes m) ∙ (unfold sum_to in refl)
