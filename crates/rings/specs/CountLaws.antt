-- How many groups a table holds, and by how much the steps change that.
use Rattle.std.specs.Prelude.{◌≡◌, refl, ◌≢◌, Bool, true, false, List, ℕ, zero, suc, ◌+◌, ◌<◌, eqb}
use Rattle.std.proofs.Common.{sym, subst, ◌∙◌, ap, ⊎_elim, arith, eq-eqb, ne_eqb}
use Rattle.std.proofs.Math.Decide.{ℕ_discrete}
use Rattle.model.specs.Tables.{node_number}
use Rattle.rings.specs.Ring.{Parts, Out, Table}
use Rattle.rings.specs.RingLaws.{up_circle, below', followed}
use Rattle.rings.specs.MoveLaws.{one_least, min_is}
use Rattle.rings.specs.Steps.{Taken, Placed, OthersLeft, stayed, left}

abbrev pub bit : Bool → ℕ
bit true = 1
bit false = 0

-- how many of the numbers below k f holds of
unfoldable pub count : ℕ → (ℕ → Bool) → ℕ
count zero f = 0
count (suc k) f = count k f + bit (f k)

-- p is the least member of its group
abbrev pub leads_in : List ℕ → ℕ → Bool
leads_in t p = eqb (node_number t p 0) p

pub count_same : (k : ℕ) {f g : ℕ → Bool} → ((p : ℕ) → p < k → f p ≡ g p) → count k f ≡ count k g
unfolding count
count_same zero e = refl
count_same (suc k) {f} {g} e = rw (e k (omega arith)) (ap (λ n. n + bit (g k)) (count_same k (λ p h. e p (omega arith))))

pub count_more : (k : ℕ) {f g : ℕ → Bool} (x : ℕ) → x < k → f x ≡ false → g x ≡ true → ((p : ℕ) → p < k → p ≢ x → f p ≡ g p) → count k g ≡ count k f + 1
unfolding count
count_more zero x h a b e = absurd (omega arith)
count_more (suc k) {f} {g} x h a b e = go (ℕ_discrete x k) (λ i. count_more k {f = f} {g = g} x (omega arith) a b (λ p hp. e p (omega arith)))
  where
    go : Dec (x ≡ k) → (x ≢ k → count k g ≡ count k f + 1) → count k g + bit (g k) ≡ count k f + bit (f k) + 1
    go (yes i) z = rw (subst (λ v. f v ≡ false) i a, subst (λ v. g v ≡ true) i b, count_same k {f = f} {g = g} (λ p hp. e p (omega arith) (omega arith))) (omega arith)
    go (no i) z = rw (e k (omega arith) (λ j. i (sym j)), z i) (omega arith)

module _ {n : ℕ} {R : ℕ → ℕ → Type 0} (k : Parts n R) {t : List ℕ} (a : Table n R t) where
  module _ {u : ℕ} (hu : u < n) {t' : List ℕ} (x : Taken n u t t') where
    -- u was alone
    pub count-alone : node_number t u 1 ≡ u → count n (leads_in t') ≡ count n (leads_in t)
    count-alone e = count_same n (λ p hp. go p hp (ℕ_discrete p u))
      where
        no_other : {p : ℕ} → R u p → ¬ (p ≢ u)
        no_other y ne = followed k (up_circle n) a.next y ne e

        go : (p : ℕ) → p < n → Dec (p ≡ u) → leads_in t' p ≡ leads_in t p
        go p hp (yes i) = rw i (eq-eqb _ _ x.least_u ∙ sym (eq-eqb _ _ (own (ℕ_discrete (node_number t u 0) u))))
          where
            own : Dec (node_number t u 0 ≡ u) → node_number t u 0 ≡ u
            own (yes j) = j
            own (no j) = absurd (no_other (a.least u hu).mem j)
        go p hp (no i) = ap (λ v. eqb v p) (x.least_off p hp i (λ j. no_other (k.back (subst (λ v. R p v) j (a.least p hp).mem)) i))

    -- u leaves others behind
    pub count_others_left : node_number t u 1 ≢ u → count n (leads_in t') ≡ count n (leads_in t) + 1
    count_others_left nb = first (ℕ_discrete (node_number t u 0) u)
      where
        xb : R u (node_number t u 1)
        xb = (a.next u hu).mem

        hb : node_number t u 1 < n
        hb = k.below xb

        first : Dec (node_number t u 0 ≡ u) → count n (leads_in t') ≡ count n (leads_in t) + 1
        first (yes e) =
            let lb : node_number t (node_number t u 1) 0 ≡ u = sym (one_least k a xb) ∙ e in
            count_more n (node_number t u 1) hb (ne_eqb _ _ (λ i. nb (sym i ∙ lb))) (eq-eqb _ _ (x.least_hit _ hb nb e lb))
            (λ p hp ne. go p hp ne (ℕ_discrete p u) (ℕ_discrete (node_number t p 0) u))
          where
            go : (p : ℕ) → p < n → p ≢ node_number t u 1 → Dec (p ≡ u) → Dec (node_number t p 0 ≡ u) → leads_in t p ≡ leads_in t' p
            go p hp ne (yes i) d = rw i (eq-eqb _ _ e ∙ sym (eq-eqb _ _ x.least_u))
            go p hp ne (no i) (yes j) = ne_eqb _ _ (λ s. i (sym s ∙ j)) ∙ sym (ne_eqb _ _ (λ s. ne (sym s ∙ x.least_hit p hp i e j)))
            go p hp ne (no i) (no j) = ap (λ v. eqb v p) (sym (x.least_off p hp i j))
        first (no e) =
            count_more n u hu (ne_eqb _ _ e) (eq-eqb _ _ x.least_u)
            (λ p hp ne. ap (λ v. eqb v p) (sym (x.least_off p hp ne (λ i. e (sym (one_least k a (subst (λ v. R p v) i (a.least p hp).mem)) ∙ i)))))

    pub count-taken : {b r : ℕ} → b ≡ node_number t u 1 → OthersLeft b u r → count n (leads_in t') ≡ count n (leads_in t) + r
    count-taken f (stayed e i) = count-alone (sym f ∙ e) ∙ omega arith
    count-taken f (left e i) = count_others_left (λ j. e (f ∙ j)) ∙ omega arith

module _ {n : ℕ} {R : ℕ → ℕ → Type 0} (k : Parts n R) {u g : ℕ} (x : R u g) (ng : g ≢ u) {t t' : List ℕ} (a : Table n (Out u R) t) (lg : node_number t g 0 ≡ g) (z : Placed n u g t t') where
  -- u joined a group
  pub count_joined : count n (leads_in t) ≡ count n (leads_in t') + 1
  count_joined = ⊎_elim at_g at-u (min_is u g z.lesser)
    where
      hu : u < n
      hu = below' k x

      hg : g < n
      hg = k.below x

      lu : node_number t u 0 ≡ u
      lu = (a.least u hu).mem.1 refl

      at_g : z.h ≡ g → count n (leads_in t) ≡ count n (leads_in t') + 1
      at_g e =
          count_more n u hu (ne_eqb _ _ (λ i. ng (sym e ∙ sym z.put.least_u ∙ i))) (eq-eqb _ _ lu)
          (λ p hp ne. ap (λ v. eqb v p) (go p hp ne (ℕ_discrete (node_number t p 0) g)))
        where
          go : (p : ℕ) → p < n → p ≢ u → Dec (node_number t p 0 ≡ g) → node_number t' p 0 ≡ node_number t p 0
          go p hp ne (yes i) = z.put.least_hit p hp ne i ∙ e ∙ sym i
          go p hp ne (no i) = z.put.least_off p hp ne i

      at-u : z.h ≡ u → count n (leads_in t) ≡ count n (leads_in t') + 1
      at-u e =
          count_more n g hg (ne_eqb _ _ (λ i. ng (sym i ∙ z.put.least_hit g hg ng lg ∙ e))) (eq-eqb _ _ lg)
          (λ p hp ne. go p hp ne (ℕ_discrete p u) (ℕ_discrete (node_number t p 0) g))
        where
          go : (p : ℕ) → p < n → p ≢ g → Dec (p ≡ u) → Dec (node_number t p 0 ≡ g) → leads_in t' p ≡ leads_in t p
          go p hp ne (yes i) d = rw i (eq-eqb _ _ (z.put.least_u ∙ e) ∙ sym (eq-eqb _ _ lu))
          go p hp ne (no i) (yes j) = ne_eqb _ _ (λ s. i (sym s ∙ z.put.least_hit p hp i j ∙ e)) ∙ sym (ne_eqb _ _ (λ s. ne (sym s ∙ j)))
          go p hp ne (no i) (no j) = ap (λ v. eqb v p) (z.put.least_off p hp i j)
