-- A node table whose least members and rings pass local tests holds the groups, and a table that holds them passes.
use Rattle.std.specs.Prelude.{◌≡◌, true, false, ◌⊎◌, List, ℕ, suc, zero, ◌≤◌, ◌<◌, ltb}
use Rattle.std.proofs.Common.{sym, subst, ◌∙◌, ap, inl, inr, ⊎_elim, arith, le_antisymm, ltb-true, ltb-false}
use Rattle.std.proofs.Math.Decide.{ℕ_discrete}
use Rattle.model.specs.Tables.{node_number}
use Rattle.model.proofs.TestLaws.{decide}
use Rattle.rings.specs.Ring.{up, Parts, Table}
use Rattle.rings.specs.Steps.{Follows}
use Rattle.rings.specs.RingLaws.{Way, inverse, over, round, up_circle, way}

-- every node's least member is in its class and leads itself, and no two leaders are of one class
pub record LedByClass (n : ℕ) (R : ℕ → ℕ → Type 0) (t : List ℕ) : Type 0 where
  pub low : (p : ℕ) → p < n → node_number t p 0 ≤ p
  pub leads : (p : ℕ) → p < n → node_number t (node_number t p 0) 0 ≡ node_number t p 0
  pub alike : (p : ℕ) → p < n → R p (node_number t p 0)
  pub apart : (u q : ℕ) → q < u → node_number t u 0 ≡ u → node_number t q 0 ≡ q → R u q → ⊥

-- a is followed by a greater member, which is no greater than r
record Up (t : List ℕ) (a r : ℕ) : Type 0 where
  above : a < node_number t a 1
  till : node_number t a 1 ≤ r
  mate : node_number t (node_number t a 1) 0 ≡ node_number t a 0

data Order (a b : ℕ) : Type 0 where
  less : a < b → Order a b
  same : a ≡ b → Order a b
  more : b < a → Order a b

order : (a b : ℕ) → Order a b
order a b = step (decide (ltb a b)) (decide (ltb b a))
  where
    step : (ltb a b ≡ true) ⊎ (ltb a b ≡ false) → (ltb b a ≡ true) ⊎ (ltb b a ≡ false) → Order a b
    step (inl x) y = less (ltb-true a b x)
    step (inr x) (inl y) = more (ltb-true b a y)
    step (inr x) (inr y) = same (omega (arith, ltb-false a b x, ltb-false b a y))

module _ {n : ℕ} {R : ℕ → ℕ → Type 0} (k : Parts n R) (t : List ℕ) where
  abbrev least : ℕ → ℕ
  least p = node_number t p 0

  abbrev next : ℕ → ℕ
  next p = node_number t p 1

  abbrev prev : ℕ → ℕ
  prev p = node_number t p 2

  -- the test is passed
  module _ (h : LedByClass n R t) where
    inside : (p : ℕ) → p < n → node_number t p 0 < n
    inside p hp = omega (arith, h.low p hp)

    together : {p q : ℕ} → p < n → q < n → node_number t p 0 ≡ node_number t q 0 → R p q
    together {p} {q} hp hq e = k.on (h.alike p hp) (k.back (subst (λ l. R q l) (sym e) (h.alike q hq)))

    mates : {p q : ℕ} → R p q → node_number t p 0 ≡ node_number t q 0
    mates {p} {q} x = step (order (least p) (least q))
      where
        hp : p < n
        hp = k.below (k.back x)

        hq : q < n
        hq = k.below x

        joined : R (node_number t p 0) (node_number t q 0)
        joined = k.on (k.back (h.alike p hp)) (k.on x (h.alike q hq))

        step : Order (least p) (least q) → least p ≡ least q
        step (less l) = absurd (h.apart (least q) (least p) l (h.leads q hq) (h.leads p hp) (k.back joined))
        step (same e) = e
        step (more l) = absurd (h.apart (least p) (least q) l (h.leads p hp) (h.leads q hq) joined)

    module _ (f : (p : ℕ) → p < n → Follows n t p) where
      -- so it is with every node that has a greater member after it
      ups : (b a r : ℕ) → r < b → a < r → r < n → node_number t a 0 ≡ node_number t r 0 → Up t a r
      ups zero a r l g hr e = absurd (omega arith)
      ups (suc b) a r l g hr e = step (f r hr).order (order a (prev r)) (ups b)
        where
          low : least a ≤ a
          low = h.low a (omega arith)

          step : (least r ≡ r) ⊎ (prev r < r) → Order a (prev r) → ((a r : ℕ) → r < b → a < r → r < n → node_number t a 0 ≡ node_number t r 0 → Up t a r) → Up t a r
          step (inl z) w below = absurd (omega (arith, low))
          step (inr z) (same w) below =
              let s : next a ≡ r = ap next w ∙ (f r hr).next in
              record { above = omega arith; till = omega arith; mate = ap least s ∙ sym e }
          step (inr z) (less w) below =
              let u = below a (prev r) (omega arith) w (f r hr).below (e ∙ sym (f r hr).same_least) in
              record { above = u.above; till = omega (arith, u.till); mate = u.mate }
          step (inr z) (more w) below =
              let u = below (prev r) a (omega arith) w (omega arith) ((f r hr).same_least ∙ sym e) in
              absurd (omega (arith, u.till, (f r hr).next))

      rise : {a r : ℕ} → a < r → r < n → node_number t a 0 ≡ node_number t r 0 → Up t a r
      rise {a} {r} g hr e = ups n a r hr g hr e

      -- the leader's previous member is the greatest
      module _ (p : ℕ) (hp : p < n) where
        abbrev l : ℕ
        l = node_number t p 0

        abbrev c : ℕ
        c = node_number t (node_number t p 0) 2

        hl : node_number t p 0 < n
        hl = inside p hp

        top-group : node_number t (node_number t (node_number t p 0) 2) 0 ≡ node_number t p 0
        top-group = (f l hl).same_least ∙ h.leads p hp

        top : (r : ℕ) → r < n → node_number t r 0 ≡ node_number t p 0 → r ≤ node_number t (node_number t p 0) 2
        top r hr e = step (order r c)
          where
            step : Order r c → r ≤ c
            step (less w) = omega arith
            step (same w) = omega arith
            step (more w) =
                let u = rise w hr (top-group ∙ sym e) in
                absurd (omega (arith, u.above, (f l hl).next, h.low c (f l hl).below, top-group))

        next-mem : R p (node_number t p 1)
        next-mem = step (order p c)
          where
            step : Order p c → R p (next p)
            step (less w) =
                let u = rise w (f l hl).below (sym top-group) in
                together hp (omega (arith, u.till, (f l hl).below)) (sym u.mate)
            step (same w) = subst (λ x. R p x) (sym (ap next w ∙ (f l hl).next)) (h.alike p hp)
            step (more w) = absurd (omega (arith, top p hp (λ i. l)))

        next-near : (r : ℕ) → R p r → up n p (node_number t p 1) ≤ up n p r
        next-near r x = step (order p c) (way n p (next p)) (way n p r)
          where
            hr : r < n
            hr = k.below x

            e : least p ≡ least r
            e = mates x

            hn : next p < n
            hn = k.below next-mem

            step : Order p c → Way n p (next p) (up n p (next p)) → Way n p r (up n p r) → up n p (next p) ≤ up n p r
            step (less w) y (over g i) =
                let u = rise g hr e in
                reach u y
              where
                reach : Up t p r → Way n p (next p) (up n p (next p)) → up n p (next p) ≤ up n p r
                reach u (over g' i') = omega (arith, u.till)
                reach u (round g' i') = absurd (omega (arith, u.above))
            step (less w) (over g' i') (round g i) = omega (arith, hn)
            step (less w) (round g' i') (round g i) = absurd (omega (arith, (rise w (f l hl).below (sym top-group)).above))
            step (same w) y (over g i) = absurd (omega (arith, top r hr (sym e)))
            step (same w) (over g' i') (round g i) = absurd (omega (arith, ap next w, (f l hl).next, h.low p hp))
            step (same w) (round g' i') (round g i) = omega (arith, ap next w, (f l hl).next, h.low r hr, e)
            step (more w) y z = absurd (omega (arith, top p hp (λ i. l)))

        prev-near : (r : ℕ) → R p r → up n (node_number t p 2) p ≤ up n r p
        prev-near r x = step (f p hp).order (way n (prev p) p) (way n r p)
          where
            hr : r < n
            hr = k.below x

            e : least p ≡ least r
            e = mates x

            step : (least p ≡ p) ⊎ (prev p < p) → Way n (prev p) p (up n (prev p) p) → Way n r p (up n r p) → up n (prev p) p ≤ up n r p
            step (inl z) y (over g i) = absurd (omega (arith, h.low r hr, e))
            step (inl z) (over g' i') (round g i) = omega (arith, hr)
            step (inl z) (round g' i') (round g i) = let s : c ≡ prev p = ap prev z in omega (arith, top r hr (sym e))
            step (inr z) (over g' i') (over g i) = till (order (prev p) r)
              where
                till : Order (prev p) r → up n (prev p) p ≤ up n r p
                till (less w) = let u = rise w hr ((f p hp).same_least ∙ e) in absurd (omega (arith, u.till, (f p hp).next))
                till (same w) = omega arith
                till (more w) = omega arith
            step (inr z) (over g' i') (round g i) = omega (arith, hr)
            step (inr z) (round g' i') y = absurd (omega arith)

      pub certified : Table n R t
      certified =
          record {
            least = λ p hp. record { mem = h.alike p hp; near = λ r x. omega (arith, mates x, h.low r (k.below x)) };
            next = λ p hp. record { mem = next-mem p hp; near = next-near p hp };
            prev = λ p hp. record { mem = together hp (f p hp).below (sym (f p hp).same_least); near = prev-near p hp };
          }

  -- a table that holds the groups passes
  module _ (a : Table n R t) where
    one_least : {p q : ℕ} → R p q → node_number t p 0 ≡ node_number t q 0
    one_least {p} {q} x =
        let hp : p < n = k.below (k.back x) in
        let hq : q < n = k.below x in
        le_antisymm ((a.least p hp).near (least q) (k.on x (a.least q hq).mem)) ((a.least q hq).near (least p) (k.on (k.back x) (a.least p hp).mem))

    pub led : LedByClass n R t
    led = record {
      low = λ p hp. (a.least p hp).near p (k.own hp);
      leads = λ p hp. sym (one_least (a.least p hp).mem);
      alike = λ p hp. (a.least p hp).mem;
      apart = λ u q l e e' x. omega (arith, (a.least u (k.below (k.back x))).near q x);
    }

    pub ringed : (p : ℕ) → p < n → Follows n t p
    ringed p hp = record {
      below = k.below (a.prev p hp).mem;
      same_least = sym (one_least (a.prev p hp).mem);
      next = inverse k (up_circle n) a.next a.prev hp;
      order = ⊎_elim inl (λ d. inr (under d)) (equal (ℕ_discrete (least p) p));
    }
      where
        equal : Dec (least p ≡ p) → (least p ≡ p) ⊎ (least p ≡ p → ⊥)
        equal (yes e) = inl e
        equal (no d) = inr d

        under : (least p ≡ p → ⊥) → prev p < p
        under d = step (way n (prev p) p) (way n (least p) p)
          where
            far : up n (prev p) p ≤ up n (least p) p
            far = (a.prev p hp).near (least p) (a.least p hp).mem

            low : least p ≤ p
            low = (a.least p hp).near p (k.own hp)

            step : Way n (prev p) p (up n (prev p) p) → Way n (least p) p (up n (least p) p) → prev p < p
            step (over g i) y = g
            step (round g i) (over g' i') = absurd (omega (arith, far, k.below (a.prev p hp).mem))
            step (round g i) (round g' i') = absurd (d (omega (arith, low)))
