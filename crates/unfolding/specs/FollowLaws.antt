-- Laws of rows that follow those of first members, and of the whole table.
use Rattle.std.specs.Prelude.{◌≡◌, refl, Bool, false, not, ◌&&◌, ◌||◌, ◌⊎◌, ℕ, ◌+◌, ◌*◌, ◌/◌, ◌%◌, ◌≤◌, ◌<◌, take}
use Rattle.std.proofs.Common.{sym, ◌∙◌, inl, inr}
use Rattle.std.proofs.Math.Path.{ap}
use Rattle.std.proofs.Math.Bool.{true, xor, cond, and-false, or-false}
use mathlib.Core.List.{List}
use native.Mathlib.Omega.{arith}
use Rattle.std.proofs.Math.Dec.{eqb, ltb}
use Rattle.std.proofs.Math.ListN.{get_or, length}
use Rattle.std.proofs.Math.Seq.{get_or-take, length-take-le}
use borrow.Author.Tests.{eqb-false, eqb-true, eq-eqb, le-ltb, lt-ltb, ltb-false, ltb-true, ne_eqb}
use Rattle.model.specs.Tables.{bit_at, edge_bit, edges_of}
use Rattle.model.proofs.TestLaws.{decide, differ}
use Rattle.rows.specs.BitLaws.{xor_cond}
use Rattle.rows.specs.EdgeLaws.{edges_by_bits}
use Rattle.rows.specs.Rows.{Flipped, Words, leads}
use Rattle.drawing.specs.Drawing.{Added}
use Rattle.compressed.specs.Compressed.{Compressed, placed, unfolded, unfolded_edge}
use Rattle.compressed.specs.PlacedLaws.{placed_in}
use Rattle.unfolding.specs.Filling.{FirstsLead, Followed, Following, RowCopied, drawn_bit, follow_bit, is_follower, reaches}

-- a row copied
copied_row : {l p : ℕ} {t after : List ℕ} → RowCopied l p t after → (b : ℕ) → b < 512 → edge_bit after p b ≡ edge_bit t l b
unfolding edge_bit
copied_row r b h = ap (λ (x : ℕ). bit_at x (b % 64)) (r.words (b / 64) (omega arith))

copied_off : {l p : ℕ} {t after : List ℕ} → RowCopied l p t after → (a b : ℕ) → b < 512 → eqb a p ≡ false → edge_bit after a b ≡ edge_bit t a b
unfolding edge_bit
copied_off {l} {p} {t} {after} r a b h e = ap (λ (x : ℕ). bit_at x (b % 64)) (r.others (8 * a + b / 64) (side (decide (ltb a p))))
  where
    d : a ≡ p → ⊥
    d = eqb-false a p e

    side : (ltb a p ≡ true) ⊎ (ltb a p ≡ false) → (8 * a + b / 64 < 8 * p) ⊎ (8 * p + 8 ≤ 8 * a + b / 64)
    side (inl s) = inl (omega (arith, ltb-true a p s))
    side (inr s) = inr (let o = ltb-false a p s in let n : a ≡ p → ⊥ = d in omega arith)

-- the row of p by that of l, without and with the change of their own bits
module _ (kind l p : ℕ) (below : l < p) {t t₁ : List ℕ} (r : RowCopied l p t t₁) where
  pub followed_open : (kind ≡ 2 → ⊥) → Followed kind l p t t₁
  unfolding follow_bit
  followed_open d = record { size = r.size; bits = λ a b h. step a b h (decide (eqb a p)) }
    where
      step : (a b : ℕ) → b < 512 → (eqb a p ≡ true) ⊎ (eqb a p ≡ false) → edge_bit t₁ a b ≡ cond (eqb a p && ltb l p) (xor (edge_bit t l b) (eqb kind 2 && (eqb b l || eqb b p))) (edge_bit t a b)
      step a b h (inl s) = rw (s, lt-ltb l p below, ne_eqb kind 2 d, eqb-true a p s, copied_row r b h) (sym (xor_cond (edge_bit t l b) false))
      step a b h (inr s) = rw s (copied_off r a b h s)

  pub followed_clique : {t₂ t₃ : List ℕ} → kind ≡ 2 → Flipped p l t₁ t₂ → Flipped p p t₂ t₃ → Followed kind l p t t₃
  unfolding follow_bit
  followed_clique {t₂} {t₃} e x y = record { size = y.size ∙ x.size ∙ r.size; bits = λ a b h. y.bits a b h ∙ ap (λ (z : Bool). cond (eqb a p && eqb b p) (not z) z) (x.bits a b h) ∙ step a b h (decide (eqb a p)) (decide (eqb b l)) (decide (eqb b p)) }
    where
      step : (a b : ℕ) → b < 512 → (eqb a p ≡ true) ⊎ (eqb a p ≡ false) → (eqb b l ≡ true) ⊎ (eqb b l ≡ false) → (eqb b p ≡ true) ⊎ (eqb b p ≡ false)
          → cond (eqb a p && eqb b p) (not (cond (eqb a p && eqb b l) (not (edge_bit t₁ a b)) (edge_bit t₁ a b))) (cond (eqb a p && eqb b l) (not (edge_bit t₁ a b)) (edge_bit t₁ a b))
          ≡ cond (eqb a p && ltb l p) (xor (edge_bit t l b) (eqb kind 2 && (eqb b l || eqb b p))) (edge_bit t a b)
      step a b h (inr s) u v = rw s (copied_off r a b h s)
      step a b h (inl s) (inl u) (inl v) = absurd (omega (arith, eqb-true b l u, eqb-true b p v))
      step a b h (inl s) (inl u) (inr v) = rw (s, u, v, lt-ltb l p below, eq-eqb kind 2 e, eqb-true a p s, copied_row r b h) (sym (xor_cond (edge_bit t l b) true))
      step a b h (inl s) (inr u) (inl v) = rw (s, u, v, lt-ltb l p below, eq-eqb kind 2 e, eqb-true a p s, copied_row r b h) (sym (xor_cond (edge_bit t l b) true))
      step a b h (inl s) (inr u) (inr v) = rw (s, u, v, lt-ltb l p below, eq-eqb kind 2 e, eqb-true a p s, copied_row r b h) (sym (xor_cond (edge_bit t l b) false))

-- all rows, one after the other
pub following_step : {n k : ℕ} {least kinds t now after : List ℕ} → FirstsLead n least → k < n → Following least kinds k t now → Followed (get_or kinds (get_or least k 0) 0) (get_or least k 0) k now after → Following least kinds (k + 1) t after
unfolding leads
following_step {n} {k} {least} {kinds} {t} {now} {after} led small f x = record {
  size = x.size ∙ f.size;
  rows = λ a b h i. x.bits a b i ∙ row a b h i (decide (eqb a k));
  later = λ a b h i. x.bits a b i ∙ rw (ne_eqb a k (omega arith)) (f.later a b (omega arith) i);
}
  where
    own : (b : ℕ) → b < 512 → (ltb (get_or least k 0) k ≡ true) ⊎ (ltb (get_or least k 0) k ≡ false)
        → cond (ltb (get_or least k 0) k) (follow_bit (get_or kinds (get_or least k 0) 0) (get_or least k 0) k (edge_bit now (get_or least k 0) b) b) (edge_bit now k b) ≡ cond (ltb (get_or least k 0) k) (follow_bit (get_or kinds (get_or least k 0) 0) (get_or least k 0) k (edge_bit t (get_or least k 0) b) b) (edge_bit t k b)
    own b i (inr s) = rw s (f.later k b (omega arith) i)
    own b i (inl s) =
        let h : (get_or least k 0) < k = ltb-true (get_or least k 0) k s in
        let e : get_or least (get_or least k 0) 0 ≡ (get_or least k 0) = eqb-true (get_or least (get_or least k 0) 0) (get_or least k 0) (led.first k small h) in
        let z : ltb (get_or least (get_or least k 0) 0) (get_or least k 0) ≡ false = le-ltb (get_or least (get_or least k 0) 0) (get_or least k 0) (omega arith) in
        let same : edge_bit now (get_or least k 0) b ≡ edge_bit t (get_or least k 0) b = (rw z at (f.rows (get_or least k 0) b h i)) in
        rw (s, same)

    row : (a b : ℕ) → a < k + 1 → b < 512 → (eqb a k ≡ true) ⊎ (eqb a k ≡ false)
        → cond (eqb a k && ltb (get_or least k 0) k) (follow_bit (get_or kinds (get_or least k 0) 0) (get_or least k 0) k (edge_bit now (get_or least k 0) b) b) (edge_bit now a b)
        ≡ cond (ltb (get_or least a 0) a) (follow_bit (get_or kinds (get_or least a 0) 0) (get_or least a 0) a (edge_bit t (get_or least a 0) b) b) (edge_bit t a b)
    row a b h i (inl s) = rw (s, eqb-true a k s) (own b i (decide (ltb (get_or least k 0) k)))
    row a b h i (inr s) =
        let d : a ≡ k → ⊥ = eqb-false a k s in
        rw s (f.rows a b (omega arith) i)

-- in a clique a bit and the change of it: at the first member, at the other, at neither
own_first : (k : Bool) → xor (k && false) (k && true) ≡ (k && true)
unfolding xor
own_first true = refl
own_first false = refl

own_other : (k : Bool) → xor (k && true) (k && true) ≡ (k && false)
unfolding xor
own_other true = refl
own_other false = refl

own_none : (k : Bool) → xor (k && true) (k && false) ≡ (k && true)
unfolding xor
own_none true = refl
own_none false = refl

-- the rows of the graph that arrays unfold to
module _ {n : ℕ} {least kinds joined : List ℕ} (c : Compressed n least kinds joined) where
  placed-is : (p : ℕ) → p < n → get_or least p 0 < 512 → placed n least p ≡ true
  placed-is p h l = placed_in n least p h (λ e. omega arith)

  leads_is : (p : ℕ) → leads least p ≡ true → get_or least p 0 ≡ p
  unfolding leads
  leads_is p h = eqb-true (get_or least p 0) p h

  pub led : FirstsLead n least
  led = record { first = λ p h l. c.first p (placed-is p h (omega (arith, c.small))) }

  -- a node that leads no group is joined to none
  unled : (p q : ℕ) → p < 512 → q < 512 → (get_or least q 0 ≡ q → ⊥) → (edge_bit joined p q ≡ false) × (edge_bit joined q p ≡ false)
  unled p q hp hq d = (out p q hq (λ t. leads_is q (c.joins p q hq t).3) (decide (edge_bit joined p q)), out q p hp (λ t. leads_is q (c.joins q p hp t).2) (decide (edge_bit joined q p)))
    where
      out : (a b : ℕ) → b < 512 → (edge_bit joined a b ≡ true → get_or least q 0 ≡ q) → (edge_bit joined a b ≡ true) ⊎ (edge_bit joined a b ≡ false) → edge_bit joined a b ≡ false
      out a b h f (inl t) = absurd (d (f t))
      out a b h f (inr t) = t

  -- what the groups have drawn is the rows of first members, and of those of no group
  module _ (a b : ℕ) (ha : a < n) (hb : b < 512) (self : a ≤ get_or least a 0) where
    abbrev Goal : Type 0
    Goal = (edge_bit joined a b || drawn_bit n least kinds joined a b) ≡ (placed n least a && (placed n least b && unfolded_edge least kinds joined a b))

    outside : placed n least a ≡ false → Goal
    unfolding drawn_bit is_follower reaches
    outside h = rw (h, (unled b a (omega arith) (omega (arith, c.small)) alone).1) (none (decide (ltb b n)) (decide (ltb (get_or least b 0) b)))
      where
        alone : get_or least a 0 ≡ a → ⊥
        alone e = differ (placed-is a ha (omega (arith, c.small))) h

        none : (ltb b n ≡ true) ⊎ (ltb b n ≡ false) → (ltb (get_or least b 0) b ≡ true) ⊎ (ltb (get_or least b 0) b ≡ false)
            → ((ltb b n && ltb (get_or least b 0) b) && ((ltb a 512 && edge_bit joined (get_or least b 0) a) || (eqb (get_or kinds (get_or least b 0) 0) 2 && eqb a (get_or least b 0)))) ≡ false
        none (inr s) u = rw s
        none (inl s) (inr u) = rw (s, u)
        none (inl s) (inl u) =
            let l : get_or least b 0 < b = ltb-true (get_or least b 0) b u in
            let f : get_or least (get_or least b 0) 0 ≡ get_or least b 0 = leads_is (get_or least b 0) (c.first b (placed-is b (ltb-true b n s) (omega arith))) in
            let d : a ≡ get_or least b 0 → ⊥ = λ e. alone (ap (λ (x : ℕ). get_or least x 0) e ∙ f ∙ sym e) in
            rw (s, u, (unled (get_or least b 0) a (omega arith) (omega (arith, c.small)) alone).0, ne_eqb a (get_or least b 0) d, and-false (ltb a 512), and-false (eqb (get_or kinds (get_or least b 0) 0) 2))

    inside : placed n least a ≡ true → (ltb b n ≡ true) ⊎ (ltb b n ≡ false) → (ltb (get_or least b 0) b ≡ true) ⊎ (ltb (get_or least b 0) b ≡ false) → Goal
    unfolding drawn_bit is_follower reaches unfolded_edge
    inside h x y = rw (h, own) (go x y)
      where
        own : get_or least a 0 ≡ a
        own = let l = c.before a h in omega arith

        small : a < 512
        small = omega (arith, c.small)

        after : placed n least b ≡ false → (get_or least b 0 ≡ b → ⊥)
        after f e = step (decide (ltb b n))
          where
            step : (ltb b n ≡ true) ⊎ (ltb b n ≡ false) → ⊥
            step (inl s) = differ (placed-is b (ltb-true b n s) (omega arith)) f
            step (inr s) = let l = ltb-false b n s in omega (arith, c.outside b l hb)

        rest : (placed n least b ≡ true) ⊎ (placed n least b ≡ false) → b ≤ get_or least b 0
            → edge_bit joined a b ≡ (placed n least b && cond (eqb a (get_or least b 0)) (eqb (get_or kinds a 0) 2 && not (eqb a b)) (edge_bit joined a (get_or least b 0)))
        rest (inr f) l = rw f (unled a b small hb (after f)).0
        rest (inl f) l =
            let e : get_or least b 0 ≡ b = (let k = c.before b f in omega arith) in
            rw (f, e) (same (decide (eqb a b)))
          where
            same : (eqb a b ≡ true) ⊎ (eqb a b ≡ false) → edge_bit joined a b ≡ cond (eqb a b) (eqb (get_or kinds a 0) 2 && not (eqb a b)) (edge_bit joined a b)
            same (inl s) = rw (s, ← eqb-true a b s, and-false (eqb (get_or kinds a 0) 2)) (c.irreflexive a small)
            same (inr s) = rw s

        drawn : b < n → get_or least b 0 < b → (eqb a (get_or least b 0) ≡ true) ⊎ (eqb a (get_or least b 0) ≡ false)
            → ((ltb a 512 && edge_bit joined (get_or least b 0) a) || (eqb (get_or kinds (get_or least b 0) 0) 2 && eqb a (get_or least b 0)))
            ≡ cond (eqb a (get_or least b 0)) (eqb (get_or kinds a 0) 2 && not (eqb a b)) (edge_bit joined a (get_or least b 0))
        drawn i l (inl s) =
            let e : a ≡ get_or least b 0 = eqb-true a (get_or least b 0) s in
            rw (s, ← e, c.irreflexive a small, and-false (ltb a 512), ne_eqb a b (omega arith))
        drawn i l (inr s) = rw (s, lt-ltb a 512 small, and-false (eqb (get_or kinds (get_or least b 0) 0) 2), or-false (edge_bit joined (get_or least b 0) a)) (c.symmetric (get_or least b 0) a (omega arith) small)

        go : (ltb b n ≡ true) ⊎ (ltb b n ≡ false) → (ltb (get_or least b 0) b ≡ true) ⊎ (ltb (get_or least b 0) b ≡ false)
            → (edge_bit joined a b || ((ltb b n && ltb (get_or least b 0) b) && ((ltb a 512 && edge_bit joined (get_or least b 0) a) || (eqb (get_or kinds (get_or least b 0) 0) 2 && eqb a (get_or least b 0)))))
            ≡ (placed n least b && cond (eqb a (get_or least b 0)) (eqb (get_or kinds a 0) 2 && not (eqb a b)) (edge_bit joined a (get_or least b 0)))
        go (inr s) u = rw (s, or-false (edge_bit joined a b)) (rest (decide (placed n least b)) (let l = ltb-false b n s in omega (arith, c.outside b l hb)))
        go (inl s) (inr u) = rw (s, u, or-false (edge_bit joined a b)) (rest (decide (placed n least b)) (ltb-false (get_or least b 0) b u))
        go (inl s) (inl u) =
            let l : get_or least b 0 < b = ltb-true (get_or least b 0) b u in
            let k : b < n = ltb-true b n s in
            rw (s, u, placed-is b k (omega arith), (unled a b small hb (λ e. omega arith)).0) (drawn k l (decide (eqb a (get_or least b 0))))

    first-row : Goal
    first-row = step (decide (placed n least a))
      where
        step : (placed n least a ≡ true) ⊎ (placed n least a ≡ false) → Goal
        step (inl h) = inside h (decide (ltb b n)) (decide (ltb (get_or least b 0) b))
        step (inr h) = outside h

  -- another member's row is its first member's but for their own bits
  module _ (p b : ℕ) (hp : p < n) (hb : b < 512) (lower : get_or least p 0 < p) where
    abbrev l : ℕ
    l = get_or least p 0

    other_row : follow_bit (get_or kinds (get_or least p 0) 0) (get_or least p 0) p (placed n least (get_or least p 0) && (placed n least b && unfolded_edge least kinds joined (get_or least p 0) b)) b
        ≡ (placed n least p && (placed n least b && unfolded_edge least kinds joined p b))
    unfolding follow_bit unfolded_edge
    other_row = rw (at_p, at-l, own) (step (decide (placed n least b)) (decide (eqb l (get_or least b 0))) (decide (eqb b l)) (decide (eqb b p)))
      where
        at_p : placed n least p ≡ true
        at_p = placed-is p hp (omega (arith, c.small))

        own : get_or least (get_or least p 0) 0 ≡ get_or least p 0
        own = leads_is (get_or least p 0) (c.first p at_p)

        at-l : placed n least (get_or least p 0) ≡ true
        at-l = placed-is (get_or least p 0) (omega arith) (omega (arith, own, c.small))

        step : (placed n least b ≡ true) ⊎ (placed n least b ≡ false) → (eqb l (get_or least b 0) ≡ true) ⊎ (eqb l (get_or least b 0) ≡ false) → (eqb b l ≡ true) ⊎ (eqb b l ≡ false) → (eqb b p ≡ true) ⊎ (eqb b p ≡ false)
            → xor (placed n least b && cond (eqb l (get_or least b 0)) (eqb (get_or kinds l 0) 2 && not (eqb l b)) (edge_bit joined l (get_or least b 0))) (eqb (get_or kinds l 0) 2 && (eqb b l || eqb b p))
            ≡ (placed n least b && cond (eqb l (get_or least b 0)) (eqb (get_or kinds l 0) 2 && not (eqb p b)) (edge_bit joined l (get_or least b 0)))
        step (inr f) y (inl u) v = differ (ap (placed n least) (eqb-true b l u) ∙ at-l) f
        step (inr f) y (inr u) (inl v) = differ (ap (placed n least) (eqb-true b p v) ∙ at_p) f
        step (inr f) y (inr u) (inr v) = rw (f, u, v, and-false (eqb (get_or kinds l 0) 2)) (xor_cond false false)
        step (inl f) (inr y) (inl u) v = absurd (eqb-false l (get_or least b 0) y (sym (ap (λ (x : ℕ). get_or least x 0) (eqb-true b l u) ∙ own)))
        step (inl f) (inr y) (inr u) (inl v) = absurd (eqb-false l (get_or least b 0) y (sym (ap (λ (x : ℕ). get_or least x 0) (eqb-true b p v))))
        step (inl f) (inr y) (inr u) (inr v) = rw (f, y, u, v, and-false (eqb (get_or kinds l 0) 2)) (xor_cond (edge_bit joined l (get_or least b 0)) false)
        step (inl f) (inl y) (inl u) (inl v) = absurd (omega (arith, eqb-true b l u, eqb-true b p v))
        step (inl f) (inl y) (inl u) (inr v) = rw (f, y, u, eq-eqb l b (sym (eqb-true b l u)), ne_eqb p b (λ e. eqb-false b p v (sym e))) (own_first (eqb (get_or kinds l 0) 2))
        step (inl f) (inl y) (inr u) (inl v) = rw (f, y, u, v, ne_eqb l b (λ e. eqb-false b l u (sym e)), eq-eqb p b (sym (eqb-true b p v))) (own_other (eqb (get_or kinds l 0) 2))
        step (inl f) (inl y) (inr u) (inr v) = rw (f, y, u, v, ne_eqb l b (λ e. eqb-false b l u (sym e)), ne_eqb p b (λ e. eqb-false b p v (sym e))) (own_none (eqb (get_or kinds l 0) 2))

  -- copied, drawn and followed, the table is that of the graph
  module _ {k : ℕ} {copied drawn after : List ℕ} (size : k ≡ 8 * n) (x : copied ≡ take k joined) (y : Added (drawn_bit n least kinds joined) copied drawn) (z : Following least kinds n drawn after) where
    copied-bit : (a b : ℕ) → a < n → b < 512 → edge_bit copied a b ≡ edge_bit joined a b
    unfolding edge_bit
    copied-bit a b ha hb = ap (λ (v : ℕ). bit_at v (b % 64)) (ap (λ (s : List ℕ). get_or s (8 * a + b / 64) 0) x ∙ get_or-take k joined (8 * a + b / 64) 0 (omega arith))

    first_bit : (a b : ℕ) → a < n → b < 512 → a ≤ get_or least a 0 → edge_bit drawn a b ≡ (placed n least a && (placed n least b && unfolded_edge least kinds joined a b))
    first_bit a b ha hb self = y.bits a b hb ∙ ap (λ (v : Bool). v || drawn_bit n least kinds joined a b) (copied-bit a b ha hb) ∙ first-row a b ha hb self

    each-bit : (a b : ℕ) → a < n → b < 512 → edge_bit after a b ≡ (placed n least a && (placed n least b && unfolded_edge least kinds joined a b))
    each-bit a b ha hb = z.rows a b ha hb ∙ step (decide (ltb (get_or least a 0) a))
      where
        step : (ltb (get_or least a 0) a ≡ true) ⊎ (ltb (get_or least a 0) a ≡ false)
            → cond (ltb (get_or least a 0) a) (follow_bit (get_or kinds (get_or least a 0) 0) (get_or least a 0) a (edge_bit drawn (get_or least a 0) b) b) (edge_bit drawn a b)
            ≡ (placed n least a && (placed n least b && unfolded_edge least kinds joined a b))
        step (inr s) = rw s (first_bit a b ha hb (ltb-false (get_or least a 0) a s))
        step (inl s) =
            let l : get_or least a 0 < a = ltb-true (get_or least a 0) a s in
            let own : get_or least (get_or least a 0) 0 ≡ get_or least a 0 = leads_is (get_or least a 0) (led.first a ha l) in
            rw (s, first_bit (get_or least a 0) b (omega arith) hb (omega arith)) (other_row a b ha hb l)

    pub filled : Words after → after ≡ edges_of (unfolded n least kinds joined)
    unfolding unfolded
    filled words = edges_by_bits (unfolded n least kinds joined) after (z.size ∙ y.size ∙ ap length x ∙ length-take-le k joined (omega (arith, c.rows)) ∙ size) words each-bit
