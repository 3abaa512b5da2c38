-- The table of next members: made from the end, and walked from the least member.
use Rattle.std.specs.Prelude.{◌≡◌, refl, Bool, true, false, cond, ◌⊎◌, eqb, length, set}
use Rattle.std.proofs.Math.Path.{sym}
use Rattle.std.proofs.Common.{ap, ◌∙◌, inl, inr, arith, length-set, get_or-set_same, get_or-set_other}
use mathlib.Core.List.{List, [], ◌∷◌}
use Prim.Native.Nat.{ℕ, suc, zero, ◌+◌, ◌-◌, ◌≤◌, ◌<◌}
use Rattle.std.proofs.Math.ListN.{get_or}
use borrow.Author.Tests.{eqb-true, eqb-false, eq-eqb, ne_eqb, lt-ltb, le-ltb}
use Rattle.model.specs.Lists.{head_or}
use Rattle.model.proofs.TestLaws.{decide}
use Rattle.buffers.specs.Scan.{scan}
use Rattle.buffers.specs.ScanLaws.{scan_end, scan_no, scan_yes, upward}
use Rattle.rows.specs.Rows.{no_node}
use Rattle.layout.specs.File.{Ahead, NextLinked, belongs, chain, in_group, next_of}

-- while the table is made, from the end: the nodes from p on are linked, and head has the first of each group among them
pub record Linking (n : ℕ) (least head next : List ℕ) (p : ℕ) : Type 0 where
  pub heads : length head ≡ 512
  pub size : n ≤ length next
  pub low : p ≤ n
  pub head_is : (l : ℕ) → l < n → get_or head l 0 ≡ head_or no_node (scan (belongs least l) n p)
  pub next_is : (q : ℕ) → p ≤ q → q < n → get_or next q 0 ≡ next_of least n q

belongs_yes : (least : List ℕ) (l p : ℕ) → get_or least p 0 ≡ l → belongs least l p ≡ true
unfolding belongs
belongs_yes least l p h = eq-eqb (get_or least p 0) l h

belongs_no : (least : List ℕ) (l p : ℕ) → (get_or least p 0 ≡ l → ⊥) → belongs least l p ≡ false
unfolding belongs
belongs_no least l p h = ne_eqb (get_or least p 0) l h

eq_or_not : (a b : ℕ) → (a ≡ b) ⊎ (a ≡ b → ⊥)
eq_or_not a b = step (decide (eqb a b))
  where
    step : (eqb a b ≡ true) ⊎ (eqb a b ≡ false) → (a ≡ b) ⊎ (a ≡ b → ⊥)
    step (inl t) = inl (eqb-true a b t)
    step (inr t) = inr (eqb-false a b t)

pub link_start : (n : ℕ) (least head next : List ℕ) → length head ≡ 512 → ((l : ℕ) → l < n → get_or head l 0 ≡ no_node) → n ≤ length next → Linking n least head next n
link_start n least head next h f k = record {
  heads = h;
  size = k;
  low = omega arith;
  head_is = λ l b. f l b ∙ sym (ap (head_or no_node) (scan_end (belongs least l) n n (omega arith)));
  next_is = λ q a b. absurd (omega arith);
}

module _ (n : ℕ) (least : List ℕ) (p : ℕ) (h : p < n) where
  next-grouped : in_group least n p ≡ true → next_of least n p ≡ head_or no_node (scan (belongs least (get_or least p 0)) n (p + 1))
  unfolding next_of
  next-grouped t = rw t

  next-hidden : in_group least n p ≡ false → next_of least n p ≡ no_node
  unfolding next_of
  next-hidden t = rw t

-- p is put before the nodes after it
link_on : (n : ℕ) (least head next : List ℕ) (p l : ℕ) → n ≤ 512 → l ≡ get_or least p 0 → l < n → p < n → Linking n least head next (p + 1) → Linking n least (set head l p) (set next p (get_or head l 0)) p
unfolding in_group
link_on n least head next p l small e hl hp k = record {
  heads = length-set head l p ∙ k.heads;
  size = omega (arith, k.size, length-set next p (get_or head l 0));
  low = omega arith;
  head_is = λ x hx. first x hx (eq_or_not x l);
  next_is = λ q a b. next-of q a b (eq_or_not q p);
}
  where
    first : (x : ℕ) → x < n → (x ≡ l) ⊎ (x ≡ l → ⊥) → get_or (set head l p) x 0 ≡ head_or no_node (scan (belongs least x) n p)
    first x hx (inl q) = rw (q, get_or-set_same head l p 0 (omega (arith, k.heads)), scan_yes (belongs least l) n p hp (belongs_yes least l p (sym e))) refl
    first x hx (inr q) = get_or-set_other head l x p 0 q ∙ k.head_is x hx ∙ sym (ap (head_or no_node) (scan_no (belongs least x) n p hp (belongs_no least x p (λ z. q (sym z ∙ sym e)))))

    next-of : (q : ℕ) → p ≤ q → q < n → (q ≡ p) ⊎ (q ≡ p → ⊥) → get_or (set next p (get_or head l 0)) q 0 ≡ next_of least n q
    next-of q a b (inl z) =
        rw z (get_or-set_same next p (get_or head l 0) 0 (omega (arith, k.size)) ∙ k.head_is l hl ∙ ap (λ (x : ℕ). head_or no_node (scan (belongs least x) n (p + 1))) e ∙ sym (next-grouped n least p hp (lt-ltb (get_or least p 0) n (omega arith))))
    next-of q a b (inr z) = get_or-set_other next p q (get_or head l 0) 0 z ∙ k.next_is q (omega arith) b

-- a hidden node is passed over
link_off : (n : ℕ) (least head next : List ℕ) (p l : ℕ) → l ≡ get_or least p 0 → n ≤ l → p < n → Linking n least head next (p + 1) → Linking n least head (set next p no_node) p
unfolding in_group
link_off n least head next p l e hl hp k = record {
  heads = k.heads;
  size = omega (arith, k.size, length-set next p no_node);
  low = omega arith;
  head_is = λ x hx. k.head_is x hx ∙ sym (ap (head_or no_node) (scan_no (belongs least x) n p hp (belongs_no least x p (λ z. omega arith))));
  next_is = λ q a b. next-of q a b (eq_or_not q p);
}
  where
    next-of : (q : ℕ) → p ≤ q → q < n → (q ≡ p) ⊎ (q ≡ p → ⊥) → get_or (set next p no_node) q 0 ≡ next_of least n q
    next-of q a b (inl z) = rw z (get_or-set_same next p no_node 0 (omega (arith, k.size)) ∙ sym (next-hidden n least p hp (le-ltb (get_or least p 0) n (omega arith))))
    next-of q a b (inr z) = get_or-set_other next p q no_node 0 z ∙ k.next_is q (omega arith) b

-- the same as the code counts: p is lessened first
down : {n : ℕ} {least head next : List ℕ} {p : ℕ} → 0 < p → Linking n least head next p → Linking n least head next (p - 1 + 1)
down {n} {least} {head} {next} {p} h k = let e : p - 1 + 1 ≡ p = omega arith in rw e k

pub link_yes : (n : ℕ) (least head next : List ℕ) (p l : ℕ) → n ≤ 512 → l ≡ get_or least (p - 1) 0 → l < n → 0 < p → Linking n least head next p → Linking n least (set head l (p - 1)) (set next (p - 1) (get_or head l 0)) (p - 1)
link_yes n least head next p l small e hl h k = link_on n least head next (p - 1) l small e hl (omega (arith, k.low)) (down h k)

pub link_no : (n : ℕ) (least head next : List ℕ) (p l : ℕ) → l ≡ get_or least (p - 1) 0 → n ≤ l → 0 < p → Linking n least head next p → Linking n least head (set next (p - 1) no_node) (p - 1)
link_no n least head next p l e hl h k = link_off n least head next (p - 1) l e hl (omega (arith, k.low)) (down h k)

pub link_done : {n : ℕ} {least head next : List ℕ} {p : ℕ} → Linking n least head next p → p ≤ 0 → NextLinked n least next
link_done k h = record { size = k.size; next_is = λ q b. k.next_is q (omega arith) b }

-- what a scan begins with
pub record Begins (P : ℕ → Bool) (n p x : ℕ) (xs : List ℕ) : Type 0 where
  pub above : p ≤ x
  pub below : x < n
  pub passes : P x ≡ true
  pub on : scan P n x ≡ x ∷ xs

begins : (P : ℕ → Bool) (n p x : ℕ) (xs : List ℕ) → scan P n p ≡ x ∷ xs → Begins P n p x xs
begins P n p x xs = upward (λ p. scan P n p ≡ x ∷ xs → Begins P n p x xs) n (λ p h e. absurd (empty (sym (scan_end P n p h) ∙ e))) (λ p h below e. step p h below e (decide (P p))) p
  where
    empty : [] ≡ x ∷ xs → ⊥
    empty e = let z : ◌≡◌ {A = ℕ} 0 1 = cc in omega arith

    here : (p : ℕ) → p < n → P p ≡ true → scan P n p ≡ x ∷ xs → p ≡ x → Begins P n p x xs
    here p h t e q = record { above = omega arith; below = omega arith; passes = rw q at t; on = rw q at e }

    more : (p : ℕ) → Begins P n (p + 1) x xs → Begins P n p x xs
    more p b = record { above = omega (arith, b.above); below = b.below; passes = b.passes; on = b.on }

    step : (p : ℕ) → p < n → (scan P n (p + 1) ≡ x ∷ xs → Begins P n (p + 1) x xs) → scan P n p ≡ x ∷ xs → (P p ≡ true) ⊎ (P p ≡ false) → Begins P n p x xs
    step p h below e (inl t) = let d : p ∷ scan P n (p + 1) ≡ x ∷ xs = sym (scan_yes P n p h t) ∙ e in here p h t e (cc)
    step p h below e (inr t) = more p (below (sym (scan_no P n p h t) ∙ e))

head_above : (P : ℕ → Bool) (n p : ℕ) (l : List ℕ) → n ≤ 512 → p ≤ n → scan P n p ≡ l → p ≤ head_or no_node l
head_above P n p [] s h e = omega arith
head_above P n p (x ∷ xs) s h e = (begins P n p x xs e).above

pub linked_ahead : (n : ℕ) (least next : List ℕ) → n ≤ 512 → NextLinked n least next → Ahead n next
unfolding next_of
linked_ahead n least next small k = record { small = small; size = k.size; ahead = λ q h. rw (k.next_is q h) (step q h (in_group least n q)) }
  where
    step : (q : ℕ) → q < n → (b : Bool) → q < cond b (head_or no_node (scan (belongs least (get_or least q 0)) n (q + 1))) no_node
    step q h true = omega (arith, head_above (belongs least (get_or least q 0)) n (q + 1) (scan (belongs least (get_or least q 0)) n (q + 1)) small (omega arith) refl)
    step q h false = omega arith

-- the members met on the way are the nodes of the group
module _ (n : ℕ) (least next : List ℕ) (small : n ≤ 512) (k : NextLinked n least next) (l : ℕ) (hl : l < n) where
  pub chain-scan : (f q : ℕ) → n ≤ q + f → q < n → belongs least l q ≡ true → chain f next n q ≡ scan (belongs least l) n q
  unfolding chain belongs in_group
  chain-scan zero q e h t = absurd (omega arith)
  chain-scan (suc f) q e h t = rw (lt-ltb q n h) (ap (λ (r : List ℕ). q ∷ r) (rest (chain-scan f)) ∙ sym (scan_yes (belongs least l) n q h t))
    where
      mine : get_or least q 0 ≡ l
      mine = eqb-true (get_or least q 0) l t

      at-q : get_or next q 0 ≡ head_or no_node (scan (belongs least l) n (q + 1))
      at-q = k.next_is q h ∙ next-grouped n least q h (lt-ltb (get_or least q 0) n (omega (arith, mine))) ∙ ap (λ (x : ℕ). head_or no_node (scan (belongs least x) n (q + 1))) mine

      off : (g : ℕ) → chain g next n no_node ≡ []
      off zero = refl
      off (suc g) = rw (le-ltb no_node n (omega arith))

      Below : Type 0
      Below = (x : ℕ) → n ≤ x + f → x < n → belongs least l x ≡ true → chain f next n x ≡ scan (belongs least l) n x

      go : Below → (xs : List ℕ) → scan (belongs least l) n (q + 1) ≡ xs → chain f next n (head_or no_node xs) ≡ xs
      go below [] z = off f
      go below (x ∷ xs) z = let b = begins (belongs least l) n (q + 1) x xs z in below x (omega (arith, b.above)) b.below b.passes ∙ b.on

      rest : Below → chain f next n (get_or next q 0) ≡ scan (belongs least l) n (q + 1)
      rest below = rw at-q (go below (scan (belongs least l) n (q + 1)) refl)
