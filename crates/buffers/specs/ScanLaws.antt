-- Laws of what a loop from p to n has yet to do.
use Rattle.std.specs.Prelude.{◌≡◌, refl, Bool, true, false, ◌&&◌, cond, List, [], ◌∷◌, ◌++◌, ◌⊎◌, ℕ, suc, zero, ◌+◌, ◌-◌, ◌≤◌, ◌<◌, length, get_or}
use Rattle.std.proofs.Common.{sym, ap, ◌∙◌, inl, inr, arith, length-append}
use mathlib.Core.List.Memᴰ
use Rattle.model.specs.Lists.{◌∈◌, concat, filter, from, nodes}
use Rattle.model.proofs.TestLaws.{decide}
use Rattle.model.proofs.ListLaws.{Ascending, filter_ascending, filter_cong, from_ascending, from_out}
use Rattle.buffers.specs.Scan.{Counting, Summing, flat, scan}

from_cons : (p n : ℕ) → p < n → from p (n - p) ≡ p ∷ from (p + 1) (n - (p + 1))
unfolding from
from_cons p n h =
    let a : n - p ≡ suc (n - (p + 1)) = omega arith in
    let b : p + 1 ≡ suc p = omega arith in
    rw a (rw b refl)

from_nil : (p n : ℕ) → n ≤ p → from p (n - p) ≡ []
unfolding from
from_nil p n h = let a : n - p ≡ 0 = omega arith in rw a

pub scan_yes : (P : ℕ → Bool) (n p : ℕ) → p < n → P p ≡ true → scan P n p ≡ p ∷ scan P n (p + 1)
unfolding scan filter
scan_yes P n p h t = rw (from_cons p n h) (rw t)

pub scan_no : (P : ℕ → Bool) (n p : ℕ) → p < n → P p ≡ false → scan P n p ≡ scan P n (p + 1)
unfolding scan filter
scan_no P n p h t = rw (from_cons p n h) (rw t)

pub scan_end : (P : ℕ → Bool) (n p : ℕ) → n ≤ p → scan P n p ≡ []
unfolding scan filter
scan_end P n p h = rw (from_nil p n h)

pub flat_step : (f : ℕ → List ℕ) (n p : ℕ) → p < n → flat f n p ≡ f p ++ flat f n (p + 1)
unfolding flat concat
flat_step f n p h = rw (from_cons p n h)

pub flat_end : (f : ℕ → List ℕ) (n p : ℕ) → n ≤ p → flat f n p ≡ []
unfolding flat concat
flat_end f n p h = rw (from_nil p n h)

-- induction on what is left
pub upward : (Q : ℕ → Type 0) (n : ℕ) → ((p : ℕ) → n ≤ p → Q p) → ((p : ℕ) → p < n → Q (p + 1) → Q p) → (p : ℕ) → Q p
upward Q n done step p = go n p (omega arith)
  where
    pick : (q : ℕ) → (q < n → Q (q + 1)) → (n ≤ q) ⊎ (q < n) → Q q
    pick q f (inl h) = done q h
    pick q f (inr h) = step q h (f h)

    split : (a b : ℕ) → (a ≤ b) ⊎ (b < a)
    split zero b = inl (omega arith)
    split (suc a) zero = inr (omega arith)
    split (suc a) (suc b) = lift (split a b)
      where
        lift : (a ≤ b) ⊎ (b < a) → (suc a ≤ suc b) ⊎ (suc b < suc a)
        lift (inl h) = inl (omega arith)
        lift (inr h) = inr (omega arith)

    go : (k q : ℕ) → n ≤ q + k → Q q
    go zero q h = done q (omega arith)
    go (suc k) q h = pick q (λ l. go k (q + 1) (omega arith)) (split n q)

pub scan-length : (P : ℕ → Bool) (n p : ℕ) → length (scan P n p) ≤ n - p
scan-length P n = upward (λ p. length (scan P n p) ≤ n - p) n (λ p h. omega (arith, ap length (scan_end P n p h))) (λ p h below. step p h below (decide (P p)))
  where
    step : (p : ℕ) → p < n → length (scan P n (p + 1)) ≤ n - (p + 1) → (P p ≡ true) ⊎ (P p ≡ false) → length (scan P n p) ≤ n - p
    step p h below (inl t) = omega (arith, ap length (scan_yes P n p h t))
    step p h below (inr t) = omega (arith, ap length (scan_no P n p h t))

-- each number in a scan is below n
pub scan_below : (P : ℕ → Bool) (n p i : ℕ) → i < length (scan P n p) → get_or (scan P n p) i 0 < n
scan_below P n = upward (λ p. (i : ℕ) → i < length (scan P n p) → get_or (scan P n p) i 0 < n) n (λ p h i l. absurd (omega (arith, ap length (scan_end P n p h)))) (λ p h below. step p h below (decide (P p)))
  where
    cons : (p : ℕ) (l : List ℕ) → p < n → ((i : ℕ) → i < length l → get_or l i 0 < n) → (i : ℕ) → i < suc (length l) → get_or (p ∷ l) i 0 < n
    cons p l h f zero k = h
    cons p l h f (suc i) k = f i (omega arith)

    step : (p : ℕ) → p < n → ((i : ℕ) → i < length (scan P n (p + 1)) → get_or (scan P n (p + 1)) i 0 < n) → (P p ≡ true) ⊎ (P p ≡ false) → (i : ℕ) → i < length (scan P n p) → get_or (scan P n p) i 0 < n
    step p h below (inl t) = rw (scan_yes P n p h t) (cons p (scan P n (p + 1)) h below)
    step p h below (inr t) = rw (scan_no P n p h t) below

-- a scan is made of what passes, and may begin later where nothing before passes
pub scan_cong : (P Q : ℕ → Bool) (n p : ℕ) → ((q : ℕ) → p ≤ q → q < n → P q ≡ Q q) → scan P n p ≡ scan Q n p
unfolding scan
scan_cong P Q n p h = filter_cong P Q (from p (n - p)) (λ q m. let o = from_out p (n - p) q m in h q o.0 (omega (arith, o.0, o.1)))

pub scan_skip : (P : ℕ → Bool) (n l : ℕ) → l ≤ n → (p : ℕ) → ((q : ℕ) → p ≤ q → q < l → P q ≡ false) → p ≤ l → scan P n p ≡ scan P n l
scan_skip P n l hl = upward (λ p. ((q : ℕ) → p ≤ q → q < l → P q ≡ false) → p ≤ l → scan P n p ≡ scan P n l) l (λ p h f k. ap (scan P n) (omega arith)) (λ p h below f k. scan_no P n p (omega arith) (f p (omega arith) h) ∙ below (λ q a b. f q (omega arith) b) (omega arith))

-- a scan may end earlier where nothing after passes
pub scan_cut : (P : ℕ → Bool) (n m : ℕ) → n ≤ m → ((q : ℕ) → n ≤ q → q < m → P q ≡ false) → (p : ℕ) → p ≤ n → scan P m p ≡ scan P n p
scan_cut P n m h f = upward (λ p. p ≤ n → scan P m p ≡ scan P n p) n top (λ p l below k. step p l (below (omega arith)) (decide (P p)))
  where
    top : (p : ℕ) → n ≤ p → p ≤ n → scan P m p ≡ scan P n p
    top p a b = scan_skip P m m (omega arith) p (λ q c d. f q (omega arith) d) (omega arith) ∙ scan_end P m m (omega arith) ∙ sym (scan_end P n p a)

    step : (p : ℕ) → p < n → scan P m (p + 1) ≡ scan P n (p + 1) → (P p ≡ true) ⊎ (P p ≡ false) → scan P m p ≡ scan P n p
    step p l below (inl y) = scan_yes P m p (omega arith) y ∙ ap (λ (r : List ℕ). p ∷ r) below ∙ sym (scan_yes P n p l y)
    step p l below (inr y) = scan_no P m p (omega arith) y ∙ below ∙ sym (scan_no P n p l y)

pub filter_and : (f h : ℕ → Bool) (l : List ℕ) → filter f (filter h l) ≡ filter (λ x. h x && f x) l
unfolding filter
filter_and f h [] = refl
filter_and f h (x ∷ xs) = step (h x) (filter_and f h xs)
  where
    step : (b : Bool) → filter f (filter h xs) ≡ filter (λ x. h x && f x) xs → filter f (cond b (x ∷ filter h xs) (filter h xs)) ≡ cond (b && f x) (x ∷ filter (λ x. h x && f x) xs) (filter (λ x. h x && f x) xs)
    step true q = rw q
    step false q = q

-- members by place
pub get_d_in : (l : List ℕ) (i : ℕ) → i < length l → get_or l i 0 ∈ l
get_d_in [] i h = absurd (omega arith)
get_d_in (x ∷ xs) zero h = Memᴰ.head refl
get_d_in (x ∷ xs) (suc i) h = Memᴰ.tail (get_d_in xs i (omega arith))

pub get_d_ascending : (l : List ℕ) → Ascending l → (i j : ℕ) → i < j → j < length l → get_or l i 0 < get_or l j 0
get_d_ascending [] a i j h k = absurd (omega arith)
get_d_ascending (x ∷ xs) a i zero h k = absurd (omega arith)
get_d_ascending (x ∷ xs) a zero (suc j) h k = a.0 (get_or xs j 0) (get_d_in xs j (omega arith))
get_d_ascending (x ∷ xs) a (suc i) (suc j) h k = get_d_ascending xs a.1 i j (omega arith) (omega arith)

pub scan_ascends : (P : ℕ → Bool) (n p i j : ℕ) → i < j → j < length (scan P n p) → get_or (scan P n p) i 0 < get_or (scan P n p) j 0
unfolding scan
scan_ascends P n p i j h k = get_d_ascending (filter P (from p (n - p))) (filter_ascending P (from p (n - p)) (from_ascending p (n - p))) i j h k

pub counting_start : (P : ℕ → Bool) (n p : ℕ) → Counting P n (length (scan P n p)) 0 p
counting_start P n p = record { sum = omega arith }

pub counting_yes : {P : ℕ → Bool} {n total c p : ℕ} → Counting P n total c p → p < n → P p ≡ true → Counting P n total (c + 1) (p + 1)
counting_yes {P} {n} {total} {c} {p} k h t = record { sum = omega (arith, k.sum, ap length (scan_yes P n p h t)) }

pub counting_no : {P : ℕ → Bool} {n total c p : ℕ} → Counting P n total c p → p < n → P p ≡ false → Counting P n total c (p + 1)
counting_no {P} {n} {total} {c} {p} k h t = record { sum = omega (arith, k.sum, ap length (scan_no P n p h t)) }

pub counting_done : {P : ℕ → Bool} {n total c p : ℕ} → Counting P n total c p → n ≤ p → c ≡ total
counting_done {P} {n} {total} {c} {p} k h = omega (arith, k.sum, ap length (scan_end P n p h))

pub summing_start : (f : ℕ → List ℕ) (n p : ℕ) → Summing f n (length (flat f n p)) 0 p
summing_start f n p = record { sum = omega arith }

pub summing_step : {f : ℕ → List ℕ} {n total c p : ℕ} → Summing f n total c p → p < n → (k : ℕ) → k ≡ length (f p) → Summing f n total (c + k) (p + 1)
summing_step {f} {n} {total} {c} {p} s h k e = record { sum = omega (arith, s.sum, ap length (flat_step f n p h), length-append (f p) (flat f n (p + 1))) }

pub summing_done : {f : ℕ → List ℕ} {n total c p : ℕ} → Summing f n total c p → n ≤ p → c ≡ total
summing_done {f} {n} {total} {c} {p} s h = omega (arith, s.sum, ap length (flat_end f n p h))

-- a scan from the start is a choice among the nodes
pub scan-nodes : (P : ℕ → Bool) (n : ℕ) → scan P n 0 ≡ filter P (nodes n)
unfolding scan nodes
scan-nodes P n = let e : n - 0 ≡ n = omega arith in ap (λ (k : ℕ). filter P (from 0 k)) e
