-- Laws of lists of numbers: membership, ascending lists, the nodes 0 to n - 1, the pigeonhole principle.
use Rattle.std.specs.Prelude.{◌≡◌, refl, Bool, true, false, not, cond, ◌⊎◌, ℕ, suc, zero, ◌+◌, ◌≤◌, ◌<◌, eqb, length}
use Rattle.std.proofs.Common.{ap, ap₂, inl, inr, arith, eqb-true, eq-eqb, ne_eqb}
use mathlib.Core.List.Memᴰ
use mathlib.Core.List.{List, [], ◌∷◌, map, Memᴰ}
use Rattle.std.proofs.lemmas.Bool.{eqb-false}
use Rattle.model.specs.Lists.{◌∈◌, all, any, filter, from, head_or, member, nodes, same_list}
use Rattle.model.proofs.TestLaws.{and_fst, and_snd, and_true, decide, differ, or_cases, or_left, or_right}

pub all_intro : (l : List ℕ) (f : ℕ → Bool) → ((p : ℕ) → p ∈ l → f p ≡ true) → all l f ≡ true
unfolding all
all_intro [] f h = refl
all_intro (x ∷ xs) f h = and_true (h x (Memᴰ.head refl)) (all_intro xs f (λ p m. h p (Memᴰ.tail m)))

pub all_elim : (l : List ℕ) (f : ℕ → Bool) → all l f ≡ true → (p : ℕ) → p ∈ l → f p ≡ true
unfolding all
all_elim [] f e p x' = elim x' [ ]
all_elim (x ∷ xs) f e p (Memᴰ.head q) = rw q (and_fst (f x) (all xs f) e)
all_elim (x ∷ xs) f e p (Memᴰ.tail m) = all_elim xs f (and_snd (f x) (all xs f) e) p m

pub any_intro : (l : List ℕ) (f : ℕ → Bool) (p : ℕ) → p ∈ l → f p ≡ true → any l f ≡ true
unfolding any
any_intro [] f p x' e = elim x' [ ]
any_intro (x ∷ xs) f p (Memᴰ.head q) e = or_left (any xs f) (rw q at e)
any_intro (x ∷ xs) f p (Memᴰ.tail m) e = or_right (f x) (any_intro xs f p m e)

pub any_elim : (l : List ℕ) (f : ℕ → Bool) → any l f ≡ true → (p : ℕ) × (p ∈ l) × (f p ≡ true)
unfolding any
any_elim [] f e = differ e refl
any_elim (x ∷ xs) f e = step (any_elim xs f) (or_cases (f x) (any xs f) e)
  where
    step : (any xs f ≡ true → (p : ℕ) × (p ∈ xs) × (f p ≡ true)) → (f x ≡ true) ⊎ (any xs f ≡ true) → (p : ℕ) × (p ∈ (x ∷ xs)) × (f p ≡ true)
    step below (inl h) = (x, Memᴰ.head refl, h)
    step below (inr h) = let r = below h in (r.0, Memᴰ.tail r.1, r.2)

pub filter_intro : (f : ℕ → Bool) (l : List ℕ) (p : ℕ) → p ∈ l → f p ≡ true → p ∈ filter f l
unfolding filter
filter_intro f [] p x' e = elim x' [ ]
filter_intro f (x ∷ xs) p (Memᴰ.head q) e = rw (rw q at e) (Memᴰ.head q)
filter_intro f (x ∷ xs) p (Memᴰ.tail m) e = step (f x) (filter_intro f xs p m e)
  where
    step : (b : Bool) → p ∈ filter f xs → p ∈ cond b (x ∷ filter f xs) (filter f xs)
    step true h = Memᴰ.tail h
    step false h = h

pub filter_elim : (f : ℕ → Bool) (l : List ℕ) (p : ℕ) → p ∈ filter f l → (p ∈ l) × (f p ≡ true)
unfolding filter
filter_elim f [] p m = absurd (Memᴰ.not-nil m)
filter_elim f (x ∷ xs) p m = step (f x) refl (filter_elim f xs p) m
  where
    Goal : Type 0
    Goal = (p ∈ (x ∷ xs)) × (f p ≡ true)

    keep : (p ∈ xs) × (f p ≡ true) → Goal
    keep r = (Memᴰ.tail r.0, r.1)

    head : f x ≡ true → (p ∈ filter f xs → (p ∈ xs) × (f p ≡ true)) → (p ≡ x) ⊎ (p ∈ filter f xs) → Goal
    head e below (inl q) = (Memᴰ.head q, rw q e)
    head e below (inr h) = keep (below h)

    step : (b : Bool) → f x ≡ b → (p ∈ filter f xs → (p ∈ xs) × (f p ≡ true)) → p ∈ cond b (x ∷ filter f xs) (filter f xs) → Goal
    step true e below h = head e below (Memᴰ.cases_cons h)
    step false e below h = keep (below h)

pub filter_cong : (f g : ℕ → Bool) (l : List ℕ) → ((p : ℕ) → p ∈ l → f p ≡ g p) → filter f l ≡ filter g l
unfolding filter
filter_cong f g [] h = refl
filter_cong f g (x ∷ xs) h = rw (h x (Memᴰ.head refl), filter_cong f g xs (λ p m. h p (Memᴰ.tail m)))

pub length-filter : (f : ℕ → Bool) (l : List ℕ) → length (filter f l) ≤ length l
unfolding filter
length-filter f [] = omega arith
length-filter f (x ∷ xs) = step (f x) (length-filter f xs)
  where
    step : (b : Bool) → length (filter f xs) ≤ length xs → length (cond b (x ∷ filter f xs) (filter f xs)) ≤ suc (length xs)
    step true h = omega arith
    step false h = omega arith

pub all_cong : (f g : ℕ → Bool) (l : List ℕ) → ((p : ℕ) → p ∈ l → f p ≡ g p) → all l f ≡ all l g
unfolding all
all_cong f g [] h = refl
all_cong f g (x ∷ xs) h = rw (h x (Memᴰ.head refl), all_cong f g xs (λ p m. h p (Memᴰ.tail m)))

pub any_cong : (f g : ℕ → Bool) (l : List ℕ) → ((p : ℕ) → p ∈ l → f p ≡ g p) → any l f ≡ any l g
unfolding any
any_cong f g [] h = refl
any_cong f g (x ∷ xs) h = rw (h x (Memᴰ.head refl), any_cong f g xs (λ p m. h p (Memᴰ.tail m)))

pub member_intro : (p : ℕ) (l : List ℕ) → p ∈ l → member p l ≡ true
unfolding member
member_intro p l m = any_intro l (eqb p) p m (eq-eqb p p refl)

pub member_elim : (p : ℕ) (l : List ℕ) → member p l ≡ true → p ∈ l
unfolding member
member_elim p l e = let r = any_elim l (eqb p) e in Memᴰ.cast (eqb-true p r.0 r.2) r.1

abbrev pub Ascending : List ℕ → Type 0
Ascending [] = Unit {0}
Ascending (x ∷ xs) = ((q : ℕ) → q ∈ xs → x < q) × Ascending xs

pub filter_ascending : (f : ℕ → Bool) (l : List ℕ) → Ascending l → Ascending (filter f l)
unfolding filter
filter_ascending f [] a = tt
filter_ascending f (x ∷ xs) a = step (f x) (filter_ascending f xs a.1)
  where
    step : (b : Bool) → Ascending (filter f xs) → Ascending (cond b (x ∷ filter f xs) (filter f xs))
    step true below = (λ q m. a.0 q (filter_elim f xs q m).0, below)
    step false below = below

pub head_or_in : (d : ℕ) (l : List ℕ) (p : ℕ) → p ∈ l → head_or d l ∈ l
head_or_in d [] p m = absurd (Memᴰ.not-nil m)
head_or_in d (x ∷ xs) p m = Memᴰ.head refl

pub head_or-any : (d e : ℕ) (l : List ℕ) (p : ℕ) → p ∈ l → head_or d l ≡ head_or e l
head_or-any d e [] p m = elim m [ ]
head_or-any d e (x ∷ xs) p m = refl

pub head_or-le : (d : ℕ) (l : List ℕ) (p : ℕ) → Ascending l → p ∈ l → head_or d l ≤ p
head_or-le d [] p a m = absurd (Memᴰ.not-nil m)
head_or-le d (x ∷ xs) p a m = step (Memᴰ.cases_cons m)
  where
    step : (p ≡ x) ⊎ (p ∈ xs) → x ≤ p
    step (inl q) = omega arith
    step (inr h) = omega (arith, a.0 p h)

-- ascending lists of the same numbers are the same
pub same_ascending : (a b : List ℕ) → Ascending a → Ascending b → ((p : ℕ) → p ∈ a → p ∈ b) → ((p : ℕ) → p ∈ b → p ∈ a) → a ≡ b
same_ascending [] [] ha hb f h = refl
same_ascending [] (y ∷ ys) ha hb f h = absurd (Memᴰ.not-nil (h y (Memᴰ.head refl)))
same_ascending (x ∷ xs) [] ha hb f h = absurd (Memᴰ.not-nil (f x (Memᴰ.head refl)))
same_ascending (x ∷ xs) (y ∷ ys) ha hb f h =
    let e : x ≡ y = omega (arith, head_or-le 0 (y ∷ ys) x hb (f x (Memᴰ.head refl)), head_or-le 0 (x ∷ xs) y ha (h y (Memᴰ.head refl))) in
    ap₂ ◌∷◌ e
    (same_ascending xs ys ha.1 hb.1
    (λ p m. behind y ys p (omega (arith, ha.0 p m)) (Memᴰ.cases_cons (f p (Memᴰ.tail m))))
    (λ p m. behind x xs p (omega (arith, hb.0 p m)) (Memᴰ.cases_cons (h p (Memᴰ.tail m)))))
  where
    behind : (z : ℕ) (zs : List ℕ) (p : ℕ) → z < p → (p ≡ z) ⊎ (p ∈ zs) → p ∈ zs
    behind z zs p l (inl q) = absurd (omega arith)
    behind z zs p l (inr m) = m

-- the nodes 0 to n - 1, ascending
pub from_in : (a k p : ℕ) → a ≤ p → p < a + k → p ∈ from a k
unfolding from
from_in a zero p l h = absurd (omega arith)
from_in a (suc k) p l h = step (from_in (suc a) k p) (decide (eqb p a))
  where
    step : (suc a ≤ p → p < suc a + k → p ∈ from (suc a) k) → (eqb p a ≡ true) ⊎ (eqb p a ≡ false) → p ∈ (a ∷ from (suc a) k)
    step below (inl t) = Memᴰ.head (eqb-true p a t)
    step below (inr t) = Memᴰ.tail (below (omega (arith, eqb-false p a t)) (omega arith))

pub from_out : (a k p : ℕ) → p ∈ from a k → (a ≤ p) × (p < a + k)
unfolding from
from_out a zero p m = absurd (Memᴰ.not-nil m)
from_out a (suc k) p m = step (from_out (suc a) k p) (Memᴰ.cases_cons m)
  where
    step : (p ∈ from (suc a) k → (suc a ≤ p) × (p < suc a + k)) → (p ≡ a) ⊎ (p ∈ from (suc a) k) → (a ≤ p) × (p < a + suc k)
    step below (inl q) = (omega arith, omega arith)
    step below (inr i) = let b = below i in (omega (arith, b.0), omega (arith, b.1))

pub from_ascending : (a k : ℕ) → Ascending (from a k)
unfolding from
from_ascending a zero = tt
from_ascending a (suc k) = (λ q m. (from_out (suc a) k q m).0, from_ascending (suc a) k)

pub length_from : (a k : ℕ) → length (from a k) ≡ k
unfolding from
length_from a zero = refl
length_from a (suc k) = ap suc (length_from (suc a) k)

pub nodes_in_lem : (n p : ℕ) → p < n → p ∈ nodes n
unfolding nodes
nodes_in_lem n p h = from_in 0 n p (omega arith) (omega arith)

pub nodes_out : (n p : ℕ) → p ∈ nodes n → p < n
unfolding nodes
nodes_out n p m = omega (arith, (from_out 0 n p m).1)

pub nodes_ascending : (n : ℕ) → Ascending (nodes n)
unfolding nodes
nodes_ascending n = from_ascending 0 n

-- pigeonhole: f takes the different members of l to different numbers below k
abbrev pub without : ℕ → List ℕ → List ℕ
without x l = filter (λ y. not (eqb x y)) l

shorter : (x : ℕ) (l : List ℕ) → x ∈ l → length (without x l) < length l
unfolding filter
shorter x [] m = absurd (Memᴰ.not-nil m)
shorter x (y ∷ ys) m = step (decide (eqb x y)) (shorter x ys) (Memᴰ.cases_cons m)
  where
    step : (eqb x y ≡ true) ⊎ (eqb x y ≡ false) → (x ∈ ys → length (without x ys) < length ys) → (x ≡ y) ⊎ (x ∈ ys) → length (cond (not (eqb x y)) (y ∷ without x ys) (without x ys)) < suc (length ys)
    step (inl t) below m = rw t (omega (arith, length-filter (λ z. not (eqb x z)) ys))
    step (inr t) below (inl q) = absurd (eqb-false x y t q)
    step (inr t) below (inr i) = rw t (omega (arith, below i))

pub pigeonhole : (l : List ℕ) (f : ℕ → ℕ) (holes : List ℕ) → Ascending l → ((p : ℕ) → p ∈ l → f p ∈ holes) → ((p q : ℕ) → p ∈ l → q ∈ l → f p ≡ f q → p ≡ q) → length l ≤ length holes
pigeonhole [] f holes a into inj = omega arith
pigeonhole (x ∷ xs) f holes a into inj =
    let low : length xs ≤ length (without (f x) holes) = pigeonhole xs f (without (f x) holes) a.1 rest (λ p q mp mq. inj p q (Memᴰ.tail mp) (Memᴰ.tail mq)) in
    omega (arith, shorter (f x) holes (into x (Memᴰ.head refl)))
  where
    differs : (p : ℕ) → p ∈ xs → f x ≡ f p → ⊥
    differs p m q = let z : x ≡ p = inj x p (Memᴰ.head refl) (Memᴰ.tail m) q in omega (arith, a.0 p m)

    rest : (p : ℕ) → p ∈ xs → f p ∈ without (f x) holes
    rest p m = filter_intro _ holes (f p) (into p (Memᴰ.tail m)) (ap not (ne_eqb (f x) (f p) (differs p m)))

pub same_refl : (l : List ℕ) → same_list l l ≡ true
unfolding same_list
same_refl [] = refl
same_refl (x ∷ xs) = and_true (eq-eqb x x refl) (same_refl xs)

pub same_eq : (a b : List ℕ) → same_list a b ≡ true → a ≡ b
unfolding same_list
same_eq [] [] h = refl
same_eq [] (y ∷ ys) h = differ h refl
same_eq (x ∷ xs) [] h = differ h refl
same_eq (x ∷ xs) (y ∷ ys) h = ap₂ ◌∷◌ (eqb-true x y (and_fst (eqb x y) (same_list xs ys) h)) (same_eq xs ys (and_snd (eqb x y) (same_list xs ys) h))

pub map_in : {A : Type 0} (f : ℕ → A) (l : List ℕ) (p : ℕ) → p ∈ l → Memᴰ (f p) (map f l)
map_in {A = A} f [] p x' = elim x' [ ]
map_in f (x ∷ xs) p (Memᴰ.head q) = Memᴰ.head (ap f q)
map_in f (x ∷ xs) p (Memᴰ.tail m) = Memᴰ.tail (map_in f xs p m)

pub map_out : {A : Type 0} (f : ℕ → A) (l : List ℕ) (g : A) → Memᴰ g (map f l) → (p : ℕ) × (p ∈ l) × (g ≡ f p)
map_out f [] g m = absurd (Memᴰ.not-nil m)
map_out f (x ∷ xs) g m = step (map_out f xs g) (Memᴰ.cases_cons m)
  where
    step : (Memᴰ g (map f xs) → (p : ℕ) × (p ∈ xs) × (g ≡ f p)) → (g ≡ f x) ⊎ Memᴰ g (map f xs) → (p : ℕ) × (p ∈ (x ∷ xs)) × (g ≡ f p)
    step below (inl q) = (x, Memᴰ.head refl, q)
    step below (inr h) = let t = below h in (t.0, Memᴰ.tail t.1, t.2)
