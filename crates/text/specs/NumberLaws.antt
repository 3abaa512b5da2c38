-- Laws of the numbers of the input, digit by digit.
use Rattle.std.specs.Prelude.{◌≡◌, refl, Bool, true, false, not, ◌&&◌, ◌||◌, cond, List, [], ◌∷◌, ◌⊎◌, ℕ, Option, Some, None, ◌+◌, ◌*◌, ◌-◌, ◌≤◌, ◌<◌, eqb, leb, length, get_or, drop}
use Rattle.std.proofs.Common.{sym, ◌∙◌, inl, inr, add-one, arith, drop_of_length-le, drop-cons, le-leb}
use Rattle.std.proofs.lemmas.Bool.{lt-leb}
use Rattle.model.specs.Lists.{all, head_or}
use Rattle.model.specs.Program.{is_number, value_of}
use Rattle.model.proofs.TestLaws.{and_fst, and_snd, decide}
use Rattle.text.specs.Grammar.{is_digit, number_of, shape}

pub head_is : (s : List ℕ) → head_or 0 s ≡ get_or s 0 0
head_is [] = refl
head_is (x ∷ xs) = refl

-- the tests of a number in another order
is_number_lem : (s : List ℕ) → is_number s ≡ (shape s && (all s is_digit && leb (value_of 0 s) 65535))
unfolding is_number shape
is_number_lem s = go (leb 1 (length s) && leb (length s) 5) (eqb (length s) 1 || not (eqb (head_or 0 s) 0x30)) (all s is_digit)
  where
    go : (a b d : Bool) → (a && (d && (b && leb (value_of 0 s) 65535))) ≡ ((a && b) && (d && leb (value_of 0 s) 65535))
    go true true d = refl
    go true false true = refl
    go true false false = refl
    go false b d = refl

-- what the case of a number tells
pub number_value : (s : List ℕ) (v : ℕ) → Some v ≡ number_of s → (is_number s ≡ true) × (value_of 0 s ≡ v)
unfolding number_of
number_value s v h = go (decide (is_number s)) h
  where
    go : (is_number s ≡ true) ⊎ (is_number s ≡ false) → Some v ≡ cond (is_number s) (Some (value_of 0 s)) None → (is_number s ≡ true) × (value_of 0 s ≡ v)
    go (inl t) e = let q : Some v ≡ Some (value_of 0 s) = rw t at e in (t, cc)
    go (inr t) e = let q : Some v ≡ None = rw t at e in cc

pub number_none : (s : List ℕ) → None ≡ number_of s → is_number s ≡ false
unfolding number_of
number_none s h = go (decide (is_number s)) h
  where
    go : (is_number s ≡ true) ⊎ (is_number s ≡ false) → None ≡ cond (is_number s) (Some (value_of 0 s)) None → is_number s ≡ false
    go (inl t) e = let q : ◌≡◌ {A = Option ℕ} None (Some (value_of 0 s)) = rw t at e in cc
    go (inr t) e = t

no-number : (s : List ℕ) → is_number s ≡ false → None ≡ number_of s
unfolding number_of
no-number s h = rw h

pub number_shapeless : (s : List ℕ) → shape s ≡ false → None ≡ number_of s
number_shapeless s h = no-number s (rw (is_number_lem s, h))

-- after i digits the value is v, and the digits from i on decide the rest
pub record Digits (s : List ℕ) (v i : ℕ) : Type 0 where
  pub within : i ≤ length s
  pub small : v ≤ 65535
  pub value : value_of v (drop i s) ≡ value_of 0 s
  pub digits : all (drop i s) is_digit ≡ all s is_digit

pub digits_start : (s : List ℕ) → Digits s 0 0
digits_start s = record { within = omega arith; small = omega arith; value = refl; digits = refl }

value_cons : (s : List ℕ) (v i : ℕ) → i < length s → value_of v (drop i s) ≡ value_of (10 * v + (get_or s i 0 - 0x30)) (drop (i + 1) s)
unfolding value_of
value_cons s v i h = rw (add-one i, drop-cons s i 0 h)

all_cons : (s : List ℕ) (i : ℕ) → i < length s → all (drop i s) is_digit ≡ (is_digit (get_or s i 0) && all (drop (i + 1) s) is_digit)
unfolding all
all_cons s i h = rw (add-one i, drop-cons s i 0 h)

value_le : (s : List ℕ) (v : ℕ) → v ≤ value_of v s
unfolding value_of
value_le [] v = omega arith
value_le (x ∷ xs) v = omega (arith, value_le xs (10 * v + (x - 0x30)))

-- one byte more
module _ {s : List ℕ} {v i : ℕ} (x : Digits s v i) (h : i < length s) where
  -- one that is no digit
  pub number_other : is_digit (get_or s i 0) ≡ false → None ≡ number_of s
  number_other n = no-number s (rw (is_number_lem s, ← x.digits, all_cons s i h, n) (none (shape s)))
    where
      none : (b : Bool) → (b && false) ≡ false
      none true = refl
      none false = refl

  -- a digit d
  module _ (d : ℕ) (e : (is_digit (get_or s i 0) ≡ true) × (d + 0x30 ≡ get_or s i 0)) where
    value_next : value_of (10 * v + d) (drop (i + 1) s) ≡ value_of 0 s
    value_next =
        let z : get_or s i 0 - 0x30 ≡ d = omega (arith, e.1) in
        let q : value_of v (drop i s) ≡ value_of (10 * v + d) (drop (i + 1) s) = rw (← z) (value_cons s v i h) in
        sym q ∙ x.value

    pub digits_step : {w : ℕ} → w ≡ 10 * v + d → w ≤ 65535 → Digits s w (i + 1)
    digits_step l small = record {
      within = omega arith;
      small = small;
      value = rw l value_next;
      digits = sym (all_cons s i h ∙ rw e.0) ∙ x.digits;
    }

    -- a value that is too large
    pub number_large : 65535 < 10 * v + d → None ≡ number_of s
    number_large l = no-number s (rw (is_number_lem s, lt-leb (value_of 0 s) 65535 (omega (arith, value_next, value_le (drop (i + 1) s) (10 * v + d)))) (none (shape s) (all s is_digit)))
      where
        none : (a b : Bool) → (a && (b && false)) ≡ false
        none true true = refl
        none true false = refl
        none false b = refl

pub number_done : {s : List ℕ} {v i : ℕ} → Digits s v i → length s ≤ i → shape s ≡ true → Some v ≡ number_of s
unfolding number_of all value_of
number_done {s} {v} {i} x h t =
    let e : drop i s ≡ [] = drop_of_length-le s h in
    let q : v ≡ value_of 0 s = rw e at x.value in
    let d : true ≡ all s is_digit = rw e at x.digits in
    rw (is_number_lem s, t, ← d, ← q, le-leb v 65535 x.small)

pub number_digits : (s : List ℕ) → is_number s ≡ true → all s is_digit ≡ true
number_digits s h = and_fst (all s is_digit) (leb (value_of 0 s) 65535) (and_snd (shape s) (all s is_digit && leb (value_of 0 s) 65535) (sym (is_number_lem s) ∙ h))
