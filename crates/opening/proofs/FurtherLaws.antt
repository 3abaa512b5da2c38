-- Further laws of these definitions, which no proof here cites.
use Rattle.model.specs.Graph.{node_numbers}
use Rattle.std.specs.Prelude.{◌≡◌, refl, ◌≢◌, ℕ, ◌+◌, ◌*◌, ◌-◌, ◌≤◌, ◌<◌, set}
use Rattle.std.proofs.Common.{◌∙◌, eq-eqb, ne_eqb, lt-ltb, le-ltb}
use mathlib.Core.List.{List}
use native.Mathlib.Omega.{arith}
use Rattle.std.proofs.Math.Decide.{ℕ_discrete}
use Rattle.std.proofs.Math.ListN.{length, get_or, length-set}
use Rattle.std.proofs.Math.Seq.{get_or-set_same, get_or-set_other}
use Rattle.model.specs.Grouping.{cube}
use Rattle.model.specs.Tables.{node_number}
use Rattle.opening.specs.Open.{ring_next, ring_prev, NodePut, NodesFilled, KeysFilled}

-- five stores at node p
module _ (t : List ℕ) (p x y : ℕ) (fits : node_numbers * p + node_numbers ≤ length t) where
  abbrev t₁ : List ℕ
  t₁ = set t (5 * p) 0

pub filled_none : (n : ℕ) (t : List ℕ) → NodesFilled n 0 t t
filled_none n t = record { size = refl; least = λ p h. absurd (omega arith); next = λ p h. absurd (omega arith); prev = λ p h. absurd (omega arith); mark = λ p h. absurd (omega arith); class = λ p h. absurd (omega arith) }

pub filled_more : {n i x y : ℕ} {t t₁ t₂ : List ℕ} → NodesFilled n i t t₁ → x ≡ ring_next n i → y ≡ ring_prev n i → NodePut i x y t₁ t₂ → NodesFilled n (i + 1) t t₂
filled_more {n} {i} {x} {y} {t} {t₁} {t₂} a ex ey b = record {
  size = b.size ∙ a.size;
  least = λ p h. one 0 p (omega arith) (λ q. 0) b.least_at (a.least p) h (ℕ_discrete p i);
  next = λ p h. one 1 p (omega arith) (ring_next n) (b.next_at ∙ ex) (a.next p) h (ℕ_discrete p i);
  prev = λ p h. one 2 p (omega arith) (ring_prev n) (b.prev_at ∙ ey) (a.prev p) h (ℕ_discrete p i);
  mark = λ p h. one 3 p (omega arith) (λ q. 0) b.mark_at_lem (a.mark p) h (ℕ_discrete p i);
  class = λ p h. one 4 p (omega arith) (λ q. 0) b.class_at_lem (a.class p) h (ℕ_discrete p i);
}
  where
    one : (k p : ℕ) → k < node_numbers → (f : ℕ → ℕ) → node_number t₂ i k ≡ f i → (p < i → node_number t₁ p k ≡ f p) → p < i + 1 → Dec (p ≡ i) → node_number t₂ p k ≡ f p
    one k p hk f at old h (yes d) = rw d at
    one k p hk f at old h (no d) = b.off p k d hk ∙ old (omega arith)

pub keys_none : (t : List ℕ) → KeysFilled 0 t t
keys_none t = record { size = refl; opened = λ p h. absurd (omega arith); closed = λ p h. absurd (omega arith) }

pub keys_more : {i x : ℕ} {t t₁ : List ℕ} → KeysFilled i t t₁ → 2 * i + 2 ≤ length t → x ≡ cube i → KeysFilled (i + 1) t (set (set t₁ (2 * i) 0) (2 * i + 1) x)
keys_more {i} {x} {t} {t₁} a l e = record {
  size = length-set t₂ (2 * i + 1) x ∙ size₂;
  opened = λ p h. opened p h (ℕ_discrete p i);
  closed = λ p h. closed p h (ℕ_discrete p i);
}
  where
    t₂ : List ℕ
    t₂ = set t₁ (2 * i) 0

    size₂ : length t₂ ≡ length t
    size₂ = length-set t₁ (2 * i) 0 ∙ a.size

    opened : (p : ℕ) → p < i + 1 → Dec (p ≡ i) → get_or (set t₂ (2 * i + 1) x) (2 * p) 0 ≡ 0
    opened p h (yes d) = get_or-set_other t₂ (2 * i + 1) (2 * p) x 0 (omega arith) ∙ rw d (get_or-set_same t₁ (2 * i) 0 0 (omega (arith, a.size)))
    opened p h (no d) = get_or-set_other t₂ (2 * i + 1) (2 * p) x 0 (omega arith) ∙ get_or-set_other t₁ (2 * i) (2 * p) 0 0 (omega arith) ∙ a.opened p (omega arith)

    closed : (p : ℕ) → p < i + 1 → Dec (p ≡ i) → get_or (set t₂ (2 * i + 1) x) (2 * p + 1) 0 ≡ cube p
    closed p h (yes d) = rw d (get_or-set_same t₂ (2 * i + 1) x 0 (omega (arith, size₂)) ∙ e)
    closed p h (no d) = get_or-set_other t₂ (2 * i + 1) (2 * p + 1) x 0 (omega arith) ∙ get_or-set_other t₁ (2 * i) (2 * p + 1) 0 0 (omega arith) ∙ a.closed p (omega arith)

-- the branches of the ring's steps
pub next_inner : (n p : ℕ) → p + 1 < n → p + 1 ≡ ring_next n p
unfolding ring_next
next_inner n p h = rw (lt-ltb (p + 1) n h)

pub next_last : (n p : ℕ) → n ≤ p + 1 → 0 ≡ ring_next n p
unfolding ring_next
next_last n p h = rw (le-ltb (p + 1) n h)

pub prev_first : (n p : ℕ) → p ≡ 0 → n - 1 ≡ ring_prev n p
unfolding ring_prev
prev_first n p h = rw (eq-eqb p 0 h)

pub prev_inner : (n p : ℕ) → p ≢ 0 → p - 1 ≡ ring_prev n p
unfolding ring_prev
prev_inner n p h = rw (ne_eqb p 0 h)

-- at the end of the loops
pub filled-all : {n i : ℕ} {t t₁ : List ℕ} → NodesFilled n i t t₁ → n ≤ i → NodesFilled n n t t₁
filled-all a h = record { size = a.size; least = λ p l. a.least p (omega arith); next = λ p l. a.next p (omega arith); prev = λ p l. a.prev p (omega arith); mark = λ p l. a.mark p (omega arith); class = λ p l. a.class p (omega arith) }

pub keys_all : {n i : ℕ} {t t₁ : List ℕ} → KeysFilled i t t₁ → n ≤ i → KeysFilled n t t₁
keys_all a h = record { size = a.size; opened = λ p l. a.opened p (omega arith); closed = λ p l. a.closed p (omega arith) }
