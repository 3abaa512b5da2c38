-- The loops that fill a list from the front, and the lists that they leave.
use Rattle.std.specs.Prelude.{◌≡◌, refl, List, ℕ, zero, suc, ◌+◌, ◌≤◌, ◌<◌, length, get_or, replicate, set, take}
use Rattle.std.proofs.Common.{sym, ◌∙◌, arith, length-set, ext_get_or, get_or-take, length-take-le}
use Rattle.buffers.specs.Filled.{Filled}
use Rattle.buffers.specs.StoreLaws.{stored}

pub filled_none : (f : ℕ → ℕ) (t : List ℕ) → Filled f 0 t t
filled_none f t = record { size = refl; numbers = λ j h. absurd (omega arith) }

pub filled_more : {f : ℕ → ℕ} {i x : ℕ} {t t₁ : List ℕ} → Filled f i t t₁ → i < length t → x ≡ f i → Filled f (i + 1) t (set t₁ i x)
filled_more {f} {i} {x} {t} {t₁} a l e = record { size = length-set t₁ i x ∙ a.size; numbers = stored t₁ i x (omega (arith, a.size)) (λ j v. v ≡ f j) a.numbers e }

pub filled-all : {f : ℕ → ℕ} {n i : ℕ} {t t₁ : List ℕ} → Filled f i t t₁ → n ≤ i → Filled f n t t₁
filled-all a h = record { size = a.size; numbers = λ j l. a.numbers j (omega arith) }

-- filled to its end, it is the list of that length with those numbers
pub filled_is : {f : ℕ → ℕ} {i : ℕ} {t t₁ : List ℕ} (s : List ℕ) → Filled f i t t₁ → length t ≤ i → length s ≡ length t → ((j : ℕ) → j < length t → get_or s j 0 ≡ f j) → t₁ ≡ s
filled_is {f} {i} {t} {t₁} s a h l e = ext_get_or 0 t₁ s (a.size ∙ sym l) (λ j k. a.numbers j (omega (arith, a.size)) ∙ sym (e j (omega (arith, a.size))))

pub copied : (from : List ℕ) {i : ℕ} {t t₁ : List ℕ} → Filled (λ j. get_or from j 0) i t t₁ → length t ≤ i → length t ≤ length from → t₁ ≡ take (length t) from
copied from {i} {t} a h l = filled_is (take (length t) from) a h (length-take-le (length t) from l) (λ j k. get_or-take (length t) from j 0 k)

-- a cleared list has no other number
pub get_d_zeros : (k i : ℕ) → ◌≡◌ {A = ℕ} (get_or (replicate k 0) i 0) 0
get_d_zeros zero i = refl
get_d_zeros (suc k) zero = refl
get_d_zeros (suc k) (suc i) = get_d_zeros k i
