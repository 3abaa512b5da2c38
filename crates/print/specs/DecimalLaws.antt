-- A number in decimal is its leading digits and then its last.
use Rattle.std.specs.Prelude.{◌≡◌, refl, true, false, cond, List, [], ◌∷◌, ◌++◌, ◌⊎◌, ℕ, suc, zero, ◌+◌, ◌/◌, ◌%◌, ◌≤◌, ◌<◌, ltb, length, set}
use Rattle.std.proofs.Common.{ap, ◌∙◌, inl, inr, arith, length-append, ltb-false, lt-ltb, le-ltb}
use Rattle.model.specs.Program.{decimal, digits}
use Rattle.model.proofs.TestLaws.{decide}
use Rattle.buffers.specs.Wrote.{Wrote}
use Rattle.buffers.specs.WroteLaws.{wrote_then}

-- more fuel changes nothing
digits_enough : (f g x : ℕ) → x < f → x < g → digits f x ≡ digits g x
unfolding digits
digits_enough zero g x a b = absurd (omega arith)
digits_enough (suc f) zero x a b = absurd (omega arith)
digits_enough (suc f) (suc g) x a b = step (digits_enough f g (x / 10)) (decide (ltb x 10))
  where
    step : (x / 10 < f → x / 10 < g → digits f (x / 10) ≡ digits g (x / 10)) → (ltb x 10 ≡ true) ⊎ (ltb x 10 ≡ false)
        → cond (ltb x 10) ((0x30 + x) ∷ []) (digits f (x / 10) ++ ((0x30 + x % 10) ∷ [])) ≡ cond (ltb x 10) ((0x30 + x) ∷ []) (digits g (x / 10) ++ ((0x30 + x % 10) ∷ []))
    step below (inl t) = rw t
    step below (inr t) = let l = ltb-false x 10 t in rw t (ap (λ (ds : List ℕ). ds ++ ((0x30 + x % 10) ∷ [])) (below (omega arith) (omega arith)))

pub decimal_short : (x : ℕ) → x < 10 → decimal x ≡ (0x30 + x) ∷ []
unfolding decimal digits
decimal_short x h = rw (lt-ltb x 10 h)

pub decimal_long : (x : ℕ) → 10 ≤ x → decimal x ≡ decimal (x / 10) ++ ((0x30 + x % 10) ∷ [])
unfolding decimal digits
decimal_long x h = rw (le-ltb x 10 h) (ap (λ (ds : List ℕ). ds ++ ((0x30 + x % 10) ∷ [])) (digits_enough x (suc (x / 10)) (x / 10) (omega arith) (omega arith)))

pub length_short : (x : ℕ) → x < 10 → length (decimal x) ≡ 1
length_short x h = ap length (decimal_short x h)

pub length_long : (x : ℕ) → 10 ≤ x → length (decimal x) ≡ length (decimal (x / 10)) + 1
length_long x h = ap length (decimal_long x h) ∙ length-append (decimal (x / 10)) ((0x30 + x % 10) ∷ [])

-- one byte is written
pub wrote_byte : (s : List ℕ) (at b : ℕ) → Wrote s at (b ∷ []) (set s at b) (at + 1)
wrote_byte s at b = record { bytes = refl; place = refl }

pub wrote_short : (s : List ℕ) (at x : ℕ) → x < 10 → Wrote s at (decimal x) (set s at (0x30 + x)) (at + 1)
wrote_short s at x h = rw (decimal_short x h) (wrote_byte s at (0x30 + x))

pub wrote_long : (s : List ℕ) (at x : ℕ) (t : List ℕ) (mid : ℕ) → 10 ≤ x → Wrote s at (decimal (x / 10)) t mid → Wrote s at (decimal x) (set t mid (0x30 + x % 10)) (mid + 1)
wrote_long s at x t mid h w = rw (decimal_long x h) (wrote_then w (wrote_byte t mid (0x30 + x % 10)))
