-- Further laws of these definitions, which no proof here cites.
use Rattle.std.specs.Prelude.{◌≡◌, refl, true, false, List, ℕ, ◌+◌, ◌<◌, T, ℤ, pos, negsuc, nat_abs, ◌-ℤ◌, length, ◌≤◌, get_or, drop, set}
use Rattle.std.proofs.Common.{ap, ◌∙◌, arith, ltb-true, to_z-of_z, Fits, SFits, of_z, to_z, add-zero, add-one, drop_of_length-le, drop-cons}
use Rattle.std.specs.Int.Signed.{lt_z, non_neg}
use Rattle.std.specs.Int.{w16, w32, w64}
use Rattle.model.specs.Program.{text}
use Rattle.model.proofs.TestLaws.{differ}
use Rattle.buffers.specs.Wrote.{Wrote, Left}
use Rattle.buffers.specs.WroteLaws.{left_done, left_start, left_step}
use Rattle.print.specs.DecimalLaws.{wrote_byte}

-- what a number of 16 bits is in 32
pub wider : (x : ℤ) → SFits w16 x → SFits w32 (to_z w16 (of_z w16 x))
wider x f = rw (to_z-of_z f) (record { sfits = omega (arith, f.sfits) })

turned : (x : ℤ) → SFits w16 x → pos 0 -ℤ to_z w32 (of_z w32 (to_z w16 (of_z w16 x))) ≡ pos 0 -ℤ x
turned x f = ap (λ (z : ℤ). pos 0 -ℤ z) (to_z-of_z (wider x f) ∙ to_z-of_z f)

below : (x : ℤ) → SFits w16 x → lt_z (to_z w16 (of_z w16 x)) (pos 0) ≡ true → lt_z x (pos 0) ≡ true
below x f t = rw (to_z-of_z f) at t

pub turned_fits : (x : ℤ) → SFits w16 x → lt_z (to_z w16 (of_z w16 x)) (pos 0) ≡ true → SFits w32 (pos 0 -ℤ to_z w32 (of_z w32 (to_z w16 (of_z w16 x))))
turned_fits x f t = rw (turned x f) (go x f (below x f t))
  where
    go : (y : ℤ) → SFits w16 y → lt_z y (pos 0) ≡ true → SFits w32 (pos 0 -ℤ y)
    go (pos n) g s = absurd (omega (arith, ltb-true n 0 s))
    go (negsuc n) g s = record { sfits = omega (arith, g.sfits) }

turned_is : (x : ℤ) → SFits w16 x → lt_z (to_z w16 (of_z w16 x)) (pos 0) ≡ true → to_z w32 (of_z w32 (pos 0 -ℤ to_z w32 (of_z w32 (to_z w16 (of_z w16 x))))) ≡ pos (nat_abs x)
turned_is x f t = to_z-of_z (turned_fits x f t) ∙ turned x f ∙ go x (below x f t)
  where
    go : (y : ℤ) → lt_z y (pos 0) ≡ true → pos 0 -ℤ y ≡ pos (nat_abs y)
    go (pos n) s = absurd (omega (arith, ltb-true n 0 s))
    go (negsuc n) s = ap pos (omega arith)

small : (x : ℤ) → SFits w16 x → nat_abs x < 65536
small (pos n) f = omega (arith, f.sfits)
small (negsuc n) f = omega (arith, f.sfits)

pub turned_whole : (x : ℤ) → SFits w16 x → lt_z (to_z w16 (of_z w16 x)) (pos 0) ≡ true
    → T (non_neg (to_z w32 (of_z w32 (pos 0 -ℤ to_z w32 (of_z w32 (to_z w16 (of_z w16 x))))))) × Fits w64 (nat_abs (to_z w32 (of_z w32 (pos 0 -ℤ to_z w32 (of_z w32 (to_z w16 (of_z w16 x)))))))
turned_whole x f t = rw (turned_is x f t) (tt, record { fits = omega (arith, small x f) })

pub turned_abs : (x : ℤ) → SFits w16 x → lt_z (to_z w16 (of_z w16 x)) (pos 0) ≡ true → nat_abs (to_z w32 (of_z w32 (pos 0 -ℤ to_z w32 (of_z w32 (to_z w16 (of_z w16 x)))))) ≡ nat_abs x
turned_abs x f t = ap nat_abs (turned_is x f t)

pub kept_whole : (x : ℤ) → SFits w16 x → lt_z (to_z w16 (of_z w16 x)) (pos 0) ≡ false → T (non_neg (to_z w16 (of_z w16 x))) × Fits w64 (nat_abs (to_z w16 (of_z w16 x)))
kept_whole x f t = rw (to_z-of_z f) (go x f (rw (to_z-of_z f) at t))
  where
    go : (y : ℤ) → SFits w16 y → lt_z y (pos 0) ≡ false → T (non_neg y) × Fits w64 (nat_abs y)
    go (pos n) g s = (tt, record { fits = omega (arith, g.sfits) })
    go (negsuc n) g s = differ refl s

pub text_start : (s : List ℕ) (at : ℕ) (text : List ℕ) → Left s at text s (at + 0) text
text_start s at text = rw (add-zero at) (left_start s at text)

pub text_step : (s₀ : List ℕ) (at : ℕ) (text s : List ℕ) (i : ℕ) → i < length text → Left s₀ at text s (at + i) (drop i text) → Left s₀ at text (set s (at + i) (get_or text i 0)) (at + (i + 1)) (drop (i + 1) text)
text_step s₀ at text s i h l =
    let e : at + i + 1 ≡ at + (i + 1) = omega arith in
    rw (← e) (left_step l (wrote_byte s (at + i) (get_or text i 0)) (rw (add-one i) (drop-cons text i 0 h)))

pub text_done : (s₀ : List ℕ) (at : ℕ) (text s : List ℕ) (i : ℕ) → length text ≤ i → Left s₀ at text s (at + i) (drop i text) → Wrote s₀ at text s (at + i)
text_done s₀ at text s i h l = left_done l (drop_of_length-le text h)
