-- How far a signed number is from 0, and its text.
use Rattle.std.specs.Prelude.{◌≡◌, refl, true, false, List, [], ◌∷◌, ◌++◌, ℕ, ◌+◌, ℤ, pos, negsuc, nat_abs, length}
use Rattle.std.proofs.Common.{ap, ◌∙◌, arith, ltb-true, to_z-of_z, SFits, of_z, to_z}
use Rattle.std.specs.Int.Signed.{lt_z}
use Rattle.std.specs.Int.{w16}
use Rattle.model.specs.Program.{decimal, signed, text}
use Rattle.model.proofs.TestLaws.{differ}
use Rattle.buffers.specs.Wrote.{Wrote}
use Rattle.buffers.specs.WroteLaws.{wrote_then}

below : (x : ℤ) → SFits w16 x → lt_z (to_z w16 (of_z w16 x)) (pos 0) ≡ true → lt_z x (pos 0) ≡ true
below x f t = rw (to_z-of_z f) at t

-- the text of a number below 0, and of another
pub signed_below : (x : ℤ) → SFits w16 x → lt_z (to_z w16 (of_z w16 x)) (pos 0) ≡ true → signed x ≡ text "-" ++ decimal (nat_abs x)
unfolding signed
signed_below x f t = go x (below x f t)
  where
    go : (y : ℤ) → lt_z y (pos 0) ≡ true → signed y ≡ text "-" ++ decimal (nat_abs y)
    go (pos n) s = absurd (omega (arith, ltb-true n 0 s))
    go (negsuc n) s = refl

pub signed_else : (x : ℤ) → SFits w16 x → lt_z (to_z w16 (of_z w16 x)) (pos 0) ≡ false → signed x ≡ decimal (nat_abs x)
unfolding signed
signed_else x f t = go x (rw (to_z-of_z f) at t)
  where
    go : (y : ℤ) → lt_z y (pos 0) ≡ false → signed y ≡ decimal (nat_abs y)
    go (pos n) s = refl
    go (negsuc n) s = differ refl s

magnitude_of : (x : ℤ) (k : ℕ) → SFits w16 x → k ≡ nat_abs (to_z w16 (of_z w16 x)) → k ≡ nat_abs x
magnitude_of x k f e = e ∙ ap nat_abs (to_z-of_z f)

-- the room for the digits
pub length_below : (x : ℤ) (k : ℕ) → SFits w16 x → lt_z (to_z w16 (of_z w16 x)) (pos 0) ≡ true → k ≡ nat_abs (to_z w16 (of_z w16 x)) → length (signed x) ≡ 1 + length (decimal k)
unfolding text
length_below x k f t e = rw (signed_below x f t, magnitude_of x k f e) (omega arith)

pub length_else : (x : ℤ) (k : ℕ) → SFits w16 x → lt_z (to_z w16 (of_z w16 x)) (pos 0) ≡ false → k ≡ nat_abs (to_z w16 (of_z w16 x)) → length (signed x) ≡ length (decimal k)
length_else x k f t e = rw (signed_else x f t, magnitude_of x k f e)

pub wrote_below : {s : List ℕ} {at : ℕ} {t : List ℕ} {mid : ℕ} {u : List ℕ} {next : ℕ} (x : ℤ) (k : ℕ) → SFits w16 x → lt_z (to_z w16 (of_z w16 x)) (pos 0) ≡ true
    → Wrote s at (0x2D ∷ []) t mid → k ≡ nat_abs (to_z w16 (of_z w16 x)) → Wrote t mid (decimal k) u next → Wrote s at (signed x) u next
unfolding text
wrote_below x k f n a e b = rw (signed_below x f n, ← magnitude_of x k f e) (wrote_then a b)

pub wrote_else : {s : List ℕ} {at : ℕ} {t : List ℕ} {next : ℕ} (x : ℤ) (k : ℕ) → SFits w16 x → lt_z (to_z w16 (of_z w16 x)) (pos 0) ≡ false
    → k ≡ nat_abs (to_z w16 (of_z w16 x)) → Wrote s at (decimal k) t next → Wrote s at (signed x) t next
wrote_else x k f n e b = rw (signed_else x f n, ← magnitude_of x k f e) b

-- the text of a number that is handed on
pub signed_kept : (x : ℤ) → SFits w16 x → signed (to_z w16 (of_z w16 x)) ≡ signed x
signed_kept x f = ap signed (to_z-of_z f)
