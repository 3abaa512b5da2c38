-- The difference of two small numbers in 16 bits.
use mathlib.Core.Path.{◌≡◌, refl, ap, ◌∙◌}
use mathlib.Core.Logic.{⊎_elim}
use Prim.Native.Nat.{ℕ, zero, suc, ◌-◌, ◌≤◌}
use native.Mathlib.Nat.{eq-zero-or-pos}
use native.Mathlib.Omega.{arith}
use borrow.Author.Tests.{lt-ltb, le-ltb}
use lib.IntN.{pos, sub_ℕ, ◌-ℤ◌}
use mir.Syntax.{w16}
use mir.Val.{SFits, to_z, of_z}
use mir.Facts.{to_z_pos, to_z-of_z}

small : (n : ℕ) → n ≤ 512 → to_z w16 n ≡ pos n
small n h = to_z_pos w16 (omega arith)

minus : (a b : ℕ) → pos a -ℤ pos b ≡ sub_ℕ a b
minus a zero = rw (le-ltb a 0 (omega arith)) (ap pos (omega arith))
minus a (suc n) = refl

pub diff_is : (a b : ℕ) → a ≤ 512 → b ≤ 512 → to_z w16 a -ℤ to_z w16 b ≡ sub_ℕ a b
diff_is a b ha hb = rw (small a ha, small b hb) (minus a b)

sub_fits : (a b : ℕ) → a ≤ 512 → b ≤ 512 → SFits w16 (sub_ℕ a b)
sub_fits a b ha hb =
    ⊎_elim (λ z. rw (le-ltb a b (omega arith)) (record { sfits = omega arith }))
    (λ p. rw (lt-ltb a b (omega arith)) (record { sfits = omega arith }))
    (eq-zero-or-pos (b - a))

pub diff_fits : (a b : ℕ) → a ≤ 512 → b ≤ 512 → SFits w16 (to_z w16 a -ℤ to_z w16 b)
diff_fits a b ha hb = rw (diff_is a b ha hb) (sub_fits a b ha hb)

-- what is read back after a store
pub diff_back : (a b : ℕ) → a ≤ 512 → b ≤ 512 → to_z w16 (of_z w16 (to_z w16 a -ℤ to_z w16 b)) ≡ sub_ℕ a b
diff_back a b ha hb = to_z-of_z (diff_fits a b ha hb) ∙ diff_is a b ha hb
