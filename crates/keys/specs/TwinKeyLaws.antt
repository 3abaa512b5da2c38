-- The open key of a node told by the keys of its twin.
use Rattle.std.specs.Prelude.{◌≡◌, ℕ, ◌+◌, ◌-◌, ◌*◌, ◌%◌, ◌^◌, ◌<◌, Bool, true, false, List, slice_index}
use Rattle.std.proofs.Math.Path.{refl}
use Rattle.std.proofs.Common.{sym, ap, ◌∙◌, arith}
use Rattle.model.specs.Grouping.{cube}
use Rattle.rows.specs.KeyLaws.{moved_out}
use Rattle.keys.specs.KeySums.{twin_key}

-- the key of a twin
module _ (keys : List ℕ) (c : Bool) (l p : ℕ) where
  pub twin_closed : {x r : ℕ} → c ≡ true → x ≡ cube p → r < 2 ^ 32 → (r + x) % 2 ^ 32 ≡ slice_index keys (2 * l + 1) → r ≡ twin_key keys c l p
  unfolding twin_key
  twin_closed {x} {r} t e h k = rw t (moved_out false (slice_index keys (2 * l + 1)) (cube p) r refl h (ap (λ (y : ℕ). (r + y) % 2 ^ 32) (sym e) ∙ k))

  pub twin_open : c ≡ false → slice_index keys (2 * l) ≡ twin_key keys c l p
  unfolding twin_key
  twin_open t = rw t

-- and its key as an equation of sums
pub moved_back : (s x k : ℕ) → k ≡ (s + 1 * x) % 2 ^ 32 → (k + (2 ^ 32 - x % 2 ^ 32)) % 2 ^ 32 ≡ s % 2 ^ 32
moved_back s x k e = omega arith
