-- What the list of a word's bits tells of the word.
use Rattle.std.specs.Prelude.{◌≡◌, ℕ, ◌+◌, ◌-◌, ◌^◌, ◌<◌, true, false, List, [], ◌∷◌, map, bit_and, ◌⊎◌, ◌==◌, refl}
use Rattle.std.proofs.Common.{◌∙◌, inl, inr, sym, arith, zero-add, eqb-true}
use Rattle.std.proofs.Math.Nat.{mod-eq_of_lt}
use Rattle.std.specs.Int.Count.{count_trailing_zeros}
use Rattle.std.proofs.lemmas.Bool.{eqb-false}
use Rattle.model.specs.Lists.{◌∈◌, nodes}
use Rattle.model.specs.Tables.{bit_at}
use Rattle.model.proofs.TestLaws.{decide, iff_eq}
use Rattle.model.proofs.ListLaws.{filter_elim, filter_intro, nodes_in_lem}
use Rattle.rows.specs.BitLaws.{word_bits, word_cong}
use Rattle.buffers.specs.ScanLaws.{scan-nodes}
use Rattle.buffers.specs.WordBits.{bits_from, bits_of}
use Rattle.buffers.specs.WordBitsLaws.{cleared_less, from_lowest, from_none}

from_zero : (l : List ℕ) → map (λ k. 0 + k) l ≡ l
from_zero [] = refl
from_zero (x ∷ xs) = rw (zero-add x, from_zero xs)

counted_from_zero : (x : ℕ) → bits_from 0 x ≡ bits_of x
unfolding bits_from
counted_from_zero x = from_zero (bits_of x)

pub bits_none : (x : ℕ) → x ≡ 0 → bits_of x ≡ []
bits_none x e = sym (counted_from_zero x) ∙ from_none 0 x e

pub bits_lowest : (x : ℕ) → x < 2 ^ 64 → (x ≡ 0 → ⊥) → bits_of x ≡ count_trailing_zeros 64 x ∷ bits_of (bit_and x (x - 1))
bits_lowest x h some =
    let e : 0 + count_trailing_zeros 64 x ≡ count_trailing_zeros 64 x = omega arith in
    sym (counted_from_zero x) ∙ from_lowest 0 x (count_trailing_zeros 64 x) h some refl ∙ rw (e, counted_from_zero (bit_and x (x - 1)))

-- a word is told by its bits
member_told : (x k : ℕ) → k < 64 → bit_at x k ≡ true → k ∈ bits_of x
unfolding bits_of
member_told x k h t = rw (scan-nodes (bit_at x) 64) (filter_intro (bit_at x) (nodes 64) k (nodes_in_lem 64 k h) t)

bit_told : (x k : ℕ) → k ∈ bits_of x → bit_at x k ≡ true
unfolding bits_of
bit_told x k m = (filter_elim (bit_at x) (nodes 64) k (rw (scan-nodes (bit_at x) 64) at m)).1

word_told : (x y : ℕ) → x < 2 ^ 64 → y < 2 ^ 64 → bits_of x ≡ bits_of y → x ≡ y
word_told x y hx hy e =
    let same : (k : ℕ) → k < 64 → bit_at x k ≡ bit_at y k = λ k h. iff_eq (bit_at x k) (bit_at y k) (λ t. bit_told y k (rw e at (member_told x k h t))) (λ t. bit_told x k (rw (← e) at (member_told y k h t))) in
    omega (arith, word_bits 64 x, word_bits 64 y, word_cong 64 (bit_at x) (bit_at y) same, mod-eq_of_lt hx, mod-eq_of_lt hy)

-- k is the lowest bit of x, and y what is left of x without it
pub record Cleared (x k y : ℕ) : Type 0 where
  pub some : x ≡ 0 → ⊥
  pub lowest : k ≡ count_trailing_zeros 64 x
  pub rest : y ≡ bit_and x (x - 1)

pub cleared : (x k y : ℕ) → x < 2 ^ 64 → y < 2 ^ 64 → bits_of x ≡ k ∷ bits_of y → Cleared x k y
cleared x k y hx hy e =
    let some : x ≡ 0 → ⊥ = λ z. (let n = bits_none x z in cc) in
    let l = bits_lowest x hx some in
    record { some = some; lowest = cc; rest = word_told y (bit_and x (x - 1)) hy (omega (arith, cleared_less x hx some)) (cc) }

pub all_cleared : (x : ℕ) → x < 2 ^ 64 → bits_of x ≡ [] → x ≡ 0
all_cleared x h e = step (decide (x == 0))
  where
    step : ((x == 0) ≡ true) ⊎ ((x == 0) ≡ false) → x ≡ 0
    step (inl t) = eqb-true x 0 t
    step (inr f) = let l = bits_lowest x h (eqb-false x 0 f) in cc
