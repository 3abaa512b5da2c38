-- Rows of words agree exactly if their bits do.
use Rattle.std.specs.Prelude.{◌≡◌, Bool, true, false, cond, List, ℕ, ◌+◌, ◌*◌, ◌/◌, ◌%◌, ◌<◌, eqb, get_or}
use Rattle.std.proofs.Math.Path.{sym, ap}
use Rattle.std.proofs.Common.{ap₂, ◌∙◌}
use Rattle.std.specs.Bool.{xor}
use native.Mathlib.Omega.{arith}
use Rattle.std.specs.Int.Bits.{bit_xor}
use Rattle.std.proofs.lemmas.Nat.{xor_lt}
use Rattle.model.specs.Graph.{max_nodes}
use Rattle.model.specs.Tables.{bit_at, edge_bit}
use Rattle.rows.specs.BitLaws.{bit_xor_lem, word-bit}
use Rattle.rows.specs.Rows.{Words}
use Rattle.search.specs.Search.{own_bits}
use Rattle.search.specs.SearchLaws.{meets_by, meets_words}
use Rattle.search.specs.TwinRowLaws.{own_bits_lem, own_bits-lt, words_eq}
use Rattle.compressed.specs.Compressed.{alike}

-- the bits for b in the rows of u and q agree; for closed rows with the own bits put in
abbrev pub Agree : List ℕ → Bool → ℕ → ℕ → ℕ → Type 0
Agree edges closed u q b = xor (edge_bit edges u b) (edge_bit edges q b) ≡ cond closed (xor (eqb u b) (eqb q b)) false

module _ (edges : List ℕ) (u q : ℕ) where
  bits_of : (w j : ℕ) → j < 64 → bit_at (bit_xor (get_or edges (8 * u + w) 0) (get_or edges (8 * q + w) 0)) j ≡ xor (edge_bit edges u (64 * w + j)) (edge_bit edges q (64 * w + j))
  bits_of w j l = bit_xor_lem (get_or edges (8 * u + w) 0) (get_or edges (8 * q + w) 0) j ∙ ap₂ xor (sym (word-bit edges u w j l)) (sym (word-bit edges q w j l))

  pub alike_bits : (c : Bool) → alike edges c u q ≡ true → (b : ℕ) → b < max_nodes → Agree edges c u q b
  unfolding alike
  alike_bits c h b l =
      let s : 64 * (b / 64) + b % 64 ≡ b = omega arith in
      rw s at (sym (bits_of (b / 64) (b % 64) (omega arith)) ∙ ap (λ (y : ℕ). bit_at y (b % 64)) (meets_words c u q edges h (b / 64) (omega arith)) ∙ own_bits_lem c u q (b / 64) (b % 64) (omega arith))

  pub bits_alike : Words edges → (c : Bool) → ((b : ℕ) → b < max_nodes → Agree edges c u q b) → alike edges c u q ≡ true
  unfolding alike
  bits_alike words c h =
      meets_by c u q edges
      (λ w l. words_eq (bit_xor (get_or edges (8 * u + w) 0) (get_or edges (8 * q + w) 0)) (own_bits c u q w)
      (xor_lt 64 (get_or edges (8 * u + w) 0) (get_or edges (8 * q + w) 0) (words (8 * u + w)) (words (8 * q + w)))
      (own_bits-lt c u q w)
      (λ j k. bits_of w j k ∙ h (64 * w + j) (omega arith) ∙ sym (own_bits_lem c u q w j k)))
