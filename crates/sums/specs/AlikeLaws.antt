-- Groups whose rows agree have equal sums.
use Rattle.std.specs.Prelude.{◌≡◌, ℕ, ◌+◌, ◌%◌, ◌^◌, ◌<◌, Bool, true, false, cond, List, ◌==◌, ◌≢◌, slice_index, refl}
use Rattle.std.proofs.Common.{sym, ap, ◌∙◌, arith, eq-eqb, ne_eqb}
use Rattle.std.proofs.Math.Bool.{xor}
use Rattle.model.specs.Graph.{max_nodes}
use Rattle.model.specs.Tables.{edge_bit}
use Rattle.rows.specs.BitLaws.{xor_off}
use Rattle.search.specs.TwinRowLaws.{xor_none, xor_swap}
use Rattle.keys.specs.TotalLaws.{total_set}
use Rattle.keys.specs.SumLaws.{weights_cong}
use Rattle.compressed.specs.Compressed.{alike}
use Rattle.compressed.specs.RowLaws.{alike_bits}
use Rattle.sums.specs.Joined.{JoinedSummed, chosen_cubes, own_cubes}

-- a row with its own bit
chosen_own : (f : ℕ → Bool) (sums : List ℕ) (p : ℕ) → p < max_nodes → f p ≡ false → chosen_cubes (λ b. xor (f b) (p == b)) sums ≡ own_cubes sums p + chosen_cubes f sums
unfolding xor
chosen_own f sums p h e = total_set 512 p (own_cubes sums p) (λ b. cond (xor (f b) (p == b)) (own_cubes sums b) 0) (λ b. cond (f b) (own_cubes sums b) 0) h own other
  where
    own : cond (xor (f p) (p == p)) (own_cubes sums p) 0 ≡ own_cubes sums p + cond (f p) (own_cubes sums p) 0
    own = rw (e, eq-eqb p p refl) (omega arith)

    other : (b : ℕ) → (b ≢ p) → cond (xor (f b) (p == b)) (own_cubes sums b) 0 ≡ cond (f b) (own_cubes sums b) 0
    other b d = ap (λ (x : Bool). cond x (own_cubes sums b) 0) (ap (xor (f b)) (ne_eqb p b (λ z. d (sym z))) ∙ xor_off (f b))

module _ {joined sums : List ℕ} (h : JoinedSummed joined sums) {u q : ℕ} (hu : u < max_nodes) (hq : q < max_nodes) where
  pub alike_open : alike joined false u q ≡ true → slice_index sums q ≡ slice_index sums u
  alike_open t =
      h.near q hq
      ∙ ap (λ (x : ℕ). x % 2 ^ 32) (weights_cong 512 (edge_bit joined q) (edge_bit joined u) (own_cubes sums) (λ b l. sym (xor_none (edge_bit joined u b) (edge_bit joined q b) (alike_bits joined u q false t b l))))
      ∙ sym (h.near u hu)

  pub alike-closed : ((p : ℕ) → p < max_nodes → edge_bit joined p p ≡ false) → alike joined true u q ≡ true → (slice_index sums q + own_cubes sums q) % 2 ^ 32 ≡ (slice_index sums u + own_cubes sums u) % 2 ^ 32
  alike-closed loops t = omega (arith, h.near q hq, h.near u hu, closed q hq, closed u hu, same)
    where
      closed : (p : ℕ) → p < max_nodes → chosen_cubes (λ b. xor (edge_bit joined p b) (p == b)) sums ≡ own_cubes sums p + chosen_cubes (edge_bit joined p) sums
      closed p l = chosen_own (edge_bit joined p) sums p l (loops p l)

      same : chosen_cubes (λ b. xor (edge_bit joined u b) (u == b)) sums ≡ chosen_cubes (λ b. xor (edge_bit joined q b) (q == b)) sums
      same =
          weights_cong 512 (λ b. xor (edge_bit joined u b) (u == b)) (λ b. xor (edge_bit joined q b) (q == b)) (own_cubes sums)
          (λ b l. xor_swap (edge_bit joined u b) (edge_bit joined q b) (u == b) (q == b) (alike_bits joined u q true t b l))
