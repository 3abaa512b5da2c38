-- The rows of those who lead, summed word by word.
use Rattle.std.specs.Prelude.{◌≡◌, ℕ, suc, ◌+◌, ◌*◌, ◌%◌, ◌^◌, ◌<◌, ◌≤◌, List, length, replicate, slice_index, slice_set, refl}
use Rattle.std.proofs.Common.{sym, ap, ◌∙◌, subst, mul-le-mul_left, arith, length-set, get_or-set_other, get_or-set_same}
use Rattle.std.proofs.Math.Decide.{ℕ_discrete}
use Rattle.std.proofs.lemmas.List.{get_or-replicate, length-replicate}
use Rattle.model.specs.Graph.{max_nodes}
use Rattle.buffers.specs.StoreLaws.{stored, stored-size}
use Rattle.keys.specs.KeySums.{AllLead, LeadersSummed, WordAdded, row_cubes, word_cubes}

-- amid word w: the totals of the nodes below p have it, those of the others lack it
pub record Amid (n stride : ℕ) (lst edges : List ℕ) (w p : ℕ) (totals : List ℕ) : Type 0 where
  pub size : length totals ≡ max_nodes
  pub ahead : (q : ℕ) → q < p → slice_index lst (stride * q) ≡ q → slice_index totals q ≡ row_cubes edges q (w + 1) % 2 ^ 32
  pub behind : (q : ℕ) → p ≤ q → q < n → slice_index lst (stride * q) ≡ q → slice_index totals q ≡ row_cubes edges q w % 2 ^ 32

row_more : (edges : List ℕ) (p w t r : ℕ) → t ≡ row_cubes edges p w % 2 ^ 32 → r ≡ (t + word_cubes w (slice_index edges (8 * p + w)) 64) % 2 ^ 32 → r ≡ row_cubes edges p (w + 1) % 2 ^ 32
unfolding row_cubes
row_more edges p w t r e f = let s : w + 1 ≡ suc w = omega arith in rw s (omega arith)

pub amid_more : {n stride w p : ℕ} {lst edges t after : List ℕ} → Amid n stride lst edges w p t → p < n → WordAdded stride lst edges w p t after → Amid n stride lst edges w (p + 1) after
amid_more {n} {stride} {w} {p} {lst} {edges} {t} {after} h hp a = record {
  size = a.size ∙ h.size;
  ahead = λ q l e. step q l e (ℕ_discrete q p);
  behind = λ q l m e. a.others q (λ z. omega arith) ∙ h.behind q (omega arith) m e;
}
  where
    step : (q : ℕ) → q < p + 1 → slice_index lst (stride * q) ≡ q → Dec (q ≡ p) → slice_index after q ≡ row_cubes edges q (w + 1) % 2 ^ 32
    step q l e (yes z) = rw z (row_more edges p w (slice_index t p) (slice_index after p) (h.behind p (omega arith) hp (rw z at e)) (a.own (rw z at e)))
    step q l e (no d) = a.others q d ∙ h.ahead q (omega arith) e

-- no word yet
pub zeros_length : {t : List ℕ} → t ≡ replicate max_nodes 0 → length t ≡ max_nodes
zeros_length e = ap length e ∙ length-replicate {A = ℕ} 512 0

pub leaders_none : (n stride : ℕ) (lst edges totals : List ℕ) → n ≤ max_nodes → totals ≡ replicate max_nodes 0 → LeadersSummed n stride lst edges 0 totals
unfolding row_cubes
leaders_none n stride lst edges totals m e = record {
  size = zeros_length e;
  sums = λ p l h. ap (λ (s : List ℕ). slice_index s p) e ∙ get_or-replicate 512 p 0 0 (omega arith);
}

pub total_of : {n p w : ℕ} {lst edges t : List ℕ} → LeadersSummed n 1 lst edges w t → AllLead n lst → p < n → slice_index t p ≡ row_cubes edges p w % 2 ^ 32
total_of {n} {p} h a l = let e : 1 * p ≡ p = omega arith in h.sums p l (rw e (a.own p l))
