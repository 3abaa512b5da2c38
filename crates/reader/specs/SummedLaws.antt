-- The sums of cubes after few superedges are those of the rows.
use Rattle.std.specs.Prelude.{◌≡◌, Bool, true, cond, List, ℕ, zero, suc, ◌+◌, ◌*◌, ◌%◌, ◌^◌, ◌<◌, length, get_or, replicate}
use Rattle.std.proofs.Math.Path.{refl}
use Rattle.std.proofs.Common.{sym, ap, ap₂, ◌∙◌, arith}
use Rattle.model.specs.Graph.{max_nodes}
use Rattle.model.specs.Tables.{edge_bit}
use Rattle.model.specs.InOrder.{follows, pair_key, superedges_fit}
use Rattle.model.proofs.TestLaws.{and_true}
use Rattle.drawing.specs.BitLaws.{added_only}
use Rattle.keys.specs.TotalLaws.{total_cong}
use Rattle.sums.specs.Joined.{chosen_cubes, own_cubes}
use Rattle.sums.specs.Sums.{Cubed, NoneJoined}
use Rattle.reader.specs.AddedLaws.{added_drawn}
use Rattle.reader.specs.Decoding.{FirstsAscend, FirstsPlaced, JoinedRead, SuperedgesRead, added_by, drawn_by, pairs_to}
use Rattle.reader.specs.SuperedgeLaws.{here_or_not, stop_pair, stops_empty}

-- superedges are read in order
pairs_fit : (g : ℕ) (s : List ℕ) (k last at : ℕ) → superedges_fit g last (pairs_to g s last k at) ≡ true
unfolding superedges_fit
pairs_fit g s zero last at = unfold pairs_to in refl
pairs_fit g s (suc k) last at =
    here_or_not s at (follows g last)
    (λ i j e t. ap (superedges_fit g last) (stop_pair g s last at k i j e t) ∙ and_true t (pairs_fit g s k (pair_key i j) (at + 6)))
    (λ none. ap (superedges_fit g last) (stops_empty g s last at (suc k) none))

-- few superedges, read after the groups' own cubes were added up
pub both_read : (n g : ℕ) (s : List ℕ) (from : ℕ) (least firsts joined₀ joined sums₀ sums : List ℕ) (r : ℕ)
    → joined₀ ≡ replicate (length joined₀) 0 → FirstsPlaced g (length joined₀) firsts → FirstsAscend n g firsts → Cubed n least sums₀ × NoneJoined sums₀
    → SuperedgesRead g true s from firsts joined₀ joined sums₀ sums r → JoinedRead n g s from least firsts joined₀ joined sums r
both_read n g s from least firsts joined₀ joined sums₀ sums r blank placed up began read = record {
  place = read.place;
  drawn = read.drawn;
  size = sized;
  cubed = λ t. record { size = sized; own = λ l h. read.summed.own l ∙ began.0.own l h };
  summed = λ t. record { size = sized; near = near };
}
  where
    pairs : List (ℕ × ℕ)
    pairs = pairs_to g s 0 (length s) from

    sized : length sums ≡ 2 * max_nodes
    sized = read.summed.size ∙ began.0.size

    rows : (l : ℕ) → chosen_cubes (drawn_by true firsts pairs l) sums₀ ≡ chosen_cubes (edge_bit joined l) sums
    rows l =
        total_cong 512 (λ b. cond (drawn_by true firsts pairs l b) (own_cubes sums₀ b) 0) (λ b. cond (edge_bit joined l b) (own_cubes sums b) 0)
        (λ b h. ap₂ (λ (x : Bool) (y : ℕ). cond x y 0) (sym (added_only joined₀ blank read.drawn l b h)) (sym (read.summed.own b)))

    near : (l : ℕ) → l < max_nodes → get_or sums l 0 ≡ chosen_cubes (edge_bit joined l) sums % 2 ^ 32
    near l h =
        let zero : get_or sums₀ l 0 ≡ 0 = began.1.near l h in
        let all : added_by true firsts sums₀ pairs l ≡ chosen_cubes (edge_bit joined l) sums = added_drawn g firsts sums₀ placed.small up.order 0 pairs (pairs_fit g s (length s) 0 from) l ∙ rows l in
        omega (arith, zero, all, read.summed.near l h (omega arith))
