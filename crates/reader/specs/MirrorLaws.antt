-- Laws of superedges drawn one way, then mirrored.
use Rattle.std.specs.Prelude.{◌≡◌, refl, Bool, ◌&&◌, ◌||◌, ◌⊎◌, ℕ, zero, suc, ◌+◌, ◌*◌, ◌%◌, ◌≤◌, ◌<◌, ltb, length, get_or, drop, replicate, Some}
use Rattle.std.proofs.Common.{sym, ap, ap₂, ◌∙◌, inl, inr, arith}
use Rattle.std.proofs.Math.Bool.{true, false, and_comm, or-false}
use mathlib.Core.List.{List, [], ◌∷◌}
use Rattle.std.proofs.Math.Dec.{eqb}
use Rattle.std.proofs.lemmas.List.{length-replicate}
use Rattle.std.proofs.Math.ListN.{get_or-eq_default}
use borrow.Author.Tests.{eqb-true, ltb-false, ltb-true}
use Rattle.model.specs.Graph.{max_nodes, row_words}
use Rattle.model.specs.Tables.{bit_at, edge_bit}
use Rattle.model.specs.InOrder.{follows, pair_key}
use Rattle.model.proofs.TestLaws.{and_fst, and_snd, decide, differ, or_cases}
use Rattle.records.specs.declared.Record.TheVariants.{Superedge}
use Rattle.records.specs.Records.{item_in}
use Rattle.drawing.specs.Drawing.{one_bit, pair_bits}
use Rattle.drawing.specs.BitLaws.{added_only, blank_bit, no_bits}
use Rattle.mirroring.specs.Mirroring.{StripsFor, Lower, Mirrored}
use Rattle.reader.specs.Decoding.{FirstsAscend, JoinedRead, SuperedgesRead, drawn_by, is_few, pairs_to}
use Rattle.reader.specs.SuperedgeLaws.{here_or_not, ordered_first, ordered_second, refuted, stop_pair, stops_empty}

-- sums before anything is added
pub sums_size : (t : List ℕ) → t ≡ replicate (2 * max_nodes) 0 → length t ≡ 2 * max_nodes
sums_size t e = ap length e ∙ length-replicate {A = ℕ} (2 * max_nodes) 0

-- no row stands beyond those of all nodes
row_beyond : (t : List ℕ) (a b : ℕ) → length t ≤ row_words * max_nodes → max_nodes ≤ a → edge_bit t a b ≡ false
unfolding edge_bit
row_beyond t a b size h = ap (λ (w : ℕ). bit_at w (b % 64)) (get_or-eq_default t 0 (omega arith)) ∙ blank_bit 0 0 (b % 64)

-- both bits of a pair are one and its mirror
drawn_both : (firsts : List ℕ) (xs : List (ℕ × ℕ)) (a b : ℕ) → drawn_by true firsts xs a b ≡ (drawn_by false firsts xs a b || drawn_by false firsts xs b a)
unfolding drawn_by
drawn_both firsts [] a b = refl
drawn_both firsts (x ∷ xs) a b = pair (get_or firsts x.0 0) (get_or firsts x.1 0) (drawn_by true firsts xs a b) (drawn_by false firsts xs a b) (drawn_by false firsts xs b a) (drawn_both firsts xs a b)
  where
    each : (u v d f g : Bool) → d ≡ (f || g) → ((u || v) || d) ≡ (((u || false) || f) || ((v || false) || g))
    each true v d f g e = refl
    each false true d true g e = refl
    each false true d false g e = refl
    each false false d f g e = e

    pair : (p q : ℕ) (d f g : Bool) → d ≡ (f || g) → (pair_bits true p q a b || d) ≡ ((pair_bits false p q a b || f) || (pair_bits false p q b a || g))
    pair p q d f g e = unfold pair_bits one_bit in rw (and_comm (eqb b q) (eqb a p)) (each (eqb a q && eqb b p) (eqb a p && eqb b q) d f g e)

-- drawn one way, a bit stands in the row of the later first member
drawn_lower : (n g : ℕ) (s firsts : List ℕ) → FirstsAscend n g firsts → (k last at a b : ℕ) → drawn_by false firsts (pairs_to g s last k at) a b ≡ true → (b < a) × (a < n)
drawn_lower n g s firsts up zero last at a b t = differ t (unfold pairs_to drawn_by in refl)
drawn_lower n g s firsts up (suc k) last at a b t =
    here_or_not s at (follows g last)
    (λ i j e f. goes i j e f (drawn_lower n g s firsts up k (pair_key i j) (at + 6) a b))
    (λ none. differ t (ap (λ (l : List (ℕ × ℕ)). drawn_by false firsts l a b) (stops_empty g s last at (suc k) none) ∙ (unfold drawn_by in refl)))
  where
    one : (i j : ℕ) → follows g last i j ≡ true → pair_bits false (get_or firsts i 0) (get_or firsts j 0) a b ≡ true → (b < a) × (a < n)
    one i j f u =
        let v : (eqb a (get_or firsts j 0) && eqb b (get_or firsts i 0)) ≡ true = unfold pair_bits one_bit in (sym (or-false (eqb a (get_or firsts j 0) && eqb b (get_or firsts i 0))) ∙ u) in
        let x = eqb-true a (get_or firsts j 0) (and_fst (eqb a (get_or firsts j 0)) (eqb b (get_or firsts i 0)) v) in
        let y = eqb-true b (get_or firsts i 0) (and_snd (eqb a (get_or firsts j 0)) (eqb b (get_or firsts i 0)) v) in
        (omega (arith, up.order i j (ordered_first g last i j f) (ordered_second g last i j f)), omega (arith, up.small j (ordered_second g last i j f)))

    goes : (i j : ℕ) → item_in (drop at s) ≡ Some (Superedge i j) → follows g last i j ≡ true → (drawn_by false firsts (pairs_to g s (pair_key i j) k (at + 6)) a b ≡ true → (b < a) × (a < n)) → (b < a) × (a < n)
    goes i j e f rest = by (or_cases (pair_bits false (get_or firsts i 0) (get_or firsts j 0) a b) (drawn_by false firsts (pairs_to g s (pair_key i j) k (at + 6)) a b) here)
      where
        here : (pair_bits false (get_or firsts i 0) (get_or firsts j 0) a b || drawn_by false firsts (pairs_to g s (pair_key i j) k (at + 6)) a b) ≡ true
        here = unfold drawn_by in (sym (ap (λ (l : List (ℕ × ℕ)). drawn_by false firsts l a b) (stop_pair g s last at k i j e f)) ∙ t)

        by : (pair_bits false (get_or firsts i 0) (get_or firsts j 0) a b ≡ true) ⊎ (drawn_by false firsts (pairs_to g s (pair_key i j) k (at + 6)) a b ≡ true) → (b < a) × (a < n)
        by (inl u) = one i j f u
        by (inr u) = rest u

-- superedges read into a table without bits, one way, then mirrored
module _ (n g : ℕ) (s : List ℕ) (from : ℕ) (firsts joined₀ joined sums₀ sums : List ℕ) (r : ℕ) (blank : joined₀ ≡ replicate (length joined₀) 0) (room : StripsFor n (length joined₀))
    (up : FirstsAscend n g firsts) (read : SuperedgesRead g false s from firsts joined₀ joined sums₀ sums r) where
  pub one_way : Lower n joined
  one_way = record { size = rw read.drawn.size room; below = λ a b l t. drawn_lower n g s firsts up (length s) 0 from a b (sym (added_only joined₀ blank read.drawn a b l) ∙ t) }

  pub both_ways : (least after : List ℕ) → n ≤ max_nodes → sums₀ ≡ replicate (2 * max_nodes) 0 → is_few (length s) n ≡ false → Mirrored joined after
      → JoinedRead n g s from least firsts joined₀ after sums r
  both_ways least after small none-summed many m = record {
    place = read.place;
    drawn = record {
      size = m.size ∙ read.drawn.size;
      bits = λ a b l. bit a b l (decide (ltb a max_nodes)) ∙ sym (ap (λ (x : Bool). x || drawn_by true firsts (pairs_to g s 0 (length s) from) a b) (no_bits joined₀ blank a b));
    };
    size = read.summed.size ∙ sums_size sums₀ none-summed;
    cubed = λ t. differ t many;
    summed = λ t. differ t many;
  }
    where
      pairs : List (ℕ × ℕ)
      pairs = pairs_to g s 0 (length s) from

      lower : (a b : ℕ) → drawn_by false firsts pairs a b ≡ true → (b < a) × (a < n)
      lower a b t = drawn_lower n g s firsts up (length s) 0 from a b t

      none : (a b : ℕ) → b < max_nodes → max_nodes ≤ a → drawn_by true firsts pairs a b ≡ false
      none a b l h = refuted (drawn_by true firsts pairs a b) (λ t. by (or_cases (drawn_by false firsts pairs a b) (drawn_by false firsts pairs b a) (sym (drawn_both firsts pairs a b) ∙ t)))
        where
          by : (drawn_by false firsts pairs a b ≡ true) ⊎ (drawn_by false firsts pairs b a ≡ true) → ⊥
          by (inl u) = omega (arith, (lower a b u).1)
          by (inr u) = omega (arith, (lower b a u).0)

      bit : (a b : ℕ) → b < max_nodes → (ltb a max_nodes ≡ true) ⊎ (ltb a max_nodes ≡ false) → edge_bit after a b ≡ drawn_by true firsts pairs a b
      bit a b l (inl h) = let k = ltb-true a max_nodes h in m.bits a b k l ∙ ap₂ (λ (x y : Bool). x || y) (added_only joined₀ blank read.drawn a b l) (added_only joined₀ blank read.drawn b a k) ∙ sym (drawn_both firsts pairs a b)
      bit a b l (inr h) = let k = ltb-false a max_nodes h in row_beyond after a b (omega (arith, m.size, one_way.size.most)) k ∙ sym (none a b l k)
