-- Rows of first members spread over the members of their groups.
use Rattle.std.specs.Prelude.{◌≡◌, Bool, true, false, ◌&&◌, ◌||◌, ◌⊎◌, ℕ, ◌+◌, ◌*◌, ◌-◌, ◌/◌, ◌%◌, ◌^◌, ◌≤◌, ◌<◌, max, min, ltb, drop, get_or, length, take}
use Rattle.std.proofs.Common.{sym, ◌∙◌, inl, inr}
use Rattle.std.proofs.Math.Path.{ap}
use Rattle.std.proofs.Math.Bool.{not, cond, and-false, or-false}
use mathlib.Core.List.{List}
use native.Mathlib.Omega.{arith}
use Rattle.std.specs.Int.Bits.{bit_or}
use Rattle.std.proofs.Math.Dec.{eqb}
use mir.Val.{bool_byte}
use borrow.Author.Tests.{eqb-false, eqb-true, eq-eqb, le-ltb, lt-ltb, ltb-true, ne_eqb}
use Rattle.model.specs.Tables.{bit_at, edge_bit}
use Rattle.model.proofs.TestLaws.{and_fst, and_one, decide, differ, iff_eq}
use Rattle.rows.specs.BitLaws.{bit_pow, bit_zero, bool_number, one_shl, row-bit}
use Rattle.rows.specs.Rows.{Flipped}
use Rattle.compressed.specs.Compressed.{Compressed, placed, unfolded, unfolded_edge}
use Rattle.drawing.specs.Drawing.{Added, one_bit}
use Rattle.drawing.specs.BitLaws.{bit_or_lem}
use Rattle.unfolding.specs.Unfolding.{FirstsFit, NeighbourRow, Spread, SpreadBut, SpreadWord, join_bit, reached}

-- the bit of one first member
pub join_none : (row : List ℕ) (l : ℕ) {b : Bool} → b ≡ false → (l ≡ 65535) → b ≡ join_bit row l
unfolding join_bit
join_none row l z e = rw (eq-eqb l 65535 e) z

pub join_some : (row : List ℕ) (l : ℕ) {x : ℕ} {b : Bool} → x ≡ l → (l ≡ 65535 → ⊥) → b ≡ edge_bit row 0 x → b ≡ join_bit row l
unfolding join_bit
join_some row l e d h = rw (ne_eqb l 65535 d, h, e)

-- a node is reached among n and among m, if it is below both or neither
module _ (first : List ℕ) (P : ℕ → Bool) where
  reached-as : (n m b : ℕ) → ltb b n ≡ ltb b m → reached n first P b ≡ reached m first P b
  unfolding reached placed
  reached-as n m b e = rw e

  reached-no : (n b : ℕ) → n ≤ b → reached n first P b ≡ false
  unfolding reached placed
  reached-no n b h = rw (le-ltb b n h)

  reached-last : (q : ℕ) → reached (q + 1) first P q ≡ (not (eqb (get_or first q 0) 65535) && P (get_or first q 0))
  unfolding reached placed
  reached-last q = rw (lt-ltb q (q + 1) (omega arith))

same_below : (b n m : ℕ) → (b < n → b < m) → (b < m → b < n) → ltb b n ≡ ltb b m
same_below b n m f g = iff_eq (ltb b n) (ltb b m) (λ t. lt-ltb b m (f (ltb-true b n t))) (λ t. lt-ltb b n (g (ltb-true b m t)))

-- a bit shifted to its place
bit_shl : (b : Bool) (k j : ℕ) → k < 64 → bit_at (cond b 1 0 * 2 ^ k % 18446744073709551616) j ≡ (b && eqb j k)
bit_shl true k j h = rw (one_shl k h) (bit_pow j k)
bit_shl false k j h = let z : 0 * 2 ^ k % 18446744073709551616 ≡ 0 = omega arith in rw z (bit_zero j)

-- a word, node after node
pub word_none : (w : ℕ) (first : List ℕ) (P : ℕ → Bool) → SpreadWord w (64 * w) first P 0
word_none w first P = record { bits = λ k h. bit_zero k ∙ sym (reached-no first P (64 * w) (64 * w + k) (omega arith)) }

pub spread_more : {w q : ℕ} {first : List ℕ} (row : List ℕ) {x : ℕ} → SpreadWord w q first (edge_bit row 0) x → 64 * w ≤ q → q < 64 * w + 64
    → {b : Bool} {k : ℕ} → b ≡ join_bit row (get_or first q 0) → k ≡ q % 64
    → SpreadWord w (q + 1) first (edge_bit row 0) (bit_or x (bool_byte b * 2 ^ k % 18446744073709551616))
unfolding join_bit
spread_more {w} {q} {first} row {x} s a b {b = t} {k} e f = record {
  bits =
      λ j h.
      bit_or_lem x (bool_byte t * 2 ^ k % 18446744073709551616) j
      ∙ rw (e, bool_number (join_bit row (get_or first q 0)), s.bits j h, bit_shl (join_bit row (get_or first q 0)) k j (omega arith)) (step j h (decide (eqb j k)));
}
  where
    step : (j : ℕ) → j < 64 → (eqb j k ≡ true) ⊎ (eqb j k ≡ false)
        → (reached q first (edge_bit row 0) (64 * w + j) || (join_bit row (get_or first q 0) && eqb j k)) ≡ reached (q + 1) first (edge_bit row 0) (64 * w + j)
    step j h (inl t) =
        let z : 64 * w + j ≡ q = omega (arith, eqb-true j k t) in
        rw (t, z, reached-no first (edge_bit row 0) q q (omega arith)) (and_one (join_bit row (get_or first q 0)) ∙ sym (reached-last first (edge_bit row 0) q))
    step j h (inr t) =
        let d : j ≡ k → ⊥ = eqb-false j k t in
        rw (t, and-false (join_bit row (get_or first q 0)), or-false (reached q first (edge_bit row 0) (64 * w + j)))
        (reached-as first (edge_bit row 0) q (q + 1) (64 * w + j) (same_below (64 * w + j) q (q + 1) (λ l. omega arith) (λ l. omega arith)))

pub spread_done : {w q n : ℕ} {first : List ℕ} {P : ℕ → Bool} {x : ℕ} → SpreadWord w q first P x → 64 * w ≤ q → q ≤ max (64 * w) (min n (64 * w + 64)) → min n (64 * w + 64) ≤ q
    → SpreadWord w n first P x
spread_done {w} {q} {n} {first} {P} s a b c = record { bits = λ k h. s.bits k h ∙ reached-as first P q n (64 * w + k) (same_below (64 * w + k) q n (λ l. omega arith) (λ l. omega arith)) }

-- a row, word after word
pub spread_words : {n : ℕ} {first : List ℕ} {P : ℕ → Bool} {all : List ℕ} → length all ≡ 8 → ((i : ℕ) → i < 8 → SpreadWord i n first P (get_or all i 0)) → Spread n first P all
unfolding edge_bit
spread_words {n} {first} {P} {all} size words = record { size = size; bits = bits }
  where
    bits : (q : ℕ) → q < 512 → bit_at (get_or all (8 * 0 + q / 64) 0) (q % 64) ≡ reached n first P q
    bits q l =
        let y : 8 * 0 + q / 64 ≡ q / 64 = omega arith in
        let z : 64 * (q / 64) + q % 64 ≡ q = omega arith in
        rw y ((words (q / 64) (omega arith)).bits (q % 64) (omega arith) ∙ ap (reached n first P) z)

-- chosen alike, reached alike
module _ (n : ℕ) (first : List ℕ) (P Q : ℕ → Bool) (fits : FirstsFit n first) (same : (x : ℕ) → x < 512 → P x ≡ Q x) where
  pub reached_cong : (q : ℕ) → reached n first P q ≡ reached n first Q q
  unfolding reached placed
  reached_cong q = step (decide (ltb q n)) (decide (eqb (get_or first q 0) 65535))
    where
      step : (ltb q n ≡ true) ⊎ (ltb q n ≡ false) → (eqb (get_or first q 0) 65535 ≡ true) ⊎ (eqb (get_or first q 0) 65535 ≡ false)
          → ((ltb q n && not (eqb (get_or first q 0) 65535)) && P (get_or first q 0)) ≡ ((ltb q n && not (eqb (get_or first q 0) 65535)) && Q (get_or first q 0))
      step (inl t) (inl s) = rw (t, s)
      step (inl t) (inr s) = rw (t, s) (same (get_or first q 0) (fits q (ltb-true q n t) (eqb-false (get_or first q 0) 65535 s)))
      step (inr t) s = rw t

-- a clique's own first member put in, and p's bit taken the other way
pub spread_but : (n p l : ℕ) {first row own all after : List ℕ} → FirstsFit n first → Added (one_bit 0 l) row own → Spread n first (edge_bit own 0) all → Flipped 0 p all after → SpreadBut p n first (λ x. edge_bit row 0 x || eqb l x) after
unfolding one_bit
spread_but n p l {first} {row} {own} {all} fits o s g =
    record { bits = λ q k. g.bits 0 q k ∙ ap (λ (z : Bool). cond (eqb q p) (not z) z) (s.bits q k ∙ reached_cong n first (edge_bit own 0) (λ x. edge_bit row 0 x || eqb l x) fits owned q) }
  where
    owned : (x : ℕ) → x < 512 → edge_bit own 0 x ≡ (edge_bit row 0 x || eqb l x)
    owned x m = o.bits 0 x m ∙ ap (λ (z : Bool). edge_bit row 0 x || z) (iff_eq (eqb x l) (eqb l x) (λ e. eq-eqb l x (sym (eqb-true x l e))) (λ e. eq-eqb x l (sym (eqb-true l x e))))

-- the graph that arrays unfold to
module _ {n : ℕ} {first kinds joined : List ℕ} (c : Compressed n first kinds joined) where
  pub fitting : FirstsFit n first
  unfolding placed
  fitting q l d = let t = c.before q (rw (lt-ltb q n l, ne_eqb (get_or first q 0) 65535 d)) in omega (arith, c.small)

  module _ (p : ℕ) (h : placed n first p ≡ true) where
    pub placed_first : (p < n) × (get_or first p 0 < n) × (get_or first p 0 ≤ p)
    unfolding placed
    placed_first =
        let l : p < n = ltb-true p n (and_fst (ltb p n) (not (eqb (get_or first p 0) 65535)) h) in
        let b = c.before p h in
        (l, omega arith, b)

    own-edge : (q : ℕ) → q < 512 → get_or first q 0 ≡ get_or first p 0 → edge_bit joined (get_or first p 0) (get_or first q 0) ≡ false
    own-edge q l e = rw e (c.irreflexive (get_or first p 0) (omega (arith, placed_first.1, c.small)))

    -- in no clique the members of a group have no edges between them
    pub row_plain : {l : ℕ} {row all : List ℕ} → l ≡ get_or first p 0 → (get_or kinds l 0 ≡ 2 → ⊥) → row ≡ take (8 * l + 8 - 8 * l) (drop (8 * l) joined) → Spread n first (edge_bit row 0) all → NeighbourRow n first kinds joined p all
    unfolding reached unfolded unfolded_edge
    row_plain {l} {row} {all} e d r s = record { bits = λ q k. s.bits q k ∙ at q k (decide (placed n first q)) (decide (eqb (get_or first p 0) (get_or first q 0))) }
      where
        at : (q : ℕ) → q < 512 → (placed n first q ≡ true) ⊎ (placed n first q ≡ false) → (eqb (get_or first p 0) (get_or first q 0) ≡ true) ⊎ (eqb (get_or first p 0) (get_or first q 0) ≡ false)
            → (placed n first q && edge_bit row 0 (get_or first q 0))
            ≡ (placed n first p && (placed n first q && cond (eqb (get_or first p 0) (get_or first q 0)) (eqb (get_or kinds (get_or first p 0) 0) 2 && not (eqb p q)) (edge_bit joined (get_or first p 0) (get_or first q 0))))
        at q k (inr t) z = rw (t, h)
        at q k (inl t) z = rw (t, h, bit) (cases z)
          where
            bit : edge_bit row 0 (get_or first q 0) ≡ edge_bit joined (get_or first p 0) (get_or first q 0)
            bit = ap (λ (x : List ℕ). edge_bit x 0 (get_or first q 0)) r ∙ row-bit joined l (get_or first q 0) (omega (arith, c.before q t)) ∙ ap (λ (x : ℕ). edge_bit joined x (get_or first q 0)) e

            cases : (eqb (get_or first p 0) (get_or first q 0) ≡ true) ⊎ (eqb (get_or first p 0) (get_or first q 0) ≡ false)
                → edge_bit joined (get_or first p 0) (get_or first q 0) ≡ cond (eqb (get_or first p 0) (get_or first q 0)) (eqb (get_or kinds (get_or first p 0) 0) 2 && not (eqb p q)) (edge_bit joined (get_or first p 0) (get_or first q 0))
            cases (inl y) = rw (y, ne_eqb (get_or kinds (get_or first p 0) 0) 2 (λ i. d (ap (λ (x : ℕ). get_or kinds x 0) e ∙ i))) (own-edge q k (sym (eqb-true (get_or first p 0) (get_or first q 0) y)))
            cases (inr y) = rw y

    -- in a clique all do
    pub row-clique : {l : ℕ} {row all : List ℕ} → l ≡ get_or first p 0 → get_or kinds l 0 ≡ 2 → row ≡ take (8 * l + 8 - 8 * l) (drop (8 * l) joined) → SpreadBut p n first (λ x. edge_bit row 0 x || eqb l x) all
        → NeighbourRow n first kinds joined p all
    unfolding reached unfolded unfolded_edge
    row-clique {l} {row} {all} e d r s = record { bits = λ q k. s.bits q k ∙ at q k (decide (placed n first q)) (decide (eqb (get_or first p 0) (get_or first q 0))) (decide (eqb q p)) }
      where
        flat : (q : ℕ) → edge_bit row 0 (get_or first q 0) ≡ edge_bit joined (get_or first p 0) (get_or first q 0) → (placed n first q && (edge_bit row 0 (get_or first q 0) || eqb l (get_or first q 0))) ≡ (placed n first q && (edge_bit joined (get_or first p 0) (get_or first q 0) || eqb (get_or first p 0) (get_or first q 0)))
        flat q b = rw (b, e)

        Goal : ℕ → Type 0
        Goal q =
            cond (eqb q p) (not (placed n first q && (edge_bit row 0 (get_or first q 0) || eqb l (get_or first q 0)))) (placed n first q && (edge_bit row 0 (get_or first q 0) || eqb l (get_or first q 0)))
            ≡ (placed n first p && (placed n first q && cond (eqb (get_or first p 0) (get_or first q 0)) (eqb (get_or kinds (get_or first p 0) 0) 2 && not (eqb p q)) (edge_bit joined (get_or first p 0) (get_or first q 0))))

        bit : (q : ℕ) → q < 512 → placed n first q ≡ true → edge_bit row 0 (get_or first q 0) ≡ edge_bit joined (get_or first p 0) (get_or first q 0)
        bit q k t = ap (λ (x : List ℕ). edge_bit x 0 (get_or first q 0)) r ∙ row-bit joined l (get_or first q 0) (omega (arith, c.before q t)) ∙ ap (λ (x : ℕ). edge_bit joined x (get_or first q 0)) e

        kind : eqb (get_or kinds (get_or first p 0) 0) 2 ≡ true
        kind = eq-eqb (get_or kinds (get_or first p 0) 0) 2 (ap (λ (x : ℕ). get_or kinds x 0) (sym e) ∙ d)

        at : (q : ℕ) → q < 512 → (placed n first q ≡ true) ⊎ (placed n first q ≡ false) → (eqb (get_or first p 0) (get_or first q 0) ≡ true) ⊎ (eqb (get_or first p 0) (get_or first q 0) ≡ false) → (eqb q p ≡ true) ⊎ (eqb q p ≡ false) → Goal q
        at q k (inr t) z (inl y) = differ (ap (placed n first) (eqb-true q p y) ∙ h) t
        at q k (inr t) z (inr y) = rw (t, h, y)
        at q k (inl t) (inl z) (inl y) =
            let own = own-edge q k (sym (eqb-true (get_or first p 0) (get_or first q 0) z)) in
            rw (flat q (bit q k t), t, h, y, z, own, kind, eq-eqb p q (sym (eqb-true q p y)))
        at q k (inl t) (inl z) (inr y) =
            let own = own-edge q k (sym (eqb-true (get_or first p 0) (get_or first q 0) z)) in
            rw (flat q (bit q k t), t, h, y, z, own, kind, ne_eqb p q (λ i. eqb-false q p y (sym i)))
        at q k (inl t) (inr z) (inl y) = differ (eq-eqb (get_or first p 0) (get_or first q 0) (ap (λ (x : ℕ). get_or first x 0) (sym (eqb-true q p y)))) z
        at q k (inl t) (inr z) (inr y) = rw (flat q (bit q k t), t, h, y, z) (or-false (edge_bit joined (get_or first p 0) (get_or first q 0)))
