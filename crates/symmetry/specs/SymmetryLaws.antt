-- Laws of symmetric edge tables.
use Rattle.std.specs.Prelude.{◌≡◌, refl, Bool, true, false, List, ◌⊎◌, ℕ, ◌+◌, ◌*◌, ◌/◌, ◌%◌, ◌^◌, ◌-◌, ◌≤◌, ◌<◌, eqb, ltb, length, get_or}
use Rattle.std.proofs.Common.{sym, ap₂, ◌∙◌, subst, inl, inr, div-le_self, arith, pow_mono, shr-shr, below_more, eqb-true, ltb-true, ltb-false}
use Rattle.std.proofs.Math.Path.{ap}
use Rattle.std.proofs.Math.Bool.{beq}
use Rattle.std.proofs.Math.Nat.{div-eq_of_lt, zero-div}
use Rattle.std.proofs.lemmas.Nat.{and_le_l, and_le_r, or_shr}
use Rattle.std.specs.Int.Bits.{bit_or, or_add_and}
use Rattle.std.proofs.Math.ListN.{get_or-eq_default}
use Rattle.std.proofs.lemmas.Bool.{eqb-false}
use Rattle.model.specs.Lists.{all, nodes}
use Rattle.model.specs.Graph.{row_words}
use Rattle.model.specs.Tables.{bit_at, edge_bit}
use Rattle.model.proofs.TestLaws.{beq_eq, decide, differ, eq_beq}
use Rattle.model.proofs.ListLaws.{all_elim, all_intro, nodes_in_lem, nodes_out}
use Rattle.rows.specs.BitLaws.{bit_zero, word-bit}
use Rattle.search.specs.TwinRowLaws.{words_eq}
use Rattle.symmetry.specs.Symmetry.{Even, Gathered, Inside, InsideTo, Tells, symmetric}

-- bits of a shifted word, and beyond a word
pub bit_shr : (x j c : ℕ) → bit_at (x / 2 ^ j) c ≡ bit_at x (j + c)
unfolding bit_at
bit_shr x j c = ap (λ (y : ℕ). eqb (y % 2) 1) (shr-shr x j c)

bit_beyond : (x c : ℕ) → x < 2 ^ 64 → 64 ≤ c → bit_at x c ≡ false
unfolding bit_at
bit_beyond x c h l = let b : x < 2 ^ c = omega (arith, pow_mono l) in ap (λ (y : ℕ). eqb (y % 2) 1) (div-eq_of_lt b)

module _ (edges : List ℕ) where
  pub symmetric-all : symmetric edges ≡ true → (p q : ℕ) → p < 512 → q < 512 → edge_bit edges p q ≡ edge_bit edges q p
  unfolding symmetric
  symmetric-all h p q hp hq =
      beq_eq (edge_bit edges p q) (edge_bit edges q p)
      (all_elim (nodes 512) (λ q. beq (edge_bit edges p q) (edge_bit edges q p))
      (all_elim (nodes 512) (λ p. all (nodes 512) (λ q. beq (edge_bit edges p q) (edge_bit edges q p))) h p (nodes_in_lem 512 p hp)) q (nodes_in_lem 512 q hq))

  pub all-symmetric : ((p q : ℕ) → p < 512 → q < 512 → edge_bit edges p q ≡ edge_bit edges q p) → symmetric edges ≡ true
  unfolding symmetric
  all-symmetric h = all_intro (nodes 512) _ (λ p m. all_intro (nodes 512) _ (λ q k. eq_beq (edge_bit edges p q) (edge_bit edges q p) (h p q (nodes_out 512 p m) (nodes_out 512 q k))))

  -- what refutes that a table is symmetric
  pub not-symmetric : (symmetric edges ≡ true → ⊥) → symmetric edges ≡ false
  not-symmetric h = step (decide (symmetric edges))
    where
      step : (symmetric edges ≡ true) ⊎ (symmetric edges ≡ false) → symmetric edges ≡ false
      step (inl t) = absurd (h t)
      step (inr t) = t

-- there are no bits in rows beyond the nodes
module _ (n : ℕ) (edges : List ℕ) (size : length edges ≡ row_words * n) where
  no_row : (p w : ℕ) → n ≤ p → get_or edges (8 * p + w) 0 ≡ 0
  no_row p w l = get_or-eq_default edges 0 {n = 8 * p + w} (omega arith)

  pub outside : (p q : ℕ) → n ≤ p → edge_bit edges p q ≡ false
  unfolding edge_bit
  outside p q l = ap (λ (x : ℕ). bit_at x (q % 64)) (no_row p (q / 64) l) ∙ bit_zero (q % 64)

  -- a word with no bit from bit k on, which every word is that stands for no node in a symmetric table
  word_below : (k w p : ℕ) → get_or edges (8 * p + w) 0 / 2 ^ k ≡ 0 → (c : ℕ) → k ≤ c → c < 64 → edge_bit edges p (64 * w + c) ≡ false
  word_below k w p z c l hc =
      let up : k + (c - k) ≡ c = omega arith in
      let x = get_or edges (8 * p + w) 0 in
      word-bit edges p w c hc
      ∙ ap (bit_at x) (sym up)
      ∙ sym (bit_shr x k (c - k))
      ∙ ap (λ (y : ℕ). bit_at y (c - k)) z
      ∙ bit_zero (c - k)

  word_inside : (k w p : ℕ) → symmetric edges ≡ true → p < n → n ≤ 512 → w < 8 → n ≤ 64 * w + k → get_or edges (8 * p + w) 0 < 2 ^ 64 → get_or edges (8 * p + w) 0 / 2 ^ k ≡ 0
  word_inside k w p t hp hn hw l small = words_eq (x / 2 ^ k) 0 (omega (arith, div-le_self x (2 ^ k))) (omega arith) (λ j hj. bit_shr x k j ∙ step j (decide (ltb (k + j) 64)) ∙ sym (bit_zero j))
    where
      x : ℕ
      x = get_or edges (8 * p + w) 0

      step : (j : ℕ) → (ltb (k + j) 64 ≡ true) ⊎ (ltb (k + j) 64 ≡ false) → bit_at x (k + j) ≡ false
      step j (inl s) =
          let b : k + j < 64 = ltb-true (k + j) 64 s in
          sym (word-bit edges p w (k + j) b)
          ∙ symmetric-all edges t p (64 * w + (k + j)) (omega arith) (omega arith)
          ∙ outside (64 * w + (k + j)) p (omega arith)
      step j (inr s) = bit_beyond x (k + j) small (ltb-false (k + j) 64 s)

  pub rows_tell : (k w : ℕ) {x : ℕ} → n ≤ 512 → w < 8 → n ≤ 64 * w + k → ((p : ℕ) → p < n → get_or edges (row_words * p + w) 0 < 2 ^ 64) → Gathered (λ p. get_or edges (row_words * p + w) 0) k n x
      → Tells ((p c : ℕ) → p < n → k ≤ c → c < 64 → edge_bit edges p (64 * w + c) ≡ false) edges (eqb (x / 2 ^ k) 0)
  rows_tell k w {x} hn hw l small h = record {
    holds = λ e p c hp a b. word_below k w p (h.each (eqb-true (x / 2 ^ k) 0 e) p hp) c a b;
    fails = λ e. not-symmetric edges (λ t. eqb-false (x / 2 ^ k) 0 e (h.none (λ p hp. word_inside k w p t hp hn hw l (small p hp))));
  }

  -- inside, and even strips: every bit has its mirror
  strips-symmetric : n ≤ 512 → Inside n edges → ((i : ℕ) → 64 * i < n → Even n edges i i ((n + 63) / 64)) → symmetric edges ≡ true
  strips-symmetric hn inside even = all-symmetric edges pairs
    where
      half : (p q : ℕ) → p < n → q < n → p / 64 ≤ q / 64 → edge_bit edges p q ≡ edge_bit edges q p
      half p q hp hq l = even (p / 64) (omega arith) p q hp hq refl l (omega arith)

      both : (p q : ℕ) → p < n → q < n → (ltb (q / 64) (p / 64) ≡ true) ⊎ (ltb (q / 64) (p / 64) ≡ false) → edge_bit edges p q ≡ edge_bit edges q p
      both p q hp hq (inl t) = sym (half q p hq hp (omega (arith, ltb-true (q / 64) (p / 64) t)))
      both p q hp hq (inr t) = half p q hp hq (ltb-false (q / 64) (p / 64) t)

      step : (p q : ℕ) → p < 512 → q < 512 → (ltb p n ≡ true) ⊎ (ltb p n ≡ false) → (ltb q n ≡ true) ⊎ (ltb q n ≡ false) → edge_bit edges p q ≡ edge_bit edges q p
      step p q hp hq (inl s) (inl t) = both p q (ltb-true p n s) (ltb-true q n t) (decide (ltb (q / 64) (p / 64)))
      step p q hp hq (inl s) (inr t) = inside p q (ltb-true p n s) hq (ltb-false q n t) ∙ sym (outside q p (ltb-false q n t))
      step p q hp hq (inr s) (inl t) = outside p q (ltb-false p n s) ∙ sym (inside q p (ltb-true q n t) hp (ltb-false p n s))
      step p q hp hq (inr s) (inr t) = outside p q (ltb-false p n s) ∙ sym (outside q p (ltb-false q n t))

      pairs : (p q : ℕ) → p < 512 → q < 512 → edge_bit edges p q ≡ edge_bit edges q p
      pairs p q hp hq = step p q hp hq (decide (ltb p n)) (decide (ltb q n))

  pub symmetric_by : n ≤ 512 → Inside n edges → (r : Bool) → Tells ((i : ℕ) → 64 * i < n → Even n edges i i ((n + 63) / 64)) edges r → r ≡ symmetric edges
  symmetric_by hn inside true h = sym (strips-symmetric hn inside (h.holds refl))
  symmetric_by hn inside false h = sym (h.fails refl)

-- word by word
pub inside_more : (n : ℕ) (edges : List ℕ) (w k : ℕ) → InsideTo n edges (64 * w) → ((q : ℕ) → n ≤ q → 64 * w ≤ q → 64 * w + k ≤ q)
    → ((p c : ℕ) → p < n → k ≤ c → c < 64 → edge_bit edges p (64 * w + c) ≡ false) → InsideTo n edges (64 * (w + 1))
inside_more n edges w k before from word p q hp u l = step (decide (ltb q (64 * w)))
  where
    step : (ltb q (64 * w) ≡ true) ⊎ (ltb q (64 * w) ≡ false) → edge_bit edges p q ≡ false
    step (inl t) = before p q hp (ltb-true q (64 * w) t) l
    step (inr t) =
        let b : 64 * w ≤ q = ltb-false q (64 * w) t in
        let e : 64 * w + (q - 64 * w) ≡ q = omega arith in
        ap (edge_bit edges p) (sym e) ∙ word p (q - 64 * w) hp (omega (arith, from q l b)) (omega arith)

-- words gathered, one after the other
union_none : (x y : ℕ) → bit_or x y ≡ 0 → (x ≡ 0) × (y ≡ 0)
union_none x y e = (omega (arith, or_add_and x y, and_le_r x y), omega (arith, or_add_and x y, and_le_l x y))

pub gathered_more : {f : ℕ → ℕ} {k m x : ℕ} → Gathered f k m x → Gathered f k (m + 1) (bit_or x (f m))
gathered_more {f} {k} {m} {x} h = record {
  each = λ e.
      let parts = union_none (x / 2 ^ k) (f m / 2 ^ k) (sym (or_shr x (f m) k) ∙ e) in
      below_more (λ r. f r / 2 ^ k ≡ 0) m (h.each parts.0) parts.1;
  none = λ s. or_shr x (f m) k ∙ ap₂ bit_or (h.none (λ r l. s r (omega arith))) (s m (omega arith));
}

pub gathered_all : {f : ℕ → ℕ} {k m n x : ℕ} → Gathered f k m x → m ≡ n → Gathered f k n x
gathered_all {f} {k} {x = x} h e = subst (λ (i : ℕ). Gathered f k i x) e h
