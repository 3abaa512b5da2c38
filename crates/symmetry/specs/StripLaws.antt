-- Laws of strips of 64 rows: eight rows at a time, and transposed in two passes.
use Rattle.std.specs.Prelude.{◌≡◌, refl, true, false, List, ◌⊎◌, ℕ, ◌+◌, ◌*◌, ◌-◌, ◌/◌, ◌%◌, ◌^◌, ◌≤◌, ◌<◌, eqb, ltb, length, get_or, set, drop, replicate, take, ◌++◌}
use Rattle.std.proofs.Common.{sym, ap, ap₂, ◌∙◌, subst, inl, inr, mul-le-mul_left, arith, length-append, length-drop, length-set, length-take, get_or-drop, get_or-set_other, get_or-set_same, get_or-take, below_more, eqb-true, ltb-true, ltb-false}
use Rattle.std.proofs.Math.Decide.{ℕ_discrete}
use Rattle.std.proofs.lemmas.Nat.{and_le_l, and_le_r}
use Rattle.std.specs.Int.Bits.{bit_xor, xor_add_and, xor_self}
use Rattle.std.proofs.Math.ListN.{get_or-eq_default}
use Rattle.std.proofs.lemmas.Bool.{eqb-false}
use Rattle.std.proofs.lemmas.List.{get_or-append_right, get_or_append_left}
use Rattle.model.specs.Graph.{row_words}
use Rattle.model.specs.Tables.{bit_at, edge_bit}
use Rattle.model.proofs.TestLaws.{decide}
use Rattle.buffers.specs.FilledLaws.{get_d_zeros}
use Rattle.rows.specs.BitLaws.{word-bit}
use Rattle.search.specs.TwinRowLaws.{words_eq}
use Rattle.symmetry.specs.Symmetry.{Across, EightPut, Even, Exchanged, Gathered, Exchanging, StripAt, Tells, Turned, with_digits, symmetric}
use Rattle.symmetry.specs.SymmetryLaws.{not-symmetric, symmetric-all}

-- eight words, so many words apart
pub within_eight : (step d : ℕ) → d < 8 → step * d ≤ step * 7
within_eight step d l = let u : d ≤ 7 = omega arith in mul-le-mul_left step u

-- put
pub put_none : (at step : ℕ) (x b : List ℕ) → EightPut at step 0 x b b
put_none at step x b = record { size = refl; put = λ d l. absurd (omega arith); others = λ q h. refl }

further : (step d m : ℕ) → 0 < step → d < m → step * d + step ≤ step * m
further step d m h l = omega (arith, mul-le-mul_left step l)

pub put_more : {at step m : ℕ} {x b now : List ℕ} → EightPut at step m x b now → 0 < step → at + step * m < length now → EightPut at step (m + 1) x b (set now (at + step * m) (get_or x m 0))
put_more {at} {step} {m} {x} {b} {now} h pos fits = record {
  size = length-set now (at + step * m) (get_or x m 0) ∙ h.size;
  put = below_more (λ d. get_or (set now (at + step * m) (get_or x m 0)) (at + step * d) 0 ≡ get_or x d 0) m
      (λ d l. get_or-set_other now (at + step * m) (at + step * d) (get_or x m 0) 0 (omega (arith, further step d m pos l)) ∙ h.put d l)
      (get_or-set_same now (at + step * m) (get_or x m 0) 0 fits);
  others = λ q k. get_or-set_other now (at + step * m) q (get_or x m 0) 0 (k m (omega arith)) ∙ h.others q (λ d l. k d (omega arith));
}

pub put_all : {at step m : ℕ} {x b after : List ℕ} → EightPut at step m x b after → m ≡ 8 → EightPut at step 8 x b after
put_all {at} {step} {m} {x} {b} {after} h e = subst (λ i. EightPut at step i x b after) e h

-- the two ways in which eight rows lie in a strip
pub data Stepping : ℕ → ℕ → Type 0 where
  bytes : Stepping 8 64
  bits : Stepping 64 8

apart : {every step : ℕ} → Stepping every step → (k w d k' w' d' : ℕ) → k < 8 → w < 8 → d < 8 → k' < 8 → w' < 8 → d' < 8
    → (every * k + w ≡ every * k' + w' → ⊥) → every * k + w + step * d ≡ every * k' + w' + step * d' → ⊥
apart bytes k w d k' w' d' hk hw hd hk' hw' hd' h e = omega arith
apart bits k w d k' w' d' hk hw hd hk' hw' hd' h e = omega arith

row_after : {every step : ℕ} → Stepping every step → (from to k k' w : ℕ) → to ≤ 8 → from ≤ w → w < to → every * k' + w < every * (k + 1) + from → every * k' + w < every * k + to
row_after bytes from to k k' w small l u h = omega arith
row_after bits from to k k' w small l u h = omega arith

row_start : {every step : ℕ} → Stepping every step → (from to k : ℕ) → to ≤ 8 → every * k + to ≤ every * (k + 1) + from
row_start bytes from to k small = omega arith
row_start bits from to k small = omega arith

module _ {every step s from to : ℕ} (stepping : Stepping every step) (small : to ≤ 8) {a prior b : List ℕ} where
  pub exchanging_more : (k w : ℕ) {t : ℕ} {x y after : List ℕ} → k < 8 → w < to → t ≡ every * k + w → Exchanging every step s from to a prior t b
      → ((d : ℕ) → d < 8 → get_or x d 0 ≡ get_or a (t + step * d) 0) → Exchanged s x y → EightPut t step 8 y b after → Exchanging every step s from to a prior (t + 1) after
  exchanging_more k w {t} {x} {y} {after} hk hw e h words exchanged put = record { size = put.size ∙ h.size; done = done; rest = rest }
    where
      elsewhere : (k' w' d : ℕ) → k' < 8 → w' < 8 → d < 8 → (every * k' + w' ≡ t → ⊥) → get_or after (every * k' + w' + step * d) 0 ≡ get_or b (every * k' + w' + step * d) 0
      elsewhere k' w' d hk' hw' hd n = put.others _ (λ d' hd' i. apart stepping k' w' d k w d' hk' hw' hd hk (omega arith) hd' (λ j. n (omega arith)) (omega arith))

      here : (d c : ℕ) → d < 8 → c < 64 → bit_at (get_or after (t + step * d) 0) c ≡ bit_at (get_or a (t + step * (c / 2 ^ s % 8)) 0) (with_digits s c d)
      here d c hd hc = ap (λ (z : ℕ). bit_at z c) (put.put d hd) ∙ exchanged.bits d c hd hc ∙ ap (λ (z : ℕ). bit_at z (with_digits s c d)) (words (c / 2 ^ s % 8) (omega arith))

      done : (k' w' d c : ℕ) → k' < 8 → from ≤ w' → w' < to → every * k' + w' < t + 1 → d < 8 → c < 64
          → bit_at (get_or after (every * k' + w' + step * d) 0) c ≡ bit_at (get_or a (every * k' + w' + step * (c / 2 ^ s % 8)) 0) (with_digits s c d)
      done k' w' d c hk' l u f hd hc = step-done (ℕ_discrete (every * k' + w') t)
        where
          step-done : Dec (every * k' + w' ≡ t) → bit_at (get_or after (every * k' + w' + step * d) 0) c ≡ bit_at (get_or a (every * k' + w' + step * (c / 2 ^ s % 8)) 0) (with_digits s c d)
          step-done (yes i) = subst (λ (m : ℕ). bit_at (get_or after (m + step * d) 0) c ≡ bit_at (get_or a (m + step * (c / 2 ^ s % 8)) 0) (with_digits s c d)) (sym i) (here d c hd hc)
          step-done (no n) = ap (λ (z : ℕ). bit_at z c) (elsewhere k' w' d hk' (omega arith) hd n) ∙ h.done k' w' d c hk' l u (omega arith) hd hc

      rest : (k' w' d : ℕ) → k' < 8 → w' < 8 → t + 1 ≤ every * k' + w' → d < 8 → get_or after (every * k' + w' + step * d) 0 ≡ get_or prior (every * k' + w' + step * d) 0
      rest k' w' d hk' hw' f hd = elsewhere k' w' d hk' hw' hd (λ i. omega arith) ∙ h.rest k' w' d hk' hw' (omega arith) hd

  -- the next rows
  pub exchanging_next : (k : ℕ) {t u : ℕ} → t ≡ every * k + to → u ≡ every * (k + 1) + from → Exchanging every step s from to a prior t b → Exchanging every step s from to a prior u b
  exchanging_next k e f h = record {
    size = h.size;
    done = λ k' w' d c hk l u t. h.done k' w' d c hk l u (omega (arith, row_after stepping from to k k' w' small l u (omega arith)));
    rest = λ k' w' d hk hw t hd. h.rest k' w' d hk hw (omega (arith, row_start stepping from to k small)) hd;
  }

-- in place
pub exchanging_within : {every step s from to : ℕ} (stepping : Stepping every step) → to ≤ 8 → {prior b : List ℕ} (k w : ℕ) {t : ℕ} {x y after : List ℕ} → k < 8 → w < to → t ≡ every * k + w
    → Exchanging every step s from to prior prior t b → ((d : ℕ) → d < 8 → get_or x d 0 ≡ get_or b (t + step * d) 0) → Exchanged s x y → EightPut t step 8 y b after → Exchanging every step s from to prior prior (t + 1) after
exchanging_within {step = step} stepping small {prior} {b} k w hk hw e h words exchanged put =
    exchanging_more stepping small k w hk hw e h
    (λ d l. words d l ∙ subst (λ (m : ℕ). get_or b (m + step * d) 0 ≡ get_or prior (m + step * d) 0) (sym e) (h.rest k w d hk (omega arith) (omega arith) l)) exchanged put

pub exchanging_to : {every step s from to t u : ℕ} {a prior b : List ℕ} → Exchanging every step s from to a prior t b → t ≡ u → Exchanging every step s from to a prior u b
exchanging_to {every} {step} {s} {from} {to} {a = a} {prior = prior} {b = b} h e = subst (λ (m : ℕ). Exchanging every step s from to a prior m b) e h

-- bytes and then bits exchanged: rows and columns are
pub rows_turned : {u v from to : ℕ} {a p b out : List ℕ} → Exchanging 8 64 3 u v a p 64 b → Exchanging 64 8 0 u v b b 512 out → u ≤ from → to ≤ v → v ≤ 8 → Turned a from to out
rows_turned {u} {v} {from} {to} {a} {p} {b} {out} x y l m n = record { size = y.size; bits = bits }
  where
    bits : (w r c : ℕ) → from ≤ w → w < to → r < 64 → c < 64 → bit_at (get_or out (row_words * r + w) 0) c ≡ bit_at (get_or a (row_words * c + w) 0) r
    bits w r c f t hr hc =
        let i : row_words * r + w ≡ 64 * (r / 8) + w + 8 * (r % 8) = omega arith in
        let j : 64 * (r / 8) + w + 8 * (c / 2 ^ 0 % 8) ≡ 8 * (c % 8) + w + 64 * (r / 8) = omega arith in
        let z : with_digits 0 c (r % 8) ≡ 8 * (c / 8) + r % 8 = omega arith in
        let high : (8 * (c / 8) + r % 8) / 8 ≡ c / 8 = omega arith in
        let small : c / 8 % 8 ≡ c / 8 = omega arith in
        let up : (8 * (c / 8) + r % 8) / 2 ^ 3 % 8 ≡ c / 8 = ap (λ (y : ℕ). y % 8) high ∙ small in
        let whole : 8 * (c % 8) + w + 64 * (c / 8) ≡ row_words * c + w = omega arith in
        let last : 8 * (c / 8) + r % 8 - c / 8 * 2 ^ 3 + r / 8 * 2 ^ 3 ≡ r = omega arith in
        let o : 8 * (c % 8) + w + 64 * (with_digits 0 c (r % 8) / 2 ^ 3 % 8) ≡ row_words * c + w = ap (λ (y : ℕ). 8 * (c % 8) + w + 64 * (y / 2 ^ 3 % 8)) z ∙ ap (λ (y : ℕ). 8 * (c % 8) + w + 64 * y) up ∙ whole in
        let q : with_digits 3 (with_digits 0 c (r % 8)) (r / 8) ≡ r = ap (λ (y : ℕ). with_digits 3 y (r / 8)) z ∙ ap (λ (y : ℕ). 8 * (c / 8) + r % 8 - y * 2 ^ 3 + r / 8 * 2 ^ 3) up ∙ last in
        ap (λ (m : ℕ). bit_at (get_or out m 0) c) i
        ∙ y.done (r / 8) w (r % 8) c (omega arith) (omega arith) (omega arith) (omega arith) (omega arith) hc
        ∙ ap (λ (m : ℕ). bit_at (get_or b m 0) (with_digits 0 c (r % 8))) j
        ∙ x.done (c % 8) w (r / 8) (with_digits 0 c (r % 8)) (omega arith) (omega arith) (omega arith) (omega arith) (omega arith) (omega (arith, z))
        ∙ ap₂ (λ (m n : ℕ). bit_at (get_or a m 0) n) o q

-- a strip of the table
pub strip_part : (edges : List ℕ) (i : ℕ) → 512 * i + 512 ≤ length edges → StripAt edges (512 * i) (take (512 * i + 512 - 512 * i) (drop (512 * i) edges))
strip_part edges i fits =
    let e : 512 * i + 512 - 512 * i ≡ 512 = omega arith in
    rw e
    record {
      size = simp (length-take, length-drop) (omega arith);
      words = λ k l. get_or-take 512 (drop (512 * i) edges) k 0 l ∙ get_or-drop (512 * i) edges k 0;
    }

-- the end of a table, copied over the first of 512 zeros
pub strip_copied : {edges x z : List ℕ} {at m : ℕ} → x ≡ take (length edges - at) (drop at edges) → z ≡ replicate 512 0 → m ≡ length edges - at → at ≤ length edges → length edges ≤ at + 512 → StripAt edges at (x ++ drop m z)
strip_copied {edges} {x} {z} {at} {m} e ez em l r =
    record {
      size = omega (arith, length-append x (drop m z), length-drop m z, ap length ez, wide);
      words = λ k hk. step k (decide (ltb k m));
    }
  where
    wide : length x ≡ m
    wide = ap length e ∙ simp (length-take, length-drop) (omega arith)

    step : (k : ℕ) → (ltb k m ≡ true) ⊎ (ltb k m ≡ false) → get_or (x ++ drop m z) k 0 ≡ get_or edges (at + k) 0
    step k (inl t) =
        let h = ltb-true k m t in
        get_or_append_left x (drop m z) 0 k (omega (arith, wide)) ∙ ap (λ (s : List ℕ). get_or s k 0) e ∙ get_or-take (length edges - at) (drop at edges) k 0 (omega arith) ∙ get_or-drop at edges k 0
    step k (inr t) =
        let h = ltb-false k m t in
        get_or-append_right x (drop m z) m k 0 wide (omega arith)
        ∙ get_or-drop m z (k - m) 0
        ∙ ap (λ (s : List ℕ). get_or s (m + (k - m)) 0) ez
        ∙ get_d_zeros 512 (m + (k - m))
        ∙ sym (get_or-eq_default edges 0 {n = at + k} (omega arith))

pub strip_across : {edges strip b : List ℕ} {i from to : ℕ} → StripAt edges (512 * i) strip → to ≤ 8 → Turned strip from to b → Across edges i from to b
strip_across {edges} {strip} {b} {i} {from} {to} s small h = record { size = h.size; bits = bits }
  where
    bits : (w r c : ℕ) → from ≤ w → w < to → r < 64 → c < 64 → bit_at (get_or b (row_words * r + w) 0) c ≡ edge_bit edges (64 * i + c) (64 * w + r)
    bits w r c l u hr hc =
        let e : 512 * i + (row_words * c + w) ≡ 8 * (64 * i + c) + w = omega arith in
        h.bits w r c l u hr hc
        ∙ ap (λ (x : ℕ). bit_at x r) (s.words (row_words * c + w) (omega arith) ∙ ap (λ (m : ℕ). get_or edges m 0) e)
        ∙ sym (word-bit edges (64 * i + c) w r hr)

-- a column is compared with a word
difference_none : (x y : ℕ) → bit_xor x y ≡ 0 → x ≡ y
difference_none x y e = omega (arith, xor_add_and x y, and_le_l x y, and_le_r x y)

difference_same : (x y : ℕ) → x ≡ y → bit_xor x y ≡ 0
difference_same x y e = ap (λ (t : ℕ). bit_xor t y) e ∙ xor_self y

-- the bits in which the columns of word w differ from word i of the rows that they stand for
abbrev pub differences : List ℕ → List ℕ → ℕ → ℕ → ℕ → ℕ
differences edges b i w r = bit_xor (get_or b (row_words * r + w) 0) (get_or edges (row_words * (64 * w + r) + i) 0)

module _ {n : ℕ} {edges b : List ℕ} {i w : ℕ} (h : Across edges i w (w + 1) b) where
  pub columns_tell : {m x : ℕ} → n ≤ 512 → i < 8 → m ≤ 64 → 64 * w + m ≤ n → ((q : ℕ) → q < n → 64 * w ≤ q → q < 64 * w + 64 → q < 64 * w + m)
      → ((k : ℕ) → get_or b k 0 < 2 ^ 64) → ((k : ℕ) → get_or edges k 0 < 2 ^ 64) → Gathered (differences edges b i w) 0 m x → Tells (Even n edges i w (w + 1)) edges (eqb x 0)
  columns_tell {m} {x} hn hi hm fits within small_b small-e g = record {
    holds = λ e p q hp hq f l u. even (λ r k. difference_none _ _ (omega (arith, g.each (omega (arith, eqb-true x 0 e)) r k))) p q hp hq f l u;
    fails = λ e. not-symmetric edges (λ t. eqb-false x 0 e (omega (arith, g.none (λ r k. omega (arith, difference_same _ _ (equal t r k))))));
  }
    where
      even : ((r : ℕ) → r < m → get_or b (row_words * r + w) 0 ≡ get_or edges (row_words * (64 * w + r) + i) 0) → (p q : ℕ) → p < n → q < n → p / 64 ≡ i → w ≤ q / 64 → q / 64 < w + 1 → edge_bit edges p q ≡ edge_bit edges q p
      even agree p q hp hq f l u =
          let r = within q hq (omega arith) (omega arith) in
          let ep : 64 * i + p % 64 ≡ p = omega arith in
          let eq : 64 * w + q % 64 ≡ q = omega arith in
          ap₂ (edge_bit edges) (sym ep) (sym eq)
          ∙ sym (h.bits w (q % 64) (p % 64) (omega arith) (omega arith) (omega arith) (omega arith))
          ∙ ap (λ (y : ℕ). bit_at y (p % 64)) (agree (q % 64) (omega arith))
          ∙ sym (word-bit edges (64 * w + q % 64) i (p % 64) (omega arith))
          ∙ ap₂ (edge_bit edges) eq ep

      equal : symmetric edges ≡ true → (r : ℕ) → r < m → get_or b (row_words * r + w) 0 ≡ get_or edges (row_words * (64 * w + r) + i) 0
      equal t r l =
          words_eq _ _ (small_b (row_words * r + w)) (small-e (row_words * (64 * w + r) + i))
          (λ c hc. h.bits w r c (omega arith) (omega arith) (omega arith) hc ∙ symmetric-all edges t (64 * i + c) (64 * w + r) (omega arith) (omega arith) ∙ word-bit edges (64 * w + r) i c hc)
