-- Further laws of these definitions, which no proof here cites.
use Rattle.std.specs.Prelude.{◌≡◌, Bool, true, false, List, ℕ, ◌+◌, ◌*◌, ◌/◌, ◌%◌, ◌^◌, ◌≤◌, ◌<◌, eqb, length, get_or, refl, ◌&&◌, ◌⊎◌, ltb, set, replicate}
use Rattle.model.specs.Lists.{all, nodes, from}
use Rattle.model.specs.Tables.{bit_at, edge_bit}
use Rattle.std.proofs.Common.{sym, ap, ap₂, ◌∙◌, inl, inr, arith, eqb-true, ltb-true, ltb-false, subst, length-set, get_or-set_other}
use Rattle.std.proofs.Math.Bool.{xor}
use Rattle.model.proofs.TestLaws.{and_fst, and_snd, decide, differ}
use Rattle.model.proofs.ListLaws.{all_elim, nodes_in_lem}
use Rattle.symmetry.specs.Symmetry.{Exchanged, HalvesCrossed, with_digits, with_digit, Across, Even, Gathered, Exchanging, StripAt, EightTaken, Tells, symmetric}
use Rattle.std.proofs.Math.ListN.{get_or-eq_default}
use Rattle.buffers.specs.FilledLaws.{get_d_zeros}
use Rattle.buffers.specs.StoreLaws.{stored}
use Rattle.symmetry.specs.StripLaws.{Stepping, bits, bytes}
use Rattle.std.proofs.Math.Nat.{zero-div}

-- m words of a table, before zeros
pub record Loading (edges : List ℕ) (at m : ℕ) (strip : List ℕ) : Type 0 where
  pub size : length strip ≡ 512
  pub words : (k : ℕ) → k < m → get_or strip k 0 ≡ get_or edges (at + k) 0
  pub zeros : (k : ℕ) → m ≤ k → get_or strip k 0 ≡ 0

-- what is exchanged, and what stays
other : (a b : Bool) → xor a (xor a b && true) ≡ b
unfolding xor
other true true = refl
other true false = refl
other false true = refl
other false false = refl

-- three digits, one after the other
abbrev row_before : ℕ → ℕ → ℕ → ℕ
row_before k e c = e / 2 + 4 * (c / 2 ^ k % 2)

abbrev column_before : ℕ → ℕ → ℕ → ℕ
column_before k e c = with_digit k c (e % 2)

traced : ℕ → ℕ → ℕ → Bool
traced s e c =
    let e₁ = row_before s e c in
    let c₁ = column_before s e c in
    let e₂ = row_before (s + 1) e₁ c₁ in
    let c₂ = column_before (s + 1) e₁ c₁ in
    ltb e₁ 8 && (ltb c₁ 64 && (ltb e₂ 8 && (ltb c₂ 64 && (eqb (row_before (s + 2) e₂ c₂) (c / 2 ^ s % 8) && eqb (column_before (s + 2) e₂ c₂) (with_digits s c e)))))

exchanged : (s : ℕ) {x y z r : List ℕ} → all (nodes 8) (λ e. all (nodes 64) (traced s e)) ≡ true → HalvesCrossed (s + 2) x y → HalvesCrossed (s + 1) y z → HalvesCrossed s z r → Exchanged s x r
unfolding traced
exchanged s {x} {y} {z} {r} h p q o = record { size = o.size; bits = bits }
  where
    bits : (e c : ℕ) → e < 8 → c < 64 → bit_at (get_or r e 0) c ≡ bit_at (get_or x (c / 2 ^ s % 8) 0) (with_digits s c e)
    bits e c he hc =
        let all-c = all_elim (nodes 8) (λ e. all (nodes 64) (traced s e)) h e (nodes_in_lem 8 e he) in
        let told = all_elim (nodes 64) (traced s e) all-c c (nodes_in_lem 64 c hc) in
        let t₁ = and_snd (ltb (row_before s e c) 8) _ told in
        let t₂ = and_snd (ltb (column_before s e c) 64) _ t₁ in
        let t₃ = and_snd (ltb (row_before (s + 1) (row_before s e c) (column_before s e c)) 8) _ t₂ in
        let t₄ = and_snd (ltb (column_before (s + 1) (row_before s e c) (column_before s e c)) 64) _ t₃ in
        o.bits e c he hc
        ∙ q.bits (row_before s e c) (column_before s e c) (ltb-true _ 8 (and_fst (ltb (row_before s e c) 8) _ told)) (ltb-true _ 64 (and_fst (ltb (column_before s e c) 64) _ t₁))
        ∙ p.bits (row_before (s + 1) (row_before s e c) (column_before s e c)) (column_before (s + 1) (row_before s e c) (column_before s e c)) (ltb-true _ 8 (and_fst (ltb (row_before (s + 1) (row_before s e c) (column_before s e c)) 8) _ t₂)) (ltb-true _ 64 (and_fst (ltb (column_before (s + 1) (row_before s e c) (column_before s e c)) 64) _ t₃))
        ∙ ap₂ (λ (i m : ℕ). bit_at (get_or x i 0) m) (eqb-true _ (c / 2 ^ s % 8) (and_fst (eqb (row_before (s + 2) (row_before (s + 1) (row_before s e c) (column_before s e c)) (column_before (s + 1) (row_before s e c) (column_before s e c))) (c / 2 ^ s % 8)) _ t₄)) (eqb-true _ (with_digits s c e) (and_snd (eqb (row_before (s + 2) (row_before (s + 1) (row_before s e c) (column_before s e c)) (column_before (s + 1) (row_before s e c) (column_before s e c))) (c / 2 ^ s % 8)) _ t₄))

pub exchanged_bits : {x y z r : List ℕ} → HalvesCrossed 2 x y → HalvesCrossed 1 y z → HalvesCrossed 0 z r → Exchanged 0 x r
unfolding all nodes from traced
exchanged_bits p q o = exchanged 0 refl p q o

pub exchanged_bytes : {x y z r : List ℕ} → HalvesCrossed 5 x y → HalvesCrossed 4 y z → HalvesCrossed 3 z r → Exchanged 3 x r
unfolding all nodes from traced
exchanged_bytes p q o = exchanged 3 refl p q o

-- taken
pub eight_none : (a : List ℕ) (at step : ℕ) (x : List ℕ) → length x ≡ 8 → EightTaken a at step 0 x
eight_none a at step x e = record { size = e; words = λ d l. absurd (omega arith) }

pub eight_more : {a : List ℕ} {at step m : ℕ} {x : List ℕ} (y : ℕ) → EightTaken a at step m x → m < 8 → y ≡ get_or a (at + step * m) 0 → EightTaken a at step (m + 1) (set x m y)
eight_more {a} {at} {step} {m} {x} y h l e = record {
  size = length-set x m y ∙ h.size;
  words = stored x m y (omega (arith, h.size)) (λ d z. z ≡ get_or a (at + step * d) 0) h.words e;
}

pub eight_all : {a : List ℕ} {at step m : ℕ} {x : List ℕ} → EightTaken a at step m x → m ≡ 8 → EightTaken a at step 8 x
eight_all {a} {at} {step} {m} {x} h e = subst (λ i. EightTaken a at step i x) e h

row_last : {every step : ℕ} → Stepping every step → (k w : ℕ) → k < 8 → w < 8 → every * k + w < every * 8
row_last bytes k w hk hw = omega arith
row_last bits k w hk hw = omega arith

-- a pass, eight rows after eight rows
pub exchanging_none : (every step s from to : ℕ) (a b : List ℕ) → length b ≡ 512 → Exchanging every step s from to a b from b
exchanging_none every step s from to a b e = record { size = e; done = λ k w d c hk l u t. absurd (omega arith); rest = λ k w d hk hw t hd. refl }

module _ {every step s from to : ℕ} (stepping : Stepping every step) (small : to ≤ 8) {a prior b : List ℕ} where
  pub exchanging_all : {t : ℕ} → every * 8 ≤ t → Exchanging every step s from to a prior t b → Exchanging every step s from to a prior (every * 8) b
  exchanging_all l h = record {
    size = h.size;
    done = λ k w d c hk f u t. h.done k w d c hk f u (omega arith);
    rest = λ k w d hk hw t hd. absurd (omega (arith, row_last stepping k w hk hw));
  }

pub loading_none : (edges : List ℕ) (at : ℕ) {strip : List ℕ} → strip ≡ replicate 512 0 → Loading edges at 0 strip
loading_none edges at e = record { size = ap length e; words = λ k l. absurd (omega arith); zeros = λ k l. ap (λ (s : List ℕ). get_or s k 0) e ∙ get_d_zeros 512 k }

pub loading_more : {edges : List ℕ} {at m : ℕ} {strip : List ℕ} (x : ℕ) → Loading edges at m strip → m < 512 → x ≡ get_or edges (at + m) 0 → Loading edges at (m + 1) (set strip m x)
loading_more {edges} {at} {m} {strip} x h l e = record {
  size = length-set strip m x ∙ h.size;
  words = stored strip m x (omega (arith, h.size)) (λ k y. y ≡ get_or edges (at + k) 0) h.words e;
  zeros = λ k u. get_or-set_other strip m k x 0 (omega arith) ∙ h.zeros k (omega arith);
}

pub strip_loaded : {edges : List ℕ} {at m : ℕ} {strip : List ℕ} → Loading edges at m strip → length edges ≤ at + m → StripAt edges at strip
strip_loaded {edges} {at} {m} {strip} h l = record { size = h.size; words = λ k hk. step k (decide (ltb k m)) }
  where
    step : (k : ℕ) → (ltb k m ≡ true) ⊎ (ltb k m ≡ false) → get_or strip k 0 ≡ get_or edges (at + k) 0
    step k (inl t) = h.words k (ltb-true k m t)
    step k (inr t) = h.zeros k (ltb-false k m t) ∙ sym (get_or-eq_default edges 0 {n = at + k} (omega (arith, ltb-false k m t)))

-- words of a strip, one after the other
pub even_none : (n : ℕ) (edges : List ℕ) (i : ℕ) → Even n edges i i i
even_none n edges i p q hp hq f l u = absurd (omega arith)

pub even_more : (n : ℕ) (edges : List ℕ) (i w : ℕ) → Even n edges i i w → Even n edges i w (w + 1) → Even n edges i i (w + 1)
even_more n edges i w x y p q hp hq f l u = step (decide (ltb (q / 64) w))
  where
    step : (ltb (q / 64) w ≡ true) ⊎ (ltb (q / 64) w ≡ false) → edge_bit edges p q ≡ edge_bit edges q p
    step (inl t) = x p q hp hq f l (ltb-true (q / 64) w t)
    step (inr t) = y p q hp hq f (ltb-false (q / 64) w t) u

pub across_at : {edges : List ℕ} {i to : ℕ} {b : List ℕ} (w : ℕ) → Across edges i i to b → i ≤ w → w < to → Across edges i w (w + 1) b
across_at w h l u = record { size = h.size; bits = λ v r c f t hr hc. h.bits v r c (omega arith) (omega arith) hr hc }

pub gathered_none : (f : ℕ → ℕ) (k : ℕ) → Gathered f k 0 0
gathered_none f k = record { each = λ e r l. absurd (omega arith); none = λ h. zero-div (2 ^ k) }

-- what a test tells
pub tells_yes : {Fact : Type 0} {edges : List ℕ} → Fact → Tells Fact edges true
tells_yes h = record { holds = λ e. h; fails = λ e. differ refl e }

pub tells_no : {Fact : Type 0} {edges : List ℕ} → symmetric edges ≡ false → Tells Fact edges false
tells_no h = record { holds = λ e. differ e refl; fails = λ e. h }
