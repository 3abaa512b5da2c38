-- Laws of sums of cubes over the bits of a row, four and eight bits at a time.
use Rattle.std.specs.Prelude.{◌≡◌, ℕ, zero, suc, ◌+◌, ◌-◌, ◌*◌, ◌/◌, ◌%◌, ◌^◌, ◌<◌, ◌≤◌, Bool, true, false, cond, ◌&&◌, ◌⊎◌, List, [], ◌∷◌, length, ◌==◌, ◌≢◌, nat_lt, slice_index, slice_set}
use Rattle.std.proofs.Math.Path.{refl, ap}
use Rattle.std.proofs.Common.{sym, ap₂, ◌∙◌, subst, inl, inr, shr-shr, lt-ltb}
use native.Mathlib.Omega.{arith}
use Rattle.model.specs.Lists.{filter, from, nodes}
use Rattle.model.specs.Graph.{whole}
use Rattle.model.specs.Grouping.{cube, open_key, sum_cubes}
use Rattle.model.specs.Tables.{bit_at, edge_bit, edges_in, graph_in}
use Rattle.model.proofs.TestLaws.{decide}
use Rattle.model.proofs.ListLaws.{from_out}
use Rattle.buffers.specs.StoreLaws.{stored, stored-size}
use Rattle.rows.specs.BitLaws.{word-bit}
use Rattle.rows.specs.KeyLaws.{cube-le, cubes_cong, no_cubes}
use Rattle.keys.specs.TotalLaws.{cubes_one, cubes_split}
use Rattle.keys.specs.KeySums.{FoursFilled, Widened, eight_cubes, four_cubes, row_cubes, word_cubes, words_for}

-- a digit chooses a cube
pub chosen : (v x : ℕ) → v % 2 ≡ 1 → x ≡ v % 2 * x
chosen v x e = let z : x ≡ 1 * x = omega arith in rw e z

digit_cond : (d x : ℕ) → d < 2 → d * x ≡ cond (d == 1) x 0
digit_cond zero x h = omega arith
digit_cond (suc zero) x h = omega arith
digit_cond (suc (suc d)) x h = absurd (omega arith)

digit_bit : (x m y : ℕ) → x / 2 ^ m % 2 * y ≡ cond (bit_at x m) y 0
unfolding bit_at
digit_bit x m y = digit_cond (x / 2 ^ m % 2) y (omega arith)

-- four bits of a word more
four_more : (w x i : ℕ) → word_cubes w x (4 * i) + four_cubes (16 * w + i) (x / 2 ^ (4 * i) % 16) ≡ word_cubes w x (4 * (i + 1))
unfolding word_cubes
four_more w x i =
    let d₀ : x / 2 ^ (4 * i) % 16 % 2 * cube (4 * (16 * w + i)) ≡ cond (bit_at x (4 * i)) (cube (64 * w + 4 * i)) 0 = ap₂ ◌*◌ zeroth (ap cubed (omega arith)) ∙ digit_bit x (4 * i) (cube (64 * w + 4 * i)) in
    let d₁ : x / 2 ^ (4 * i) % 16 / 2 % 2 * cube (4 * (16 * w + i) + 1) ≡ cond (bit_at x (suc (4 * i))) (cube (64 * w + suc (4 * i))) 0 = ap₂ ◌*◌ one (ap cubed (omega arith)) ∙ digit_bit x (suc (4 * i)) (cube (64 * w + suc (4 * i))) in
    let d₂ : x / 2 ^ (4 * i) % 16 / 4 % 2 * cube (4 * (16 * w + i) + 2) ≡ cond (bit_at x (suc (suc (4 * i)))) (cube (64 * w + suc (suc (4 * i)))) 0 = ap₂ ◌*◌ two (ap cubed (omega arith)) ∙ digit_bit x (suc (suc (4 * i))) (cube (64 * w + suc (suc (4 * i)))) in
    let d₃ : x / 2 ^ (4 * i) % 16 / 8 % 2 * cube (4 * (16 * w + i) + 3) ≡ cond (bit_at x (suc (suc (suc (4 * i))))) (cube (64 * w + suc (suc (suc (4 * i))))) 0 = ap₂ ◌*◌ three (ap cubed (omega arith)) ∙ digit_bit x (suc (suc (suc (4 * i)))) (cube (64 * w + suc (suc (suc (4 * i))))) in
    let e : 4 * (i + 1) ≡ suc (suc (suc (suc (4 * i)))) = omega arith in
    rw e (omega arith)
  where
    cubed : ℕ → ℕ
    cubed p = cube p

    zeroth : x / 2 ^ (4 * i) % 16 % 2 ≡ x / 2 ^ (4 * i) % 2
    zeroth = omega arith

    at : (j : ℕ) → x / 2 ^ (4 * i) / 2 ^ j ≡ x / 2 ^ (4 * i + j)
    at j = shr-shr x (4 * i) j

    one : x / 2 ^ (4 * i) % 16 / 2 % 2 ≡ x / 2 ^ suc (4 * i) % 2
    one = let s : 4 * i + 1 ≡ suc (4 * i) = omega arith in let z : x / 2 ^ (4 * i) / 2 ≡ x / 2 ^ suc (4 * i) = at 1 ∙ ap (λ (m : ℕ). x / 2 ^ m) s in omega arith

    two : x / 2 ^ (4 * i) % 16 / 4 % 2 ≡ x / 2 ^ suc (suc (4 * i)) % 2
    two = let s : 4 * i + 2 ≡ suc (suc (4 * i)) = omega arith in let z : x / 2 ^ (4 * i) / 4 ≡ x / 2 ^ suc (suc (4 * i)) = at 2 ∙ ap (λ (m : ℕ). x / 2 ^ m) s in omega arith

    three : x / 2 ^ (4 * i) % 16 / 8 % 2 ≡ x / 2 ^ suc (suc (suc (4 * i))) % 2
    three = let s : 4 * i + 3 ≡ suc (suc (suc (4 * i))) = omega arith in let z : x / 2 ^ (4 * i) / 8 ≡ x / 2 ^ suc (suc (suc (4 * i))) = at 3 ∙ ap (λ (m : ℕ). x / 2 ^ m) s in omega arith

pub each_of_four : {a b c d m : ℕ} → a ≤ m → b ≤ m → c ≤ m → d ≤ m → (k : ℕ) → k < 4 → slice_index (a ∷ b ∷ c ∷ d ∷ []) k ≤ m
each_of_four h₀ h₁ h₂ h₃ zero l = h₀
each_of_four h₀ h₁ h₂ h₃ (suc zero) l = h₁
each_of_four h₀ h₁ h₂ h₃ (suc (suc zero)) l = h₂
each_of_four h₀ h₁ h₂ h₃ (suc (suc (suc zero))) l = h₃
each_of_four h₀ h₁ h₂ h₃ (suc (suc (suc (suc k)))) l = absurd (omega arith)

pub filled_start : {w m k : ℕ} {sums : List ℕ} → FoursFilled w m sums → k ≡ m → FoursFilled w k sums
filled_start {w} {m} {k} {sums} h e = subst (λ i. FoursFilled w i sums) (sym e) h

pub fours_more : {w b v : ℕ} {sums : List ℕ} {x c d e f : ℕ} → FoursFilled w (16 * b + v) sums → b < 16 → v < 16
    → c ≡ cube (4 * (16 * w + b)) → d ≡ cube (4 * (16 * w + b) + 1) → e ≡ cube (4 * (16 * w + b) + 2) → f ≡ cube (4 * (16 * w + b) + 3)
    → x ≡ v % 2 * c + v / 2 % 2 * d + v / 4 % 2 * e + v / 8 % 2 * f → FoursFilled w (16 * b + (v + 1)) (slice_set sums (16 * b + v) x)
fours_more {w} {b} {v} {sums} {x} {c} {d} {e} {f} h hb hv ec ed ee ef ex =
    let i : (16 * b + v) / 16 ≡ b = omega arith in
    let j : (16 * b + v) % 16 ≡ v = omega arith in
    let s : 16 * b + v + 1 ≡ 16 * b + (v + 1) = omega arith in
    filled_start
    (record {
      size = stored-size sums (16 * b + v) x fits h.size;
      entries = stored sums (16 * b + v) x fits (λ k y. y ≡ four_cubes (16 * w + k / 16) (k % 16)) h.entries (rw (i, j) (rw (ec, ed, ee, ef) at ex));
    })
    (sym s)
  where
    fits : 16 * b + v < length sums
    fits = omega (arith, h.size)

-- two sums do not pass 32 bits
digit_le : (d x : ℕ) → d < 2 → d * x ≤ x
digit_le zero x h = omega arith
digit_le (suc zero) x h = omega arith
digit_le (suc (suc d)) x h = absurd (omega arith)

pub four_le : {w : ℕ} {sums : List ℕ} (e : ℕ) → FoursFilled w 256 sums → w < 8 → e < 256 → slice_index sums e ≤ 536870912
four_le {w} {sums} e h hw l =
    let b = 16 * w + e / 16 in
    let v = e % 16 in
    omega (arith, h.entries e l, digit_le (v % 2) (cube (4 * b)) (omega arith), digit_le (v / 2 % 2) (cube (4 * b + 1)) (omega arith), digit_le (v / 4 % 2) (cube (4 * b + 2)) (omega arith), digit_le (v / 8 % 2) (cube (4 * b + 3)) (omega arith), cube-le (4 * b + 1) (omega arith), cube-le (4 * b + 1 + 1) (omega arith), cube-le (4 * b + 2 + 1) (omega arith), cube-le (4 * b + 3 + 1) (omega arith))

pub widened_start : {w m k : ℕ} {sums : List ℕ} → Widened w m sums → k ≡ m → Widened w k sums
widened_start {w} {m} {k} {sums} h e = subst (λ i. Widened w i sums) (sym e) h

pub widened_more : {w i h l : ℕ} {fours sums : List ℕ} → Widened w (256 * i + 16 * h + l) sums → FoursFilled w 256 fours → i < 8 → h < 16 → l < 16
    → Widened w (256 * i + 16 * h + (l + 1)) (slice_set sums (256 * i + 16 * h + l) (slice_index fours (32 * i + l) + slice_index fours (32 * i + 16 + h)))
unfolding eight_cubes
widened_more {w} {i} {h} {l} {fours} {sums} t f hi hh hl =
    let s : 256 * i + 16 * h + l + 1 ≡ 256 * i + 16 * h + (l + 1) = omega arith in
    widened_start
    (record {
      size = stored-size sums (256 * i + 16 * h + l) x fits t.size;
      entries = stored sums (256 * i + 16 * h + l) x fits (λ k y. y ≡ four_cubes (2 * (8 * w + k / 256)) (k % 256 % 16) + four_cubes (2 * (8 * w + k / 256) + 1) (k % 256 / 16)) t.entries here;
    })
    (sym s)
  where
    x : ℕ
    x = slice_index fours (32 * i + l) + slice_index fours (32 * i + 16 + h)

    fits : 256 * i + 16 * h + l < length sums
    fits = omega (arith, t.size)

    here : x ≡ four_cubes (2 * (8 * w + (256 * i + 16 * h + l) / 256)) ((256 * i + 16 * h + l) % 256 % 16) + four_cubes (2 * (8 * w + (256 * i + 16 * h + l) / 256) + 1) ((256 * i + 16 * h + l) % 256 / 16)
    here =
        let d : (256 * i + 16 * h + l) / 256 ≡ i = omega arith in
        let v : (256 * i + 16 * h + l) % 256 % 16 ≡ l = omega arith in
        let u : (256 * i + 16 * h + l) % 256 / 16 ≡ h = omega arith in
        let d₀ : 16 * w + (32 * i + l) / 16 ≡ 2 * (8 * w + i) = omega arith in
        let v₀ : (32 * i + l) % 16 ≡ l = omega arith in
        let d₁ : 16 * w + (32 * i + 16 + h) / 16 ≡ 2 * (8 * w + i) + 1 = omega arith in
        let v₁ : (32 * i + 16 + h) % 16 ≡ h = omega arith in
        rw (d, v, u) (ap₂ ◌+◌ (rw (d₀, v₀) at (f.entries (32 * i + l) (omega arith))) (rw (d₁, v₁) at (f.entries (32 * i + 16 + h) (omega arith))))

-- a word, eight bits after the other, wrapping
pub words_none : (w x : ℕ) → 0 ≡ word_cubes w x 0 % 2 ^ 32
unfolding word_cubes
words_none w x = refl

eight_more : (w x i : ℕ) → word_cubes w x (8 * i) + eight_cubes (8 * w + i) (x / 2 ^ (8 * i) % 256) ≡ word_cubes w x (8 * (i + 1))
unfolding eight_cubes
eight_more w x i =
    let m : 8 * i ≡ 4 * (2 * i) = omega arith in
    let m' : 4 * (2 * i + 1 + 1) ≡ 8 * (i + 1) = omega arith in
    let lower : four_cubes (2 * (8 * w + i)) (v % 16) ≡ four_cubes (16 * w + 2 * i) (x / 2 ^ (4 * (2 * i)) % 16) = ap₂ fours (omega arith) low in
    let upper : four_cubes (2 * (8 * w + i) + 1) (v / 16) ≡ four_cubes (16 * w + (2 * i + 1)) (x / 2 ^ (4 * (2 * i + 1)) % 16) = ap₂ fours (omega arith) high in
    let first : word_cubes w x (8 * i) + four_cubes (2 * (8 * w + i)) (v % 16) ≡ word_cubes w x (4 * (2 * i + 1)) = ap₂ ◌+◌ (ap (word_cubes w x) m) lower ∙ four_more w x (2 * i) in
    sum (word_cubes w x (8 * i)) (four_cubes (2 * (8 * w + i)) (v % 16)) (four_cubes (2 * (8 * w + i) + 1) (v / 16))
    ∙ ap₂ ◌+◌ first upper
    ∙ four_more w x (2 * i + 1)
    ∙ ap (word_cubes w x) m'
  where
    v : ℕ
    v = x / 2 ^ (8 * i) % 256

    fours : ℕ → ℕ → ℕ
    fours b y = four_cubes b y

    sum : (a b c : ℕ) → a + (b + c) ≡ a + b + c
    sum a b c = omega arith

    low : v % 16 ≡ x / 2 ^ (4 * (2 * i)) % 16
    low = let m : 8 * i ≡ 4 * (2 * i) = omega arith in let z : x / 2 ^ (8 * i) ≡ x / 2 ^ (4 * (2 * i)) = ap (λ (k : ℕ). x / 2 ^ k) m in omega arith

    high : v / 16 ≡ x / 2 ^ (4 * (2 * i + 1)) % 16
    high = let m : 8 * i + 4 ≡ 4 * (2 * i + 1) = omega arith in let z : x / 2 ^ (8 * i) / 16 ≡ x / 2 ^ (4 * (2 * i + 1)) = shr-shr x (8 * i) 4 ∙ ap (λ (k : ℕ). x / 2 ^ k) m in omega arith

pub word_more : (w x i t s r : ℕ) → t ≡ word_cubes w x (8 * i) % 2 ^ 32 → s ≡ eight_cubes (8 * w + i) (x / 2 ^ (8 * i) % 256) → r ≡ (t + s) % 2 ^ 32 → r ≡ word_cubes w x (8 * (i + 1)) % 2 ^ 32
word_more w x i t s r e f g = omega (arith, eight_more w x i)

module _ (edges : List ℕ) (p : ℕ) where
  word-cubes : (w m : ℕ) → m ≤ 64 → word_cubes w (slice_index edges (8 * p + w)) m ≡ sum_cubes (filter (edge_bit edges p) (from (64 * w) m))
  unfolding word_cubes
  word-cubes w zero h = nothing
    where
      nothing : 0 ≡ sum_cubes (filter (edge_bit edges p) (from (64 * w) 0))
      nothing = unfold filter sum_cubes from in refl
  word-cubes w (suc m) h = step (word-cubes w m (omega arith))
    where
      step : word_cubes w (slice_index edges (8 * p + w)) m ≡ sum_cubes (filter (edge_bit edges p) (from (64 * w) m))
          → word_cubes w (slice_index edges (8 * p + w)) m + cond (bit_at (slice_index edges (8 * p + w)) m) (cube (64 * w + m)) 0 ≡ sum_cubes (filter (edge_bit edges p) (from (64 * w) (suc m)))
      step e =
          let s : m + 1 ≡ suc m = omega arith in
          let b : cond (bit_at (slice_index edges (8 * p + w)) m) (cube (64 * w + m)) 0 ≡ cond (edge_bit edges p (64 * w + m)) (cube (64 * w + m)) 0 = ap (λ (t : Bool). cond t (cube (64 * w + m)) 0) (sym (word-bit edges p w m (omega arith))) in
          let j : sum_cubes (filter (edge_bit edges p) (from (64 * w) (m + 1))) ≡ sum_cubes (filter (edge_bit edges p) (from (64 * w) (suc m))) = ap (λ (i : ℕ). sum_cubes (filter (edge_bit edges p) (from (64 * w) i))) s in
          omega (arith, cubes_split (edge_bit edges p) (64 * w) m 1, cubes_one (edge_bit edges p) (64 * w + m))

  row-cubes : (m : ℕ) → row_cubes edges p m ≡ sum_cubes (filter (edge_bit edges p) (from 0 (64 * m)))
  unfolding row_cubes
  row-cubes zero = nothing
    where
      nothing : 0 ≡ sum_cubes (filter (edge_bit edges p) (from 0 (64 * 0)))
      nothing = unfold filter sum_cubes from in refl
  row-cubes (suc m) = step (row-cubes m)
    where
      step : row_cubes edges p m ≡ sum_cubes (filter (edge_bit edges p) (from 0 (64 * m))) → row_cubes edges p m + word_cubes m (slice_index edges (8 * p + m)) 64 ≡ sum_cubes (filter (edge_bit edges p) (from 0 (64 * suc m)))
      step e =
          let j : sum_cubes (filter (edge_bit edges p) (from 0 (64 * m + 64))) ≡ sum_cubes (filter (edge_bit edges p) (from 0 (64 * suc m))) = ap (λ (i : ℕ). sum_cubes (filter (edge_bit edges p) (from 0 i))) (omega arith) in
          let z : sum_cubes (filter (edge_bit edges p) (from (0 + 64 * m) 64)) ≡ sum_cubes (filter (edge_bit edges p) (from (64 * m) 64)) = ap (λ (i : ℕ). sum_cubes (filter (edge_bit edges p) (from i 64))) (omega arith) in
          omega (arith, cubes_split (edge_bit edges p) 0 (64 * m) 64, word-cubes m 64 (omega arith))

  -- the key of a row without bits for numbers from n on: no word after the first for n nodes has a bit
  pub dense_key : (n : ℕ) → n ≤ 512 → p < n → ((q : ℕ) → q < 512 → edge_bit edges p q ≡ true → q < n) → row_cubes edges p (words_for n) % 2 ^ 32 ≡ open_key (whole (graph_in n edges)) p
  unfolding open_key nodes edges_in
  dense_key n l hp inside = ap (λ (s : ℕ). s % 2 ^ 32) (row-cubes (words_for n) ∙ both)
    where
      none : sum_cubes (filter (edge_bit edges p) (from (0 + n) (64 * words_for n - n))) ≡ 0
      none = cubes_cong (from (0 + n) (64 * words_for n - n)) (edge_bit edges p) (λ q. false) (λ q m. off q (from_out (0 + n) (64 * words_for n - n) q m) (decide (edge_bit edges p q))) ∙ no_cubes (from (0 + n) (64 * words_for n - n))
        where
          off : (q : ℕ) → (0 + n ≤ q) × (q < 0 + n + (64 * words_for n - n)) → (edge_bit edges p q ≡ true) ⊎ (edge_bit edges p q ≡ false) → edge_bit edges p q ≡ false
          off q b (inl t) = absurd (omega (arith, b.0, b.1, inside q (omega (arith, b.1)) t))
          off q b (inr t) = t

      both : sum_cubes (filter (edge_bit edges p) (from 0 (64 * words_for n))) ≡ sum_cubes (filter (λ q. nat_lt p n && (nat_lt q n && edge_bit edges p q)) (from 0 n))
      both =
          let s : n + (64 * words_for n - n) ≡ 64 * words_for n = omega arith in
          let j : sum_cubes (filter (edge_bit edges p) (from 0 (n + (64 * words_for n - n)))) ≡ sum_cubes (filter (edge_bit edges p) (from 0 (64 * words_for n))) = ap (λ (i : ℕ). sum_cubes (filter (edge_bit edges p) (from 0 i))) s in
          let k = cubes_cong (from 0 n) (edge_bit edges p) (λ q. nat_lt p n && (nat_lt q n && edge_bit edges p q)) (λ q m. rw (lt-ltb p n hp, lt-ltb q n (omega (arith, (from_out 0 n q m).1)))) in
          omega (arith, cubes_split (edge_bit edges p) 0 n (64 * words_for n - n), none)
