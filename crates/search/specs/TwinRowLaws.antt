-- Rows of words and keys tell who is similar.
use Rattle.std.specs.Prelude.{◌≡◌, refl, Bool, true, false, cond, ◌||◌, List, ◌⊎◌, ℕ, ◌+◌, ◌*◌, ◌/◌, ◌%◌, ◌^◌, ◌≤◌, ◌<◌, ltb, get_or}
use Rattle.std.proofs.Math.Path.{sym, ap}
use Rattle.std.proofs.Common.{ap₂, ◌∙◌, inl, inr, mul-le-mul_left, mul-le-mul_right, mul-suc, arith, pow_pos}
use Rattle.std.proofs.Math.Bool.{xor, and-false, or-false}
use Rattle.std.specs.Int.Bits.{bit_xor}
use Rattle.std.proofs.lemmas.Nat.{xor_lt}
use Rattle.std.proofs.Math.Dec.{eqb}
use Rattle.std.proofs.Math.Pow.{pow-lt}
use borrow.Author.Tests.{eqb-true, eqb-false, eq-eqb, ne_eqb, le-ltb, ltb-true, ltb-false}
use Rattle.model.specs.Lists.{filter, nodes}
use Rattle.model.specs.Graph.{View, whole}
use Rattle.model.specs.Grouping.{closed, cube, false_twins, sum_cubes, true_twins}
use Rattle.model.specs.Tables.{bit_at, word, edges_in, graph_in}
use Rattle.model.proofs.TestLaws.{decide, differ, iff_eq, or_right}
use Rattle.model.proofs.ListLaws.{nodes_ascending, nodes_in_lem, nodes_out}
use Rattle.model.proofs.TwinLaws.{false_twins_at, false_twins_by, true_twins_at, true_twins_by}
use Rattle.model.proofs.TableLaws.{bit_at-word}
use Rattle.search.specs.Search.{Ready, key_agrees, own_bit, own_bits}
use Rattle.rows.specs.BitLaws.{bit_pow, bit_xor_lem, bit_zero, word_bits, word_cong}
use Rattle.rows.specs.EdgeLaws.{edges_at, edges_words}
use Rattle.rows.specs.KeyLaws.{cube-le, cubes_cong, cubes_set, keys_at}
use Rattle.rows.specs.Rows.{key_of}

-- two words with the same bits
pub words_eq : (x y : ℕ) → x < 2 ^ 64 → y < 2 ^ 64 → ((j : ℕ) → j < 64 → bit_at x j ≡ bit_at y j) → x ≡ y
words_eq x y hx hy h = omega (arith, word_bits 64 x, word_bits 64 y, word_cong 64 (bit_at x) (bit_at y) h)

-- the bits of the own word
pub own_bit_lem : (q i j : ℕ) → j < 64 → bit_at (own_bit q i) j ≡ eqb q (64 * i + j)
unfolding own_bit
own_bit_lem q i j l = step (decide (eqb (q / 64) i))
  where
    step : (eqb (q / 64) i ≡ true) ⊎ (eqb (q / 64) i ≡ false) → bit_at (cond (eqb (q / 64) i) (2 ^ (q % 64)) 0) j ≡ eqb q (64 * i + j)
    step (inl x) =
        let e : q / 64 ≡ i = eqb-true (q / 64) i x in
        rw x (bit_pow j (q % 64) ∙ iff_eq (eqb j (q % 64)) (eqb q (64 * i + j)) (λ t. eq-eqb q (64 * i + j) (omega (arith, eqb-true j (q % 64) t))) (λ t. eq-eqb j (q % 64) (omega (arith, eqb-true q (64 * i + j) t))))
    step (inr x) =
        let d : q / 64 ≡ i → ⊥ = eqb-false (q / 64) i x in
        rw x (bit_zero j ∙ sym (ne_eqb q (64 * i + j) (λ e. d (omega arith))))

pub own_bit-lt : (q i : ℕ) → own_bit q i < 2 ^ 64
unfolding own_bit
own_bit-lt q i = step (eqb (q / 64) i)
  where
    step : (b : Bool) → cond b (2 ^ (q % 64)) 0 < 2 ^ 64
    step true = pow-lt {i = q % 64} {j = 64} (omega arith)
    step false = pow_pos 64

pub own_bits_lem : (c : Bool) (u q i j : ℕ) → j < 64 → bit_at (own_bits c u q i) j ≡ cond c (xor (eqb u (64 * i + j)) (eqb q (64 * i + j))) false
unfolding own_bits
own_bits_lem true u q i j l = bit_xor_lem (own_bit u i) (own_bit q i) j ∙ ap₂ xor (own_bit_lem u i j l) (own_bit_lem q i j l)
own_bits_lem false u q i j l = bit_zero j

pub own_bits-lt : (c : Bool) (u q i : ℕ) → own_bits c u q i < 2 ^ 64
unfolding own_bits
own_bits-lt true u q i = xor_lt 64 (own_bit u i) (own_bit q i) (own_bit-lt u i) (own_bit-lt q i)
own_bits-lt false u q i = pow_pos 64

-- tests by xor
pub xor_none : (a b : Bool) → xor a b ≡ false → a ≡ b
unfolding xor
xor_none true true h = refl
xor_none true false h = differ refl h
xor_none false true h = differ refl h
xor_none false false h = refl

pub xor_same : (a : Bool) → xor a a ≡ false
unfolding xor
xor_same true = refl
xor_same false = refl

-- two pairs that differ alike, sorted the other way
pub xor_swap : (a b c d : Bool) → xor a b ≡ xor c d → xor a c ≡ xor b d
unfolding xor
xor_swap true true true true h = refl
xor_swap true true false false h = refl
xor_swap false false true true h = refl
xor_swap false false false false h = refl
xor_swap true false true false h = refl
xor_swap true false false true h = refl
xor_swap false true true false h = refl
xor_swap false true false true h = refl
xor_swap true true true false h = differ h refl
xor_swap true true false true h = differ h refl
xor_swap false false true false h = differ h refl
xor_swap false false false true h = differ h refl
xor_swap true false true true h = differ refl h
xor_swap true false false false h = differ refl h
xor_swap false true true true h = differ refl h
xor_swap false true false false h = differ refl h

pub or_xor : (a b : Bool) → (b ≡ true → a ≡ false) → (a || b) ≡ xor a b
unfolding xor
or_xor true true h = differ refl (h refl)
or_xor true false h = refl
or_xor false true h = refl
or_xor false false h = refl

-- cubes differ
cube-lt : (x y : ℕ) → x < y → x * x * x < y * y * y
cube-lt x y h =
    let a : x * x ≤ y * x = mul-le-mul_right x (omega arith) in
    let b : y * x ≤ y * y = mul-le-mul_left y (omega arith) in
    let c : x * x * x ≤ y * y * x = mul-le-mul_right x (omega arith) in
    let d : y * y * (x + 1) ≤ y * y * y = mul-le-mul_left (y * y) (omega arith) in
    let e : y * y * (x + 1) ≡ y * y * x + y * y = omega (arith, mul-suc (y * y) x) in
    let f : 1 * 1 ≤ y * y = square y (omega arith) in
    omega arith
  where
    square : (y : ℕ) → 1 ≤ y → 1 ≤ y * y
    square y l = omega (arith, mul-le-mul_left y l)

pub cube-apart : (p q : ℕ) → cube p ≡ cube q → p ≡ q
cube-apart p q h = step (decide (ltb p q)) (decide (ltb q p))
  where
    step : (ltb p q ≡ true) ⊎ (ltb p q ≡ false) → (ltb q p ≡ true) ⊎ (ltb q p ≡ false) → p ≡ q
    step (inl x) y = absurd (omega (arith, cube-lt (p + 1) (q + 1) (omega (arith, ltb-true p q x))))
    step (inr x) (inl y) = absurd (omega (arith, cube-lt (q + 1) (p + 1) (omega (arith, ltb-true q p y))))
    step (inr x) (inr y) = omega (arith, ltb-false p q x, ltb-false q p y)

module _ (n : ℕ) (edges keys : List ℕ) (ready : Ready n edges keys) where
  abbrev e : ℕ → ℕ → Bool
  e = edges_in n edges

  abbrev v : View
  v = whole (graph_in n edges)

  outside : (p x : ℕ) → n ≤ x → e p x ≡ false
  unfolding edges_in
  outside p x h = rw (le-ltb x n h) (and-false (ltb p n))

  word_at : (p w : ℕ) → p < n → w < 8 → get_or edges (8 * p + w) 0 ≡ word 64 (λ i. e p (64 * w + i))
  word_at p w hp hw = ap (λ (t : List ℕ). get_or t (8 * p + w) 0) ready.edges_of_lem ∙ edges_at (graph_in n edges) p w hp hw

  pub word_small : (i : ℕ) → get_or edges i 0 < 2 ^ 64
  word_small i = rw ready.edges_of_lem (edges_words (graph_in n edges) i)

  key-at : (p k : ℕ) → p < n → k < 2 → get_or keys (2 * p + k) 0 ≡ key_of (graph_in n edges) p k
  key-at p k hp hk = ap (λ (t : List ℕ). get_or t (2 * p + k) 0) ready.keys_of_lem ∙ keys_at (graph_in n edges) p k hp hk

  -- N+ by xor
  closed-xor : (p x : ℕ) → closed e p x ≡ xor (e p x) (eqb p x)
  unfolding closed
  closed-xor p x = or_xor (e p x) (eqb p x) (λ t. ap (e p) (sym (eqb-true p x t)) ∙ ready.loops p)

  module _ (u q : ℕ) (hu : u < n) (hq : q < n) where
    abbrev Meet : Bool → ℕ → Type 0
    Meet c w = bit_xor (get_or edges (8 * u + w) 0) (get_or edges (8 * q + w) 0) ≡ own_bits c u q w

    abbrev Alike : Bool → ℕ → Type 0
    Alike c x = xor (e u x) (e q x) ≡ cond c (xor (eqb u x) (eqb q x)) false

    bit-of-words : (w j : ℕ) → w < 8 → j < 64 → bit_at (bit_xor (get_or edges (8 * u + w) 0) (get_or edges (8 * q + w) 0)) j ≡ xor (e u (64 * w + j)) (e q (64 * w + j))
    bit-of-words w j hw hj =
        bit_xor_lem (get_or edges (8 * u + w) 0) (get_or edges (8 * q + w) 0) j
        ∙ ap₂ xor (ap (λ (x : ℕ). bit_at x j) (word_at u w hu hw) ∙ bit_at-word 64 (λ i. e u (64 * w + i)) j hj) (ap (λ (x : ℕ). bit_at x j) (word_at q w hq hw) ∙ bit_at-word 64 (λ i. e q (64 * w + i)) j hj)

    alike : (c : Bool) → ((w : ℕ) → w < 8 → Meet c w) → (x : ℕ) → x < 512 → Alike c x
    alike c h x l =
        let s : 64 * (x / 64) + x % 64 ≡ x = omega arith in
        rw s at (sym (bit-of-words (x / 64) (x % 64) (omega arith) (omega arith)) ∙ ap (λ (y : ℕ). bit_at y (x % 64)) (h (x / 64) (omega arith)) ∙ own_bits_lem c u q (x / 64) (x % 64) (omega arith))

    meet : (c : Bool) → ((x : ℕ) → Alike c x) → (w : ℕ) → w < 8 → Meet c w
    meet c h w l =
        words_eq (bit_xor (get_or edges (8 * u + w) 0) (get_or edges (8 * q + w) 0)) (own_bits c u q w)
        (xor_lt 64 (get_or edges (8 * u + w) 0) (get_or edges (8 * q + w) 0) (word_small (8 * u + w)) (word_small (8 * q + w)))
        (own_bits-lt c u q w)
        (λ j k. bit-of-words w j l k ∙ h (64 * w + j) ∙ sym (own_bits_lem c u q w j k))

    -- equal rows are those of false twins
    false-alike : false_twins v u q ≡ true → (x : ℕ) → Alike false x
    false-alike h x = step (decide (ltb x n))
      where
        step : (ltb x n ≡ true) ⊎ (ltb x n ≡ false) → xor (e u x) (e q x) ≡ false
        step (inl t) = rw (false_twins_at v u q h x (nodes_in_lem n x (ltb-true x n t))) (xor_same (e q x))
        step (inr t) = rw (outside u x (ltb-false x n t), outside q x (ltb-false x n t)) (xor_same false)

    pub false_meet : false_twins v u q ≡ true → (w : ℕ) → w < 8 → Meet false w
    false_meet h = meet false (false-alike h)

    pub meet_false : ((w : ℕ) → w < 8 → Meet false w) → false_twins v u q ≡ true
    meet_false h = false_twins_by v u q (λ x m. xor_none (e u x) (e q x) (alike false h x (omega (arith, nodes_out n x m, ready.small))))

    -- rows equal but for the own bits are those of true twins
    true-alike : true_twins v u q ≡ true → (x : ℕ) → Alike true x
    true-alike h x = step (decide (ltb x n))
      where
        step : (ltb x n ≡ true) ⊎ (ltb x n ≡ false) → Alike true x
        step (inl t) = xor_swap (e u x) (eqb u x) (e q x) (eqb q x) (sym (closed-xor u x) ∙ true_twins_at v u q h x (nodes_in_lem n x (ltb-true x n t)) ∙ closed-xor q x)
        step (inr t) =
            let l : n ≤ x = ltb-false x n t in
            rw (outside u x l, outside q x l, ne_eqb u x (omega arith), ne_eqb q x (omega arith))

    pub true_meet : true_twins v u q ≡ true → (w : ℕ) → w < 8 → Meet true w
    true_meet h = meet true (true-alike h)

    pub meet_true : ((w : ℕ) → w < 8 → Meet true w) → true_twins v u q ≡ true
    meet_true h =
        true_twins_by v u q
        (λ x m. closed-xor u x ∙ xor_swap (e u x) (e q x) (eqb u x) (eqb q x) (alike true h x (omega (arith, nodes_out n x m, ready.small))) ∙ sym (closed-xor q x))

    -- twins have equal keys
    pub false_key : false_twins v u q ≡ true → key_agrees keys 0 u q ≡ true
    unfolding key_agrees
    false_key h = eq-eqb (get_or keys (2 * u + 0) 0) (get_or keys (2 * q + 0) 0) (key-at u 0 hu (omega arith) ∙ same ∙ sym (key-at q 0 hq (omega arith)))
      where
        sums : sum_cubes (filter (e u) (nodes n)) ≡ sum_cubes (filter (e q) (nodes n))
        sums = cubes_cong (nodes n) (e u) (e q) (λ x m. false_twins_at v u q h x m)

        same : key_of (graph_in n edges) u 0 ≡ key_of (graph_in n edges) q 0
        same = omega (arith, sums)

    with-own : (p : ℕ) → p < n → sum_cubes (filter (closed e p) (nodes n)) ≡ cube p + sum_cubes (filter (e p) (nodes n))
    unfolding closed
    with-own p hp = cubes_set (nodes n) (nodes_ascending n) (e p) (λ x. e p x || eqb p x) p (nodes_in_lem n p hp) (ready.loops p) (or_right (e p p) (eq-eqb p p refl)) (λ j d. sym (ap (λ (b : Bool). e p j || b) (ne_eqb p j (λ k. d (sym k))) ∙ or-false (e p j)))

    pub true_key : true_twins v u q ≡ true → key_agrees keys 1 u q ≡ true
    unfolding key_agrees
    true_key h = eq-eqb (get_or keys (2 * u + 1) 0) (get_or keys (2 * q + 1) 0) (key-at u 1 hu (omega arith) ∙ same ∙ sym (key-at q 1 hq (omega arith)))
      where
        sums : sum_cubes (filter (closed e u) (nodes n)) ≡ sum_cubes (filter (closed e q) (nodes n))
        sums = cubes_cong (nodes n) (closed e u) (closed e q) (λ x m. true_twins_at v u q h x m)

        same : key_of (graph_in n edges) u 1 ≡ key_of (graph_in n edges) q 1
        same = omega (arith, sums, with-own u hu, with-own q hq)

    -- open and closed keys of two nodes never agree both
    pub keys_apart : key_agrees keys 0 u q ≡ true → key_agrees keys 1 u q ≡ true → u ≡ q
    unfolding key_agrees
    keys_apart a b = cube-apart u q (omega (arith, first, second, cube-le (u + 1) (omega (arith, ready.small)), cube-le (q + 1) (omega (arith, ready.small))))
      where
        first : key_of (graph_in n edges) u 0 ≡ key_of (graph_in n edges) q 0
        first = sym (key-at u 0 hu (omega arith)) ∙ eqb-true (get_or keys (2 * u + 0) 0) (get_or keys (2 * q + 0) 0) a ∙ key-at q 0 hq (omega arith)

        second : key_of (graph_in n edges) u 1 ≡ key_of (graph_in n edges) q 1
        second = sym (key-at u 1 hu (omega arith)) ∙ eqb-true (get_or keys (2 * u + 1) 0) (get_or keys (2 * q + 1) 0) b ∙ key-at q 1 hq (omega arith)
