-- The tables that are filled at an opening are those of the graph without edges.
use Rattle.std.specs.Prelude.{◌≡◌, refl, true, false, cond, ◌⊎◌, ℕ, suc, zero, ◌+◌, ◌*◌, ◌-◌, ◌/◌, ◌%◌, ◌^◌, ◌≤◌, ◌<◌, eqb, ltb, set, replicate}
use Rattle.std.proofs.Math.Path.{sym, ap}
use Rattle.std.proofs.Common.{◌∙◌, inl, inr, zero-mul, pow_pos, eqb-true, ltb-true, ltb-false, lt-ltb, le-ltb}
use mathlib.Core.List.{List}
use native.Mathlib.Omega.{arith}
use Rattle.std.proofs.Math.ListN.{length, get_or, length-replicate, length-set}
use Rattle.std.proofs.Math.Seq.{get_or-set_same, get_or-set_other, ext_get_or}
use Rattle.std.proofs.lemmas.Bool.{eqb-false}
use Rattle.model.specs.Lists.{nodes}
use Rattle.model.specs.Graph.{Graph, empty_graph, max_nodes, row_words, node_numbers, whole}
use Rattle.model.specs.Grouping.{cube, similar}
use Rattle.model.specs.Tables.{node_number, nodes_of, keys_of, edges_of, edge_bit, bit_at, tables_of}
use Rattle.model.proofs.TestLaws.{decide}
use Rattle.model.proofs.TwinLaws.{similar_N, false_twins_by}
use Rattle.model.proofs.UpdateLaws.{proper_empty}
use Rattle.model.proofs.TableLaws.{length_keys}
use Rattle.buffers.specs.FilledLaws.{get_d_zeros}
use Rattle.rows.specs.BitLaws.{bit_zero}
use Rattle.rows.specs.Rows.{lent, Words}
use Rattle.rows.specs.EdgeLaws.{edges_by_bits}
use Rattle.rows.specs.KeyLaws.{cube-le, keys_at, no_cubes}
use Rattle.rings.specs.Ring.{up, Best, Table, Of}
use Rattle.rings.specs.NodesLaws.{is_nodes}
use Rattle.opening.specs.Open.{ring_next, ring_prev, NodePut, NodesFilled, KeysFilled}

-- five stores at node p
module _ (t : List ℕ) (p x y : ℕ) (fits : node_numbers * p + node_numbers ≤ length t) where
  abbrev t₁ : List ℕ
  t₁ = set t (5 * p) 0

  abbrev t₂ : List ℕ
  t₂ = set t₁ (5 * p + 1) x

  abbrev t₃ : List ℕ
  t₃ = set t₂ (5 * p + 2) y

  abbrev t₄ : List ℕ
  t₄ = set t₃ (5 * p + 3) 0

  abbrev t₅ : List ℕ
  t₅ = set t₄ (5 * p + 4) 0

  size₁ : length t₁ ≡ length t
  size₁ = length-set t (5 * p) 0

  size₂ : length t₂ ≡ length t
  size₂ = length-set t₁ (5 * p + 1) x ∙ size₁

  size₃ : length t₃ ≡ length t
  size₃ = length-set t₂ (5 * p + 2) y ∙ size₂

  size₄ : length t₄ ≡ length t
  size₄ = length-set t₃ (5 * p + 3) 0 ∙ size₃

  -- what a later store leaves
  after₂ : (i : ℕ) → (i ≡ 5 * p + 2 → ⊥) → (i ≡ 5 * p + 3 → ⊥) → (i ≡ 5 * p + 4 → ⊥) → get_or t₅ i 0 ≡ get_or t₂ i 0
  after₂ i a b c = get_or-set_other t₄ (5 * p + 4) i 0 0 c ∙ get_or-set_other t₃ (5 * p + 3) i 0 0 b ∙ get_or-set_other t₂ (5 * p + 2) i y 0 a

  pub node_put : NodePut p x y t t₅
  unfolding node_number
  node_put = record {
    size = length-set t₄ (5 * p + 4) 0 ∙ size₄;
    least_at = after₂ (5 * p + 0) (omega arith) (omega arith) (omega arith) ∙ get_or-set_other t₁ (5 * p + 1) (5 * p + 0) x 0 (omega arith) ∙ first;
    next_at = after₂ (5 * p + 1) (omega arith) (omega arith) (omega arith) ∙ get_or-set_same t₁ (5 * p + 1) x 0 (omega (arith, size₁));
    prev_at = get_or-set_other t₄ (5 * p + 4) (5 * p + 2) 0 0 (omega arith) ∙ get_or-set_other t₃ (5 * p + 3) (5 * p + 2) 0 0 (omega arith) ∙ get_or-set_same t₂ (5 * p + 2) y 0 (omega (arith, size₂));
    mark_at_lem = get_or-set_other t₄ (5 * p + 4) (5 * p + 3) 0 0 (omega arith) ∙ get_or-set_same t₃ (5 * p + 3) 0 0 (omega (arith, size₃));
    class_at_lem = get_or-set_same t₄ (5 * p + 4) 0 0 (omega (arith, size₄));
    off = λ q k d h. after₂ (5 * q + k) (omega arith) (omega arith) (omega arith) ∙ get_or-set_other t₁ (5 * p + 1) (5 * q + k) x 0 (omega arith) ∙ get_or-set_other t (5 * p) (5 * q + k) 0 0 (omega arith);
  }
    where
      first : get_or t₁ (5 * p + 0) 0 ≡ 0
      first = let e : 5 * p + 0 ≡ 5 * p = omega arith in rw e (get_or-set_same t (5 * p) 0 0 (omega arith))

-- without edges all nodes are similar
empty_similar : (n p q : ℕ) → similar (whole (empty_graph n)) p q ≡ true
unfolding empty_graph
empty_similar n p q = similar_N (whole (empty_graph n)) p q refl (false_twins_by (whole (empty_graph n)) p q (λ r m. refl))

-- a step of the ring is a step upwards, and back
next_up : (n p : ℕ) → p < n → up n p (ring_next n p) ≡ 1
unfolding up ring_next
next_up n p h = step (decide (ltb (p + 1) n))
  where
    step : (ltb (p + 1) n ≡ true) ⊎ (ltb (p + 1) n ≡ false) → cond (ltb p (cond (ltb (p + 1) n) (p + 1) 0)) (cond (ltb (p + 1) n) (p + 1) 0 - p) (cond (ltb (p + 1) n) (p + 1) 0 + n - p) ≡ 1
    step (inl t) = rw (t, lt-ltb p (p + 1) (omega arith)) (omega arith)
    step (inr t) = rw (t, le-ltb p 0 (omega arith)) (omega (arith, ltb-false (p + 1) n t))

prev_up : (n p : ℕ) → p < n → up n (ring_prev n p) p ≡ 1
unfolding up ring_prev
prev_up n p h = step (decide (eqb p 0))
  where
    step : (eqb p 0 ≡ true) ⊎ (eqb p 0 ≡ false) → cond (ltb (cond (eqb p 0) (n - 1) (p - 1)) p) (p - cond (eqb p 0) (n - 1) (p - 1)) (p + n - cond (eqb p 0) (n - 1) (p - 1)) ≡ 1
    step (inl t) = rw (t, le-ltb (n - 1) p (omega (arith, eqb-true p 0 t))) (omega (arith, eqb-true p 0 t))
    step (inr t) = rw (t, lt-ltb (p - 1) p (omega (arith, eqb-false p 0 t))) (omega (arith, eqb-false p 0 t))

up_pos : (n p q : ℕ) → p < n → q < n → 1 ≤ up n p q
unfolding up
up_pos n p q hp hq = step (decide (ltb p q))
  where
    step : (ltb p q ≡ true) ⊎ (ltb p q ≡ false) → 1 ≤ cond (ltb p q) (q - p) (q + n - p)
    step (inl t) = rw t (omega (arith, ltb-true p q t))
    step (inr t) = rw t (omega arith)

ring_in : (n p : ℕ) → p < n → (ring_next n p < n) × (ring_prev n p < n)
unfolding ring_next ring_prev
ring_in n p h = (next (decide (ltb (p + 1) n)), prev (decide (eqb p 0)))
  where
    next : (ltb (p + 1) n ≡ true) ⊎ (ltb (p + 1) n ≡ false) → cond (ltb (p + 1) n) (p + 1) 0 < n
    next (inl t) = rw t (ltb-true (p + 1) n t)
    next (inr t) = rw t (omega arith)

    prev : (eqb p 0 ≡ true) ⊎ (eqb p 0 ≡ false) → cond (eqb p 0) (n - 1) (p - 1) < n
    prev (inl t) = rw t (omega arith)
    prev (inr t) = rw t (omega arith)

-- the filled tables
module _ (n : ℕ) (small : n ≤ max_nodes) where
  abbrev g : Graph
  g = empty_graph n

  abbrev R : ℕ → ℕ → Type 0
  R = Of n (similar (whole (empty_graph n)))

  nearest : (δ : ℕ → ℕ → ℕ) (p x : ℕ) → p < n → x < n → ((r : ℕ) → r < n → δ p x ≤ δ p r) → {v : ℕ} → v ≡ x → Best (R p) (δ p) v
  nearest δ p x hp hx near e = rw e (record { mem = (hp, hx, empty_similar n p x); near = λ r m. near r m.1 })

  pub nodes-opened : {t t₁ : List ℕ} → length t ≡ node_numbers * n → NodesFilled n n t t₁ → t₁ ≡ nodes_of (empty_graph n)
  unfolding empty_graph
  nodes-opened {t} {t₁} l a = is_nodes g (proper_empty n small) table (a.size ∙ l) (record { marks = a.mark; classes = a.class })
    where
      table : Table n R t₁
      table = record {
        least = λ p h. nearest (λ a b. b) p 0 h (omega arith) (λ r m. omega arith) (a.least p h);
        next = λ p h. nearest (up n) p (ring_next n p) h (ring_in n p h).0 (λ r m. omega (arith, next_up n p h, up_pos n p r h m)) (a.next p h);
        prev = λ p h. nearest (λ a b. up n b a) p (ring_prev n p) h (ring_in n p h).1 (λ r m. omega (arith, prev_up n p h, up_pos n r p m h)) (a.prev p h);
      }

  pub keys_opened : {t t₁ : List ℕ} → length t ≡ 2 * n → KeysFilled n t t₁ → t₁ ≡ keys_of (empty_graph n)
  unfolding empty_graph
  keys_opened {t} {t₁} l a = ext_get_or 0 t₁ (keys_of g) (a.size ∙ l ∙ sym (length_keys g)) at
    where
      key : (p k : ℕ) → p < n → k < 2 → get_or (keys_of g) (2 * p + k) 0 ≡ (k * cube p) % 2 ^ 32
      key p k hp hk = let z : 0 + k * cube p ≡ k * cube p = omega arith in keys_at g p k hp hk ∙ ap (λ (x : ℕ). (x + k * cube p) % 2 ^ 32) (no_cubes (nodes n)) ∙ ap (λ (x : ℕ). x % 2 ^ 32) z

      half : (i k : ℕ) → i < length t₁ → k ≡ i % 2 → get_or t₁ i 0 ≡ get_or (keys_of g) i 0
      half i zero h e =
          let w : i ≡ 2 * (i / 2) + 0 = omega arith in
          let v : 2 * (i / 2) + 0 ≡ 2 * (i / 2) = omega arith in
          let z : 0 * cube (i / 2) % 2 ^ 32 ≡ 0 = rw (zero-mul (cube (i / 2))) in
          rw w (ap (λ (x : ℕ). get_or t₁ x 0) v ∙ a.opened (i / 2) (omega (arith, a.size)) ∙ sym (key (i / 2) 0 (omega (arith, a.size)) (omega arith) ∙ z))
      half i (suc zero) h e =
          let w : i ≡ 2 * (i / 2) + 1 = omega arith in
          let m : i / 2 < n = omega (arith, a.size) in
          let s : 1 * cube (i / 2) % 2 ^ 32 ≡ cube (i / 2) = omega (arith, cube-le (i / 2 + 1) (omega arith)) in
          rw w (a.closed (i / 2) m ∙ sym (key (i / 2) 1 m (omega arith) ∙ s))
      half i (suc (suc k)) h e = absurd (omega arith)

      at : (i : ℕ) → i < length t₁ → get_or t₁ i 0 ≡ get_or (keys_of g) i 0
      at i h = half i (i % 2) h refl

  pub edges_opened : {k : ℕ} {t₁ : List ℕ} → k ≡ row_words * n → t₁ ≡ replicate k 0 → t₁ ≡ edges_of (empty_graph n)
  unfolding empty_graph edge_bit
  edges_opened {k} {t₁} l a = edges_by_bits g t₁ (ap length a ∙ length-replicate k 0 ∙ l) words (λ p q hp hq. ap (λ (x : ℕ). bit_at x (q % 64)) (word (row_words * p + q / 64)) ∙ bit_zero (q % 64))
    where
      word : (i : ℕ) → get_or t₁ i 0 ≡ 0
      word i = ap (λ (s : List ℕ). get_or s i 0) a ∙ get_d_zeros k i

      words : Words t₁
      words i = rw (word i) (pow_pos 64)

  -- the three tables of an opening
  pub tables_opened : {k : ℕ} {es₁ ns ns₁ ks ks₁ : List ℕ} → k ≡ row_words * n → length ns ≡ node_numbers * n → length ks ≡ 2 * n
      → es₁ ≡ replicate k 0 → NodesFilled n n ns ns₁ → KeysFilled n ks ks₁ → lent es₁ ns₁ ks₁ ≡ tables_of (empty_graph n)
  unfolding tables_of
  tables_opened le ln lk a b c = λ i. record { edges = edges_opened le a i; nodes = nodes-opened ln b i; keys = keys_opened lk c i }
