-- What the search tries tells which group a node joins.
use Rattle.std.specs.Prelude.{◌≡◌, not, ◌&&◌, ◌⊎◌, ltb, length, get_or, take, drop, Option, Some, None, MatchOption, is_some, IsTrue, ◌↔◌}
use Rattle.std.proofs.Math.Path.{refl, sym}
use Rattle.std.proofs.Common.{ap, ◌∙◌, inl, inr, length-take, length-drop, get_or-drop, get_or-take}
use Rattle.std.proofs.Math.Bool.{Bool, true, false, cond, and-false}
use mathlib.Core.List.{List}
use Prim.Native.Nat.{ℕ, zero, suc, ◌+◌, ◌*◌, ◌-◌, ◌≤◌, ◌<◌}
use native.Mathlib.Omega.{arith}
use Rattle.std.specs.Int.Bits.{bit_xor}
use Rattle.std.proofs.Math.Dec.{eqb}
use Rattle.std.proofs.Math.Decide.{ℕ_discrete}
use borrow.Author.Tests.{eqb-true, eqb-false, eq-eqb, ltb-false, ltb-true, le-ltb, lt-ltb, ne_eqb, not-true}
use Rattle.model.specs.Graph.{Graph, Proper, View, whole}
use Rattle.model.specs.Grouping.{closed_key, false_twins, open_key, similar, true_twins}
use Rattle.model.specs.Tables.{edge_bit, edges_in, edges_of, graph_in, key_pair, keys_of, node_number, row_of}
use Rattle.model.proofs.TestLaws.{and_fst, and_snd, and_true, decide, differ, iff_eq, or_left, or_right}
use Rattle.model.proofs.TwinLaws.{similar_N, similar_N+, similar_cases, similar_split}
use Rattle.model.proofs.TableLaws.{edges_in_lem, edge_bit_lem, length_edges, length_keys}
use Rattle.search.specs.Search.{Passed, Ready, Skipped, Within, classed, first_from, found, joins, key_agrees, keys_agree, may_join, meets, own_bits, row_in, same_class, tried}
use Rattle.search.specs.TwinRowLaws.{false_key, false_meet, keys_apart, meet_false, meet_true, true_key, true_meet}

-- the first that passes
module _ (P : ℕ → Bool) where
  found_from : (k q r : ℕ) → q ≤ r → r < q + k → ((j : ℕ) → q ≤ j → j < r → P j ≡ false) → P r ≡ true → r ≡ first_from P q k
  unfolding first_from
  found_from zero q r l u miss hit = absurd (omega arith)
  found_from (suc k) q r l u miss hit = step (decide (eqb q r)) (found_from k (suc q) r)
    where
      step : (eqb q r ≡ true) ⊎ (eqb q r ≡ false) → (suc q ≤ r → r < suc q + k → ((j : ℕ) → suc q ≤ j → j < r → P j ≡ false) → P r ≡ true → r ≡ first_from P (suc q) k) → r ≡ cond (P q) q (first_from P (suc q) k)
      step (inl e) below = let s : q ≡ r = eqb-true q r e in rw (ap P s ∙ hit) (sym s)
      step (inr e) below =
          let l' : suc q ≤ r = omega (arith, eqb-false q r e) in
          rw (miss q (omega arith) (omega arith)) (below l' (omega arith) (λ j a b. miss j (omega arith) b) hit)

  none_from : (k q : ℕ) → ((j : ℕ) → q ≤ j → j < q + k → P j ≡ false) → q + k ≡ first_from P q k
  unfolding first_from
  none_from zero q miss = omega arith
  none_from (suc k) q miss = rw (miss q (omega arith) (omega arith)) (omega (arith, none_from k (suc q) (λ j a b. miss j (omega arith) (omega arith))))

  pub first_found : (n r : ℕ) → r < n → ((j : ℕ) → j < r → P j ≡ false) → P r ≡ true → r ≡ first_from P 0 n
  first_found n r l miss hit = found_from n 0 r (omega arith) (omega arith) (λ j a b. miss j b) hit

  pub first_none : (n : ℕ) → ((j : ℕ) → j < n → P j ≡ false) → n ≡ first_from P 0 n
  first_none n miss = omega (arith, none_from n 0 (λ j a b. miss j (omega arith)))

-- the first number that passes, or none does
pub first_cases : (P : ℕ → Bool) (q k : ℕ) → ((first_from P q k < q + k) × (P (first_from P q k) ≡ true)) ⊎ ((first_from P q k ≡ q + k) × ((p : ℕ) → q ≤ p → p < q + k → P p ≡ false))
unfolding first_from
first_cases P q zero = inr (omega arith, λ p h h'. absurd (omega arith))
first_cases P q (suc k) = step (P q) refl (first_cases P (suc q) k)
  where
    rest : ℕ
    rest = first_from P (suc q) k

    later : P q ≡ false → ((p : ℕ) → suc q ≤ p → p < suc q + k → P p ≡ false) → (p : ℕ) → q ≤ p → p < q + suc k → Dec (p ≡ q) → P p ≡ false
    later e f p h h' (yes i) = ap P i ∙ e
    later e f p h h' (no i) = f p (omega arith) (omega arith)

    step : (b : Bool) → P q ≡ b → ((rest < suc q + k) × (P rest ≡ true)) ⊎ ((rest ≡ suc q + k) × ((p : ℕ) → suc q ≤ p → p < suc q + k → P p ≡ false))
        → ((cond b q rest < q + suc k) × (P (cond b q rest) ≡ true)) ⊎ ((cond b q rest ≡ q + suc k) × ((p : ℕ) → q ≤ p → p < q + suc k → P p ≡ false))
    step true e x = inl (omega arith, e)
    step false e (inl x) = inl (omega (arith, x.0), x.1)
    step false e (inr x) = inr (omega (arith, x.0), λ p h h'. later e x.1 p h h' (ℕ_discrete p q))

-- the first as an option
module _ (P : ℕ → Bool) (m : ℕ) where
  pub found_here : (r : ℕ) → r < m → ((j : ℕ) → j < r → P j ≡ false) → P r ≡ true → Some r ≡ found m (first_from P 0 m)
  unfolding found
  found_here r l miss hit = rw (← first_found P m r l miss hit) (rw (lt-ltb r m l))

  pub found_nowhere : ((j : ℕ) → j < m → P j ≡ false) → None ≡ found m (first_from P 0 m)
  unfolding found
  found_nowhere miss = rw (← first_none P m miss) (rw (le-ltb m m (omega arith)))

  -- what a caller learns
  pub found_tells : {r : Option ℕ} → r ≡ found m (first_from P 0 m) → MatchOption r ((p : ℕ) → p < m → P p ≡ false) (λ q. (q < m) × (P q ≡ true))
  unfolding found
  found_tells e = rw e (step (first_cases P 0 m))
    where
      f : ℕ
      f = first_from P 0 m

      step : ((f < 0 + m) × (P f ≡ true)) ⊎ ((f ≡ 0 + m) × ((p : ℕ) → 0 ≤ p → p < 0 + m → P p ≡ false)) → MatchOption (cond (ltb f m) (Some f) None) ((p : ℕ) → p < m → P p ≡ false) (λ q. (q < m) × (P q ≡ true))
      step (inl x) = rw (lt-ltb f m (omega (arith, x.0))) (omega (arith, x.0), x.1)
      step (inr x) = rw (le-ltb f m (omega (arith, x.0))) (λ p l. x.1 p (omega arith) (omega arith))

  pub found_none : {r : Option ℕ} {none : Bool} → r ≡ found m (first_from P 0 m) → is_some r ≡ not none → none ≡ eqb (first_from P 0 m) m
  unfolding found
  found_none {none = none} e h = step none (first_cases P 0 m) (ap is_some (sym e) ∙ h)
    where
      f : ℕ
      f = first_from P 0 m

      step : (b : Bool) → ((f < 0 + m) × (P f ≡ true)) ⊎ ((f ≡ 0 + m) × ((p : ℕ) → 0 ≤ p → p < 0 + m → P p ≡ false)) → is_some (cond (ltb f m) (Some f) None) ≡ not b → b ≡ eqb f m
      step true (inl x) k = let h : true ≡ false = rw (lt-ltb f m (omega (arith, x.0))) at k in differ refl h
      step false (inl x) k = sym (ne_eqb f m (λ e. omega (arith, x.0)))
      step true (inr x) k = sym (eq-eqb f m (omega (arith, x.0)))
      step false (inr x) k = let h : false ≡ true = rw (le-ltb f m (omega (arith, x.0))) at k in differ h refl

pub first_cong : (P Q : ℕ → Bool) (k q : ℕ) → ((j : ℕ) → j < q + k → P j ≡ Q j) → first_from P q k ≡ first_from Q q k
unfolding first_from
first_cong P Q zero q h = refl
first_cong P Q (suc k) q h = rw (h q (omega arith), first_cong P Q k (suc q) (λ j l. h j (omega arith)))

-- a search that gets on
module _ (P : ℕ → Bool) where
  pub pass_none : (q : ℕ) → Passed P q q
  pass_none q k a b = absurd (omega arith)

  pass_on : (from q r : ℕ) → Passed P from q → Passed P q r → Passed P from r
  pass_on from q r h g k a b = step (decide (ltb k q))
    where
      step : (ltb k q ≡ true) ⊎ (ltb k q ≡ false) → P k ≡ false
      step (inl e) = h k a (ltb-true k q e)
      step (inr e) = g k (ltb-false k q e) b

  pub pass_one : (from q : ℕ) → Passed P from q → P q ≡ false → Passed P from (q + 1)
  pass_one from q h e = pass_on from q (q + 1) h (λ k a b. let f : k ≡ q = omega arith in ap P f ∙ e)

  pub skip_none : (from m : ℕ) → from ≤ m → Skipped P from m from
  skip_none from m l = (omega arith, l, pass_none from)

  pub skip_one : (from m q : ℕ) → Skipped P from m q → q < m → P q ≡ false → Skipped P from m (q + 1)
  skip_one from m q s l e = (omega arith, omega arith, pass_one from q s.2 e)

  -- and how it ends
  pub skip_found : (from m r : ℕ) → Skipped P from m r → r < m → P r ≡ true → r ≡ first_from P from (m - from)
  skip_found from m r s l hit = found_from P (m - from) from r s.0 (omega arith) s.2 hit

  pub skip_all : (from m r : ℕ) → Skipped P from m r → m ≤ r → r ≡ first_from P from (m - from)
  skip_all from m r s l = omega (arith, none_from P (m - from) from (λ j a b. s.2 j a (omega arith)))

-- words compared one by one
module _ (c : Bool) (u q : ℕ) (row other : List ℕ) where
  pub meets-all : (k : ℕ) → ((i : ℕ) → i < k → bit_xor (get_or row i 0) (get_or other i 0) ≡ own_bits c u q i) → meets c u q row other k ≡ true
  unfolding meets
  meets-all zero h = refl
  meets-all (suc k) h = and_true (eq-eqb (bit_xor (get_or row k 0) (get_or other k 0)) (own_bits c u q k) (h k (omega arith))) (meets-all k (λ i l. h i (omega arith)))

  pub meets_each : (k : ℕ) → meets c u q row other k ≡ true → (i : ℕ) → i < k → bit_xor (get_or row i 0) (get_or other i 0) ≡ own_bits c u q i
  unfolding meets
  meets_each zero h i l = absurd (omega arith)
  meets_each (suc k) h i l = step (decide (eqb i k)) (meets_each k (and_snd (eqb (bit_xor (get_or row k 0) (get_or other k 0)) (own_bits c u q k)) (meets c u q row other k) h) i)
    where
      last : bit_xor (get_or row k 0) (get_or other k 0) ≡ own_bits c u q k
      last = eqb-true (bit_xor (get_or row k 0) (get_or other k 0)) (own_bits c u q k) (and_fst (eqb (bit_xor (get_or row k 0) (get_or other k 0)) (own_bits c u q k)) (meets c u q row other k) h)

      step : (eqb i k ≡ true) ⊎ (eqb i k ≡ false) → (i < k → bit_xor (get_or row i 0) (get_or other i 0) ≡ own_bits c u q i) → bit_xor (get_or row i 0) (get_or other i 0) ≡ own_bits c u q i
      step (inl e) below = rw (eqb-true i k e) last
      step (inr e) below = below (omega (arith, eqb-false i k e))

  pub meets-not : (k i : ℕ) → i < k → (bit_xor (get_or row i 0) (get_or other i 0) ≡ own_bits c u q i → ⊥) → meets c u q row other k ≡ false
  meets-not k i l h = step (decide (meets c u q row other k))
    where
      step : (meets c u q row other k ≡ true) ⊎ (meets c u q row other k ≡ false) → meets c u q row other k ≡ false
      step (inl t) = absurd (h (meets_each k t i l))
      step (inr t) = t

  pub meets_differ : (i own : ℕ) → i < 8 → own ≡ own_bits c u q i → (bit_xor (get_or row i 0) (get_or other i 0) ≡ own → ⊥) → meets c u q row other 8 ≡ false
  meets_differ i own l e d = meets-not 8 i l (λ h. d (h ∙ sym e))

pub meets_each_is : (c : Bool) (u q : ℕ) (row other : List ℕ) (k : ℕ) {b : Bool} → IsTrue b ↔ ((i : ℕ) → i < k → bit_xor (get_or row i 0) (get_or other i 0) ≡ own_bits c u q i) → b ≡ meets c u q row other k
meets_each_is c u q row other k {b} h = iff_eq _ _ (λ t. meets-all c u q row other k (h.0 t)) (λ t. h.1 (meets_each c u q row other k t))

pub row_word_lem : (edges : List ℕ) (p k : ℕ) → k < 8 → get_or (row_in edges p) k 0 ≡ get_or edges (8 * p + k) 0
row_word_lem edges p k l = get_or-take 8 (drop (8 * p) edges) k 0 l ∙ get_or-drop (8 * p) edges k 0

-- two rows of the table, word by word
module _ (c : Bool) (u q : ℕ) (edges : List ℕ) where
  pub meets_words : meets c u q (row_in edges u) (row_in edges q) 8 ≡ true → (k : ℕ) → k < 8 → bit_xor (get_or edges (8 * u + k) 0) (get_or edges (8 * q + k) 0) ≡ own_bits c u q k
  meets_words h k l = rw (row_word_lem edges u k l, row_word_lem edges q k l) at (meets_each c u q (row_in edges u) (row_in edges q) 8 h k l)

  pub meets_by : ((k : ℕ) → k < 8 → bit_xor (get_or edges (8 * u + k) 0) (get_or edges (8 * q + k) 0) ≡ own_bits c u q k) → meets c u q (row_in edges u) (row_in edges q) 8 ≡ true
  meets_by h = meets-all c u q (row_in edges u) (row_in edges q) 8 (λ k l. rw (row_word_lem edges u k l, row_word_lem edges q k l) (h k l))

pub row_part_lem : (edges : List ℕ) (p : ℕ) → take (8 * p + 8 - 8 * p) (drop (8 * p) edges) ≡ row_in edges p
row_part_lem edges p = let e : 8 * p + 8 - 8 * p ≡ 8 = omega arith in rw e

-- rows lent as parts of the table
pub meets_parts : (c : Bool) (u q : ℕ) (edges : List ℕ) {r : Bool} → r ≡ meets c u q (take (8 * u + 8 - 8 * u) (drop (8 * u) edges)) (take (8 * q + 8 - 8 * q) (drop (8 * q) edges)) 8
    → r ≡ meets c u q (row_in edges u) (row_in edges q) 8
meets_parts c u q edges e = e ∙ rw (row_part_lem edges u, row_part_lem edges q)

-- who is similar is so by the class and by the edges
pub similar_by_class : (n : ℕ) (edges table : List ℕ) (p q : ℕ) → similar (whole (classed n edges table)) p q ≡ (same_class table p q && similar (whole (graph_in n edges)) p q)
unfolding same_class
similar_by_class n edges table p q = similar_split (whole (classed n edges table)) p q

class_first : (a b c : Bool) → ((a && b) && c) ≡ (b && (a && c))
class_first true b c = refl
class_first false b c = sym (and-false b)

-- trying is joining
module _ (n : ℕ) (edges table keys : List ℕ) (ready : Ready n edges keys) (u w q : ℕ) (hu : u < n) (hq : q < n) where
  abbrev v : View
  v = whole (graph_in n edges)

  abbrev open-key : Bool
  open-key = key_agrees keys 0 u q

  similar-of : (open-key ≡ true) ⊎ (open-key ≡ false) → meets (not open-key) u q (row_in edges u) (row_in edges q) 8 ≡ true → similar v u q ≡ true
  similar-of (inl t) h = similar_N v u q refl (meet_false n edges keys ready u q hu hq (meets_words false u q edges (rw t at h)))
  similar-of (inr t) h = similar_N+ v u q refl (meet_true n edges keys ready u q hu hq (meets_words true u q edges (rw t at h)))

  abbrev Found : Type 0
  Found = (keys_agree keys u q ≡ true) × (meets (not open-key) u q (row_in edges u) (row_in edges q) 8 ≡ true)

  of-similar : (q ≡ u → ⊥) → (open-key ≡ true) ⊎ (open-key ≡ false) → (false_twins v u q ≡ true) ⊎ (true_twins v u q ≡ true) → Found
  unfolding keys_agree
  of-similar d (inl t) (inl h) = (or_left (key_agrees keys 1 u q) t, rw t (meets_by false u q edges (false_meet n edges keys ready u q hu hq h)))
  of-similar d (inr t) (inl h) = differ (false_key n edges keys ready u q hu hq h) t
  of-similar d (inl t) (inr h) = absurd (d (sym (keys_apart n edges keys ready u q hu hq t (true_key n edges keys ready u q hu hq h))))
  of-similar d (inr t) (inr h) = (or_right (key_agrees keys 0 u q) (true_key n edges keys ready u q hu hq h), rw t (meets_by true u q edges (true_meet n edges keys ready u q hu hq h)))

  pub tried-joins : tried edges table keys u w (row_in edges u) q ≡ joins n edges table u w q
  unfolding tried may_join joins
  tried-joins = iff_eq _ _ there back ∙ rw (similar_by_class n edges table u q, class_first (same_class table u q) (eqb (node_number table q 0) q) (similar v u q))
    where
      own : Bool
      own = same_class table u q && eqb (node_number table q 0) q

      both-keys : Bool
      both-keys = keys_agree keys u q

      rows : Bool
      rows = meets (not open-key) u q (row_in edges u) (row_in edges q) 8

      there : ((both-keys && (not (eqb q u) && (not (eqb q w) && own))) && rows) ≡ true → (not (eqb q u) && (not (eqb q w) && (own && similar v u q))) ≡ true
      there h =
          let a = and_fst (both-keys && (not (eqb q u) && (not (eqb q w) && own))) rows h in
          let r = and_snd (both-keys && (not (eqb q u) && (not (eqb q w) && own))) rows h in
          let b = and_snd both-keys (not (eqb q u) && (not (eqb q w) && own)) a in
          let d = and_snd (not (eqb q u)) (not (eqb q w) && own) b in
          and_true (and_fst (not (eqb q u)) (not (eqb q w) && own) b) (and_true (and_fst (not (eqb q w)) own d) (and_true (and_snd (not (eqb q w)) own d) (similar-of (decide open-key) r)))

      back : (not (eqb q u) && (not (eqb q w) && (own && similar v u q))) ≡ true → ((both-keys && (not (eqb q u) && (not (eqb q w) && own))) && rows) ≡ true
      back h =
          let a = and_fst (not (eqb q u)) (not (eqb q w) && (own && similar v u q)) h in
          let b = and_snd (not (eqb q u)) (not (eqb q w) && (own && similar v u q)) h in
          let d = and_snd (not (eqb q w)) (own && similar v u q) b in
          let f : Found = of-similar (eqb-false q u (not-true (eqb q u) a)) (decide open-key) (similar_cases v u q (and_snd own (similar v u q) d)) in
          and_true (and_true f.0 (and_true a (and_true (and_fst (not (eqb q w)) (own && similar v u q) b) (and_fst own (similar v u q) d)))) f.1

-- so the search among tried groups finds the group to join
pub search_joins : (n : ℕ) (edges table keys : List ℕ) (u w m : ℕ) {r : Option ℕ} → Ready n edges keys → u < n → m ≤ n
    → r ≡ found m (first_from (tried edges table keys u w (take (8 * u + 8 - 8 * u) (drop (8 * u) edges))) 0 m) → r ≡ found m (first_from (joins n edges table u w) 0 m)
search_joins n edges table keys u w m ready hu hm e =
    e
    ∙ ap (λ (row : List ℕ). found m (first_from (tried edges table keys u w row) 0 m)) (row_part_lem edges u)
    ∙ ap (found m) (first_cong (tried edges table keys u w (row_in edges u)) (joins n edges table u w) m 0 (λ q l. tried-joins n edges table keys ready u w q hu (omega arith)))

-- the lengths of tables that are ready
pub ready_edges : (n : ℕ) (edges keys : List ℕ) → Ready n edges keys → length edges ≡ 8 * n
ready_edges n edges keys r = ap length r.edges_of_lem ∙ length_edges (graph_in n edges)

pub ready_keys : (n : ℕ) (edges keys : List ℕ) → Ready n edges keys → length keys ≡ 2 * n
ready_keys n edges keys r = ap length r.keys_of_lem ∙ length_keys (graph_in n edges)

-- a table without bits beyond its nodes
module _ {n : ℕ} {edges : List ℕ} (h : Within n edges) where
  pub within-length : length edges ≡ 8 * n
  within-length = ap length h.edges_of_lem ∙ length_edges (graph_in n edges)

  -- a set bit is that of a node
  pub within_inside : (p q : ℕ) → p < n → q < 512 → edge_bit edges p q ≡ true → q < n
  unfolding edges_in
  within_inside p q hp hq t = ltb-true q n (and_fst (ltb q n) (edge_bit edges p q) (and_snd (ltb p n) (ltb q n && edge_bit edges p q) set-in))
    where
      set-in : edges_in n edges p q ≡ true
      set-in = sym (ap (λ (x : List ℕ). edge_bit x p q) h.edges_of_lem ∙ edge_bit_lem (graph_in n edges) p q hp hq) ∙ t

pub row-length : (edges : List ℕ) (p : ℕ) → 8 * p + 8 ≤ length edges → length (take (8 * p + 8 - 8 * p) (drop (8 * p) edges)) ≡ 8
row-length edges p h = simp (length-take, length-drop) (omega arith)

-- edges and keys do not tell who is hidden, nor classes
abbrev unhidden : ℕ → (ℕ → ℕ → Bool) → Graph
unhidden n f = record { node_count = n; edge = f; hidden = λ p. false; class = λ p. 0 }

edges_unhidden : (g : Graph) → edges_of g ≡ edges_of (unhidden g.node_count g.edge)
unfolding edges_of row_of
edges_unhidden g = refl

keys_unhidden : (g : Graph) → keys_of g ≡ keys_of (unhidden g.node_count g.edge)
unfolding keys_of key_pair open_key closed_key
keys_unhidden g = refl

-- tables of a graph are ready
pub ready : (g : Graph) → Proper g → Ready g.node_count (edges_of g) (keys_of g)
ready g h = record {
  small = h.small;
  loops = λ p. ap (λ (f : ℕ → ℕ → Bool). f p p) (edges_in_lem g h) ∙ h.irreflexive p;
  edges_of_lem = edges_unhidden g ∙ ap (λ (f : ℕ → ℕ → Bool). edges_of (unhidden g.node_count f)) (sym (edges_in_lem g h));
  keys_of_lem = keys_unhidden g ∙ ap (λ (f : ℕ → ℕ → Bool). keys_of (unhidden g.node_count f)) (sym (edges_in_lem g h));
}

pub tried-not : (edges table keys : List ℕ) (u w : ℕ) (row : List ℕ) (q : ℕ) (r : Bool) → r ≡ may_join table keys u w q → r ≡ false → tried edges table keys u w row q ≡ false
unfolding tried
tried-not edges table keys u w row q r e t = rw (sym e ∙ t)

-- up to the next node whose keys agree, nobody is a twin
pub tried_skipped : (edges table keys : List ℕ) (u w : ℕ) (row : List ℕ) (from q : ℕ) → ((k : ℕ) → k < from → tried edges table keys u w row k ≡ false) → Passed (keys_agree keys u) from q
    → (k : ℕ) → k < q → tried edges table keys u w row k ≡ false
unfolding tried may_join
tried_skipped edges table keys u w row from q h s k l = step (decide (ltb k from))
  where
    step : (ltb k from ≡ true) ⊎ (ltb k from ≡ false) → tried edges table keys u w row k ≡ false
    step (inl e) = h k (ltb-true k from e)
    step (inr e) = rw (s k (ltb-false k from e) l)

-- at the group whose row was lent as a part
module _ (edges table keys : List ℕ) (u w : ℕ) (row : List ℕ) (q : ℕ) (agrees : Bool) (agrees-is : agrees ≡ key_agrees keys 0 u q) where
  pub tried_differs : (i own : ℕ) → i < 8 → own ≡ own_bits (not agrees) u q i → (bit_xor (get_or row i 0) (get_or (take (8 * q + 8 - 8 * q) (drop (8 * q) edges)) i 0) ≡ own → ⊥) → tried edges table keys u w row q ≡ false
  unfolding tried
  tried_differs i own l e d = rw (← agrees-is, meets-not (not agrees) u q row (row_in edges q) 8 i l (λ h. d (rw row_part_lem (h ∙ sym e)))) (and-false (may_join table keys u w q))

  pub tried-agrees : (r : Bool) → r ≡ may_join table keys u w q → r ≡ true
      → ((k : ℕ) → k < 8 → bit_xor (get_or row k 0) (get_or (take (8 * q + 8 - 8 * q) (drop (8 * q) edges)) k 0) ≡ own_bits (not agrees) u q k)
      → tried edges table keys u w row q ≡ true
  unfolding tried
  tried-agrees r e t h = rw (← agrees-is) (and_true (sym e ∙ t) (meets-all (not agrees) u q row (row_in edges q) 8 (λ k l. rw row_part_lem at (h k l))))
