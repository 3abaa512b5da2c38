-- Further laws of these definitions, which no proof here cites.
use Rattle.std.specs.Prelude.{◌≡◌, not, ◌||◌, ◌⊎◌, ltb, get_or, take, drop}
use Rattle.std.proofs.Math.Path.{refl, sym}
use Rattle.std.proofs.Common.{ap, ◌∙◌, inl, inr}
use Rattle.std.proofs.Math.Bool.{Bool, true, false, and-false}
use mathlib.Core.List.{List}
use Prim.Native.Nat.{ℕ, ◌+◌, ◌*◌, ◌-◌, ◌/◌, ◌%◌, ◌^◌, ◌≤◌, ◌<◌}
use native.Mathlib.Omega.{arith}
use Rattle.std.specs.Int.Bits.{bit_xor}
use Rattle.std.proofs.Math.Dec.{eqb}
use borrow.Author.Tests.{eq-eqb, ltb-false, ltb-true, ne_eqb, not-false, not-true}
use Rattle.model.specs.Graph.{Graph, Proper}
use Rattle.model.specs.Grouping.{closed_key, open_key}
use Rattle.model.specs.Tables.{edges_of, key_pair, keys_of, node_number, row_of}
use Rattle.model.proofs.TestLaws.{decide, or_left, or_none}
use Rattle.model.proofs.TableLaws.{edges_in_lem}
use Rattle.search.specs.Search.{Passed, Ready, Skipped, first_from, joins, key_agrees, keys_agree, may_join, own_bit, own_bits, row_in, same_class, tried}
use Rattle.search.specs.SearchLaws.{first_cong, pass_one, row_part_lem, tried-joins}

-- a search that gets on
module _ (P : ℕ → Bool) where
  pass_on : (from q r : ℕ) → Passed P from q → Passed P q r → Passed P from r
  pass_on from q r h g k a b = step (decide (ltb k q))
    where
      step : (ltb k q ≡ true) ⊎ (ltb k q ≡ false) → P k ≡ false
      step (inl e) = h k a (ltb-true k q e)
      step (inr e) = g k (ltb-false k q e) b

  pub skip_block : (from m q r : ℕ) → Skipped P from m q → q ≤ r → r ≤ m → Passed P q r → Skipped P from m r
  skip_block from m q r s a b h = (omega arith, b, pass_on from q r s.2 h)

pub block_more : (keys : List ℕ) (u from q : ℕ) (agree a b : Bool) → (agree ≡ false → Passed (keys_agree keys u) from q) → a ≡ key_agrees keys 0 u q → b ≡ key_agrees keys 1 u q
    → ((agree || a) || b) ≡ false → Passed (keys_agree keys u) from (q + 1)
unfolding keys_agree
block_more keys u from q agree a b h e f no_hit =
    let before = or_none (agree || a) b no_hit in
    let first = or_none agree a before.0 in
    pass_one (keys_agree keys u) from q (h first.0) (rw (sym e ∙ first.1, sym f ∙ before.1))

-- so the search among tried groups finds the group to join
pub search_joins : (n : ℕ) (edges table keys : List ℕ) (u w m r : ℕ) → Ready n edges keys → u < n → m ≤ n
    → r ≡ first_from (tried edges table keys u w (take (8 * u + 8 - 8 * u) (drop (8 * u) edges))) 0 m → r ≡ first_from (joins n edges table u w) 0 m
search_joins n edges table keys u w m r ready hu hm e =
    e
    ∙ ap (λ (row : List ℕ). first_from (tried edges table keys u w row) 0 m) (row_part_lem edges u)
    ∙ first_cong (tried edges table keys u w (row_in edges u)) (joins n edges table u w) m 0 (λ q l. tried-joins n edges table keys ready u w q hu (omega arith))

-- edges and keys do not tell who is hidden, nor classes
abbrev unhidden : ℕ → (ℕ → ℕ → Bool) → Graph
unhidden n f = record { node_count = n; edge = f; hidden = λ p. false; class = λ p. 0 }

edges_unhidden : (g : Graph) → edges_of g ≡ edges_of (unhidden g.node_count g.edge)
unfolding edges_of row_of
edges_unhidden g = refl

keys_unhidden : (g : Graph) → keys_of g ≡ keys_of (unhidden g.node_count g.edge)
unfolding keys_of key_pair open_key closed_key
keys_unhidden g = refl

-- tables of a graph are ready
pub ready : (g : Graph) → Proper g → Ready g.node_count (edges_of g) (keys_of g)
ready g h = record {
  small = h.small;
  loops = λ p. ap (λ (f : ℕ → ℕ → Bool). f p p) (edges_in_lem g h) ∙ h.irreflexive p;
  edges_of_lem = edges_unhidden g ∙ ap (λ (f : ℕ → ℕ → Bool). edges_of (unhidden g.node_count f)) (sym (edges_in_lem g h));
  keys_of_lem = keys_unhidden g ∙ ap (λ (f : ℕ → ℕ → Bool). keys_of (unhidden g.node_count f)) (sym (edges_in_lem g h));
}

-- the steps of the code
module _ (keys : List ℕ) (u q : ℕ) where
  pub keys_first : (r : Bool) → r ≡ key_agrees keys 0 u q → r ≡ true → true ≡ keys_agree keys u q
  unfolding keys_agree
  keys_first r e t = sym (or_left (key_agrees keys 1 u q) (sym e ∙ t))

  pub keys_second : (r s : Bool) → r ≡ key_agrees keys 0 u q → r ≡ false → s ≡ key_agrees keys 1 u q → s ≡ keys_agree keys u q
  unfolding keys_agree
  keys_second r s e t f = rw (sym e ∙ t) f

least-number : (table : List ℕ) (q : ℕ) → node_number table q 0 ≡ get_or table (5 * q) 0
unfolding node_number
least-number table q = let e : 5 * q + 0 ≡ 5 * q = omega arith in rw e

module _ (table keys : List ℕ) (u w q : ℕ) where
  pub may_no_key : (r : Bool) → r ≡ keys_agree keys u q → not r ≡ true → false ≡ may_join table keys u w q
  unfolding may_join
  may_no_key r e t = rw (sym e ∙ not-true r t)

  pub may_not_self : q ≡ u → false ≡ may_join table keys u w q
  unfolding may_join
  may_not_self e = rw (eq-eqb q u e) (sym (and-false (keys_agree keys u q)))

  pub may_not_other : q ≡ w → false ≡ may_join table keys u w q
  unfolding may_join
  may_not_other e = rw (eq-eqb q w e, and-false (not (eqb q u))) (sym (and-false (keys_agree keys u q)))

  pub may_not_class : (r : Bool) → r ≡ same_class table u q → not r ≡ true → false ≡ may_join table keys u w q
  unfolding may_join
  may_not_class r e t = rw (sym e ∙ not-true r t, and-false (not (eqb q w)), and-false (not (eqb q u))) (sym (and-false (keys_agree keys u q)))

  pub may_least : (r s : Bool) (x : ℕ) → r ≡ keys_agree keys u q → not r ≡ false → (q ≡ u → ⊥) → (q ≡ w → ⊥) → s ≡ same_class table u q → not s ≡ false → x ≡ get_or table (5 * q) 0 → eqb x q ≡ may_join table keys u w q
  unfolding may_join
  may_least r s x e t a b f i g = rw (sym e ∙ not-false r t, ne_eqb q u a, ne_eqb q w b, sym f ∙ not-false s i, g, least-number table q)

pub own_here : (q i w m : ℕ) → w ≡ q / 64 → w ≡ i → m ≡ 2 ^ (q % 64) → m ≡ own_bit q i
unfolding own_bit
own_here q i w m e f g = rw (eq-eqb (q / 64) i (sym e ∙ f)) g

pub own_elsewhere : (q i w : ℕ) → w ≡ q / 64 → (w ≡ i → ⊥) → 0 ≡ own_bit q i
unfolding own_bit
own_elsewhere q i w e f = rw (ne_eqb (q / 64) i (λ h. f (e ∙ h)))

pub own_closed : (c : Bool) (u q i a b : ℕ) → c ≡ true → a ≡ own_bit u i → b ≡ own_bit q i → bit_xor a b ≡ own_bits c u q i
unfolding own_bits
own_closed c u q i a b t e f = rw (t, e, f)

pub own_open : (c : Bool) (u q i : ℕ) → c ≡ false → 0 ≡ own_bits c u q i
unfolding own_bits
own_open c u q i t = rw t

-- up to the next node whose keys agree, nobody is a twin
pub tried_skipped : (edges table keys : List ℕ) (u w : ℕ) (row : List ℕ) (from m q : ℕ) → ((k : ℕ) → k < from → tried edges table keys u w row k ≡ false) → Skipped (keys_agree keys u) from m q
    → (k : ℕ) → k < q → tried edges table keys u w row k ≡ false
unfolding tried may_join
tried_skipped edges table keys u w row from m q h s k l = step (decide (ltb k from))
  where
    step : (ltb k from ≡ true) ⊎ (ltb k from ≡ false) → tried edges table keys u w row k ≡ false
    step (inl e) = h k (ltb-true k from e)
    step (inr e) = rw (s.2 k (ltb-false k from e) l)
