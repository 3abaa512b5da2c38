-- What each step of the test tells.
use Rattle.std.specs.Prelude.{◌≡◌, ℕ, ◌+◌, ◌*◌, ◌%◌, ◌^◌, ◌<◌, ◌≤◌, Bool, true, false, not, List, ◌==◌, ◌≢◌, nat_eq, nat_lt, slice_index, refl}
use Rattle.std.proofs.Math.Path.{sym}
use Rattle.std.proofs.Common.{ap, ◌∙◌, arith}
use Rattle.std.specs.Int.Bits.{xor_self}
use borrow.Author.Tests.{eq-eqb, ne_eqb, le-leb, lt-leb, le-ltb, lt-ltb}
use Rattle.model.specs.Graph.{max_classes}
use Rattle.model.specs.Grouping.{cube}
use Rattle.model.specs.Tables.{edge_bit, node_number}
use Rattle.search.specs.Search.{first_from, joins, meets, own_bit, own_bits, row_in, same_class}
use Rattle.search.specs.SearchLaws.{meets_by}
use Rattle.buffers.specs.AllLaws.{failed, passed}
use Rattle.checks.specs.Checks.{agrees, alone, link_holds, node_holds, twin_of}

-- the two keys of p
module _ (keys : List ℕ) (p sum : ℕ) where
  pub open_differs : (slice_index keys (2 * p) ≢ sum) → false ≡ agrees keys p sum
  unfolding agrees
  open_differs h = rw (ne_eqb (slice_index keys (2 * p)) sum h)

  pub by_closed : (x r : ℕ) → slice_index keys (2 * p) ≡ sum → x ≡ cube p → r ≡ (sum + x) % 2 ^ 32 → (slice_index keys (2 * p + 1) == r) ≡ agrees keys p sum
  unfolding agrees
  by_closed x r h e f = rw (eq-eqb (slice_index keys (2 * p)) sum h, f, e)

-- a node and its leader
module _ (edges table : List ℕ) (p l : ℕ) where
  pub twin_above : p < l → false ≡ twin_of edges table p l
  unfolding twin_of
  twin_above h = rw (lt-leb l p h)

  pub twin_misled : {x : ℕ} → l ≤ p → x ≡ node_number table l 0 → (x ≢ l) → false ≡ twin_of edges table p l
  unfolding twin_of
  twin_misled h e d = rw (le-leb l p h, ne_eqb (node_number table l 0) l (λ z. d (e ∙ z)))

  module _ {x : ℕ} {s : Bool} (low : l ≤ p) (e : x ≡ node_number table l 0) (f : x ≡ l) (same : s ≡ same_class table p l) where
    pub twin_classes : not s ≡ true → false ≡ twin_of edges table p l
    unfolding twin_of
    twin_classes i = rw (le-leb l p low, eq-eqb (node_number table l 0) l (sym e ∙ f), failed same i)

    pub twin_rows : (b c : Bool) → not s ≡ false → b ≡ edge_bit edges l p → c ≡ meets b p l (row_in edges p) (row_in edges l) 8 → c ≡ twin_of edges table p l
    unfolding twin_of
    twin_rows b c i g k = rw (le-leb l p low, eq-eqb (node_number table l 0) l (sym e ∙ f), passed same i, ← g) k

pub twin_told : (edges table : List ℕ) (p l : ℕ) {b : Bool} → l ≡ node_number table p 0 → b ≡ twin_of edges table p l → b ≡ twin_of edges table p (node_number table p 0)
twin_told edges table p l e f = f ∙ ap (twin_of edges table p) e

same_meets : (c : Bool) (edges : List ℕ) (p : ℕ) → meets c p p (row_in edges p) (row_in edges p) 8 ≡ true
unfolding own_bits
same_meets c edges p = meets_by c p p edges (λ k l. xor_self (slice_index edges (8 * p + k)) ∙ none c k)
  where
    none : (c : Bool) (k : ℕ) → 0 ≡ own_bits c p p k
    none true k = sym (xor_self (own_bit p k))
    none false k = refl

own_class : (table : List ℕ) (p l : ℕ) → l ≡ p → true ≡ same_class table p l
unfolding same_class
own_class table p l e = sym (eq-eqb (node_number table p 4) (node_number table l 4) (ap (λ (q : ℕ). node_number table q 4) (sym e)))

pub twin_self : (edges table : List ℕ) (p l : ℕ) {x : ℕ} → x ≡ node_number table l 0 → x ≡ l → l ≡ p → true ≡ twin_of edges table p l
twin_self edges table p l e f g =
    twin_rows edges table p l (omega arith) e f (own_class table p l g) (edge_bit edges l p) true refl refl
    (sym (ap (λ (m : ℕ). meets (edge_bit edges l p) p m (row_in edges p) (row_in edges m) 8) g ∙ same_meets (edge_bit edges l p) edges p))

-- a leader among the leaders below it
module _ (n : ℕ) (edges table : List ℕ) (u : ℕ) {x : ℕ} (e : x ≡ node_number table u 0) where
  pub alone-member : (x ≢ u) → true ≡ alone n edges table u
  unfolding alone
  alone-member d = rw (ne_eqb (node_number table u 0) u (λ z. d (e ∙ z)))

  pub alone_leader : {r : ℕ} → x ≡ u → r ≡ first_from (joins n edges table u u) 0 u → (r == u) ≡ alone n edges table u
  unfolding alone
  alone_leader d f = rw (eq-eqb (node_number table u 0) u (sym e ∙ d), f)

-- a node and the one before it in its group
module _ (n : ℕ) (table : List ℕ) (p a : ℕ) where
  pub follows_outside : n ≤ a → false ≡ link_holds n table p a
  unfolding link_holds
  follows_outside h = rw (le-ltb a n h)

  module _ (inside : a < n) {l x : ℕ} (el : l ≡ node_number table p 0) (ex : x ≡ node_number table a 0) where
    pub follows_other : (x ≢ l) → false ≡ link_holds n table p a
    unfolding link_holds
    follows_other d = rw (lt-ltb a n inside, ne_eqb (node_number table a 0) (node_number table p 0) (λ z. d (ex ∙ z ∙ sym el)))

    module _ (same : x ≡ l) {y : ℕ} (ey : y ≡ node_number table a 1) where
      same_least : nat_eq (node_number table a 0) (node_number table p 0) ≡ true
      same_least = eq-eqb (node_number table a 0) (node_number table p 0) (sym ex ∙ same ∙ el)

      pub follows-not : (y ≢ p) → false ≡ link_holds n table p a
      unfolding link_holds
      follows-not d = rw (lt-ltb a n inside, same_least, ne_eqb (node_number table a 1) p (λ z. d (ey ∙ z)))

      pub follows_leader : y ≡ p → l ≡ p → true ≡ link_holds n table p a
      unfolding link_holds
      follows_leader f g = rw (lt-ltb a n inside, same_least, eq-eqb (node_number table a 1) p (sym ey ∙ f), eq-eqb (node_number table p 0) p (sym el ∙ g))

      pub follows-member : y ≡ p → (l ≢ p) → nat_lt a p ≡ link_holds n table p a
      unfolding link_holds
      follows-member f d = rw (lt-ltb a n inside, same_least, eq-eqb (node_number table a 1) p (sym ey ∙ f), ne_eqb (node_number table p 0) p (λ z. d (el ∙ z)))

module _ (n : ℕ) (table : List ℕ) (p : ℕ) {a : ℕ} (b : Bool) (ea : a ≡ node_number table p 2) (e : b ≡ link_holds n table p a) where
  pub node_fails : not b ≡ true → false ≡ node_holds n table p
  unfolding node_holds
  node_fails f = rw (← ea, failed e f)

  module _ (f : not b ≡ false) {m : ℕ} (g : m ≡ node_number table p 3) where
    pub node_mark : 2 ≤ m → false ≡ node_holds n table p
    unfolding node_holds
    node_mark h = rw (← ea, passed e f, ← g, le-ltb m 2 h)

    pub node_class : {d : ℕ} → m < 2 → d ≡ node_number table p 4 → nat_lt d max_classes ≡ node_holds n table p
    unfolding node_holds
    node_class h k = rw (← ea, passed e f, ← g, lt-ltb m 2 h, k)
