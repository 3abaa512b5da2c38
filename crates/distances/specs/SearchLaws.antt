-- Laws of the search from group to group, step by step.
use Rattle.std.specs.Prelude.{◌≡◌, Bool, false, not, ◌&&◌, List, ◌⊎◌, drop, length, replicate, take}
use Rattle.std.proofs.Math.Path.{refl, sym}
use Rattle.std.proofs.Common.{ap, ◌∙◌, inl, inr, add-one, arith}
use Rattle.std.proofs.Math.Bool.{true}
use Prim.Native.Nat.{ℕ, suc, zero, ◌+◌, ◌*◌, ◌-◌, ◌≤◌, ◌<◌}
use Rattle.std.proofs.Math.Dec.{eqb}
use borrow.Author.Tests.{eqb-true, eq-eqb, ne_eqb}
use Rattle.model.specs.Lists.{◌∈◌, nodes}
use Rattle.model.specs.Tables.{edge_bit}
use Rattle.model.specs.Distance.{Shortest, walk, unreachable}
use Rattle.model.proofs.TestLaws.{and_fst, and_snd, and_true, decide, differ, fails, iff_eq, or_cases, or_left, or_right}
use Rattle.model.proofs.ListLaws.{any_elim, any_intro, length_from, nodes_in_lem, nodes_out}
use Rattle.model.proofs.DistanceLaws.{walk_short, no_walk, within, within_by, within-walk, within-least, within_more, within_stable, within_step}
use Rattle.rows.specs.BitLaws.{row-bit}
use Rattle.drawing.specs.Drawing.{Added, one_bit, row_to}
use Rattle.drawing.specs.BitLaws.{added_only}
use Rattle.unfolding.specs.Filling.{RowRoom}
use Rattle.distances.specs.Distances.{Searching, SetOf, SuperedgeRows, from_any, have_common, in_set, rows_view}

-- two sets meet in a node; a node has an edge from one of a set
common_intro : (set other : List ℕ) (q : ℕ) → q < 512 → edge_bit set 0 q ≡ true → edge_bit other 0 q ≡ true → have_common set other ≡ true
unfolding have_common
common_intro set other q l s t = any_intro (nodes 512) (λ q. edge_bit set 0 q && edge_bit other 0 q) q (nodes_in_lem 512 q l) (and_true s t)

common_elim : (set other : List ℕ) → have_common set other ≡ true → (q : ℕ) × (q < 512) × (edge_bit set 0 q ≡ true) × (edge_bit other 0 q ≡ true)
unfolding have_common
common_elim set other e =
    let t = any_elim (nodes 512) (λ q. edge_bit set 0 q && edge_bit other 0 q) e in
    (t.0, nodes_out 512 t.0 t.1, and_fst (edge_bit set 0 t.0) _ t.2, and_snd (edge_bit set 0 t.0) _ t.2)

from_intro : (set joined : List ℕ) (r q : ℕ) → r < 512 → edge_bit set 0 r ≡ true → edge_bit joined r q ≡ true → from_any (in_set set) joined 0 q ≡ true
unfolding from_any
from_intro set joined r q l s e = any_intro (nodes 512) (λ r. edge_bit set 0 r && edge_bit joined r q) r (nodes_in_lem 512 r l) (and_true s e)

from_elim : (set joined : List ℕ) (q : ℕ) → from_any (in_set set) joined 0 q ≡ true → (r : ℕ) × (r < 512) × (edge_bit set 0 r ≡ true) × (edge_bit joined r q ≡ true)
unfolding from_any
from_elim set joined q e =
    let t = any_elim (nodes 512) (λ r. edge_bit set 0 r && edge_bit joined r q) e in
    (t.0, nodes_out 512 t.0 t.1, and_fst (edge_bit set 0 t.0) _ t.2, and_snd (edge_bit set 0 t.0) _ t.2)

module _ {n : ℕ} {joined : List ℕ} (h : SuperedgeRows n joined) where
  -- only nodes are reached
  within-node : (i : ℕ) → i < n → (k q : ℕ) → q < 512 → within (rows_view n joined) k i q ≡ true → q < n
  unfolding within
  within-node i hi zero q l w = omega (arith, eqb-true i q w)
  within-node i hi (suc k) q l w = step (within-node i hi k q l) (within_by (rows_view n joined) k i q w)
    where
      step : (within (rows_view n joined) k i q ≡ true → q < n) → (within (rows_view n joined) k i q ≡ true) ⊎ ((r : ℕ) × (r ∈ nodes n) × (within (rows_view n joined) k i r ≡ true) × (edge_bit joined r q ≡ true)) → q < n
      step below (inl t) = below t
      step below (inr t) = h.inside t.0 q l t.3

  -- the start: i alone is seen, and j is another
  pub search_start : {i j : ℕ} {seen : List ℕ} → (i ≡ j → ⊥) → Added (one_bit 0 i) (replicate 8 0) seen → Searching n joined i j 0 seen seen
  unfolding one_bit within
  search_start {i} {j} {seen} ne a = record {
    few = omega arith;
    reached = record { size = a.size; bits = alone };
    size = a.size;
    new = λ q l e. sym (alone q l) ∙ e;
    old = λ q r hq hr w f e. differ (alone q (omega (arith, h.small)) ∙ w) f;
    apart = ne_eqb i j ne;
  }
    where
      alone : (q : ℕ) → q < 512 → edge_bit seen 0 q ≡ eqb i q
      alone q l = added_only (replicate 8 0) refl a 0 q l ∙ iff_eq (eqb q i) (eqb i q) (λ e. eq-eqb i q (sym (eqb-true q i e))) (λ e. eq-eqb q i (sym (eqb-true i q e)))

  module _ {i j d : ℕ} {seen frontier : List ℕ} (s : Searching n joined i j d seen frontier) where
    -- a node of the frontier is joined to j
    pub search_found : {b : Bool} → j < n → b ≡ have_common (take (8 * j + 8 - 8 * j) (drop (8 * j) joined)) frontier → b ≡ true → {k : ℕ} → k ≡ d + 1 → Shortest (rows_view n joined) i j k
    search_found hj e t z = rw z (record { there = inl (rw (add-one d) (last (within-walk (rows_view n joined) (suc d) i j near))); least = λ k c. omega (arith, within-least (rows_view n joined) d k i j s.apart c) })
      where
        near : within (rows_view n joined) (suc d) i j ≡ true
        near =
            let m = common_elim (take (8 * j + 8 - 8 * j) (drop (8 * j) joined)) frontier (sym e ∙ t) in
            let bit : edge_bit joined j m.0 ≡ true = sym (row-bit joined j m.0 m.1) ∙ m.2 in
            within_step (rows_view n joined) d i m.0 j (nodes_in_lem n m.0 (h.inside j m.0 m.1 bit)) (s.new m.0 m.1 m.3) (h.symmetric m.0 j m.1 (omega (arith, h.small)) ∙ bit)

        last : (k : ℕ) × (k ≤ suc d) × (walk (rows_view n joined) k i j ≡ true) → walk (rows_view n joined) (suc d) i j ≡ true
        last (k, l, c) = let x : k ≡ suc d = omega (arith, within-least (rows_view n joined) d k i j s.apart c) in rw x at c

    -- a step further is taken from the frontier
    further : (q : ℕ) → q < n → within (rows_view n joined) (suc d) i q ≡ true → ((r : ℕ) → r < 512 → edge_bit frontier 0 r ≡ true → edge_bit joined r q ≡ true → within (rows_view n joined) d i q ≡ true) → within (rows_view n joined) d i q ≡ true
    further q hq w f = step (within_by (rows_view n joined) d i q w)
      where
        from : (r : ℕ) → r < n → within (rows_view n joined) d i r ≡ true → edge_bit joined r q ≡ true → (edge_bit frontier 0 r ≡ true) ⊎ (edge_bit frontier 0 r ≡ false) → within (rows_view n joined) d i q ≡ true
        from r hr w e (inl t) = f r (omega (arith, h.small)) t e
        from r hr w e (inr t) = s.old r q hr hq w t e

        step : (within (rows_view n joined) d i q ≡ true) ⊎ ((r : ℕ) × (r ∈ nodes n) × (within (rows_view n joined) d i r ≡ true) × (edge_bit joined r q ≡ true)) → within (rows_view n joined) d i q ≡ true
        step (inl w) = w
        step (inr (r, m, w, e)) = from r (nodes_out n r m) w e (decide (edge_bit frontier 0 r))

    -- none is: j is not reached by the next step
    pub search_on : {b : Bool} → j < n → b ≡ have_common (take (8 * j + 8 - 8 * j) (drop (8 * j) joined)) frontier → b ≡ false → within (rows_view n joined) (suc d) i j ≡ false
    search_on hj e f = fails (within (rows_view n joined) (suc d) i j) (λ w. differ (further j hj w meets) s.apart)
      where
        meets : (r : ℕ) → r < 512 → edge_bit frontier 0 r ≡ true → edge_bit joined r j ≡ true → within (rows_view n joined) d i j ≡ true
        meets r l g x = differ (common_intro (take (8 * j + 8 - 8 * j) (drop (8 * j) joined)) frontier r l (row-bit joined j r l ∙ h.symmetric j r (omega (arith, h.small)) l ∙ x) g) (sym e ∙ f)

    -- the nodes of the frontier have rows in the table
    pub search_room : i < n → RowRoom (length joined) frontier 0
    search_room hi = record { row = λ a l e. omega (arith, within-node i hi d a l (s.new a l e), h.rows) }

    -- as many steps as nodes: there is no walk
    pub search_out : i < n → j < n → n ≤ d → Shortest (rows_view n joined) i j unreachable
    unfolding nodes
    search_out hi hj l = no_walk (rows_view n joined) i j long
      where
        long : (k : ℕ) → walk (rows_view n joined) k i j ≡ true → ⊥
        long k c =
            let t = walk_short (rows_view n joined) k i j (nodes_in_lem n i hi) (nodes_in_lem n j hj) c in
            omega (arith, t.1, length_from 0 n, within-least (rows_view n joined) d t.0 i j s.apart t.3)

    module _ {next fresh : List ℕ} (there : SetOf (from_any (in_set frontier) joined 0) next) (left : SetOf (λ q. edge_bit next 0 q && not (edge_bit seen 0 q)) fresh) where
      -- the new nodes are those that a step further adds
      new_in : (q : ℕ) → q < n → within (rows_view n joined) (suc d) i q ≡ true → edge_bit fresh 0 q ≡ false → within (rows_view n joined) d i q ≡ true
      new_in q hq w f = further q hq w (λ r k g e. step r k g e (decide (edge_bit seen 0 q)))
        where
          l : q < 512
          l = omega (arith, h.small)

          step : (r : ℕ) → r < 512 → edge_bit frontier 0 r ≡ true → edge_bit joined r q ≡ true → (edge_bit seen 0 q ≡ true) ⊎ (edge_bit seen 0 q ≡ false) → within (rows_view n joined) d i q ≡ true
          step r k g e (inl t) = sym (s.reached.bits q l) ∙ t
          step r k g e (inr t) = differ (left.bits q l ∙ and_true (there.bits q l ∙ from_intro frontier joined r q k g e) (ap not t)) f

      new-out : i < n → (q : ℕ) → q < 512 → edge_bit fresh 0 q ≡ true → within (rows_view n joined) (suc d) i q ≡ true
      new-out hi q l f =
          let t = from_elim frontier joined q (sym (there.bits q l) ∙ and_fst (edge_bit next 0 q) (not (edge_bit seen 0 q)) (sym (left.bits q l) ∙ f)) in
          let w : within (rows_view n joined) d i t.0 ≡ true = s.new t.0 t.1 t.2 in
          within_step (rows_view n joined) d i t.0 q (nodes_in_lem n t.0 (within-node i hi d t.0 t.1 w)) w t.3

      -- nothing is new: there is no walk
      pub search_none : {b : Bool} → j < n → b ≡ have_common fresh fresh → b ≡ false → Shortest (rows_view n joined) i j unreachable
      search_none hj e f = no_walk (rows_view n joined) i j (λ k c. differ (within_stable (rows_view n joined) d i (λ q m w. stop q (nodes_out n q m) w (decide (edge_bit fresh 0 q))) k j (nodes_in_lem n j hj) c) s.apart)
        where
          stop : (q : ℕ) → q < n → within (rows_view n joined) (suc d) i q ≡ true → (edge_bit fresh 0 q ≡ true) ⊎ (edge_bit fresh 0 q ≡ false) → within (rows_view n joined) d i q ≡ true
          stop q hq w (inl t) = differ (common_intro fresh fresh q (omega (arith, h.small)) t t) (sym e ∙ f)
          stop q hq w (inr t) = new_in q hq w t

      -- one step is done
      pub search_step : {after : List ℕ} → i < n → d < n → within (rows_view n joined) (suc d) i j ≡ false → Added (row_to 0 fresh) seen after → {k : ℕ} → k ≡ d + 1 → Searching n joined i j k after fresh
      unfolding row_to
      search_step {after} hi hd far a z = rw (z, add-one d) (record {
        few = omega arith;
        reached = record { size = a.size ∙ s.reached.size; bits = λ q l. iff_eq (edge_bit after 0 q) (within (rows_view n joined) (suc d) i q) (out q l) (into q l (decide (edge_bit fresh 0 q))) };
        size = left.size;
        new = new-out hi;
        old = λ q r hq hr w f e. within_step (rows_view n joined) d i q r (nodes_in_lem n q hq) (new_in q hq w f) e;
        apart = far;
      })
        where
          out : (q : ℕ) → q < 512 → edge_bit after 0 q ≡ true → within (rows_view n joined) (suc d) i q ≡ true
          out q l e = step (or_cases (edge_bit seen 0 q) (edge_bit fresh 0 q) (sym (a.bits 0 q l) ∙ e))
            where
              step : (edge_bit seen 0 q ≡ true) ⊎ (edge_bit fresh 0 q ≡ true) → within (rows_view n joined) (suc d) i q ≡ true
              step (inl t) = within_more (rows_view n joined) d i q (sym (s.reached.bits q l) ∙ t)
              step (inr t) = new-out hi q l t

          into : (q : ℕ) → q < 512 → (edge_bit fresh 0 q ≡ true) ⊎ (edge_bit fresh 0 q ≡ false) → within (rows_view n joined) (suc d) i q ≡ true → edge_bit after 0 q ≡ true
          into q l (inl t) w = a.bits 0 q l ∙ or_right (edge_bit seen 0 q) t
          into q l (inr t) w = a.bits 0 q l ∙ or_left (edge_bit fresh 0 q) (s.reached.bits q l ∙ new_in q (within-node i hi (suc d) q l w) w t)
