-- What each step of the test tells, and that the rows of a table pass exactly if it is the table of a graph.
use Rattle.std.specs.Prelude.{◌≡◌, Bool, false, ◌&&◌, ◌||◌, ◌⊎◌, ℕ, ◌+◌, ◌*◌, ◌/◌, ◌%◌, ◌^◌, ◌≤◌, ◌<◌, eqb, ltb, length, get_or}
use Rattle.std.proofs.Math.Path.{refl, sym, ap}
use Rattle.std.proofs.Common.{◌∙◌, subst, inl, inr, arith}
use Rattle.std.proofs.Math.Bool.{true, not}
use mathlib.Core.List.{List}
use Rattle.std.proofs.Math.Decide.{ℕ_discrete}
use Rattle.std.specs.Int.Bits.{bit_or, or_step}
use borrow.Author.Tests.{eqb-true, eqb-false, eq-eqb, ne_eqb, le-ltb, lt-ltb, ltb-true, ltb-false, not-true}
use Rattle.model.specs.Lists.{all, nodes, same_list}
use Rattle.model.specs.Graph.{max_nodes, row_words}
use Rattle.model.specs.Grouping.{cube}
use Rattle.model.specs.Tables.{bit_at, edge_bit, edges_in, edges_of, graph_in, graph_with, row_of, simple}
use Rattle.model.proofs.TestLaws.{and_fst, and_snd, and_true, decide, differ, eq_beq, fails, iff_eq}
use Rattle.model.proofs.ListLaws.{all_elim, all_intro, nodes_in_lem, nodes_out, same_eq, same_refl}
use Rattle.model.proofs.TableLaws.{edge_bit_lem, simple_edge, simple_loop}
use Rattle.rows.specs.Rows.{Words}
use Rattle.rows.specs.BitLaws.{edge_at}
use Rattle.rows.specs.EdgeLaws.{edges_by_bits}
use Rattle.buffers.specs.AllLaws.{all_fail, all_pass_lem, failed, passed}
use Rattle.bits.specs.BitsLaws.{Cleared}
use Rattle.keys.specs.KeySums.{RowInside, row_key}
use Rattle.keys.specs.Walk.{ahead}
use Rattle.keys.specs.WalkLaws.{ahead_end, ahead_next, ahead_start}
use Rattle.keys.specs.SumLaws.{CubesSoFar, adding_done, adding_next, adding_off, adding_on, adding_place, adding_set, adding_start}
use Rattle.symmetry.specs.Symmetry.{symmetric}
use Rattle.symmetry.specs.SymmetryLaws.{all-symmetric, outside, symmetric-all}
use Rattle.edges.specs.Edges.{RowsBelow, bit_holds, edges_hold, loopless, mirrored, row_holds}

-- a bit and its mirror
module _ (n : ℕ) (edges : List ℕ) (p q : ℕ) where
  pub mirror_outside : n ≤ q → false ≡ mirrored n edges p q
  unfolding mirrored
  mirror_outside h = rw (le-ltb q n h)

  pub mirror_self : q < n → q ≡ p → false ≡ mirrored n edges p q
  unfolding mirrored
  mirror_self l h = rw (lt-ltb q n l, eq-eqb q p h)

  pub mirror_edge : (b : Bool) → q < n → (q ≡ p → ⊥) → b ≡ edge_bit edges q p → b ≡ mirrored n edges p q
  unfolding mirrored
  mirror_edge b l h e = rw (lt-ltb q n l, ne_eqb q p h) e

-- the lowest bit of x tells whether a node below p has a loop
pub record LoopsBelow (edges : List ℕ) (p x : ℕ) : Type 0 where
  pub even : eqb (x % 2) 0 ≡ loopless p edges

pub loops_none : (edges : List ℕ) → LoopsBelow edges 0 0
unfolding loopless
loops_none edges = record { even = all_pass_lem (λ p. not (edge_bit edges p p)) 0 0 (omega arith) (λ p l. absurd (omega arith)) }

pub loops_more : {edges : List ℕ} {p x i k : ℕ} → LoopsBelow edges p x → i ≡ 8 * p + p / 64 → k ≡ p % 64 → LoopsBelow edges (p + 1) (bit_or x (get_or edges i 0 / 2 ^ k))
unfolding loopless bit_at
loops_more {edges} {p} {x} {i} {k} below ei ek = record { even = iff_eq (eqb (bit_or x y % 2) 0) (all (nodes (p + 1)) free) there back }
  where
    y : ℕ
    y = get_or edges i 0 / 2 ^ k

    free : ℕ → Bool
    free q = not (edge_bit edges q q)

    own : free p ≡ not (eqb (y % 2) 1)
    own = rw ek (ap not (sym (edge_at edges p p ei)))

    there : eqb (bit_or x y % 2) 0 ≡ true → all (nodes (p + 1)) free ≡ true
    there h = all_intro (nodes (p + 1)) free (λ q m. step q (nodes_out (p + 1) q m) (ℕ_discrete q p))
      where
        z : bit_or x y % 2 ≡ 0
        z = eqb-true (bit_or x y % 2) 0 h

        step : (q : ℕ) → q < p + 1 → Dec (q ≡ p) → free q ≡ true
        step q l (yes e) = ap free e ∙ own ∙ ap not (ne_eqb (y % 2) 1 (omega (arith, or_step x y, z)))
        step q l (no e) = all_elim (nodes p) free (sym below.even ∙ eq-eqb (x % 2) 0 (omega (arith, or_step x y, z))) q (nodes_in_lem p q (omega arith))

    back : all (nodes (p + 1)) free ≡ true → eqb (bit_or x y % 2) 0 ≡ true
    back h =
        let at = all_elim (nodes (p + 1)) free h in
        let a = eqb-true (x % 2) 0 (below.even ∙ all_intro (nodes p) free (λ q m. at q (nodes_in_lem (p + 1) q (omega (arith, nodes_out p q m))))) in
        let b = eqb-false (y % 2) 1 (not-true (eqb (y % 2) 1) (sym own ∙ at p (nodes_in_lem (p + 1) p (omega arith)))) in
        eq-eqb (bit_or x y % 2) 0 (omega (arith, or_step x y, a, b))

-- a walk over p's row: the bits passed are mirrored
pub record Walking (n : ℕ) (edges : List ℕ) (p w x sum : ℕ) : Type 0 where
  pub adding : CubesSoFar n edges p w x sum
  pub passed : (q : ℕ) → q < 512 → ahead edges p w x q ≡ false → bit_holds n edges p q ≡ true

module _ {n : ℕ} {edges : List ℕ} {p : ℕ} where
  pub walk_start : p < n → Words edges → Walking n edges p 0 (get_or edges (8 * p + 0) 0) 0
  unfolding bit_holds
  walk_start hp words = record { adding = adding_start hp words; passed = λ q l h. ap (λ (b : Bool). not b || mirrored n edges p q) (sym (ahead_start edges p q) ∙ h) }

  module _ {w x sum : ℕ} (h : Walking n edges p w x sum) where
    -- a word of which nothing is left
    pub walk_next : x ≡ 0 → Words edges → Walking n edges p (w + 1) (get_or edges (8 * p + (w + 1)) 0) sum
    walk_next e words = record { adding = adding_next h.adding e words; passed = λ q l t. h.passed q l (ap (λ (y : ℕ). ahead edges p w y q) e ∙ ahead_next edges p w q ∙ t) }

    -- its lowest bit is at t, and y is left
    module _ {t y : ℕ} (cut : Cleared x t y) where
      abbrev q : ℕ
      q = 64 * w + t

      pub walk_place : w < 8 → 64 * w + t < 512
      walk_place l = adding_place h.adding cut l

      is_set : edge_bit edges p (64 * w + t) ≡ true
      is_set = adding_set h.adding cut

      -- a bit that is not mirrored
      pub walk_fails : (b : Bool) → w < 8 → b ≡ mirrored n edges p (64 * w + t) → not b ≡ true → false ≡ row_holds n edges p
      unfolding row_holds bit_holds
      walk_fails b l e f = all_fail (λ r. not (edge_bit edges p r) || mirrored n edges p r) 512 q (walk_place l) (rw is_set (failed e f))

      -- a bit that is
      pub walk_on : (b : Bool) {a r : ℕ} → b ≡ mirrored n edges p (64 * w + t) → not b ≡ false → a ≡ cube (64 * w + t) → r ≡ (sum + a) % 2 ^ 32 → Walking n edges p w y r
      unfolding bit_holds mirrored
      walk_on b {a} {r} e f ea er = record { adding = adding_on h.adding cut l ea er; passed = λ j k t. over j k t (decide (eqb j q)) }
        where
          l : q < n
          l = ltb-true q n (and_fst (ltb q n) _ (passed e f))

          over : (j : ℕ) → j < 512 → ahead edges p w y j ≡ false → (eqb j q ≡ true) ⊎ (eqb j q ≡ false) → (not (edge_bit edges p j) || mirrored n edges p j) ≡ true
          over j k t (inl z) = rw (eqb-true j q z, is_set) (passed e f)
          over j k t (inr z) = h.passed j k (sym (adding_off h.adding cut j (eqb-false j q z)) ∙ t)

    -- after the last word
    pub walk-mirrored : w ≡ 8 → true ≡ row_holds n edges p
    unfolding row_holds
    walk-mirrored e = all_pass_lem (bit_holds n edges p) 512 512 (omega arith) (λ q k. h.passed q k (rw e (ahead_end edges p x q k)))

    pub walk-sum : w ≡ 8 → n ≤ 512 → sum ≡ row_key n edges p
    walk-sum e l = adding_done h.adding e l

-- a walk that judges the bits of a word together: those passed are mirrored, or the row does not pass
abbrev pub Judging : ℕ → List ℕ → ℕ → ℕ → ℕ → Bool → Type 0
Judging n edges p w x held = ((held ≡ true) × ((sum : ℕ) × Walking n edges p w x sum)) ⊎ ((held ≡ false) × (false ≡ row_holds n edges p))

module _ {n : ℕ} {edges : List ℕ} {p w x : ℕ} {held : Bool} where
  pub judge_on : {t y : ℕ} → Judging n edges p w x held → Cleared x t y → w < 8 → (b : Bool) → b ≡ mirrored n edges p (64 * w + t) → Judging n edges p w y (held && b)
  judge_on {t} {y} (inl (e, (sum, h))) cut l b m = step (decide b)
    where
      step : (b ≡ true) ⊎ (b ≡ false) → Judging n edges p w y (held && b)
      step (inl z) = inl (rw (e, z), (_, walk_on h cut b m (ap not z) refl refl))
      step (inr z) = inr (rw (e, z), walk_fails h cut b l m (ap not z))
  judge_on (inr (e, f)) cut l b m = inr (rw e, f)

  pub judged_well : Judging n edges p w x held → held ≡ true → (sum : ℕ) × Walking n edges p w x sum
  judged_well (inl (e, h)) t = h
  judged_well (inr (e, f)) t = differ t e

  pub judged_ill : Judging n edges p w x held → held ≡ false → false ≡ row_holds n edges p
  judged_ill (inl (e, h)) t = differ e t
  judged_ill (inr (e, f)) t = f

pub same_of : {a b : List ℕ} → a ≡ b → same_list a b ≡ true
same_of {a} {b} e = subst (λ x. same_list a x ≡ true) e (same_refl a)

both_false : (a b : Bool) {c : Bool} → c ≡ false → (a && (b && c)) ≡ false
both_false true true e = e
both_false true false e = refl
both_false false b e = refl

module _ (n : ℕ) (edges : List ℕ) where
  -- whatever the marks and classes
  pub held_with : (mark class : ℕ → ℕ) → edges_hold n edges ≡ (simple (graph_with n edges mark class) && same_list edges (edges_of (graph_with n edges mark class)))
  unfolding edges_hold simple edges_of row_of
  held_with mark class = refl

  -- rows that pass
  module _ (rows : RowsBelow n edges n) where
    mirror : (p q : ℕ) → p < n → q < 512 → edge_bit edges p q ≡ true → mirrored n edges p q ≡ true
    unfolding row_holds bit_holds
    mirror p q hp hq e = rw e at (all_elim (nodes 512) (λ q. not (edge_bit edges p q) || mirrored n edges p q) (rows p hp) q (nodes_in_lem 512 q hq))

    pub row_inside : (p : ℕ) → p < n → RowInside n edges p
    unfolding mirrored
    row_inside p hp q hq e = ltb-true q n (and_fst (ltb q n) _ (mirror p q hp hq e))

    mirror-back : (p q : ℕ) → p < n → q < 512 → edge_bit edges p q ≡ true → edge_bit edges q p ≡ true
    unfolding mirrored
    mirror-back p q hp hq e = and_snd (not (eqb q p)) _ (and_snd (ltb q n) _ (mirror p q hp hq e))

    no_loop : n ≤ max_nodes → (p : ℕ) → p < n → edge_bit edges p p ≡ false
    unfolding mirrored
    no_loop small p hp = fails (edge_bit edges p p) (λ e. eqb-false p p (not-true (eqb p p) (and_fst (not (eqb p p)) _ (and_snd (ltb p n) _ (mirror p p hp (omega arith) e)))) refl)

    turn : n ≤ max_nodes → (p q : ℕ) → p < n → q < n → edges_in n edges p q ≡ edges_in n edges q p
    unfolding edges_in
    turn small p q hp hq = rw (lt-ltb p n hp, lt-ltb q n hq) (iff_eq (edge_bit edges p q) (edge_bit edges q p) (mirror-back p q hp (omega arith)) (mirror-back q p hq (omega arith)))

    rows-simple : n ≤ max_nodes → simple (graph_in n edges) ≡ true
    unfolding simple edges_in
    rows-simple small =
        all_intro (nodes n) _
        (λ p m.
        and_true (ap not (both_false (ltb p n) (ltb p n) (no_loop small p (nodes_out n p m)))) (all_intro (nodes n) _ (λ q k. eq_beq (edges_in n edges p q) (edges_in n edges q p) (turn small p q (nodes_out n p m) (nodes_out n q k)))))

    rows-edges : length edges ≡ row_words * n → Words edges → edges ≡ edges_of (graph_in n edges)
    unfolding edges_in
    rows-edges size words = edges_by_bits (graph_in n edges) edges size words at
      where
        at : (p q : ℕ) → p < n → q < 512 → edge_bit edges p q ≡ (ltb p n && (ltb q n && edge_bit edges p q))
        at p q hp hq = step (decide (edge_bit edges p q))
          where
            step : (edge_bit edges p q ≡ true) ⊎ (edge_bit edges p q ≡ false) → edge_bit edges p q ≡ (ltb p n && (ltb q n && edge_bit edges p q))
            step (inl e) = rw (lt-ltb p n hp, lt-ltb q n (row_inside p hp q hq e))
            step (inr e) = e ∙ sym (both_false (ltb p n) (ltb q n) e)

  -- rows of a graph
  module _ (h : edges_hold n edges ≡ true) where
    is-simple : simple (graph_in n edges) ≡ true
    unfolding edges_hold
    is-simple = and_fst (simple (graph_in n edges)) _ h

    bit-told : (p q : ℕ) → p < n → q < 512 → edge_bit edges p q ≡ edges_in n edges p q
    unfolding edges_hold
    bit-told p q hp hq = ap (λ (s : List ℕ). edge_bit s p q) (same_eq edges (edges_of (graph_in n edges)) (and_snd (simple (graph_in n edges)) _ h)) ∙ edge_bit_lem (graph_in n edges) p q hp hq

    mirror-told : (p q : ℕ) → p < n → edges_in n edges p q ≡ true → mirrored n edges p q ≡ true
    unfolding edges_in mirrored
    mirror-told p q hp f =
        let hq : q < n = ltb-true q n (and_fst (ltb q n) _ (and_snd (ltb p n) _ f)) in
        and_true (lt-ltb q n hq) (and_true (ap not (ne_eqb q p other)) (and_snd (ltb p n) _ (and_snd (ltb q n) _ (sym (simple_edge (graph_in n edges) is-simple p q hp hq) ∙ f))))
      where
        other : q ≡ p → ⊥
        other z = differ f (ap (edges_in n edges p) z ∙ simple_loop (graph_in n edges) is-simple p hp)

    pub held_below : RowsBelow n edges n
    unfolding row_holds bit_holds
    held_below p hp = all_intro (nodes 512) _ (λ q m. at q (nodes_out 512 q m) (decide (edge_bit edges p q)))
      where
        at : (q : ℕ) → q < 512 → (edge_bit edges p q ≡ true) ⊎ (edge_bit edges p q ≡ false) → (not (edge_bit edges p q) || mirrored n edges p q) ≡ true
        at q hq (inl e) = rw e (mirror-told p q hp (sym (bit-told p q hp hq) ∙ e))
        at q hq (inr e) = rw e

  pub row_fails : (p : ℕ) → p < n → row_holds n edges p ≡ false → false ≡ edges_hold n edges
  row_fails p hp e = sym (fails (edges_hold n edges) (λ h. differ (held_below h p hp) e))

  module _ (small : n ≤ max_nodes) (size : length edges ≡ row_words * n) where
    pub rows_held : Words edges → RowsBelow n edges n → edges_hold n edges ≡ true
    unfolding edges_hold
    rows_held words rows = and_true (rows-simple rows small) (same_of (rows-edges rows size words))

    set-inside : (p q : ℕ) → edge_bit edges p q ≡ true → p < n
    set-inside p q e = step (decide (ltb p n))
      where
        step : (ltb p n ≡ true) ⊎ (ltb p n ≡ false) → p < n
        step (inl t) = ltb-true p n t
        step (inr t) = differ e (outside n edges size p q (ltb-false p n t))

    -- rows that pass are symmetric and have no loops
    pub rows_symmetric : RowsBelow n edges n → (symmetric edges && loopless n edges) ≡ true
    unfolding loopless
    rows_symmetric rows =
        and_true (all-symmetric edges (λ p q hp hq. iff_eq (edge_bit edges p q) (edge_bit edges q p) (back p q hq) (back q p hp))) (all_intro (nodes n) _ (λ p m. ap not (no_loop rows small p (nodes_out n p m))))
      where
        back : (p q : ℕ) → q < 512 → edge_bit edges p q ≡ true → edge_bit edges q p ≡ true
        back p q hq t = mirror-back rows p q (set-inside p q t) hq t

    -- and such rows pass
    pub symmetric_rows : symmetric edges ≡ true → loopless n edges ≡ true → RowsBelow n edges n
    unfolding loopless row_holds bit_holds mirrored
    symmetric_rows h free p hp = all_intro (nodes 512) _ (λ q m. at q (nodes_out 512 q m) (decide (edge_bit edges p q)))
      where
        back : (q : ℕ) → q < 512 → edge_bit edges p q ≡ true → edge_bit edges q p ≡ true
        back q hq t = sym (symmetric-all edges h p q (omega arith) hq) ∙ t

        own : edge_bit edges p p ≡ false
        own = not-true (edge_bit edges p p) (all_elim (nodes n) (λ p. not (edge_bit edges p p)) free p (nodes_in_lem n p hp))

        at : (q : ℕ) → q < 512 → (edge_bit edges p q ≡ true) ⊎ (edge_bit edges p q ≡ false) → (not (edge_bit edges p q) || (ltb q n && (not (eqb q p) && edge_bit edges q p))) ≡ true
        at q hq (inl t) = rw t (and_true (lt-ltb q n (set-inside q p (back q hq t))) (and_true (ap not (ne_eqb q p (λ z. differ t (ap (edge_bit edges p) z ∙ own)))) (back q hq t)))
        at q hq (inr t) = rw t

    pub symmetric-held : Words edges → (symmetric edges && loopless n edges) ≡ edges_hold n edges
    symmetric-held words =
        iff_eq (symmetric edges && loopless n edges) (edges_hold n edges)
        (λ t. rows_held words (symmetric_rows (and_fst (symmetric edges) _ t) (and_snd (symmetric edges) _ t)))
        (λ t. rows_symmetric (held_below t))
