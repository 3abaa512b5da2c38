-- Arrays that tell groups and superedges in order: no two of their groups could be one exactly if no two of the groups told could.
use Rattle.std.specs.Prelude.{◌≡◌, refl, Bool, cond, List, ◌⊎◌, ℕ, ◌≤◌, ◌<◌, ltb, length, get_or}
use Rattle.std.proofs.Math.Path.{sym, ap₂}
use Rattle.std.proofs.Common.{ap, ◌∙◌, inl, inr, arith, eqb-true, eq-eqb, ne_eqb, ltb-true, ltb-false}
use Rattle.std.proofs.Math.Bool.{true, false, not, ◌&&◌, ◌||◌}
use Rattle.std.specs.Bool.{xor}
use Rattle.std.proofs.Math.Dec.{eqb}
use Rattle.std.proofs.lemmas.Bool.{eqb-false, not-true}
use Rattle.model.specs.Lists.{all, nodes}
use Rattle.model.specs.Graph.{View, max_nodes}
use Rattle.model.specs.Grouping.{closed, false_twins, true_twins}
use Rattle.model.specs.Tables.{edge_bit}
use Rattle.model.specs.Reading.{Head, has_pair, summary_by}
use Rattle.model.specs.InOrder.{class_at, clique_at, closed_at, could_merge, group_view, groups_fit, in_order, irreducible, members_at, open_at, superedges_fit}
use Rattle.model.proofs.TestLaws.{decide, differ, fails, iff_eq, or_cases, or_left, or_right}
use Rattle.model.proofs.ListLaws.{all_elim, all_intro, nodes_in_lem, nodes_out}
use Rattle.model.proofs.TwinLaws.{false_twins_at, false_twins_by, true_twins_at, true_twins_by}
use Rattle.model.proofs.InOrderLaws.{in_order_parts, place_of}
use Rattle.model.proofs.MergeLaws.{irreducible_in, irreducible_out}
use Rattle.rows.specs.Rows.{Words, leads}
use Rattle.search.specs.TwinRowLaws.{or_xor, xor_none, xor_same, xor_swap}
use Rattle.compressed.specs.Compressed.{Told, alike, apart, clique, first_at, independent, merges}
use Rattle.compressed.specs.RowLaws.{Agree, alike_bits, bits_alike}
use Rattle.compressed.specs.ToldLaws.{bit-told, clique_kind, closed_kind, first_below, firsts_order, firsts_same, group_joined, leads-told, place_first, told-bit, told_class, told_kind, told-leads}

-- no two leaders could be one
module _ (n : ℕ) (least kinds classes joined : List ℕ) where
  pub apart_out : apart n least kinds classes joined ≡ true → (u q : ℕ) → u < n → q < u → leads least u ≡ true → leads least q ≡ true → merges kinds classes joined u q ≡ false
  unfolding apart
  apart_out t u q h l a b = step (or_cases (not (leads least u)) (all (nodes u) (λ q. not (leads least q && merges kinds classes joined u q))) (all_elim (nodes n) _ t u (nodes_in_lem n u h)))
    where
      step : (not (leads least u) ≡ true) ⊎ (all (nodes u) (λ q. not (leads least q && merges kinds classes joined u q)) ≡ true) → merges kinds classes joined u q ≡ false
      step (inl f) = differ a (not-true (leads least u) f)
      step (inr f) = rw b at (not-true (leads least q && merges kinds classes joined u q) (all_elim (nodes u) _ f q (nodes_in_lem u q l)))

  pub apart_in : ((u q : ℕ) → u < n → q < u → leads least u ≡ true → leads least q ≡ true → merges kinds classes joined u q ≡ false) → apart n least kinds classes joined ≡ true
  unfolding apart
  apart_in h = all_intro (nodes n) _ (λ u m. outer u (nodes_out n u m) (decide (leads least u)))
    where
      inner : (u q : ℕ) → u < n → q < u → leads least u ≡ true → (leads least q ≡ true) ⊎ (leads least q ≡ false) → not (leads least q && merges kinds classes joined u q) ≡ true
      inner u q a b t (inl s) = rw (s, h u q a b t s)
      inner u q a b t (inr s) = rw s

      outer : (u : ℕ) → u < n → (leads least u ≡ true) ⊎ (leads least u ≡ false) → (not (leads least u) || all (nodes u) (λ q. not (leads least q && merges kinds classes joined u q))) ≡ true
      outer u a (inl t) = or_right (not (leads least u)) (all_intro (nodes u) _ (λ q m. inner u q a (nodes_out u q m) t (decide (leads least q))))
      outer u a (inr t) = or_left (all (nodes u) (λ q. not (leads least q && merges kinds classes joined u q))) (ap not t)

-- which of two groups is named first does not matter
module _ (v : View) (i j : ℕ) where
  false-turn : false_twins v i j ≡ false_twins v j i
  false-turn = iff_eq (false_twins v i j) (false_twins v j i) (λ t. false_twins_by v j i (λ r m. sym (false_twins_at v i j t r m))) (λ t. false_twins_by v i j (λ r m. sym (false_twins_at v j i t r m)))

  true-turn : true_twins v i j ≡ true_twins v j i
  true-turn = iff_eq (true_twins v i j) (true_twins v j i) (λ t. true_twins_by v j i (λ r m. sym (true_twins_at v i j t r m))) (λ t. true_twins_by v i j (λ r m. sym (true_twins_at v j i t r m)))

pub merge_turn : (gs : List (Head × List ℕ)) (js : List (ℕ × ℕ)) (i j : ℕ) → could_merge gs js i j ≡ could_merge gs js j i
unfolding could_merge
merge_turn gs js i j = ap₂ ◌&&◌ classes (ap₂ ◌||◌ (turn (open_at gs i) (open_at gs j) (false-turn (group_view gs js) i j)) (turn (closed_at gs i) (closed_at gs j) (true-turn (group_view gs js) i j)))
  where
    classes : eqb (class_at gs i) (class_at gs j) ≡ eqb (class_at gs j) (class_at gs i)
    classes = iff_eq _ (eqb (class_at gs j) (class_at gs i)) (λ t. eq-eqb (class_at gs j) (class_at gs i) (sym (eqb-true (class_at gs i) (class_at gs j) t))) (λ t. eq-eqb (class_at gs i) (class_at gs j) (sym (eqb-true (class_at gs j) (class_at gs i) t)))

    turn : (a b : Bool) {c d : Bool} → c ≡ d → (a && (b && c)) ≡ (b && (a && d))
    turn true true e = e
    turn true false e = refl
    turn false true e = refl
    turn false false e = refl

module _ (n : ℕ) (gs : List (Head × List ℕ)) (js : List (ℕ × ℕ)) (small : n ≤ max_nodes) (fits : groups_fit n (λ p. false) 0 gs ≡ true) (ordered : superedges_fit (length gs) 0 js ≡ true)
    (least kinds classes joined : List ℕ) (told : Told gs js least kinds classes joined) (words : Words joined) where
  abbrev view : View
  view = group_view gs js

  abbrev first : ℕ → ℕ
  first i = first_at gs i

  pair-edge : (i j : ℕ) → (has_pair js i j || has_pair js j i) ≡ view.edge i j
  unfolding summary_by
  pair-edge i j = step (decide (eqb i j))
    where
      step : (eqb i j ≡ true) ⊎ (eqb i j ≡ false) → (has_pair js i j || has_pair js j i) ≡ (not (eqb i j) && (has_pair js i j || has_pair js j i))
      step (inl t) = rw t (fails (has_pair js i j || has_pair js j i) (λ z. (group_joined gs js ordered i j z).2 (eqb-true i j t)))
      step (inr t) = rw t

  bit : (i j : ℕ) → i < length gs → j < length gs → edge_bit joined (first_at gs i) (first_at gs j) ≡ view.edge i j
  bit i j a b = told-bit n gs js small fits ordered least kinds classes joined told i j a b ∙ pair-edge i j

  same : (i j : ℕ) → i < length gs → j < length gs → eqb (first_at gs i) (first_at gs j) ≡ eqb i j
  same = firsts_same n gs fits

  below : (i : ℕ) → i < length gs → first_at gs i < n
  below = first_below n gs fits

  -- a number is a first member, or none
  leading : (b : ℕ) → ((r : ℕ) × (r < length gs) × (b ≡ first_at gs r)) ⊎ ((r : ℕ) → r < length gs → b ≡ first_at gs r → ⊥)
  leading b = step (decide (ltb (place_of gs b) (length gs))) (decide (eqb b (first (place_of gs b))))
    where
      none : (eqb b (first (place_of gs b)) ≡ false) → (r : ℕ) → r < length gs → b ≡ first_at gs r → ⊥
      none f r l e = eqb-false b (first (place_of gs b)) f (e ∙ ap first (sym (place_first n gs fits r l) ∙ ap (place_of gs) (sym e)))

      step : (ltb (place_of gs b) (length gs) ≡ true) ⊎ (ltb (place_of gs b) (length gs) ≡ false) → (eqb b (first (place_of gs b)) ≡ true) ⊎ (eqb b (first (place_of gs b)) ≡ false)
          → ((r : ℕ) × (r < length gs) × (b ≡ first_at gs r)) ⊎ ((r : ℕ) → r < length gs → b ≡ first_at gs r → ⊥)
      step (inl t) (inl f) = inl (place_of gs b, ltb-true (place_of gs b) (length gs) t, eqb-true b (first (place_of gs b)) f)
      step (inl t) (inr f) = inr (none f)
      step (inr t) f = inr (λ r l e. omega (arith, ltb-false (place_of gs b) (length gs) t, ap (place_of gs) e, place_first n gs fits r l))

  no-bit : (p b : ℕ) → b < max_nodes → ((r : ℕ) → r < length gs → b ≡ first_at gs r → ⊥) → edge_bit joined p b ≡ false
  no-bit p b h f = step (decide (edge_bit joined p b))
    where
      step : (edge_bit joined p b ≡ true) ⊎ (edge_bit joined p b ≡ false) → edge_bit joined p b ≡ false
      step (inl t) = let r = bit-told n gs js small fits ordered least kinds classes joined told p b h t in absurd (f r.1 r.3 r.5)
      step (inr t) = t

  -- N+ by xor
  closed-xor : (i r : ℕ) → closed view.edge i r ≡ xor (view.edge i r) (eqb i r)
  unfolding closed
  closed-xor i r = or_xor (view.edge i r) (eqb i r) (λ t. rw t)

  module _ (i j : ℕ) (hi : i < length gs) (hj : j < length gs) where
    -- the rows agree at first members as the groups do, and elsewhere
    at_first : (c : Bool) (r : ℕ) → r < length gs → xor (view.edge i r) (view.edge j r) ≡ cond c (xor (eqb i r) (eqb j r)) false → Agree joined c (first_at gs i) (first_at gs j) (first_at gs r)
    at_first c r l h = rw (bit i r hi l, bit j r hj l, same i r hi l, same j r hj l) h

    of-first : (c : Bool) (r : ℕ) → r < length gs → Agree joined c (first_at gs i) (first_at gs j) (first_at gs r) → xor (view.edge i r) (view.edge j r) ≡ cond c (xor (eqb i r) (eqb j r)) false
    of-first c r l h = rw (bit i r hi l, bit j r hj l, same i r hi l, same j r hj l) at h

    agree : (c : Bool) → ((r : ℕ) → r < length gs → xor (view.edge i r) (view.edge j r) ≡ cond c (xor (eqb i r) (eqb j r)) false) → (b : ℕ) → b < max_nodes → Agree joined c (first_at gs i) (first_at gs j) b
    agree c h b k = step (leading b)
      where
        blank : (c : Bool) → xor false false ≡ cond c (xor false false) false
        blank true = refl
        blank false = xor_same false

        step : ((r : ℕ) × (r < length gs) × (b ≡ first_at gs r)) ⊎ ((r : ℕ) → r < length gs → b ≡ first_at gs r → ⊥) → Agree joined c (first_at gs i) (first_at gs j) b
        step (inl r) = rw r.2 (at_first c r.0 r.1 (h r.0 r.1))
        step (inr f) =
            rw (no-bit (first_at gs i) b k f, no-bit (first_at gs j) b k f, ne_eqb (first_at gs i) b (λ z. f i hi (sym z)), ne_eqb (first_at gs j) b (λ z. f j hj (sym z)))
            (blank c)

    open-rows : alike joined false (first_at gs i) (first_at gs j) ≡ false_twins (group_view gs js) i j
    unfolding summary_by
    open-rows =
        iff_eq (alike joined false (first_at gs i) (first_at gs j)) (false_twins view i j)
        (λ t. false_twins_by view i j (λ r m. let l = nodes_out (length gs) r m in xor_none (view.edge i r) (view.edge j r) (of-first false r l (alike_bits joined (first_at gs i) (first_at gs j) false t (first_at gs r) (omega (arith, below r l))))))
        (λ t. bits_alike joined (first_at gs i) (first_at gs j) words false (agree false (λ r l. rw (false_twins_at view i j t r (nodes_in_lem (length gs) r l)) (xor_same (view.edge j r)))))

    closed-rows : alike joined true (first_at gs i) (first_at gs j) ≡ true_twins (group_view gs js) i j
    unfolding summary_by
    closed-rows =
        iff_eq (alike joined true (first_at gs i) (first_at gs j)) (true_twins view i j)
        (λ t. true_twins_by view i j (λ r m. let l = nodes_out (length gs) r m in closed-xor i r ∙ xor_swap (view.edge i r) (view.edge j r) (eqb i r) (eqb j r) (of-first true r l (alike_bits joined (first_at gs i) (first_at gs j) true t (first_at gs r) (omega (arith, below r l)))) ∙ sym (closed-xor j r)))
        (λ t. bits_alike joined (first_at gs i) (first_at gs j) words true (agree true (λ r l. xor_swap (view.edge i r) (eqb i r) (view.edge j r) (eqb j r) (sym (closed-xor i r) ∙ true_twins_at view i j t r (nodes_in_lem (length gs) r l) ∙ closed-xor j r))))

  opens : (i : ℕ) → i < length gs → not (eqb (get_or kinds (first_at gs i) 0) clique) ≡ open_at gs i
  unfolding open_at
  opens i l = rw (told_kind n gs js small fits ordered least kinds classes joined told i l, clique_kind (clique_at gs i) (length (members_at gs i)))

  closes : (i : ℕ) → i < length gs → not (eqb (get_or kinds (first_at gs i) 0) independent) ≡ closed_at gs i
  unfolding closed_at
  closes i l = rw (told_kind n gs js small fits ordered least kinds classes joined told i l) (closed_kind (clique_at gs i) (length (members_at gs i)))

  classes-are : (i : ℕ) → i < length gs → get_or classes (first_at gs i) 0 ≡ class_at gs i
  classes-are = told_class n gs js small fits ordered least kinds classes joined told

  pub merges-told : (i j : ℕ) → i < length gs → j < length gs → merges kinds classes joined (first_at gs i) (first_at gs j) ≡ could_merge gs js i j
  unfolding merges could_merge
  merges-told i j a b = ap₂ ◌&&◌ (ap₂ eqb (classes-are i a) (classes-are j b)) (ap₂ ◌||◌ (ap₂ ◌&&◌ (opens i a) (ap₂ ◌&&◌ (opens j b) (open-rows i j a b))) (ap₂ ◌&&◌ (closes i a) (ap₂ ◌&&◌ (closes j b) (closed-rows i j a b))))

  apart-told : apart n least kinds classes joined ≡ irreducible gs js
  apart-told = iff_eq (apart n least kinds classes joined) (irreducible gs js) there back
    where
      leads-first : (i : ℕ) → i < length gs → leads least (first_at gs i) ≡ true
      leads-first = told-leads n gs js small fits ordered least kinds classes joined told

      there : apart n least kinds classes joined ≡ true → irreducible gs js ≡ true
      there t = irreducible_in gs js (λ i j a b ne. step i j a b ne (decide (ltb j i)))
        where
          lower : (i j : ℕ) → j < i → i < length gs → could_merge gs js i j ≡ false
          lower i j l a =
              let b : j < length gs = omega arith in
              sym (merges-told i j a b) ∙ apart_out n least kinds classes joined t (first_at gs i) (first_at gs j) (below i a) (firsts_order n gs fits j i l a) (leads-first i a) (leads-first j b)

          step : (i j : ℕ) → i < length gs → j < length gs → (i ≡ j → ⊥) → (ltb j i ≡ true) ⊎ (ltb j i ≡ false) → could_merge gs js i j ≡ false
          step i j a b ne (inl h) = lower i j (ltb-true j i h) a
          step i j a b ne (inr h) = let l : i < j = omega (arith, ltb-false j i h) in merge_turn gs js i j ∙ lower j i l b

      back : irreducible gs js ≡ true → apart n least kinds classes joined ≡ true
      back t = apart_in n least kinds classes joined (λ u q h l a b. by u q l (leads-told n gs js small fits ordered least kinds classes joined told u h a) (leads-told n gs js small fits ordered least kinds classes joined told q (omega arith) b))
        where
          by : (u q : ℕ) → q < u → (i : ℕ) × (i < length gs) × (u ≡ first_at gs i) → (j : ℕ) × (j < length gs) × (q ≡ first_at gs j) → merges kinds classes joined u q ≡ false
          by u q l x y = step (decide (could_merge gs js x.0 y.0))
            where
              step : (could_merge gs js x.0 y.0 ≡ true) ⊎ (could_merge gs js x.0 y.0 ≡ false) → merges kinds classes joined u q ≡ false
              step (inl c) = let z = irreducible_out gs js t x.0 y.0 x.1 y.1 c in absurd (omega (arith, x.2, y.2, ap first z))
              step (inr c) = ap₂ (merges kinds classes joined) x.2 y.2 ∙ merges-told x.0 y.0 x.1 y.1 ∙ c

pub told-apart : (n : ℕ) (gs : List (Head × List ℕ)) (js : List (ℕ × ℕ)) → in_order n gs js ≡ true → {least kinds classes joined : List ℕ} → Told gs js least kinds classes joined
    → Words joined → apart n least kinds classes joined ≡ irreducible gs js
told-apart n gs js o {least} {kinds} {classes} {joined} told words = let s = in_order_parts n gs js o in apart-told n gs js s.0 s.1 s.2 least kinds classes joined told words
