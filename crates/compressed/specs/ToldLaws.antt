-- Arrays that tell groups and superedges in order: they keep to what is asked of such arrays, and unfold to the graph that these tell.
use Rattle.std.specs.Prelude.{◌≡◌, refl, Bool, true, false, ◌&&◌, ◌||◌, cond, List, [], ◌∷◌, map, ◌⊎◌, ℕ, suc, zero, ◌*◌, ◌≤◌, ◌<◌, eqb, ltb}
use Rattle.std.proofs.Common.{sym, ap₂, ◌∙◌, inl, inr, arith}
use Rattle.std.proofs.Math.Path.{ap, fun_ext}
use Rattle.std.proofs.Math.Bool.{not, and_comm, or_comm}
use Rattle.std.proofs.Math.ListN.{length, get_or}
use borrow.Author.Tests.{eqb-true, eq-eqb, ne_eqb, ltb-true, ltb-false, lt-ltb}
use Rattle.model.specs.Lists.{◌∈◌, head_or, member}
use Rattle.model.specs.Graph.{max_nodes, row_words}
use Rattle.model.specs.Summary.{position, reconstruct}
use Rattle.model.specs.Tables.{edge_bit}
use Rattle.model.specs.Reading.{Head, graph_by, has_pair, summary_by}
use Rattle.model.specs.InOrder.{class_at, clique_at, groups_fit, in_order, members_at, superedges_fit}
use Rattle.model.proofs.TestLaws.{and_fst, and_snd, and_true, decide, differ, iff_eq, or_cases, or_left, or_right}
use Rattle.model.proofs.ListLaws.{head_or-le}
use Rattle.model.proofs.InOrderLaws.{first_in, firsts_ascend, in_order_parts, members_ascend, members_below, pair_fits, place_in, place_of_lem, place_of}
use Rattle.model.proofs.ToldGraphLaws.{place_below}
use Rattle.model.proofs.MergeLaws.{only_member}
use Rattle.rows.specs.Rows.{leads, no_node}
use Rattle.compressed.specs.Compressed.{Compressed, Told, class_in, class_of, clique, first_at, first_member_of, independent, joined_by, kind_in, kind_marked, led_by, placed, single, unfolded, unfolded_edge, with_classes}

-- the first member of a node's group, by the group's position
pub first_placed : (gs : List (Head × List ℕ)) (p : ℕ) → place_of gs p < length gs → first_member_of gs p ≡ first_at gs (place_of gs p)
unfolding first_member_of first_at members_at position
first_placed [] p l = absurd (omega arith)
first_placed (g ∷ gs) p l = step (member p g.1) l (first_placed gs p)
  where
    step : (b : Bool) → cond b 0 (suc (place_of gs p)) < suc (length gs) → (place_of gs p < length gs → first_member_of gs p ≡ first_at gs (place_of gs p)) → cond b (head_or 0 g.1) (first_member_of gs p) ≡ first_at (g ∷ gs) (cond b 0 (suc (place_of gs p)))
    step true h below = refl
    step false h below = below (omega arith)

pub first_member_none : (gs : List (Head × List ℕ)) (p : ℕ) → length gs ≤ place_of gs p → first_member_of gs p ≡ no_node
unfolding first_member_of position
first_member_none [] p l = refl
first_member_none (g ∷ gs) p l = step (member p g.1) l (first_member_none gs p)
  where
    step : (b : Bool) → suc (length gs) ≤ cond b 0 (suc (place_of gs p)) → (length gs ≤ place_of gs p → first_member_of gs p ≡ no_node) → cond b (head_or 0 g.1) (first_member_of gs p) ≡ no_node
    step true h below = absurd (omega arith)
    step false h below = below (omega arith)

-- a number of a group, where no two groups have one first member
led_at : (number : Head × List ℕ → ℕ) (gs : List (Head × List ℕ)) → ((i j : ℕ) → i < length gs → j < length gs → first_at gs i ≡ first_at gs j → i ≡ j) → (i : ℕ) → i < length gs → led_by number gs (first_at gs i) ≡ get_or (map number gs) i 0
unfolding led_by first_at members_at
led_at number [] one i l = absurd (omega arith)
led_at number (g ∷ gs) one zero l = rw (eq-eqb (head_or 0 g.1) (head_or 0 g.1) refl)
led_at number (g ∷ gs) one (suc i) l =
    rw (ne_eqb (first_at gs i) (head_or 0 g.1) (λ z. omega (arith, one (suc i) 0 l (omega arith) z)))
    (led_at number gs (λ j k a b z. omega (arith, one (suc j) (suc k) (omega arith) (omega arith) z)) i (omega arith))

kind_at : (gs : List (Head × List ℕ)) (i : ℕ) → i < length gs → get_or (map kind_in gs) i 0 ≡ kind_marked (clique_at gs i) (length (members_at gs i))
unfolding members_at clique_at
kind_at [] i l = absurd (omega arith)
kind_at (g ∷ gs) zero l = refl
kind_at (g ∷ gs) (suc i) l = kind_at gs i (omega arith)

kind_other : (gs : List (Head × List ℕ)) (p : ℕ) → (led_by kind_in gs p ≡ single → ⊥) → (i : ℕ) × (i < length gs) × (p ≡ first_at gs i)
unfolding led_by first_at members_at
kind_other [] p h = absurd (h refl)
kind_other (g ∷ gs) p h = step (decide (eqb p (head_or 0 g.1))) (kind_other gs p)
  where
    step : (eqb p (head_or 0 g.1) ≡ true) ⊎ (eqb p (head_or 0 g.1) ≡ false) → ((led_by kind_in gs p ≡ single → ⊥) → (i : ℕ) × (i < length gs) × (p ≡ first_at gs i)) → (i : ℕ) × (i < suc (length gs)) × (p ≡ first_at (g ∷ gs) i)
    step (inl t) below = (0, omega arith, eqb-true p (head_or 0 g.1) t)
    step (inr t) below = let r = below (λ z. h (rw t z)) in (suc r.0, omega (arith, r.1), r.2)

kind_most : (gs : List (Head × List ℕ)) (p : ℕ) → led_by kind_in gs p ≤ clique
unfolding led_by kind_marked
kind_most [] p = omega arith
kind_most (g ∷ gs) p = step (eqb p (head_or 0 g.1)) g.0.clique (eqb (length g.1) 1) (kind_most gs p)
  where
    step : (a b c : Bool) → led_by kind_in gs p ≤ clique → cond a (cond b clique (cond c single independent)) (led_by kind_in gs p) ≤ clique
    step true true c h = omega arith
    step true false true h = omega arith
    step true false false h = omega arith
    step false b c h = h

-- what a kind tells of a group's mark and size
pub clique_kind : (c : Bool) (k : ℕ) → eqb (kind_marked c k) clique ≡ c
unfolding kind_marked
clique_kind true k = refl
clique_kind false k = step (eqb k 1)
  where
    step : (b : Bool) → eqb (cond b single independent) clique ≡ false
    step true = refl
    step false = refl

pub closed_kind : (c : Bool) (k : ℕ) → not (eqb (kind_marked c k) independent) ≡ (c || eqb k 1)
unfolding kind_marked
closed_kind true k = refl
closed_kind false k = step (eqb k 1)
  where
    step : (b : Bool) → not (eqb (cond b single independent) independent) ≡ b
    step true = refl
    step false = refl

single_kind : (c : Bool) (k : ℕ) → kind_marked c k ≡ single → k ≡ 1
unfolding kind_marked
single_kind true k h = absurd (omega arith)
single_kind false k h = step (decide (eqb k 1))
  where
    step : (eqb k 1 ≡ true) ⊎ (eqb k 1 ≡ false) → k ≡ 1
    step (inl t) = eqb-true k 1 t
    step (inr t) = let z : cond (eqb k 1) single independent ≡ 0 = h in absurd (omega (arith, rw t at z))

-- the first members of a superedge's groups are joined, and only they
pub joined_in : (gs : List (Head × List ℕ)) (js : List (ℕ × ℕ)) (i j : ℕ) → has_pair js i j ≡ true → joined_by gs js (first_at gs i) (first_at gs j) ≡ true
unfolding has_pair joined_by
joined_in gs [] i j t = t
joined_in gs (x ∷ xs) i j t = step (or_cases (eqb x.0 i && eqb x.1 j) (has_pair xs i j) t) (joined_in gs xs i j)
  where
    step : ((eqb x.0 i && eqb x.1 j) ≡ true) ⊎ (has_pair xs i j ≡ true) → (has_pair xs i j ≡ true → joined_by gs xs (first_at gs i) (first_at gs j) ≡ true) → joined_by gs (x ∷ xs) (first_at gs i) (first_at gs j) ≡ true
    step (inl h) below =
        let a = eqb-true x.0 i (and_fst (eqb x.0 i) (eqb x.1 j) h) in
        let b = eqb-true x.1 j (and_snd (eqb x.0 i) (eqb x.1 j) h) in
        or_left _ (or_left _ (and_true (eq-eqb (first_at gs i) (first_at gs x.0) (ap (first_at gs) (sym a))) (eq-eqb (first_at gs j) (first_at gs x.1) (ap (first_at gs) (sym b)))))
    step (inr h) below = or_right ((eqb (first_at gs i) (first_at gs x.0) && eqb (first_at gs j) (first_at gs x.1)) || (eqb (first_at gs i) (first_at gs x.1) && eqb (first_at gs j) (first_at gs x.0))) (below h)

pub joined_turn : (gs : List (Head × List ℕ)) (js : List (ℕ × ℕ)) (a b : ℕ) → joined_by gs js a b ≡ joined_by gs js b a
unfolding joined_by
joined_turn gs [] a b = refl
joined_turn gs (x ∷ xs) a b = ap₂ ◌||◌ (turn (eqb a (first_at gs x.0)) (eqb b (first_at gs x.1)) (eqb a (first_at gs x.1)) (eqb b (first_at gs x.0))) (joined_turn gs xs a b)
  where
    turn : (p q r s : Bool) → ((p && q) || (r && s)) ≡ ((s && r) || (q && p))
    turn p q r s = or_comm (p && q) (r && s) ∙ ap₂ ◌||◌ (and_comm r s) (and_comm p q)

-- a superedge between the groups that a and b are the first members of
abbrev SuperedgeAcross : List (Head × List ℕ) → List (ℕ × ℕ) → ℕ → ℕ → Type 0
SuperedgeAcross gs js a b = (i : ℕ) × (j : ℕ) × ((has_pair js i j || has_pair js j i) ≡ true) × (a ≡ first_at gs i) × (b ≡ first_at gs j)

joined_out : (gs : List (Head × List ℕ)) (js : List (ℕ × ℕ)) (a b : ℕ) → joined_by gs js a b ≡ true → SuperedgeAcross gs js a b
unfolding has_pair joined_by
joined_out gs [] a b t = differ t refl
joined_out gs (x ∷ xs) a b t = step (or_cases ((eqb a f && eqb b s) || (eqb a s && eqb b f)) (joined_by gs xs a b) t) (joined_out gs xs a b)
  where
    f : ℕ
    f = first_at gs x.0

    s : ℕ
    s = first_at gs x.1

    own : has_pair (x ∷ xs) x.0 x.1 ≡ true
    own = or_left (has_pair xs x.0 x.1) (and_true (eq-eqb x.0 x.0 refl) (eq-eqb x.1 x.1 refl))

    either : ((eqb a f && eqb b s) ≡ true) ⊎ ((eqb a s && eqb b f) ≡ true) → SuperedgeAcross gs (x ∷ xs) a b
    either (inl h) = (x.0, x.1, or_left (has_pair (x ∷ xs) x.1 x.0) own, eqb-true a f (and_fst (eqb a f) (eqb b s) h), eqb-true b s (and_snd (eqb a f) (eqb b s) h))
    either (inr h) = (x.1, x.0, or_right (has_pair (x ∷ xs) x.1 x.0) own, eqb-true a s (and_fst (eqb a s) (eqb b f) h), eqb-true b f (and_snd (eqb a s) (eqb b f) h))

    more : (i j : ℕ) → (has_pair xs i j ≡ true) ⊎ (has_pair xs j i ≡ true) → (has_pair (x ∷ xs) i j || has_pair (x ∷ xs) j i) ≡ true
    more i j (inl h) = or_left (has_pair (x ∷ xs) j i) (or_right (eqb x.0 i && eqb x.1 j) h)
    more i j (inr h) = or_right (has_pair (x ∷ xs) i j) (or_right (eqb x.0 j && eqb x.1 i) h)

    step : (((eqb a f && eqb b s) || (eqb a s && eqb b f)) ≡ true) ⊎ (joined_by gs xs a b ≡ true) → (joined_by gs xs a b ≡ true → SuperedgeAcross gs xs a b) → SuperedgeAcross gs (x ∷ xs) a b
    step (inl h) below = either (or_cases (eqb a f && eqb b s) (eqb a s && eqb b f) h)
    step (inr h) below = let r = below h in (r.0, r.1, more r.0 r.1 (or_cases (has_pair xs r.0 r.1) (has_pair xs r.1 r.0) r.2), r.3, r.4)

-- groups that fit, each known by its first member
module _ (n : ℕ) (gs : List (Head × List ℕ)) (fits : groups_fit n (λ p. false) 0 gs ≡ true) where
  first_member : (i : ℕ) → i < length gs → first_at gs i ∈ members_at gs i
  unfolding first_at
  first_member i l = first_in n gs fits i l

  pub place_first : (i : ℕ) → i < length gs → place_of gs (first_at gs i) ≡ i
  place_first i l = place_of_lem n gs fits i (first_at gs i) l (first_member i l)

  pub first_below : (i : ℕ) → i < length gs → first_at gs i < n
  first_below i l = members_below n gs fits i (first_at gs i) l (first_member i l)

  firsts-one : (i j : ℕ) → i < length gs → j < length gs → first_at gs i ≡ first_at gs j → i ≡ j
  firsts-one i j a b z = sym (place_first i a) ∙ ap (place_of gs) z ∙ place_first j b

  pub firsts_same : (i j : ℕ) → i < length gs → j < length gs → eqb (first_at gs i) (first_at gs j) ≡ eqb i j
  firsts_same i j a b = iff_eq _ (eqb i j) (λ t. eq-eqb i j (firsts-one i j a b (eqb-true (first_at gs i) (first_at gs j) t))) (λ t. eq-eqb (first_at gs i) (first_at gs j) (ap (first_at gs) (eqb-true i j t)))

  pub firsts_order : (i j : ℕ) → i < j → j < length gs → first_at gs i < first_at gs j
  unfolding first_at
  firsts_order i j l h = firsts_ascend n gs fits i j l h

  first_le : (p : ℕ) → place_of gs p < length gs → first_at gs (place_of gs p) ≤ p
  unfolding first_at
  first_le p l = head_or-le 0 (members_at gs (place_of gs p)) p (members_ascend n gs fits (place_of gs p) l) (place_in n gs fits p l)

  first_alone : (p : ℕ) → place_of gs p < length gs → length (members_at gs (place_of gs p)) ≡ 1 → first_at gs (place_of gs p) ≡ p
  first_alone p l h = only_member (first_at gs (place_of gs p)) p (members_at gs (place_of gs p)) h (first_member (place_of gs p) l) (place_in n gs fits p l)

  kind-of : (i : ℕ) → i < length gs → led_by kind_in gs (first_at gs i) ≡ kind_marked (clique_at gs i) (length (members_at gs i))
  kind-of i l = led_at kind_in gs firsts-one i l ∙ kind_at gs i l

  class-of : (i : ℕ) → i < length gs → led_by class_of gs (first_at gs i) ≡ class_at gs i
  unfolding class_at
  class-of = led_at class_of gs firsts-one

-- superedges in order join different groups that are there
pub group_joined : (gs : List (Head × List ℕ)) (js : List (ℕ × ℕ)) → superedges_fit (length gs) 0 js ≡ true → (i j : ℕ) → (has_pair js i j || has_pair js j i) ≡ true → (i < length gs) × (j < length gs) × (i ≡ j → ⊥)
group_joined gs js ordered i j t = step (or_cases (has_pair js i j) (has_pair js j i) t)
  where
    step : (has_pair js i j ≡ true) ⊎ (has_pair js j i ≡ true) → (i < length gs) × (j < length gs) × (i ≡ j → ⊥)
    step (inl h) = let f = pair_fits (length gs) 0 js ordered i j h in (omega (arith, f.0, f.1), f.1, λ z. omega (arith, f.0))
    step (inr h) = let f = pair_fits (length gs) 0 js ordered j i h in (f.1, omega (arith, f.0, f.1), λ z. omega (arith, f.0))

-- groups and superedges in order
module _ (n : ℕ) (gs : List (Head × List ℕ)) (js : List (ℕ × ℕ)) (fits : groups_fit n (λ p. false) 0 gs ≡ true) (ordered : superedges_fit (length gs) 0 js ≡ true) where
  pub joined_at : (i j : ℕ) → i < length gs → j < length gs → joined_by gs js (first_at gs i) (first_at gs j) ≡ (has_pair js i j || has_pair js j i)
  joined_at i j a b = iff_eq _ (has_pair js i j || has_pair js j i) (λ t. there (joined_out gs js (first_at gs i) (first_at gs j) t)) (λ t. back (or_cases (has_pair js i j) (has_pair js j i) t))
    where
      there : SuperedgeAcross gs js (first_at gs i) (first_at gs j) → (has_pair js i j || has_pair js j i) ≡ true
      there r =
          let l = group_joined gs js ordered r.0 r.1 r.2 in
          let e = firsts-one n gs fits i r.0 a l.0 r.3 in
          let f = firsts-one n gs fits j r.1 b l.1 r.4 in
          rw (e, f) r.2

      back : (has_pair js i j ≡ true) ⊎ (has_pair js j i ≡ true) → joined_by gs js (first_at gs i) (first_at gs j) ≡ true
      back (inl h) = joined_in gs js i j h
      back (inr h) = joined_turn gs js (first_at gs i) (first_at gs j) ∙ joined_in gs js j i h

  joined-loop : (p : ℕ) → joined_by gs js p p ≡ false
  joined-loop p = step (decide (joined_by gs js p p))
    where
      step : (joined_by gs js p p ≡ true) ⊎ (joined_by gs js p p ≡ false) → joined_by gs js p p ≡ false
      step (inl t) =
          let r = joined_out gs js p p t in
          let l = group_joined gs js ordered r.0 r.1 r.2 in
          absurd (l.2 (firsts-one n gs fits r.0 r.1 l.0 l.1 (sym r.3 ∙ r.4)))
      step (inr t) = t

-- arrays that tell them
module _ (n : ℕ) (gs : List (Head × List ℕ)) (js : List (ℕ × ℕ)) (small : n ≤ max_nodes) (fits : groups_fit n (λ p. false) 0 gs ≡ true) (ordered : superedges_fit (length gs) 0 js ≡ true)
    (least kinds classes joined : List ℕ) (told : Told gs js least kinds classes joined) where
  abbrev place : ℕ → ℕ
  place p = place_of gs p

  abbrev grouped : ℕ → Bool
  grouped p = ltb (place_of gs p) (length gs)

  told-first : (p : ℕ) → place p < length gs → get_or least p 0 ≡ first_at gs (place p)
  told-first p l = told.first p (omega (arith, place_below n gs js small fits p l)) ∙ first_placed gs p l

  told_none : (p : ℕ) → p < max_nodes → length gs ≤ place p → get_or least p 0 ≡ no_node
  told_none p h l = told.first p h ∙ first_member_none gs p l

  told-some : (p : ℕ) → place p < length gs → eqb (get_or least p 0) no_node ≡ false
  told-some p l = ne_eqb (get_or least p 0) no_node (λ z. omega (arith, told-first p l, first_below n gs fits (place p) l))

  -- the nodes in groups are those with a first member
  pub told-placed : (p : ℕ) → placed n least p ≡ ltb (place_of gs p) (length gs)
  unfolding placed
  told-placed p = step (decide (grouped p)) (decide (ltb p n))
    where
      step : (grouped p ≡ true) ⊎ (grouped p ≡ false) → (ltb p n ≡ true) ⊎ (ltb p n ≡ false) → (ltb p n && not (eqb (get_or least p 0) no_node)) ≡ grouped p
      step (inl t) h = let l = ltb-true (place p) (length gs) t in rw (t, lt-ltb p n (place_below n gs js small fits p l), told-some p l)
      step (inr t) (inl h) = rw (h, t, eq-eqb (get_or least p 0) no_node (told_none p (omega (arith, ltb-true p n h)) (ltb-false (place p) (length gs) t)))
      step (inr t) (inr h) = rw (h, t)

  told_in : (p : ℕ) → placed n least p ≡ true → place p < length gs
  told_in p t = ltb-true (place p) (length gs) (sym (told-placed p) ∙ t)

  -- the first members are those of the groups
  pub told-leads : (i : ℕ) → i < length gs → leads least (first_at gs i) ≡ true
  unfolding leads
  told-leads i l =
      let e = place_first n gs fits i l in
      eq-eqb (get_or least (first_at gs i) 0) (first_at gs i) (told-first (first_at gs i) (omega arith) ∙ ap (first_at gs) e)

  pub leads-told : (p : ℕ) → p < n → leads least p ≡ true → (i : ℕ) × (i < length gs) × (p ≡ first_at gs i)
  unfolding leads
  leads-told p h t = step (decide (grouped p))
    where
      e : get_or least p 0 ≡ p
      e = eqb-true (get_or least p 0) p t

      step : (grouped p ≡ true) ⊎ (grouped p ≡ false) → (i : ℕ) × (i < length gs) × (p ≡ first_at gs i)
      step (inl g) = let l = ltb-true (place p) (length gs) g in (place p, l, sym e ∙ told-first p l)
      step (inr g) = absurd (omega (arith, e, told_none p (omega arith) (ltb-false (place p) (length gs) g)))

  pub told_kind : (i : ℕ) → i < length gs → get_or kinds (first_at gs i) 0 ≡ kind_marked (clique_at gs i) (length (members_at gs i))
  told_kind i l = told.kind (first_at gs i) (omega (arith, first_below n gs fits i l)) ∙ kind-of n gs fits i l

  pub told_class : (i : ℕ) → i < length gs → get_or classes (first_at gs i) 0 ≡ class_at gs i
  told_class i l = told.class (first_at gs i) (omega (arith, first_below n gs fits i l)) ∙ class-of n gs fits i l

  -- joined are first members of groups with a superedge
  pub told-bit : (i j : ℕ) → i < length gs → j < length gs → edge_bit joined (first_at gs i) (first_at gs j) ≡ (has_pair js i j || has_pair js j i)
  told-bit i j a b = told.bits (first_at gs i) (first_at gs j) (omega (arith, first_below n gs fits j b)) ∙ joined_at n gs js fits ordered i j a b

  pub bit-told : (p q : ℕ) → q < max_nodes → edge_bit joined p q ≡ true → (i : ℕ) × (j : ℕ) × (i < length gs) × (j < length gs) × (p ≡ first_at gs i) × (q ≡ first_at gs j)
  bit-told p q h t =
      let r = joined_out gs js p q (sym (told.bits p q h) ∙ t) in
      let l = group_joined gs js ordered r.0 r.1 r.2 in
      (r.0, r.1, l.0, l.1, r.3, r.4)

  compressed : length least ≡ max_nodes → length kinds ≡ max_nodes → row_words * n ≤ length joined → Compressed n least kinds joined
  compressed a b c = record {
    small = small;
    nodes = a;
    groups = b;
    rows = c;
    outside = λ p l h. told_none p h (outer p l (decide (grouped p)));
    before = λ p t. omega (arith, told-first p (told_in p t), first_le n gs fits p (told_in p t));
    first = λ p t. rw (told-first p (told_in p t)) (told-leads (place p) (told_in p t));
    joins = λ p q h t. let r = bit-told p q h t in leading p q r.0 r.1 r.2 r.3 r.4 r.5;
    symmetric = λ p q h k. told.bits p q k ∙ joined_turn gs js p q ∙ sym (told.bits q p h);
    irreflexive = λ p h. told.bits p p h ∙ joined-loop n gs js fits ordered p;
    kind = λ p h s. let r = kind_other gs p (λ z. s (told.kind p h ∙ z)) in led p r.0 r.1 r.2;
    most = λ p h. omega (arith, told.kind p h, kind_most gs p);
    alone = λ p t s. single-first p (told_in p t) s;
  }
    where
      outer : (p : ℕ) → n ≤ p → (grouped p ≡ true) ⊎ (grouped p ≡ false) → length gs ≤ place p
      outer p l (inl t) = absurd (omega (arith, place_below n gs js small fits p (ltb-true (place p) (length gs) t)))
      outer p l (inr t) = ltb-false (place p) (length gs) t

      led : (p i : ℕ) → i < length gs → p ≡ first_at gs i → (p < n) × (leads least p ≡ true)
      led p i l e = rw e (first_below n gs fits i l, told-leads i l)

      leading : (p q i j : ℕ) → i < length gs → j < length gs → p ≡ first_at gs i → q ≡ first_at gs j → (p < n) × (q < n) × (leads least p ≡ true) × (leads least q ≡ true)
      leading p q i j a b e f = let x = led p i a e in let y = led q j b f in (x.0, y.0, x.1, y.1)

      single-first : (p : ℕ) → place p < length gs → get_or kinds (get_or least p 0) 0 ≡ single → get_or least p 0 ≡ p
      single-first p l s =
          let k : kind_marked (clique_at gs (place p)) (length (members_at gs (place p))) ≡ single = sym (told_kind (place p) l) ∙ ap (λ (x : ℕ). get_or kinds x 0) (sym (told-first p l)) ∙ s in
          told-first p l ∙ first_alone n gs fits p l (single_kind (clique_at gs (place p)) (length (members_at gs (place p))) k)

  -- the edges that they unfold to
  told-edge : (p q : ℕ) → place p < length gs → place q < length gs → unfolded_edge least kinds joined p q ≡ reconstruct (summary_by gs js) p q
  unfolding unfolded_edge reconstruct summary_by clique_at
  told-edge p q a b =
      rw (told-first p a, told-first q b, firsts_same n gs fits (place p) (place q) a b, told_kind (place p) a, clique_kind (clique_at gs (place p)) (length (members_at gs (place p))), told-bit (place p) (place q) a b)

  unfolds : graph_by n (summary_by gs js) ≡ with_classes (unfolded n least kinds joined) (class_in n least classes)
  unfolding unfolded graph_by
  unfolds = λ i. record { node_count = n; edge = fun_ext (λ p. fun_ext (edge p)) i; hidden = fun_ext (λ p. hidden p (decide (ltb p n)) (decide (grouped p))) i; class = fun_ext (λ p. class p (decide (grouped p))) i }
    where
      edge : (p q : ℕ) → (graph_by n (summary_by gs js)).edge p q ≡ (placed n least p && (placed n least q && unfolded_edge least kinds joined p q))
      edge p q = unfold summary_by in rw (told-placed p, told-placed q) (step (decide (grouped p)) (decide (grouped q)))
        where
          step : (grouped p ≡ true) ⊎ (grouped p ≡ false) → (grouped q ≡ true) ⊎ (grouped q ≡ false) → (grouped p && (grouped q && reconstruct (summary_by gs js) p q)) ≡ (grouped p && (grouped q && unfolded_edge least kinds joined p q))
          step (inl x) (inl y) = ap (λ (b : Bool). grouped p && (grouped q && b)) (sym (told-edge p q (ltb-true (place p) (length gs) x) (ltb-true (place q) (length gs) y)))
          step (inl x) (inr y) = rw y
          step (inr x) y = rw x

      hidden : (p : ℕ) → (ltb p n ≡ true) ⊎ (ltb p n ≡ false) → (grouped p ≡ true) ⊎ (grouped p ≡ false) → (graph_by n (summary_by gs js)).hidden p ≡ (ltb p n && eqb (get_or least p 0) no_node)
      hidden p (inl h) (inl t) = unfold summary_by in rw (h, t, told-some p (ltb-true (place p) (length gs) t))
      hidden p (inl h) (inr t) = unfold summary_by in rw (h, t, eq-eqb (get_or least p 0) no_node (told_none p (omega (arith, ltb-true p n h)) (ltb-false (place p) (length gs) t)))
      hidden p (inr h) t = unfold summary_by in rw h

      class : (p : ℕ) → (grouped p ≡ true) ⊎ (grouped p ≡ false) → (graph_by n (summary_by gs js)).class p ≡ class_in n least classes p
      class p (inl t) = unfold summary_by class_in class_at in rw (told-placed p, t, told-first p (ltb-true (place p) (length gs) t)) (sym (told_class (place p) (ltb-true (place p) (length gs) t)))
      class p (inr t) = unfold summary_by class_in in rw (told-placed p, t)

pub told_compressed : (n : ℕ) (gs : List (Head × List ℕ)) (js : List (ℕ × ℕ)) → in_order n gs js ≡ true → {least kinds classes joined : List ℕ} → Told gs js least kinds classes joined
    → length least ≡ max_nodes → length kinds ≡ max_nodes → row_words * n ≤ length joined → Compressed n least kinds joined
told_compressed n gs js o {least} {kinds} {classes} {joined} told a b c = let s = in_order_parts n gs js o in compressed n gs js s.0 s.1 s.2 least kinds classes joined told a b c

pub told-unfolded : (n : ℕ) (gs : List (Head × List ℕ)) (js : List (ℕ × ℕ)) → in_order n gs js ≡ true → {least kinds classes joined : List ℕ} → Told gs js least kinds classes joined
    → graph_by n (summary_by gs js) ≡ with_classes (unfolded n least kinds joined) (class_in n least classes)
told-unfolded n gs js o {least} {kinds} {classes} {joined} told = let s = in_order_parts n gs js o in unfolds n gs js s.0 s.1 s.2 least kinds classes joined told
