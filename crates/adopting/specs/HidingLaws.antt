-- Hidden nodes, which have no edges and class 0, share the group of the nodes of class 0 without edges; the others' groups are those of
-- the visible nodes.
use Rattle.std.specs.Prelude.{◌≡◌, Bool, not, cond, ◌&&◌, ◌⊎◌, ltb, drop, length, None, Some}
use Rattle.std.proofs.Math.Path.{refl, sym, ap}
use Rattle.std.proofs.Common.{◌∙◌, inl, inr, arith}
use Rattle.std.proofs.Math.Bool.{true, false, and-false}
use mathlib.Core.List.{List, [], ◌∷◌}
use Prim.Native.Nat.{ℕ, zero, suc, ◌+◌, ◌*◌, ◌/◌, ◌%◌, ◌≤◌, ◌<◌}
use Rattle.std.proofs.Math.Dec.{eqb}
use Rattle.std.proofs.Math.ListN.{get_or, length-take}
use borrow.Author.Tests.{eqb-false, eqb-true, eq-eqb, lt-ltb, le-ltb, ltb-false, ltb-true, ne_eqb, not-true}
use Rattle.model.specs.Lists.{◌∈◌, all, nodes}
use Rattle.model.specs.Graph.{Graph, Proper, whole}
use Rattle.model.specs.Grouping.{least, similar}
use Rattle.model.specs.Tables.{bit_at, classed_in, edge_bit, word, edges_in, graph_in}
use Rattle.model.specs.Release.{is_visible, visible}
use Rattle.model.proofs.TestLaws.{and_fst, and_snd, and_true, decide, differ}
use Rattle.model.proofs.ListLaws.{Ascending}
use Rattle.model.proofs.TwinLaws.{similar_refl, similar_sym}
use Rattle.model.proofs.ClassLaws.{Equivalence, least_eq, least_in, least-le, least-least, least_rel}
use Rattle.model.proofs.ReleaseLaws.{visible_ascending}
use Rattle.model.proofs.HiddenLaws.{isolated_similar, least_isolated, least-visible, seen_equivalence, seen_in, seen_out, similar_isolated, similar_seen}
use Rattle.rows.specs.Rows.{leads}
use Rattle.rows.specs.BitLaws.{bit_zero, word_cong}
use Rattle.rows.specs.EdgeLaws.{edges_at}
use Rattle.search.specs.Search.{Within, row_in}
use Rattle.search.specs.SearchLaws.{row_word_lem}
use Rattle.compressed.specs.Compressed.{class_in, placed}
use Rattle.keys.specs.KeySums.{LeastTold}
use Rattle.adopting.specs.Adopting.{First, NumbersRenamed, VisibleTold, empty_row, hiding, is_bare, is_hidden, is_isolated}
use Rattle.adopting.specs.LoopLaws.{hidden_here}

-- words that are all 0
zeros_at : (s : List ℕ) → all s (λ x. ltb x 1) ≡ true → (k : ℕ) → get_or s k 0 ≡ 0
unfolding all
zeros_at [] h k = refl
zeros_at (x ∷ xs) h zero = omega (arith, ltb-true x 1 (and_fst (ltb x 1) _ h))
zeros_at (x ∷ xs) h (suc k) = zeros_at xs (and_snd (ltb x 1) _ h) k

zeros_all : (s : List ℕ) → ((k : ℕ) → k < length s → get_or s k 0 ≡ 0) → all s (λ x. ltb x 1) ≡ true
unfolding all
zeros_all [] h = refl
zeros_all (x ∷ xs) h = and_true (lt-ltb x 1 (omega (arith, h 0 (omega arith)))) (zeros_all xs (λ k l. h (suc k) (omega arith)))

-- an empty row is that of a node without edges
module _ {n : ℕ} {edges : List ℕ} (in_table : Within n edges) where
  pub empty_isolated : (p : ℕ) → empty_row edges p ≡ true → (q : ℕ) → edges_in n edges p q ≡ false
  unfolding edges_in edge_bit empty_row
  empty_isolated p h q = step (decide (ltb q n))
    where
      step : (ltb q n ≡ true) ⊎ (ltb q n ≡ false) → (ltb p n && (ltb q n && bit_at (get_or edges (8 * p + q / 64) 0) (q % 64))) ≡ false
      step (inl t) =
          let l : q < n = ltb-true q n t in
          rw (sym (row_word_lem edges p (q / 64) (omega (arith, in_table.small))) ∙ zeros_at (row_in edges p) h (q / 64), bit_zero (q % 64), t) (and-false (ltb p n))
      step (inr t) = rw t (and-false (ltb p n))

  no_word : (k : ℕ) → word k (λ i. false) ≡ 0
  unfolding word
  no_word zero = refl
  no_word (suc k) = rw (no_word k)

  pub isolated_empty : (p : ℕ) → p < n → ((q : ℕ) → edges_in n edges p q ≡ false) → empty_row edges p ≡ true
  unfolding empty_row
  isolated_empty p l h = zeros_all (row_in edges p) (λ k m. let b : k < 8 = omega (arith, length-take 8 (drop (8 * p) edges)) in row_word_lem edges p k b ∙ ap (λ (t : List ℕ). get_or t (8 * p + k) 0) in_table.edges_of_lem ∙ edges_at (graph_in n edges) p k l b ∙ word_cong 64 (λ i. edges_in n edges p (64 * k + i)) (λ i. false) (λ j m. h (64 * k + j)) ∙ no_word 64)

-- the groups of all nodes
module _ {n : ℕ} {edges first classes : List ℕ} (a : VisibleTold n edges first classes) where
  abbrev g : Graph
  g = hiding n edges first classes

  unhidden : (p : ℕ) → p < n → (get_or first p 0 ≡ 65535 → ⊥) → is_visible (hiding n edges first classes) p ≡ true
  unfolding is_visible hiding
  unhidden p l d = rw (lt-ltb p n l, ne_eqb (get_or first p 0) 65535 d)

  shown : (p : ℕ) → is_visible (hiding n edges first classes) p ≡ true → (p < n) × (get_or first p 0 ≡ 65535 → ⊥)
  unfolding is_visible hiding
  shown p v =
      let l : p < n = ltb-true p n (and_fst (ltb p n) (not (ltb p n && eqb (get_or first p 0) 65535)) v) in
      let h = and_snd (ltb p n) (not (ltb p n && eqb (get_or first p 0) 65535)) v in
      (l, eqb-false (get_or first p 0) 65535 (not-true (eqb (get_or first p 0) 65535) (rw (lt-ltb p n l) at h)))

  hidden-first : (p : ℕ) → p < n → is_visible (hiding n edges first classes) p ≡ false → get_or first p 0 ≡ 65535
  hidden-first p l v = step (decide (eqb (get_or first p 0) 65535))
    where
      step : (eqb (get_or first p 0) 65535 ≡ true) ⊎ (eqb (get_or first p 0) 65535 ≡ false) → get_or first p 0 ≡ 65535
      step (inl e) = eqb-true (get_or first p 0) 65535 e
      step (inr e) = differ (unhidden p l (eqb-false (get_or first p 0) 65535 e)) v

  proper-hiding : Proper (hiding n edges first classes)
  unfolding hiding
  proper-hiding = record {
    small = a.proper.small;
    symmetric = a.proper.symmetric;
    irreflexive = a.proper.irreflexive;
    inside = a.proper.inside;
    held = λ p h. ltb-true p n (and_fst (ltb p n) (eqb (get_or first p 0) 65535) h);
    classed = a.classed;
    unclassed = λ p l. unfold class_in placed in rw (le-ltb p n l);
  }

  -- no edge, and of class 0
  abbrev Lone : ℕ → Type 0
  Lone p = ((q : ℕ) → edges_in n edges p q ≡ false) × (class_in n first classes p ≡ 0)

  lone : ℕ → Bool
  lone p = eqb (class_in n first classes p) 0 && empty_row edges p

  lone_is : (p : ℕ) → lone p ≡ true → Lone p
  unfolding lone
  lone_is p t = (empty_isolated a.within p (and_snd (eqb (class_in n first classes p) 0) _ t), eqb-true (class_in n first classes p) 0 (and_fst (eqb (class_in n first classes p) 0) _ t))

  is-lone : (p : ℕ) → p < n → Lone p → lone p ≡ true
  unfolding lone
  is-lone p l b = and_true (eq-eqb (class_in n first classes p) 0 b.1) (isolated_empty a.within p l b.0)

  no_edge : (p q : ℕ) → is_visible (hiding n edges first classes) q ≡ false → (hiding n edges first classes).edge p q ≡ false
  unfolding hiding
  no_edge p q v = step (decide (ltb q n))
    where
      step : (ltb q n ≡ true) ⊎ (ltb q n ≡ false) → edges_in n edges p q ≡ false
      step (inl t) = a.proper.symmetric p q ∙ a.none q p (ltb-true q n t) (hidden-first q (ltb-true q n t) v)
      step (inr t) = unfold edges_in in rw t (and-false (ltb p n))

  both-seen : (p q : ℕ) → is_visible (hiding n edges first classes) p ≡ true → is_visible (hiding n edges first classes) q ≡ true → similar (whole (classed_in n edges (class_in n first classes))) p q ≡ similar (visible (hiding n edges first classes)) p q
  unfolding hiding
  both-seen p q x y = similar_seen g no_edge p q x y

  both-alone : (p q : ℕ) → Lone p → Lone q → similar (whole (classed_in n edges (class_in n first classes))) p q ≡ true
  unfolding hiding
  both-alone p q x y = isolated_similar g proper-hiding p q x y

  alike-alone : (p q : ℕ) → q < n → Lone p → similar (whole (classed_in n edges (class_in n first classes))) p q ≡ true → Lone q
  unfolding hiding
  alike-alone p q l b t = similar_isolated g proper-hiding p q l b t

  -- a node whose group is all visible
  told-all : (p : ℕ) → is_visible (hiding n edges first classes) p ≡ true → ((q : ℕ) → q < n → similar (whole (classed_in n edges (class_in n first classes))) p q ≡ true → is_visible (hiding n edges first classes) q ≡ true)
      → get_or first p 0 ≡ least (nodes n) (similar (whole (classed_in n edges (class_in n first classes)))) p
  told-all p v h = a.told p v ∙ (unfold hiding in least-visible g proper-hiding no_edge p v h)

  -- no node is hidden
  pub told_none : First (is_hidden first) n None → LeastTold n edges (class_in n first classes) first
  told_none f = record { size = a.size; told = λ p l. told-all p (seen p l) (λ q m s. seen q m) }
    where
      seen : (p : ℕ) → p < n → is_visible (hiding n edges first classes) p ≡ true
      seen p l = unhidden p l (λ z. differ (hidden_here first p z) (f p l))

  -- the first hidden node h, and i, the first member of the group of class 0 without edges, n or more if there is none
  module _ {h : ℕ} (fh : First (is_hidden first) n (Some h)) {i : ℕ} (hit : i < n → is_isolated edges classes first i ≡ true) (miss : (p : ℕ) → p < n → p < i → is_isolated edges classes first p ≡ false) where
    hidden-alone : (p : ℕ) → p < n → get_or first p 0 ≡ 65535 → Lone p
    hidden-alone p l z = (λ q. a.none p q l z, unfold class_in placed in rw (z, lt-ltb p n l))

    hidden-below : (p : ℕ) → p < n → get_or first p 0 ≡ 65535 → h ≤ p
    hidden-below p l z = step (decide (ltb p h))
      where
        step : (ltb p h ≡ true) ⊎ (ltb p h ≡ false) → h ≤ p
        step (inl t) = differ (hidden_here first p z) (fh.2 p (ltb-true p h t))
        step (inr t) = ltb-false p h t

    h-here : (h < n) × (get_or first h 0 ≡ 65535)
    unfolding is_hidden
    h-here = (fh.0, eqb-true (get_or first h 0) 65535 fh.1)

    -- the class of a first member is told there
    own_class : (p : ℕ) → p < n → get_or first p 0 ≡ p → class_in n first classes p ≡ get_or classes p 0
    unfolding class_in placed
    own_class p l e = rw (e, lt-ltb p n l, ne_eqb p 65535 (λ z. omega (arith, a.within.small)))

    i-here : i < n → (get_or first i 0 ≡ i) × Lone i
    unfolding is_isolated is_bare leads
    i-here l =
        let t = hit l in
        let own = eqb-true (get_or first i 0) i (and_fst (eqb (get_or first i 0) i) _ t) in
        let bare = and_snd (eqb (get_or first i 0) i) _ t in
        (own, (empty_isolated a.within i (and_snd (eqb (get_or classes i 0) 0) _ bare), own_class i l own ∙ eqb-true (get_or classes i 0) 0 (and_fst (eqb (get_or classes i 0) 0) _ bare)))

    -- what is told of a visible node: a visible one of its group
    module _ (p : ℕ) (v : is_visible (hiding n edges first classes) p ≡ true) where
      abbrev m : ℕ
      m = least (visible (hiding n edges first classes)).nodes (similar (visible (hiding n edges first classes))) p

      abbrev ws : List ℕ
      ws = (visible (hiding n edges first classes)).nodes

      abbrev s : ℕ → ℕ → Bool
      s = similar (visible (hiding n edges first classes))

      eqv : Equivalence (visible (hiding n edges first classes)).nodes (similar (visible (hiding n edges first classes)))
      eqv = seen_equivalence g proper-hiding

      up : Ascending (visible (hiding n edges first classes)).nodes
      up = visible_ascending g

      p-in : p ∈ (visible (hiding n edges first classes)).nodes
      p-in = seen_in g p v

      m-in : m ∈ (visible (hiding n edges first classes)).nodes
      m-in = least_in ws s eqv up p p-in

      m-seen : is_visible (hiding n edges first classes) m ≡ true
      m-seen = seen_out g m m-in

      m-like : similar (whole (classed_in n edges (class_in n first classes))) p m ≡ true
      m-like = both-seen p m v m-seen ∙ least_rel ws s eqv up p p-in

      m-own : get_or first m 0 ≡ m
      m-own = a.told m m-seen ∙ least-least ws s eqv up p p-in

      m-low : m ≤ p
      m-low = least-le ws s eqv up p p p-in (similar_refl (visible g) p)

    -- a visible node of class 0 without edges
    isolated-first : (p : ℕ) → is_visible (hiding n edges first classes) p ≡ true → Lone p → (get_or first p 0 ≡ i) × (i < n)
    unfolding is_isolated is_bare leads
    isolated-first p v b =
        let k = m p v in
        let lk : k < n = (shown k (m-seen p v)).0 in
        let bk = alike-alone p k lk b (m-like p v) in
        let found : is_isolated edges classes first k ≡ true = and_true (eq-eqb (get_or first k 0) k (m-own p v)) (and_true (eq-eqb (get_or classes k 0) 0 (sym (own_class k lk (m-own p v)) ∙ bk.1)) (isolated_empty a.within k lk bk.0)) in
        let li : i < n = below k lk found (decide (ltb k i)) in
        let vi : is_visible (hiding n edges first classes) i ≡ true = unhidden i li (λ z. omega (arith, (i-here li).0, a.within.small)) in
        let like : similar (visible (hiding n edges first classes)) p i ≡ true = sym (both-seen p i v vi) ∙ both-alone p i b (i-here li).1 in
        (a.told p v ∙ least_eq (visible (hiding n edges first classes)).nodes (similar (visible (hiding n edges first classes))) (eqv p v) (up p v) p i (p-in p v) (p-in i vi) like ∙ sym (a.told i vi) ∙ (i-here li).0, li)
      where
        below : (k : ℕ) → k < n → is_isolated edges classes first k ≡ true → (ltb k i ≡ true) ⊎ (ltb k i ≡ false) → i < n
        below k l t (inl z) = differ t (miss k l (ltb-true k i z))
        below k l t (inr z) = omega (arith, ltb-false k i z)

    -- a node with an edge, or of another class
    edge-first : (p : ℕ) → p < n → lone p ≡ false → (get_or first p 0 ≡ least (nodes n) (similar (whole (classed_in n edges (class_in n first classes)))) p) × (get_or first p 0 ≡ 65535 → ⊥) × (get_or first p 0 ≡ i → ⊥)
    edge-first p l e = (told-all p v group-seen, (shown p v).1, apart)
      where
        clash : {X : Type 0} → Lone p → X
        clash b = differ (is-lone p l b) e

        v : is_visible (hiding n edges first classes) p ≡ true
        v = unhidden p l (λ z. clash (hidden-alone p l z))

        group-seen : (q : ℕ) → q < n → similar (whole (classed_in n edges (class_in n first classes))) p q ≡ true → is_visible (hiding n edges first classes) q ≡ true
        group-seen q k t = unhidden q k (λ z. clash (alike-alone q p l (hidden-alone q k z) (similar_sym (whole (classed_in n edges (class_in n first classes))) p q t)))

        apart : get_or first p 0 ≡ i → ⊥
        apart z =
            let y : m p v ≡ i = sym (a.told p v) ∙ z in
            let li : i < n = omega (arith, (shown (m p v) (m-seen p v)).0) in
            clash (alike-alone i p l (i-here li).1 (ap (λ (x : ℕ). similar (whole (classed_in n edges (class_in n first classes))) x p) (sym y) ∙ similar_sym (whole (classed_in n edges (class_in n first classes))) p (m p v) (m-like p v)))

    -- a node of class 0 without edges, where k is the lesser of h and i
    module _ (k : ℕ) (lk : k < n) (bk : Lone k) (kh : k ≤ h) (ki : i < n → k ≤ i) where
      isolated-least : (p : ℕ) → p < n → lone p ≡ true → k ≡ least (nodes n) (similar (whole (classed_in n edges (class_in n first classes)))) p
      isolated-least p l e = unfold hiding in least_isolated g proper-hiding p k l (lone_is p e) lk bk low
        where
          low : (q : ℕ) → q < n → Lone q → k ≤ q
          low q y b = step (decide (is_visible (hiding n edges first classes) q))
            where
              step : (is_visible (hiding n edges first classes) q ≡ true) ⊎ (is_visible (hiding n edges first classes) q ≡ false) → k ≤ q
              step (inl v) =
                  let t = isolated-first q v b in
                  omega (arith, a.told q v, m-low q v, t.0, ki t.1)
              step (inr v) = omega (arith, hidden-below q y (hidden-first q y v))

    pub told_low : {after : List ℕ} → i < h → NumbersRenamed n 65535 i first after → LeastTold n edges (class_in n first classes) after
    told_low {after} b t = record { size = omega (arith, a.size, t.size); told = λ p l. t.names p l ∙ at p l (decide (lone p)) (decide (eqb (get_or first p 0) 65535)) }
      where
        li : i < n
        li = omega (arith, h-here.0)

        at : (p : ℕ) → p < n → (lone p ≡ true) ⊎ (lone p ≡ false) → (eqb (get_or first p 0) 65535 ≡ true) ⊎ (eqb (get_or first p 0) 65535 ≡ false)
            → cond (eqb (get_or first p 0) 65535) i (get_or first p 0) ≡ least (nodes n) (similar (whole (classed_in n edges (class_in n first classes)))) p
        at p l (inl e) (inl z) = rw z (isolated-least i li (i-here li).1 (omega arith) (λ y. omega arith) p l e)
        at p l (inl e) (inr z) = rw z ((isolated-first p (unhidden p l (eqb-false (get_or first p 0) 65535 z)) (lone_is p e)).0 ∙ isolated-least i li (i-here li).1 (omega arith) (λ y. omega arith) p l e)
        at p l (inr e) (inl z) = absurd ((edge-first p l e).1 (eqb-true (get_or first p 0) 65535 z))
        at p l (inr e) (inr z) = rw z (edge-first p l e).0

    pub told_alone : {after : List ℕ} → n ≤ i → NumbersRenamed n 65535 h first after → LeastTold n edges (class_in n first classes) after
    told_alone {after} b t = record { size = omega (arith, a.size, t.size); told = λ p l. t.names p l ∙ at p l (decide (lone p)) (decide (eqb (get_or first p 0) 65535)) }
      where
        at : (p : ℕ) → p < n → (lone p ≡ true) ⊎ (lone p ≡ false) → (eqb (get_or first p 0) 65535 ≡ true) ⊎ (eqb (get_or first p 0) 65535 ≡ false)
            → cond (eqb (get_or first p 0) 65535) h (get_or first p 0) ≡ least (nodes n) (similar (whole (classed_in n edges (class_in n first classes)))) p
        at p l (inl e) (inl z) = rw z (isolated-least h h-here.0 (hidden-alone h h-here.0 h-here.1) (omega arith) (λ y. omega arith) p l e)
        at p l (inl e) (inr z) = let y = (isolated-first p (unhidden p l (eqb-false (get_or first p 0) 65535 z)) (lone_is p e)).1 in absurd (omega arith)
        at p l (inr e) (inl z) = absurd ((edge-first p l e).1 (eqb-true (get_or first p 0) 65535 z))
        at p l (inr e) (inr z) = rw z (edge-first p l e).0

    pub told_high : {mid after : List ℕ} → h ≤ i → NumbersRenamed n 65535 h first mid → NumbersRenamed n i h mid after → LeastTold n edges (class_in n first classes) after
    told_high {mid} {after} b t u = record {
      size = omega (arith, a.size, t.size, u.size);
      told = λ p l. u.names p l ∙ ap (λ (x : ℕ). cond (eqb x i) h x) (t.names p l) ∙ at p l (decide (lone p)) (decide (eqb (get_or first p 0) 65535));
    }
      where
        low : (p : ℕ) → p < n → lone p ≡ true → h ≡ least (nodes n) (similar (whole (classed_in n edges (class_in n first classes)))) p
        low p l e = isolated-least h h-here.0 (hidden-alone h h-here.0 h-here.1) (omega arith) (λ y. b) p l e

        same : (x : Bool) → cond x h h ≡ h
        same true = refl
        same false = refl

        at : (p : ℕ) → p < n → (lone p ≡ true) ⊎ (lone p ≡ false) → (eqb (get_or first p 0) 65535 ≡ true) ⊎ (eqb (get_or first p 0) 65535 ≡ false)
            → cond (eqb (cond (eqb (get_or first p 0) 65535) h (get_or first p 0)) i) h (cond (eqb (get_or first p 0) 65535) h (get_or first p 0)) ≡ least (nodes n) (similar (whole (classed_in n edges (class_in n first classes)))) p
        at p l (inl e) (inl z) = rw z (same (eqb h i) ∙ low p l e)
        at p l (inl e) (inr z) =
            let y = (isolated-first p (unhidden p l (eqb-false (get_or first p 0) 65535 z)) (lone_is p e)).0 in
            rw (z, eq-eqb (get_or first p 0) i y) (low p l e)
        at p l (inr e) (inl z) = absurd ((edge-first p l e).1 (eqb-true (get_or first p 0) 65535 z))
        at p l (inr e) (inr z) = rw (z, ne_eqb (get_or first p 0) i (edge-first p l e).2) (edge-first p l e).0
