-- The node table that the model demands of a graph is the one table that holds the graph's groups, with its labels.
use Rattle.std.specs.Prelude.{◌≡◌, ◌⊎◌, true, false, cond, ◌&&◌, List, [], ◌∷◌, eqb, length, get_or}
use Rattle.std.proofs.Math.Path.{refl}
use Rattle.std.proofs.Common.{sym, subst, ◌∙◌, inl, inr, ⊎_elim, arith, le_antisymm, ext_get_or}
use mathlib.Core.List.Memᴰ
use Prim.Native.Nat.{ℕ, suc, zero, ◌+◌, ◌*◌, ◌/◌, ◌%◌, ◌≤◌, ◌<◌}
use Rattle.std.proofs.Math.Dec.{ltb}
use borrow.Author.Tests.{eqb-true, eqb-false, ltb-true, lt-ltb}
use Rattle.model.specs.Lists.{◌∈◌, filter, head_or, last_or, nodes}
use Rattle.model.specs.Graph.{Graph, Proper, node_numbers, whole}
use Rattle.model.specs.Grouping.{group, similar}
use Rattle.model.specs.Tables.{group_in, next_in, node_number, node_of, nodes_of, prev_in}
use Rattle.model.proofs.TestLaws.{decide}
use Rattle.model.proofs.ListLaws.{Ascending, filter_ascending, filter_elim, filter_intro, head_or_in, head_or-le, nodes_ascending, nodes_in_lem, nodes_out}
use Rattle.model.proofs.TwinLaws.{similar_refl, similar_sym, similar_trans}
use Rattle.model.proofs.TableLaws.{class_at_lem, length-nodes_of, mark_at_lem, number_at, proper_simple}
use Rattle.rings.specs.Steps.{Labelled}
use Rattle.rings.specs.Ring.{up, Parts, Best, Table, Of}
use Rattle.rings.specs.RingLaws.{Circle, Way, over, reversed, round, up_circle, way}

last_or_in : (d : ℕ) (l : List ℕ) (p : ℕ) → p ∈ l → last_or d l ∈ l
last_or_in d [] p m = absurd (Memᴰ.not-nil m)
last_or_in d (x ∷ []) p m = Memᴰ.head refl
last_or_in d (x ∷ (y ∷ ys)) p m = Memᴰ.tail (last_or_in x (y ∷ ys) y (Memᴰ.head refl))

last_or_ge : (d : ℕ) (l : List ℕ) (p : ℕ) → Ascending l → p ∈ l → p ≤ last_or d l
last_or_ge d [] p a m = absurd (Memᴰ.not-nil m)
last_or_ge d (x ∷ []) p a m = step (Memᴰ.cases_cons m)
  where
    step : (p ≡ x) ⊎ (p ∈ []) → p ≤ x
    step (inl q) = omega arith
    step (inr h) = absurd (Memᴰ.not-nil h)
last_or_ge d (x ∷ (y ∷ ys)) p a m = step (last_or_ge x (y ∷ ys) p a.1) (last_or_ge x (y ∷ ys) y a.1 (Memᴰ.head refl)) (Memᴰ.cases_cons m)
  where
    step : (p ∈ (y ∷ ys) → p ≤ last_or x (y ∷ ys)) → y ≤ last_or x (y ∷ ys) → (p ≡ x) ⊎ (p ∈ (y ∷ ys)) → p ≤ last_or x (y ∷ ys)
    step below last (inl q) = omega (arith, a.0 y (Memᴰ.head refl))
    step below last (inr h) = below h

-- in an ascending list of numbers below n, the least, the next and the previous of p are the nearest
module _ {n : ℕ} (l : List ℕ) (asc : Ascending l) (within : (q : ℕ) → q ∈ l → q < n) {p : ℕ} (mp : p ∈ l) where
  head-best : Best (λ q. q ∈ l) (λ q. q) (head_or p l)
  head-best = record { mem = head_or_in p l p mp; near = λ r m. head_or-le p l r asc m }

  next-best : Best (λ q. q ∈ l) (λ q. up n p q) (next_in l p)
  unfolding next_in
  next-best = go (filter (ltb p) l) refl
    where
      above : (q : ℕ) → q ∈ filter (ltb p) l → (q ∈ l) × (p < q)
      above q m = let a = filter_elim (ltb p) l q m in (a.0, ltb-true p q a.1)

      go : (f : List ℕ) → filter (ltb p) l ≡ f → Best (λ q. q ∈ l) (λ q. up n p q) (head_or (head_or p l) f)
      go [] e = record { mem = head-best.mem; near = λ r m. first r m (way n p (head_or p l)) (way n p r) }
        where
          first : (r : ℕ) → r ∈ l → Way n p (head_or p l) (up n p (head_or p l)) → Way n p r (up n p r) → up n p (head_or p l) ≤ up n p r
          first r m w (over j e') = absurd (Memᴰ.not-nil (subst (λ x. r ∈ x) e (filter_intro (ltb p) l r m (lt-ltb p r j))))
          first r m (over j e) (round j' e') = absurd (omega (arith, head-best.near p mp))
          first r m (round j e) (round j' e') = omega (arith, head-best.near r m)
      go (x ∷ xs) e =
          let a = above x (subst (λ y. x ∈ y) (sym e) (Memᴰ.head refl)) in
          record { mem = a.0; near = λ r m. first r m a.1 (within x a.0) (way n p x) (way n p r) }
        where
          low : (r : ℕ) → r ∈ l → p < r → x ≤ r
          low r m h = head_or-le 0 (x ∷ xs) r (subst Ascending e (filter_ascending (ltb p) l asc)) (subst (λ y. r ∈ y) e (filter_intro (ltb p) l r m (lt-ltb p r h)))

          first : (r : ℕ) → r ∈ l → p < x → x < n → Way n p x (up n p x) → Way n p r (up n p r) → up n p x ≤ up n p r
          first r m h hx (over j e) (over j' e') = omega (arith, low r m j')
          first r m h hx (over j e) (round j' e') = omega arith
          first r m h hx (round j e) w = absurd (omega arith)

  prev-best : Best (λ q. q ∈ l) (λ q. up n q p) (prev_in l p)
  unfolding prev_in
  prev-best = go (filter (λ q. ltb q p) l) refl
    where
      big : ℕ
      big = last_or p l

      under : (q : ℕ) → q ∈ filter (λ q. ltb q p) l → (q ∈ l) × (q < p)
      under q m = let a = filter_elim (λ q. ltb q p) l q m in (a.0, ltb-true q p a.1)

      go : (f : List ℕ) → filter (λ q. ltb q p) l ≡ f → Best (λ q. q ∈ l) (λ q. up n q p) (last_or (last_or p l) f)
      go [] e = record { mem = last_or_in p l p mp; near = λ r m. first r m (last_or_ge p l r asc m) (last_or_ge p l p asc mp) (within (last_or p l) (last_or_in p l p mp)) (way n (last_or p l) p) (way n r p) }
        where
          first : (r : ℕ) → r ∈ l → r ≤ last_or p l → p ≤ last_or p l → last_or p l < n → Way n (last_or p l) p (up n (last_or p l) p) → Way n r p (up n r p) → up n (last_or p l) p ≤ up n r p
          first r m h h' hb w (over j e') = absurd (Memᴰ.not-nil (subst (λ x. r ∈ x) e (filter_intro (λ q. ltb q p) l r m (lt-ltb r p j))))
          first r m h h' hb (over j e) (round j' e') = absurd (omega arith)
          first r m h h' hb (round j e) (round j' e') = omega arith
      go (x ∷ xs) e = record { mem = at.0; near = λ r m. first r m at.1 (within z at.0) (within r m) (way n z p) (way n r p) }
        where
          z : ℕ
          z = last_or (last_or p l) (x ∷ xs)

          at : (z ∈ l) × (z < p)
          at = under z (subst (λ y. z ∈ y) (sym e) (last_or_in (last_or p l) (x ∷ xs) x (Memᴰ.head refl)))

          high : (r : ℕ) → r ∈ l → r < p → r ≤ z
          high r m h = last_or_ge (last_or p l) (x ∷ xs) r (subst Ascending e (filter_ascending (λ q. ltb q p) l asc)) (subst (λ y. r ∈ y) e (filter_intro (λ q. ltb q p) l r m (lt-ltb r p h)))

          first : (r : ℕ) → r ∈ l → z < p → z < n → r < n → Way n z p (up n z p) → Way n r p (up n r p) → up n z p ≤ up n r p
          first r m h hz hr (over j e) (over j' e') = omega (arith, high r m j')
          first r m h hz hr (over j e) (round j' e') = omega arith
          first r m h hz hr (round j e) w = absurd (omega arith)

-- a mark of 0 or 1 is what it is read as
pub mark_read : (n p x : ℕ) → p < n → x < 2 → x ≡ cond (ltb p n && eqb x 1) 1 0
mark_read n p x h l = step (decide (eqb x 1))
  where
    step : (eqb x 1 ≡ true) ⊎ (eqb x 1 ≡ false) → x ≡ cond (ltb p n && eqb x 1) 1 0
    step (inl e) = rw (lt-ltb p n h, e) (eqb-true x 1 e)
    step (inr e) = rw (lt-ltb p n h, e) (omega (arith, eqb-false x 1 e))

-- there is one nearest
best_one : {n : ℕ} {δ : ℕ → ℕ → ℕ} → Circle n δ → {R : ℕ → ℕ → Type 0} → Parts n R → {p q q' : ℕ} → p < n → Best (R p) (δ p) q → Best (R p) (δ p) q' → q ≡ q'
best_one {n} o k {p} {q} {q'} hp a b =
    let hq : q < n = k.below a.mem in
    let hq' : q' < n = k.below b.mem in
    let e = a.near q' b.mem in
    let e' = b.near q a.mem in
    ⊎_elim
    (λ s. omega (arith, o.pos hq hq'))
    (λ s. o.full hq hq' (omega arith))
    (o.turn hp hq hq')

module _ (g : Graph) (h : Proper g) where
  abbrev n : ℕ
  n = g.node_count

  abbrev R : ℕ → ℕ → Type 0
  R = Of g.node_count (similar (whole g))

  -- who is similar shares a group
  pub graph_parts : Parts g.node_count (Of g.node_count (similar (whole g)))
  graph_parts =
      record {
        below = λ x. x.1;
        own = λ {p} l. (l, l, similar_refl (whole g) p);
        back = λ {p} {q} x. (x.1, x.0, similar_sym (whole g) p q x.2);
        on = λ {p} {q} {r} x y. (x.0, y.1, similar_trans (whole g) (proper_simple g h) p q r (nodes_in_lem n p x.0) (nodes_in_lem n q x.1) (nodes_in_lem n r y.1) x.2 y.2);
      }

  in_group : (p q : ℕ) → R p q → q ∈ group_in g p
  unfolding group_in group
  in_group p q x = filter_intro _ (nodes n) q (nodes_in_lem n q x.1) x.2

  group_in_lem : (p q : ℕ) → p < n → q ∈ group_in g p → R p q
  unfolding group_in group
  group_in_lem p q hp m = let a = filter_elim _ (nodes n) q m in (hp, nodes_out n q a.0, a.1)

  ascends : (p : ℕ) → Ascending (group_in g p)
  unfolding group_in group
  ascends p = filter_ascending _ (nodes n) (nodes_ascending n)

  nearest : (δ : ℕ → ℕ) {p q v : ℕ} → p < n → Best (λ q. q ∈ group_in g p) δ q → v ≡ q → Best (R p) δ v
  nearest δ {p} {q} {v} hp b e = subst (λ x. Best (R p) δ x) (sym e) (record { mem = group_in_lem p q hp b.mem; near = λ r x. b.near r (in_group p r x) })

  -- the model's node table holds the graph's groups
  pub of_nodes : Table g.node_count (Of g.node_count (similar (whole g))) (nodes_of g)
  unfolding node_of
  of_nodes =
      record {
        least = λ p hp. nearest (λ q. q) hp (head-best (group_in g p) (ascends p) (λ q m. (group_in_lem p q hp m).1) (in_group p p (graph_parts.own hp))) (number_at g p 0 hp (omega arith));
        next = λ p hp. nearest (λ q. up n p q) hp (next-best (group_in g p) (ascends p) (λ q m. (group_in_lem p q hp m).1) (in_group p p (graph_parts.own hp))) (number_at g p 1 hp (omega arith));
        prev = λ p hp. nearest (λ q. up n q p) hp (prev-best (group_in g p) (ascends p) (λ q m. (group_in_lem p q hp m).1) (in_group p p (graph_parts.own hp))) (number_at g p 2 hp (omega arith));
      }

  -- and it is the only one, with these labels
  pub is_nodes : {t : List ℕ} → Table g.node_count (Of g.node_count (similar (whole g))) t → length t ≡ node_numbers * g.node_count
      → Labelled g t → t ≡ nodes_of g
  is_nodes {t} a l x = ext_get_or 0 t (nodes_of g) (l ∙ sym (length-nodes_of g)) (λ i hi. at i hi)
    where
      one : (p : ℕ) → p < n → (k : ℕ) → k < node_numbers → node_number t p k ≡ node_number (nodes_of g) p k
      one p hp zero hk = le_antisymm ((a.least p hp).near _ (of_nodes.least p hp).mem) ((of_nodes.least p hp).near _ (a.least p hp).mem)
      one p hp (suc zero) hk = best_one (up_circle n) graph_parts hp (a.next p hp) (of_nodes.next p hp)
      one p hp (suc (suc zero)) hk = best_one (reversed (up_circle n)) graph_parts hp (a.prev p hp) (of_nodes.prev p hp)
      one p hp (suc (suc (suc zero))) hk = x.marks p hp ∙ sym (mark_at_lem g p hp)
      one p hp (suc (suc (suc (suc zero)))) hk = x.classes p hp ∙ sym (class_at_lem g p hp)
      one p hp (suc (suc (suc (suc (suc k))))) hk = absurd (omega arith)

      at : (i : ℕ) → i < length t → get_or t i 0 ≡ get_or (nodes_of g) i 0
      at i hi =
          let e : node_numbers * (i / node_numbers) + i % node_numbers ≡ i = omega arith in
          subst (λ j. get_or t j 0 ≡ get_or (nodes_of g) j 0) e (unfold node_number in one (i / node_numbers) (omega arith) (i % node_numbers) (omega arith))
