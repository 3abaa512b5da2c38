-- What a release says is what is read.
use Rattle.std.specs.Prelude.{◌≡◌, Bool, ◌&&◌, ◌⊎◌, ltb, length, get_or, drop}
use Rattle.std.proofs.Math.Path.{refl, sym, ap, ap₂}
use Rattle.std.proofs.Common.{◌∙◌, inl, inr, drop_at}
use Rattle.std.proofs.Math.Bool.{true, false, not, ◌||◌, cond, or-false, and-false}
use mathlib.Core.List.{List, [], ◌∷◌, ◌++◌, map, append_assoc, Memᴰ}
use Prim.Native.Nat.{ℕ, suc, zero, ◌+◌, ◌*◌, ◌≤◌, ◌<◌}
use native.Mathlib.Omega.{arith}
use Rattle.std.proofs.Math.Dec.{eqb}
use borrow.Author.Tests.{eqb-true, eqb-false, eq-eqb, ne_eqb, ltb-true, ltb-false, lt-ltb}
use Rattle.model.specs.Lists.{◌∈◌, concat, head_or, member}
use Rattle.model.specs.Graph.{View}
use Rattle.model.specs.Grouping.{Kind, adjacent, algorithm1, clique, group, independent, is_clique, kind_of, leaders, similar, singleton}
use Rattle.model.specs.Summary.{Summarises, Summary, position, reconstruct, summary_of}
use Rattle.model.specs.Release.{encode, end_record, group_record, head_record, kind_byte, superedge_record, superedges, superedges_from, u16}
use Rattle.model.specs.Reading.{Head, after_groups, groups_at, has_pair, is_mark, summary_by, summary_in, superedges_at, u16_at, u16s}
use Rattle.model.proofs.TestLaws.{and_one, decide, differ, iff_eq}
use Rattle.model.proofs.ListLaws.{Ascending, map_out, member_elim, member_intro}
use Rattle.model.proofs.TwinLaws.{Simple, similar_sym}
use Rattle.model.proofs.ClassLaws.{group_out}
use Rattle.model.proofs.SummaryLaws.{adjacent_law, algorithm1-classes, algorithm1_summarises, clique_law, position_class, position-group, position_in, position-similar}
use Rattle.model.proofs.ReleaseLaws.{length-encode, length-u16s}
use Rattle.model.proofs.UpdateLaws.{apart}

u16_at-u16 : (x : ℕ) (r : List ℕ) → u16_at (u16 x ++ r) 0 ≡ x
unfolding u16_at u16
u16_at-u16 x r = omega arith

pub u16s_back : (l r : List ℕ) → u16s (length l) (concat (map u16 l) ++ r) ≡ l
unfolding u16s concat u16_at u16
u16s_back [] r = refl
u16s_back (x ∷ xs) r = ap₂ ◌∷◌ (omega arith) (u16s_back xs r)

pub u16s-rest : (l r : List ℕ) → drop (2 * length l) (concat (map u16 l) ++ r) ≡ r
u16s-rest l r = drop_at (concat (map u16 l)) r (2 * length l) (length-u16s l)

module _ (v : View) where
  abbrev pub marked : List ℕ → Head × List ℕ
  marked g = (record { clique = is_clique (kind_of v.edge g); class = v.class (head_or 0 g) }, g)

  mark-back : (k : Kind) → eqb (kind_byte k) 0x43 ≡ is_clique k
  unfolding kind_byte is_clique
  mark-back singleton = refl
  mark-back independent = refl
  mark-back clique = refl

  -- one group record, before whatever follows
  pub count_back : (g r : List ℕ) → u16_at (group_record v g ++ r) 2 ≡ length g
  unfolding group_record u16_at u16
  count_back g r = omega arith

  pub body : (g r : List ℕ) → drop 6 (group_record v g ++ r) ≡ concat (map u16 g) ++ r
  unfolding group_record u16
  body g r = refl

  first : (g r : List ℕ) → eqb (get_or (group_record v g ++ r) 1 0) 0x43 ≡ is_clique (kind_of v.edge g)
  unfolding group_record
  first g r = mark-back (kind_of v.edge g)

  class_back : (g r : List ℕ) → u16_at (group_record v g ++ r) 4 ≡ v.class (head_or 0 g)
  unfolding group_record u16_at u16
  class_back g r = omega arith

  pub next : (g r : List ℕ) → drop (2 * u16_at (group_record v g ++ r) 2) (drop 6 (group_record v g ++ r)) ≡ r
  next g r = rw (count_back g r, body g r) (u16s-rest g r)

  pub groups_back : (gs : List (List ℕ)) (r : List ℕ) → groups_at (length gs) (concat (map (group_record v) gs) ++ r) ≡ map marked gs
  unfolding groups_at concat
  groups_back [] r = refl
  groups_back (g ∷ gs) r =
      rw (append_assoc (group_record v g) (concat (map (group_record v) gs)) r)
      (ap₂ ◌∷◌
      (ap₂ (λ (h : Head) (l : List ℕ). (h, l)) (ap₂ (λ (b : Bool) (k : ℕ). record { clique = b; class = k }) (first g rest) (class_back g rest)) (rw (count_back g rest, body g rest) (u16s_back g rest)))
      (ap (groups_at (length gs)) (next g rest) ∙ groups_back gs r))
    where
      rest : List ℕ
      rest = concat (map (group_record v) gs) ++ r

  pub groups_after : (gs : List (List ℕ)) (r : List ℕ) → after_groups (length gs) (concat (map (group_record v) gs) ++ r) ≡ r
  unfolding after_groups concat
  groups_after [] r = refl
  groups_after (g ∷ gs) r =
      rw (append_assoc (group_record v g) (concat (map (group_record v) gs)) r)
      (ap (after_groups (length gs)) (next g (concat (map (group_record v) gs) ++ r)) ∙ groups_after gs r)

pub superedges_back : (js : List (ℕ × ℕ)) (k : ℕ) → length js ≤ k → superedges_at k (concat (map superedge_record js) ++ end_record) ≡ js
unfolding superedges_at is_mark concat superedge_record end_record u16_at u16
superedges_back [] zero h = refl
superedges_back [] (suc k) h = refl
superedges_back (j ∷ js) zero h = absurd (omega arith)
superedges_back (j ∷ js) (suc k) h = ap₂ ◌∷◌ (ap₂ (λ (a b : ℕ). (a, b)) (omega arith) (omega arith)) (superedges_back js k (omega arith))

-- which pairs the superedges hold
module _ (e : ℕ → ℕ → Bool) where
  pair-append : (xs ys : List (ℕ × ℕ)) (i j : ℕ) → has_pair (xs ++ ys) i j ≡ (has_pair xs i j || has_pair ys i j)
  unfolding has_pair
  pair-append [] ys i j = refl
  pair-append (x ∷ xs) ys i j = rw (pair-append xs ys i j) (assoc (eqb x.0 i && eqb x.1 j))
    where
      assoc : (a : Bool) → (a || (has_pair xs i j || has_pair ys i j)) ≡ ((a || has_pair xs i j) || has_pair ys i j)
      assoc true = refl
      assoc false = refl

  -- superedges of one group g at i with the groups from j on
  of_cons : (i : ℕ) (g : List ℕ) (j : ℕ) (h : List ℕ) (hs : List (List ℕ)) (a b : ℕ)
      → has_pair (superedges_from e i g j (h ∷ hs)) a b ≡ ((adjacent e g h && (eqb i a && eqb j b)) || has_pair (superedges_from e i g (suc j) hs) a b)
  unfolding superedges_from has_pair
  of_cons i g j h hs a b = step (adjacent e g h)
    where
      step : (t : Bool) → has_pair (cond t ((i, j) ∷ superedges_from e i g (suc j) hs) (superedges_from e i g (suc j) hs)) a b ≡ ((t && (eqb i a && eqb j b)) || has_pair (superedges_from e i g (suc j) hs) a b)
      step true = refl
      step false = refl

  of-below : (i : ℕ) (g : List ℕ) (hs : List (List ℕ)) (j a b : ℕ) → b < j → has_pair (superedges_from e i g j hs) a b ≡ false
  unfolding superedges_from has_pair
  of-below i g [] j a b l = refl
  of-below i g (h ∷ hs) j a b l = of_cons i g j h hs a b ∙ rw (ne_eqb j b (omega arith), of-below i g hs (suc j) a b (omega arith), and-false (eqb i a)) (or-false (adjacent e g h && false) ∙ and-false (adjacent e g h))

  of_other : (i : ℕ) (g : List ℕ) (hs : List (List ℕ)) (j a b : ℕ) → (i ≡ a → ⊥) → has_pair (superedges_from e i g j hs) a b ≡ false
  unfolding superedges_from has_pair
  of_other i g [] j a b l = refl
  of_other i g (h ∷ hs) j a b l = of_cons i g j h hs a b ∙ rw (ne_eqb i a l, of_other i g hs (suc j) a b l) (or-false (adjacent e g h && false) ∙ and-false (adjacent e g h))

  of_at : (i : ℕ) (g : List ℕ) (hs : List (List ℕ)) (j k : ℕ) → k < length hs → has_pair (superedges_from e i g j hs) i (j + k) ≡ adjacent e g (get_or hs k [])
  of_at i g [] j k l = absurd (omega arith)
  of_at i g (h ∷ hs) j zero l = of_cons i g j h hs i (j + 0) ∙ rw (eq-eqb i i refl, eq-eqb j (j + 0) (omega arith), of-below i g hs (suc j) i (j + 0) (omega arith)) (or-false (adjacent e g h && true) ∙ and_one (adjacent e g h))
  of_at i g (h ∷ hs) j (suc k) l = of_cons i g j h hs i (j + suc k) ∙ rw (ne_eqb j (j + suc k) (omega arith), and-false (eqb i i), and-false (adjacent e g h)) (ap (has_pair (superedges_from e i g (suc j) hs) i) shift ∙ of_at i g hs (suc j) k (omega arith))
    where
      shift : j + suc k ≡ suc j + k
      shift = omega arith

  all_first : (gs : List (List ℕ)) (a i b : ℕ) → i < a → has_pair (superedges e a gs) i b ≡ false
  unfolding superedges has_pair
  all_first [] a i b l = refl
  all_first (g ∷ gs) a i b l = pair-append (superedges_from e a g (suc a) gs) (superedges e (suc a) gs) i b ∙ rw (of_other a g gs (suc a) i b (omega arith), all_first gs (suc a) i b (omega arith))

  all-upward : (gs : List (List ℕ)) (a i b : ℕ) → b ≤ i → has_pair (superedges e a gs) i b ≡ false
  unfolding superedges has_pair
  all-upward [] a i b l = refl
  all-upward (g ∷ gs) a i b l = pair-append (superedges_from e a g (suc a) gs) (superedges e (suc a) gs) i b ∙ rw (one (decide (eqb a i)), all-upward gs (suc a) i b l)
    where
      one : (eqb a i ≡ true) ⊎ (eqb a i ≡ false) → has_pair (superedges_from e a g (suc a) gs) i b ≡ false
      one (inl t) = of-below a g gs (suc a) i b (omega (arith, eqb-true a i t))
      one (inr t) = of_other a g gs (suc a) i b (eqb-false a i t)

  pub all_at : (gs : List (List ℕ)) (a i j x y : ℕ) → x ≡ a + i → y ≡ a + j → i < j → j < length gs → has_pair (superedges e a gs) x y ≡ adjacent e (get_or gs i []) (get_or gs j [])
  unfolding superedges
  all_at [] a i j x y ex ey l h = absurd (omega arith)
  all_at (g ∷ gs) a i zero x y ex ey l h = absurd (omega arith)
  all_at (g ∷ gs) a zero (suc j) x y ex ey l h =
      pair-append (superedges_from e a g (suc a) gs) (superedges e (suc a) gs) x y
      ∙ ap₂ ◌||◌ (ap₂ (has_pair (superedges_from e a g (suc a) gs)) at_x at_y ∙ of_at a g gs (suc a) j (omega arith)) (all_first gs (suc a) x y (omega arith))
      ∙ or-false (adjacent e g (get_or gs j []))
    where
      at_x : x ≡ a
      at_x = omega arith

      at_y : y ≡ suc a + j
      at_y = omega arith
  all_at (g ∷ gs) a (suc i) (suc j) x y ex ey l h =
      pair-append (superedges_from e a g (suc a) gs) (superedges e (suc a) gs) x y
      ∙ ap₂ ◌||◌ (of_other a g gs (suc a) x y (omega arith)) (all_at gs (suc a) i j x y (omega arith) (omega arith) (omega arith) (omega arith))

-- a position in the list is a place in a group
position_out : (p : ℕ) (gs : List (List ℕ)) → position p gs < length gs → (g : List ℕ) × Memᴰ g gs × (p ∈ g)
unfolding position
position_out p [] l = absurd (omega arith)
position_out p (g ∷ gs) l = step (position_out p gs) (decide (member p g)) l
  where
    step : (position p gs < length gs → (h : List ℕ) × Memᴰ h gs × (p ∈ h)) → (member p g ≡ true) ⊎ (member p g ≡ false) → cond (member p g) 0 (suc (position p gs)) < suc (length gs) → (h : List ℕ) × Memᴰ h (g ∷ gs) × (p ∈ h)
    step below (inl t) k = (g, Memᴰ.head refl, member_elim p g t)
    step below (inr t) k = let r = below (less t k) in (r.0, Memᴰ.tail r.1, r.2)
      where
        less : member p g ≡ false → cond (member p g) 0 (suc (position p gs)) < suc (length gs) → position p gs < length gs
        less t k = let z : suc (position p gs) < suc (length gs) = rw t at k in omega arith

module _ (v : View) (g : Simple v) (asc : Ascending v.nodes) where
  abbrev gs : List (List ℕ)
  gs = algorithm1 v

  abbrev r : ℕ → ℕ → Bool
  r = similar v

  placed_in : (p : ℕ) → position p (algorithm1 v) < length (algorithm1 v) → p ∈ v.nodes
  placed_in p l = let a = position_out p gs l in go a.0 a.1 a.2
    where
      go : (h : List ℕ) → Memᴰ h (algorithm1 v) → p ∈ h → p ∈ v.nodes
      go h m k =
          let b = map_out (group v.nodes r) (leaders v.nodes r) h (rw (algorithm1-classes v g asc) at m) in
          (group_out v.nodes r b.0 p (rw b.2 at k)).0

  abbrev told : Summary
  told = summary_by (map (marked v) gs) (superedges v.edge 0 gs)

  pub members_back : (l : List (List ℕ)) → map (λ (g : Head × List ℕ). g.1) (map (marked v) l) ≡ l
  members_back [] = refl
  members_back (x ∷ xs) = ap (λ (l : List (List ℕ)). x ∷ l) (members_back xs)

  heads-back : {A : Type 0} (f : Head → A) (d : A) (l : List (List ℕ)) (i : ℕ) → i < length l → get_or (map (λ (g : Head × List ℕ). f g.0) (map (marked v) l)) i d ≡ f (marked v (get_or l i [])).0
  heads-back f d [] i h = absurd (omega arith)
  heads-back f d (x ∷ xs) zero h = refl
  heads-back f d (x ∷ xs) (suc i) h = heads-back f d xs i (omega arith)

  abbrev pos : ℕ → ℕ
  pos p = position p gs

  superedge-at : (p q : ℕ) → p ∈ v.nodes → q ∈ v.nodes → r p q ≡ false → (has_pair (superedges v.edge 0 gs) (pos p) (pos q) || has_pair (superedges v.edge 0 gs) (pos q) (pos p)) ≡ v.edge p q
  superedge-at p q mp mq apart = step (decide (ltb (pos p) (pos q)))
    where
      differs : pos p ≡ pos q → ⊥
      differs x = differ (eq-eqb (pos p) (pos q) x) (position-similar v g asc p q mp mq ∙ apart)

      other : (x : ℕ) (y : ℕ) → r x y ≡ false → r y x ≡ false
      other x y h = turn (decide (r y x))
        where
          turn : (r y x ≡ true) ⊎ (r y x ≡ false) → r y x ≡ false
          turn (inl k) = differ (similar_sym v y x k) h
          turn (inr k) = k

      up : (x y : ℕ) → x ∈ v.nodes → y ∈ v.nodes → r x y ≡ false → pos x < pos y → has_pair (superedges v.edge 0 gs) (pos x) (pos y) ≡ v.edge x y
      up x y mx my h l =
          all_at v.edge gs 0 (pos x) (pos y) (pos x) (pos y) (omega arith) (omega arith) l (position_in v g asc y my)
          ∙ ap₂ (adjacent v.edge) (position-group v g asc x mx) (position-group v g asc y my)
          ∙ adjacent_law v g asc x y mx my h

      step : (ltb (pos p) (pos q) ≡ true) ⊎ (ltb (pos p) (pos q) ≡ false) → (has_pair (superedges v.edge 0 gs) (pos p) (pos q) || has_pair (superedges v.edge 0 gs) (pos q) (pos p)) ≡ v.edge p q
      step (inl t) = let l = ltb-true (pos p) (pos q) t in ap₂ ◌||◌ (up p q mp mq apart l) (all-upward v.edge gs 0 (pos q) (pos p) (omega arith)) ∙ or-false (v.edge p q)
      step (inr t) = let l = ltb-false (pos p) (pos q) t in ap₂ ◌||◌ (all-upward v.edge gs 0 (pos p) (pos q) l) (up q p mq mp (other p q apart) (omega (arith, differs))) ∙ g.symmetric q p mq mp

  read-exact : (p q : ℕ) → p ∈ v.nodes → q ∈ v.nodes → reconstruct told p q ≡ v.edge p q
  unfolding reconstruct summary_by
  read-exact p q mp mq =
      rw (members_back gs, position-similar v g asc p q mp mq, heads-back (λ h. h.clique) false gs (pos p) (position_in v g asc p mp), position-group v g asc p mp)
      (step (decide (r p q)) (decide (eqb p q)))
    where
      step : (r p q ≡ true) ⊎ (r p q ≡ false) → (eqb p q ≡ true) ⊎ (eqb p q ≡ false)
          → cond (r p q) (is_clique (kind_of v.edge (group v.nodes r p)) && not (eqb p q)) (has_pair (superedges v.edge 0 gs) (pos p) (pos q) || has_pair (superedges v.edge 0 gs) (pos q) (pos p)) ≡ v.edge p q
      step (inl h) (inl x) = rw (h, x) (and-false (is_clique (kind_of v.edge (group v.nodes r p))) ∙ sym (g.irreflexive p mp) ∙ ap (v.edge p) (eqb-true p q x))
      step (inl h) (inr x) = rw (h, x) (and_one (is_clique (kind_of v.edge (group v.nodes r p))) ∙ clique_law v g asc p q mp mq (eqb-false p q x) h)
      step (inr h) x = rw h (superedge-at p q mp mq h)

  read-class-of : (p : ℕ) → p ∈ v.nodes → told.classes (told.group_of p) ≡ v.class p
  unfolding summary_by
  read-class-of p m = rw (members_back gs, heads-back (λ h. h.class) 0 gs (pos p) (position_in v g asc p m)) (position_class v g asc p m)

  pub length_marked : (l : List (List ℕ)) → length (map (marked v) l) ≡ length l
  length_marked [] = refl
  length_marked (x ∷ xs) = ap suc (length_marked xs)

  -- a file puts two nodes into one group exactly if they are similar
  pub told-similar : (p q : ℕ) → p ∈ v.nodes → q ∈ v.nodes → eqb (told.group_of p) (told.group_of q) ≡ similar v p q
  unfolding summary_by
  told-similar p q mp mq = rw (members_back gs) (position-similar v g asc p q mp mq)

  pub told-count : told.count ≡ length gs
  unfolding summary_by
  told-count = length_marked gs

  pub read_placed : (p : ℕ) → ltb (told.group_of p) told.count ≡ member p v.nodes
  unfolding summary_by
  read_placed p = rw (members_back gs, length_marked gs) (iff_eq (ltb (pos p) (length gs)) (member p v.nodes) (λ t. member_intro p v.nodes (placed_in p (ltb-true (pos p) (length gs) t))) (λ t. lt-ltb (pos p) (length gs) (position_in v g asc p (member_elim p v.nodes t))))

  -- what is read is the graph
  pub read_edge : (p q : ℕ) → (ltb (told.group_of p) told.count && (ltb (told.group_of q) told.count && reconstruct told p q)) ≡ (member p v.nodes && (member q v.nodes && v.edge p q))
  read_edge p q = rw (read_placed p, read_placed q) (step (decide (member p v.nodes)) (decide (member q v.nodes)))
    where
      step : (member p v.nodes ≡ true) ⊎ (member p v.nodes ≡ false) → (member q v.nodes ≡ true) ⊎ (member q v.nodes ≡ false) → (member p v.nodes && (member q v.nodes && reconstruct told p q)) ≡ (member p v.nodes && (member q v.nodes && v.edge p q))
      step (inl x) (inl y) = rw (x, y) (read-exact p q (member_elim p v.nodes x) (member_elim q v.nodes y))
      step (inl x) (inr y) = rw (x, y)
      step (inr x) y = rw x

  pub read_class : (p : ℕ) → cond (ltb (told.group_of p) told.count) (told.classes (told.group_of p)) 0 ≡ cond (member p v.nodes) (v.class p) 0
  read_class p = rw (read_placed p) (step (decide (member p v.nodes)))
    where
      step : (member p v.nodes ≡ true) ⊎ (member p v.nodes ≡ false) → cond (member p v.nodes) (told.classes (told.group_of p)) 0 ≡ cond (member p v.nodes) (v.class p) 0
      step (inl x) = rw x (read-class-of p (member_elim p v.nodes x))
      step (inr x) = rw x

  -- the summary that a file tells is one of the graph
  pub told_summarises : Summarises v told
  told_summarises = record {
    placed = λ p m. ltb-true (told.group_of p) told.count (read_placed p ∙ member_intro p v.nodes m);
    inhabited = λ i l. at i ((algorithm1_summarises v g asc).inhabited i (unfold summary_of in rw told-count at l));
    exact = read-exact;
    classed = read-class-of;
  }
    where
      at : (i : ℕ) → (p : ℕ) × (p ∈ v.nodes) × ((summary_of v gs).group_of p ≡ i) → (p : ℕ) × (p ∈ v.nodes) × (told.group_of p ≡ i)
      at i s = (s.0, s.1, unfold summary_by summary_of in (ap (position s.0) (members_back gs) ∙ s.2))

-- a file is read as the summary that it was made of
pub summary_encode : (n : ℕ) (v : View) (gs : List (List ℕ)) → summary_in (encode n v gs) ≡ summary_by (map (marked v) gs) (superedges v.edge 0 gs)
unfolding summary_in
summary_encode n v gs = ap₂ summary_by at-groups at-superedges
  where
    s : List ℕ
    s = encode n v gs

    tail : List ℕ
    tail = concat (map superedge_record (superedges v.edge 0 gs)) ++ end_record

    at_g : u16_at s 6 ≡ length gs
    at_g = unfold encode head_record u16_at u16 in omega arith

    rest : drop 8 s ≡ concat (map (group_record v) gs) ++ tail
    rest = unfold encode head_record u16 in refl

    at-groups : groups_at (u16_at s 6) (drop 8 s) ≡ map (marked v) gs
    at-groups = ap₂ groups_at at_g rest ∙ groups_back v gs tail

    at-superedges : superedges_at (length s) (after_groups (u16_at s 6) (drop 8 s)) ≡ superedges v.edge 0 gs
    at-superedges = ap (superedges_at (length s)) (ap₂ after_groups at_g rest ∙ groups_after v gs tail) ∙ superedges_back (superedges v.edge 0 gs) (length s) (omega (arith, length-encode n v gs))

pub count-encode : (n : ℕ) (v : View) (gs : List (List ℕ)) → u16_at (encode n v gs) 2 ≡ n
unfolding encode head_record u16_at u16
count-encode n v gs = omega arith
