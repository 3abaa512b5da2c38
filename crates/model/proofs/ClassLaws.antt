-- The greedy loop over any equivalence r on an ascending list: its groups are the classes, by least member, and no division
-- whose groups each lie inside a class has fewer.
use Rattle.std.specs.Prelude.{◌≡◌, Bool, false, not, ◌&&◌, ◌||◌, ◌⊎◌, ltb, length}
use Rattle.std.proofs.Math.Path.{refl, sym, ap, ap₂}
use Rattle.std.proofs.Common.{◌∙◌, inl, inr, arith}
use Rattle.std.proofs.Math.Bool.{true, cond}
use mathlib.Core.List.Memᴰ
use mathlib.Core.List.{List, [], ◌∷◌, ◌++◌, map}
use Prim.Native.Nat.{ℕ, suc, zero, ◌≤◌, ◌<◌}
use Rattle.std.proofs.Math.Dec.{eqb}
use Rattle.std.proofs.Math.ListN.{get_or}
use Rattle.std.proofs.lemmas.List.{length-map}
use borrow.Author.Tests.{eqb-true, eq-eqb, ne_eqb, ltb-true, ltb-false, lt-ltb, le-ltb}
use Rattle.model.specs.Lists.{◌∈◌, any, filter, from, member}
use Rattle.model.specs.Grouping.{greedy, group, leaders, least}
use Rattle.model.specs.Summary.{position}
use Rattle.model.proofs.TestLaws.{and_snd, and_true, decide, differ, iff_eq, or_cases, or_right}
use Rattle.model.proofs.ListLaws.{Ascending, filter_ascending, filter_cong, filter_elim, filter_intro, from_in, head_or_in, head_or-le, length_from, member_elim, member_intro, pigeonhole}

pub record Equivalence (vs : List ℕ) (r : ℕ → ℕ → Bool) : Type 0 where
  pub reflexive : (p : ℕ) → r p p ≡ true
  pub symmetric : (p q : ℕ) → r p q ≡ true → r q p ≡ true
  pub transitive : (p q s : ℕ) → p ∈ vs → q ∈ vs → s ∈ vs → r p q ≡ true → r q s ≡ true → r p s ≡ true

-- the classes of r, by least member
abbrev pub classes : List ℕ → (ℕ → ℕ → Bool) → List (List ℕ)
classes vs r = map (group vs r) (leaders vs r)

module _ (vs : List ℕ) (r : ℕ → ℕ → Bool) where
  pub greedy_old : (u : ℕ) (us done : List ℕ) → member u done ≡ true → greedy vs r (u ∷ us) done ≡ greedy vs r us done
  unfolding greedy
  greedy_old u us done h = rw (h, greedy)

  abbrev pub picked : ℕ → List ℕ → List ℕ
  picked u done = filter (λ v. eqb u v || (not (member v done) && r u v)) vs

  pub greedy_new : (u : ℕ) (us done : List ℕ) → member u done ≡ false → greedy vs r (u ∷ us) done ≡ picked u done ∷ greedy vs r us (picked u done ++ done)
  unfolding greedy
  greedy_new u us done h = rw (h, greedy)

  pub group_in_lem : (p q : ℕ) → q ∈ vs → r p q ≡ true → q ∈ group vs r p
  unfolding group
  group_in_lem p q m h = filter_intro (r p) vs q m h

  pub group_out : (p q : ℕ) → q ∈ group vs r p → (q ∈ vs) × (r p q ≡ true)
  unfolding group
  group_out p q m = filter_elim (r p) vs q m

  module _ (eq : Equivalence vs r) (asc : Ascending vs) where
    pub least-group : (p : ℕ) → p ∈ vs → least vs r p ∈ group vs r p
    unfolding least
    least-group p m = head_or_in p (group vs r p) p (group_in_lem p p m (eq.reflexive p))

    pub least_in : (p : ℕ) → p ∈ vs → least vs r p ∈ vs
    least_in p m = (group_out p (least vs r p) (least-group p m)).0

    pub least_rel : (p : ℕ) → p ∈ vs → r p (least vs r p) ≡ true
    least_rel p m = (group_out p (least vs r p) (least-group p m)).1

    pub least-le : (p q : ℕ) → q ∈ vs → r p q ≡ true → least vs r p ≤ q
    unfolding least group
    least-le p q m h = head_or-le p (group vs r p) q (filter_ascending (r p) vs asc) (group_in_lem p q m h)

    pub least_eq : (p q : ℕ) → p ∈ vs → q ∈ vs → r p q ≡ true → least vs r p ≡ least vs r q
    least_eq p q mp mq h =
        let a : least vs r p ≤ least vs r q = least-le p (least vs r q) (least_in q mq) (eq.transitive p q (least vs r q) mp mq (least_in q mq) h (least_rel q mq)) in
        let b : least vs r q ≤ least vs r p = least-le q (least vs r p) (least_in p mp) (eq.transitive q p (least vs r p) mq mp (least_in p mp) (eq.symmetric p q h) (least_rel p mp)) in
        omega arith

    pub least-least : (p : ℕ) → p ∈ vs → least vs r (least vs r p) ≡ least vs r p
    least-least p m = sym (least_eq p (least vs r p) m (least_in p m) (least_rel p m))

    -- what the loop has done when it comes to the nodes us, those from b on: a node's status is True if its group has a member below b
    pub record Reached (b : ℕ) (us done : List ℕ) : Type 0 where
      pub within : (v : ℕ) → v ∈ us → v ∈ vs
      pub above : (v : ℕ) → v ∈ us → b ≤ v
      pub rest : (v : ℕ) → v ∈ vs → b ≤ v → v ∈ us
      pub ordered : Ascending us
      pub status : (v : ℕ) → v ∈ vs → member v done ≡ ltb (least vs r v) b

    module _ (b u : ℕ) (us done : List ℕ) (h : Reached b (u ∷ us) done) where
      u-in : u ∈ vs
      u-in = h.within u (Memᴰ.head refl)

      b≤u : b ≤ u
      b≤u = h.above u (Memᴰ.head refl)

      -- a least member is below b, is u, or is above u
      pub place : (w : ℕ) → w ∈ vs → w ≤ u → (w < b) ⊎ (w ≡ u)
      place w m l = step (decide (ltb w b))
        where
          cases : b ≤ w → (w ≡ u) ⊎ (w ∈ us) → (w < b) ⊎ (w ≡ u)
          cases k (inl q) = inr q
          cases k (inr i) = let z : u < w = h.ordered.0 w i in absurd (omega arith)

          step : (ltb w b ≡ true) ⊎ (ltb w b ≡ false) → (w < b) ⊎ (w ≡ u)
          step (inl t) = inl (ltb-true w b t)
          step (inr t) = cases (ltb-false w b t) (Memᴰ.cases_cons (h.rest w m (ltb-false w b t)))

      next : (done' : List ℕ) → ((v : ℕ) → v ∈ vs → member v done' ≡ ltb (least vs r v) (suc u)) → Reached (suc u) us done'
      next done' st = record {
        within = λ v m. h.within v (Memᴰ.tail m);
        above = λ v m. h.ordered.0 v m;
        rest = λ v m l. step v l (Memᴰ.cases_cons (h.rest v m (omega (arith, b≤u))));
        ordered = h.ordered.1;
        status = st;
      }
        where
          step : (v : ℕ) → suc u ≤ v → (v ≡ u) ⊎ (v ∈ us) → v ∈ us
          step v l (inl q) = absurd (omega arith)
          step v l (inr i) = i

      -- u's status is True: its group has been met, and no group begins at u
      pub next_old : member u done ≡ true → Reached (suc u) us done
      next_old o = next done (λ v m. h.status v m ∙ iff_eq (ltb (least vs r v) b) (ltb (least vs r v) (suc u)) (up v) (down v m))
        where
          low : least vs r u < b
          low = ltb-true (least vs r u) b (sym (h.status u u-in) ∙ o)

          up : (v : ℕ) → ltb (least vs r v) b ≡ true → ltb (least vs r v) (suc u) ≡ true
          up v t = lt-ltb (least vs r v) (suc u) (omega (arith, ltb-true (least vs r v) b t, b≤u))

          cases : (v : ℕ) → v ∈ vs → (least vs r v < b) ⊎ (least vs r v ≡ u) → ltb (least vs r v) b ≡ true
          cases v m (inl l) = lt-ltb (least vs r v) b l
          cases v m (inr q) =
              let z : least vs r u ≡ u = ap (least vs r) (sym q) ∙ least-least v m ∙ q in
              absurd (omega (arith, low, b≤u))

          down : (v : ℕ) → v ∈ vs → ltb (least vs r v) (suc u) ≡ true → ltb (least vs r v) b ≡ true
          down v m t = cases v m (place (least vs r v) (least_in v m) (omega (arith, ltb-true (least vs r v) (suc u) t)))

      -- u's status is False: u is the least of its group, and what the loop picks is the whole group
      module _ (o : member u done ≡ false) where
        pub new_least : least vs r u ≡ u
        new_least = step (place (least vs r u) (least_in u u-in) (least-le u u u-in (eq.reflexive u)))
          where
            step : (least vs r u < b) ⊎ (least vs r u ≡ u) → least vs r u ≡ u
            step (inl l) = differ (h.status u u-in ∙ lt-ltb (least vs r u) b l) o
            step (inr q) = q

        pub new_picked : picked u done ≡ group vs r u
        unfolding group
        new_picked = filter_cong _ (r u) vs (λ v m. iff_eq (eqb u v || (not (member v done) && r u v)) (r u v) (there v) (back v m))
          where
            cases : (v : ℕ) → (eqb u v ≡ true) ⊎ ((not (member v done) && r u v) ≡ true) → r u v ≡ true
            cases v (inl q) = rw (← eqb-true u v q) (eq.reflexive u)
            cases v (inr q) = and_snd (not (member v done)) (r u v) q

            there : (v : ℕ) → (eqb u v || (not (member v done) && r u v)) ≡ true → r u v ≡ true
            there v t = cases v (or_cases (eqb u v) (not (member v done) && r u v) t)

            fresh : (v : ℕ) → v ∈ vs → r u v ≡ true → member v done ≡ false
            fresh v m k = h.status v m ∙ ap (λ (x : ℕ). ltb x b) (sym (least_eq u v u-in m k)) ∙ sym (h.status u u-in) ∙ o

            back : (v : ℕ) → v ∈ vs → r u v ≡ true → (eqb u v || (not (member v done) && r u v)) ≡ true
            back v m k = or_right (eqb u v) (and_true (ap not (fresh v m k)) k)

        pub next_new : Reached (suc u) us (group vs r u ++ done)
        next_new = next (group vs r u ++ done) (λ v m. iff_eq (member v (group vs r u ++ done)) (ltb (least vs r v) (suc u)) (up v m) (down v m))
          where
            low : (v : ℕ) → v ∈ vs → (v ∈ group vs r u) ⊎ (v ∈ done) → least vs r v < suc u
            low v m (inl i) = let z : least vs r u ≡ least vs r v = least_eq u v u-in m (group_out u v i).1 in omega (arith, new_least)
            low v m (inr i) = omega (arith, ltb-true (least vs r v) b (sym (h.status v m) ∙ member_intro v done i), b≤u)

            up : (v : ℕ) → v ∈ vs → member v (group vs r u ++ done) ≡ true → ltb (least vs r v) (suc u) ≡ true
            up v m t = lt-ltb (least vs r v) (suc u) (low v m (Memᴰ.append_cases (group vs r u) (member_elim v (group vs r u ++ done) t)))

            cases : (v : ℕ) → v ∈ vs → (least vs r v < b) ⊎ (least vs r v ≡ u) → v ∈ (group vs r u ++ done)
            cases v m (inl l) = Memᴰ.append_right (group vs r u) (member_elim v done (h.status v m ∙ lt-ltb (least vs r v) b l))
            cases v m (inr q) = Memᴰ.append_left done (group_in_lem u v m (eq.symmetric v u (rw q at (least_rel v m))))

            down : (v : ℕ) → v ∈ vs → ltb (least vs r v) (suc u) ≡ true → member v (group vs r u ++ done) ≡ true
            down v m t = member_intro v _ (cases v m (place (least vs r v) (least_in v m) (omega (arith, ltb-true (least vs r v) (suc u) t))))

    abbrev leads : ℕ → Bool
    leads p = eqb (least vs r p) p

    pub greedy-classes : (us : List ℕ) (b : ℕ) (done : List ℕ) → Reached b us done → greedy vs r us done ≡ map (group vs r) (filter leads us)
    unfolding greedy filter
    greedy-classes [] b done h = refl
    greedy-classes (u ∷ us) b done h = step (greedy-classes us (suc u)) (decide (member u done))
      where
        step : ((d : List ℕ) → Reached (suc u) us d → greedy vs r us d ≡ map (group vs r) (filter leads us)) → (member u done ≡ true) ⊎ (member u done ≡ false)
            → greedy vs r (u ∷ us) done ≡ map (group vs r) (filter leads (u ∷ us))
        step below (inl o) = greedy_old u us done o ∙ below done (next_old b u us done h o) ∙ ap (λ (t : Bool). map (group vs r) (cond t (u ∷ filter leads us) (filter leads us))) (sym (ne_eqb (least vs r u) u not_least))
          where
            not_least : least vs r u ≡ u → ⊥
            not_least q = omega (arith, b≤u b u us done h, ltb-true (least vs r u) b (sym (h.status u (u-in b u us done h)) ∙ o))
        step below (inr o) = greedy_new u us done o ∙ ap (λ (s : List ℕ). s ∷ greedy vs r us (s ++ done)) (new_picked b u us done h o) ∙ ap (λ (l : List (List ℕ)). group vs r u ∷ l) (below (group vs r u ++ done) (next_new b u us done h o)) ∙ ap (λ (t : Bool). map (group vs r) (cond t (u ∷ filter leads us) (filter leads us))) (sym (eq-eqb (least vs r u) u (new_least b u us done h o)))

    pub greedy-leaders : greedy vs r vs [] ≡ classes vs r
    unfolding leaders member any
    greedy-leaders = greedy-classes vs 0 [] (record { within = λ v m. m; above = λ v m. omega arith; rest = λ v m l. m; ordered = asc; status = λ v m. sym (le-ltb (least vs r v) 0 (omega arith)) })

    -- the leaders, and the classes by position
    pub leader_in_lem : (p : ℕ) → p ∈ vs → least vs r p ≡ p → p ∈ leaders vs r
    unfolding leaders
    leader_in_lem p m q = filter_intro _ vs p m (eq-eqb (least vs r p) p q)

    pub leader_out : (p : ℕ) → p ∈ leaders vs r → (p ∈ vs) × (least vs r p ≡ p)
    unfolding leaders
    leader_out p m = let t = filter_elim (λ p. eqb (least vs r p) p) vs p m in (t.0, eqb-true (least vs r p) p t.1)

    pub least-leads : (p : ℕ) → p ∈ vs → least vs r p ∈ leaders vs r
    least-leads p m = leader_in_lem (least vs r p) (least_in p m) (least-least p m)

    pub same_rel : (p q : ℕ) → p ∈ vs → q ∈ vs → r p q ≡ true → (x : ℕ) → x ∈ vs → r p x ≡ r q x
    same_rel p q mp mq h x mx = iff_eq (r p x) (r q x) (λ t. eq.transitive q p x mq mp mx (eq.symmetric p q h) t) (λ t. eq.transitive p q x mp mq mx h t)

    pub same_group : (p q : ℕ) → p ∈ vs → q ∈ vs → r p q ≡ true → group vs r p ≡ group vs r q
    unfolding group
    same_group p q mp mq h = filter_cong (r p) (r q) vs (same_rel p q mp mq h)

    -- the position of p's class
    pub position_law : (l : List ℕ) → ((x : ℕ) → x ∈ l → x ∈ vs) → (p : ℕ) → p ∈ vs → least vs r p ∈ l
        → (position p (map (group vs r) l) < length (map (group vs r) l)) × (get_or (map (group vs r) l) (position p (map (group vs r) l)) [] ≡ group vs r p)
    unfolding position
    position_law [] sub p mp m = absurd (Memᴰ.not-nil m)
    position_law (x ∷ xs) sub p mp m = step (position_law xs (λ y k. sub y (Memᴰ.tail k)) p mp) (decide (member p (group vs r x)))
      where
        gs : List (List ℕ)
        gs = map (group vs r) xs

        At : ℕ → Type 0
        At k = (k < suc (length gs)) × (get_or (group vs r x ∷ gs) k [] ≡ group vs r p)

        tail : (member p (group vs r x) ≡ false) → (least vs r p ≡ x) ⊎ (least vs r p ∈ xs) → least vs r p ∈ xs
        tail o (inl q) = differ (member_intro p (group vs r x) (group_in_lem x p mp (eq.symmetric p x (rw q at (least_rel p mp))))) o
        tail o (inr i) = i

        step : (least vs r p ∈ xs → (position p gs < length gs) × (get_or gs (position p gs) [] ≡ group vs r p))
            → (member p (group vs r x) ≡ true) ⊎ (member p (group vs r x) ≡ false) → At (cond (member p (group vs r x)) 0 (suc (position p gs)))
        step below (inl t) = rw t (omega arith, same_group x p (sub x (Memᴰ.head refl)) mp (group_out x p (member_elim p (group vs r x) t)).1)
        step below (inr t) = let b = below (tail t (Memᴰ.cases_cons m)) in rw t (omega (arith, b.0), b.1)

    pub position_cong : (l : List ℕ) → ((x : ℕ) → x ∈ l → x ∈ vs) → (p q : ℕ) → p ∈ vs → q ∈ vs → r p q ≡ true → position p (map (group vs r) l) ≡ position q (map (group vs r) l)
    unfolding position
    position_cong [] sub p q mp mq h = refl
    position_cong (x ∷ xs) sub p q mp mq h = ap₂ (λ (t : Bool) (k : ℕ). cond t 0 (suc k)) (iff_eq _ _ (carry p q mp mq h) (carry q p mq mp (eq.symmetric p q h))) (position_cong xs (λ y k. sub y (Memᴰ.tail k)) p q mp mq h)
      where
        xin : x ∈ vs
        xin = sub x (Memᴰ.head refl)

        carry : (a b : ℕ) → a ∈ vs → b ∈ vs → r a b ≡ true → member a (group vs r x) ≡ true → member b (group vs r x) ≡ true
        carry a b ma mb k t = member_intro b (group vs r x) (group_in_lem x b mb (eq.transitive x a b xin ma mb (group_out x a (member_elim a (group vs r x) t)).1 k))

    leaders-in : (x : ℕ) → x ∈ leaders vs r → x ∈ vs
    leaders-in x m = (leader_out x m).0

    abbrev at-class : ℕ → ℕ
    at-class p = position p (classes vs r)

    pub class_in_lem : (p : ℕ) → p ∈ vs → position p (classes vs r) < length (classes vs r)
    class_in_lem p m = (position_law (leaders vs r) leaders-in p m (least-leads p m)).0

    pub class_group : (p : ℕ) → p ∈ vs → get_or (classes vs r) (position p (classes vs r)) [] ≡ group vs r p
    class_group p m = (position_law (leaders vs r) leaders-in p m (least-leads p m)).1

    pub position_same : (p q : ℕ) → p ∈ vs → q ∈ vs → eqb (at-class p) (at-class q) ≡ r p q
    position_same p q mp mq = iff_eq _ (r p q) there back
      where
        there : eqb (at-class p) (at-class q) ≡ true → r p q ≡ true
        there t =
            let z : group vs r p ≡ group vs r q = sym (class_group p mp) ∙ ap (λ (k : ℕ). get_or (classes vs r) k []) (eqb-true (at-class p) (at-class q) t) ∙ class_group q mq in
            (group_out p q (rw z (group_in_lem q q mq (eq.reflexive q)))).1

        back : r p q ≡ true → eqb (at-class p) (at-class q) ≡ true
        back h = eq-eqb (at-class p) (at-class q) (position_cong (leaders vs r) leaders-in p q mp mq h)

    -- two different leaders are in different classes
    pub leaders-apart : (x y : ℕ) → x ∈ vs → y ∈ vs → least vs r x ≡ x → least vs r y ≡ y → r x y ≡ true → x ≡ y
    leaders-apart x y mx my lx ly h = sym lx ∙ least_eq x y mx my h ∙ ly

    abbrev Led : List ℕ → Type 0
    Led l = (x : ℕ) → x ∈ l → (x ∈ vs) × (least vs r x ≡ x)

    pub position_leader : (l : List ℕ) → Led l → Ascending l → (i : ℕ) → i < length l → (get_or l i 0 ∈ l) × (position (get_or l i 0) (map (group vs r) l) ≡ i)
    unfolding position
    position_leader [] led a i h = absurd (omega arith)
    position_leader (x ∷ xs) led a zero h = (Memᴰ.head refl, ap (λ (t : Bool). cond t 0 (suc (position x (map (group vs r) xs)))) (member_intro x (group vs r x) (group_in_lem x x (led x (Memᴰ.head refl)).0 (eq.reflexive x))))
    position_leader (x ∷ xs) led a (suc i) h = let b = position_leader xs (λ y m. led y (Memᴰ.tail m)) a.1 i (omega arith) in (Memᴰ.tail b.0, at b.0 b.1 (decide (member y (group vs r x))))
      where
        y : ℕ
        y = get_or xs i 0

        at : y ∈ xs → position y (map (group vs r) xs) ≡ i → (member y (group vs r x) ≡ true) ⊎ (member y (group vs r x) ≡ false) → cond (member y (group vs r x)) 0 (suc (position y (map (group vs r) xs))) ≡ suc i
        at m q (inl t) =
            let lx = led x (Memᴰ.head refl) in
            let ly = led y (Memᴰ.tail m) in
            let z : x ≡ y = leaders-apart x y lx.0 ly.0 lx.1 ly.1 (group_out x y (member_elim y (group vs r x) t)).1 in
            absurd (omega (arith, a.0 y m))
        at m q (inr t) = rw (t, q)

    pub leaders_ascending : Ascending (leaders vs r)
    unfolding leaders
    leaders_ascending = filter_ascending _ vs asc

    pub length-classes : length (classes vs r) ≡ length (leaders vs r)
    length-classes = length-map (leaders vs r) (group vs r)

    pub class_inhabited : (i : ℕ) → i < length (classes vs r) → (p : ℕ) × (p ∈ vs) × (at-class p ≡ i)
    class_inhabited i h =
        let b = position_leader (leaders vs r) leader_out leaders_ascending i (rw length-classes at h) in
        (get_or (leaders vs r) i 0, (leader_out (get_or (leaders vs r) i 0) b.0).0, b.1)

    -- counting: a division into `count` groups, each inside a class, has at least as many groups as there are classes
    pub fewest_classes : (count : ℕ) (group_of : ℕ → ℕ) → ((p : ℕ) → p ∈ vs → group_of p < count) → ((p q : ℕ) → p ∈ vs → q ∈ vs → group_of p ≡ group_of q → r p q ≡ true)
        → length (classes vs r) ≤ count
    fewest_classes count group_of placed inside = omega (arith, pigeonhole (leaders vs r) group_of (from 0 count) leaders_ascending into apart, length_from 0 count, length-classes)
      where
        into : (p : ℕ) → p ∈ leaders vs r → group_of p ∈ from 0 count
        into p m = from_in 0 count (group_of p) (omega arith) (omega (arith, placed p (leader_out p m).0))

        apart : (p q : ℕ) → p ∈ leaders vs r → q ∈ leaders vs r → group_of p ≡ group_of q → p ≡ q
        apart p q mp mq h = let a = leader_out p mp in let b = leader_out q mq in leaders-apart p q a.0 b.0 a.1 b.1 (inside p q a.0 b.0 h)
