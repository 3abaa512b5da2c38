-- A file by its groups and superedges is read back as these; what groups and superedges that stand in order are.
use Rattle.std.specs.Prelude.{◌≡◌, Bool, false, ◌&&◌, ◌||◌, cond, ◌⊎◌, ltb, get_or, drop}
use Rattle.std.proofs.Math.Path.{refl, ap, ap₂}
use Rattle.std.proofs.Common.{sym, ◌∙◌, inl, inr}
use Rattle.std.proofs.Math.Bool.{true, not}
use mathlib.Core.List.Memᴰ
use mathlib.Core.List.{List, [], ◌∷◌, ◌++◌, map, append_assoc}
use Prim.Native.Nat.{ℕ, suc, zero, ◌*◌, ◌≤◌, ◌<◌}
use native.Mathlib.Omega.{arith}
use Rattle.std.proofs.Math.Dec.{eqb, leb}
use Rattle.std.proofs.Math.ListN.{length, length-append}
use Rattle.std.proofs.lemmas.List.{length-map}
use borrow.Author.Tests.{eqb-true, eq-eqb, ltb-true, ltb-false, lt-ltb, leb-true, le-leb, not-true}
use Rattle.model.specs.Lists.{◌∈◌, concat, filter, head_or, member, nodes}
use Rattle.model.specs.Graph.{max_classes, max_nodes}
use Rattle.model.specs.Summary.{position}
use Rattle.model.specs.Release.{end_record, head_record, superedge_record, u16}
use Rattle.model.specs.Reading.{Head, after_groups, groups_at, has_pair, superedges_at, u16_at}
use Rattle.model.specs.InOrder.{class_at, clique_at, file_by, follows, group_fits, groups_fit, in_order, marked_record, members_at, members_fit, members_in, pair_key, superedges_fit, told_groups, told_superedges}
use Rattle.model.proofs.TestLaws.{and_fst, and_snd, and_true, decide, differ, iff_eq, or_cases, or_left, or_none, or_right}
use Rattle.model.proofs.ListLaws.{Ascending, filter_ascending, filter_cong, filter_elim, filter_intro, length-filter, member_elim, member_intro, nodes_ascending, nodes_in_lem, nodes_out, pigeonhole, same_ascending}
use Rattle.model.proofs.TableLaws.{length-nodes}
use Rattle.model.proofs.ReleaseLaws.{length_superedge_records, one_of, parts_length}
use Rattle.model.proofs.ReadingLaws.{superedges_back, u16s_back, u16s-rest}

-- group records read back
marked_count : (g : Head × List ℕ) (r : List ℕ) → u16_at (marked_record g ++ r) 2 ≡ length g.1
unfolding marked_record u16_at u16
marked_count g r = omega arith

marked_body : (g : Head × List ℕ) (r : List ℕ) → drop 6 (marked_record g ++ r) ≡ concat (map u16 g.1) ++ r
unfolding marked_record u16
marked_body g r = refl

marked_mark : (g : Head × List ℕ) (r : List ℕ) → eqb (get_or (marked_record g ++ r) 1 0) 0x43 ≡ g.0.clique
unfolding marked_record
marked_mark g r = mark g.0.clique
  where
    mark : (q : Bool) → eqb (cond q 0x43 0x49) 0x43 ≡ q
    mark true = refl
    mark false = refl

marked_class : (g : Head × List ℕ) (r : List ℕ) → u16_at (marked_record g ++ r) 4 ≡ g.0.class
unfolding marked_record u16_at u16
marked_class g r = omega arith

marked_next : (g : Head × List ℕ) (r : List ℕ) → drop (2 * u16_at (marked_record g ++ r) 2) (drop 6 (marked_record g ++ r)) ≡ r
marked_next g r = rw (marked_count g r, marked_body g r) (u16s-rest g.1 r)

marked_back : (gs : List (Head × List ℕ)) (r : List ℕ) → groups_at (length gs) (concat (map marked_record gs) ++ r) ≡ gs
unfolding groups_at concat
marked_back [] r = refl
marked_back (g ∷ gs) r =
    rw (append_assoc (marked_record g) (concat (map marked_record gs)) r)
    (ap₂ ◌∷◌
    (ap₂ (λ (h : Head) (l : List ℕ). (h, l)) (ap₂ (λ (b : Bool) (k : ℕ). record { clique = b; class = k }) (marked_mark g rest) (marked_class g rest)) (rw (marked_count g rest, marked_body g rest) (u16s_back g.1 rest)))
    (ap (groups_at (length gs)) (marked_next g rest) ∙ marked_back gs r))
  where
    rest : List ℕ
    rest = concat (map marked_record gs) ++ r

marked_after : (gs : List (Head × List ℕ)) (r : List ℕ) → after_groups (length gs) (concat (map marked_record gs) ++ r) ≡ r
unfolding after_groups concat
marked_after [] r = refl
marked_after (g ∷ gs) r =
    rw (append_assoc (marked_record g) (concat (map marked_record gs)) r)
    (ap (after_groups (length gs)) (marked_next g (concat (map marked_record gs) ++ r)) ∙ marked_after gs r)

-- a file tells what it is made of
module _ (n : ℕ) (gs : List (Head × List ℕ)) (js : List (ℕ × ℕ)) where
  abbrev tail : List ℕ
  tail = concat (map superedge_record js) ++ end_record

  pub file_count : u16_at (file_by n gs js) 2 ≡ n
  unfolding file_by head_record u16_at u16
  file_count = omega arith

  file-groups : u16_at (file_by n gs js) 6 ≡ length gs
  unfolding file_by head_record u16_at u16
  file-groups = omega arith

  file-body : drop 8 (file_by n gs js) ≡ concat (map marked_record gs) ++ tail
  unfolding file_by head_record u16
  file-body = refl

  long : length js ≤ length (file_by n gs js)
  unfolding file_by head_record u16
  long = omega (arith, length-append (concat (map marked_record gs)) tail, length-append (concat (map superedge_record js)) end_record, length_superedge_records js)

  pub file_told_groups : told_groups (file_by n gs js) ≡ gs
  unfolding told_groups
  file_told_groups = ap₂ groups_at file-groups file-body ∙ marked_back gs tail

  pub file_told_superedges : told_superedges (file_by n gs js) ≡ js
  unfolding told_superedges
  file_told_superedges =
      ap (superedges_at (length (file_by n gs js))) (ap₂ after_groups file-groups file-body ∙ marked_after gs tail)
      ∙ superedges_back js (length (file_by n gs js)) long

-- the three parts of the order
pub in_order_parts : (n : ℕ) (gs : List (Head × List ℕ)) (js : List (ℕ × ℕ)) → in_order n gs js ≡ true → (n ≤ max_nodes) × (groups_fit n (λ p. false) 0 gs ≡ true) × (superedges_fit (length gs) 0 js ≡ true)
unfolding in_order
in_order_parts n gs js t =
    let r : (groups_fit n (λ p. false) 0 gs && superedges_fit (length gs) 0 js) ≡ true = and_snd (leb n max_nodes) _ t in
    (leb-true n max_nodes (and_fst (leb n max_nodes) _ t), and_fst (groups_fit n (λ p. false) 0 gs) _ r, and_snd (groups_fit n (λ p. false) 0 gs) _ r)

-- what members that fit are
pub record MembersFitting (n : ℕ) (taken : ℕ → Bool) (low : ℕ) (ms : List ℕ) : Type 0 where
  pub ascends : Ascending ms
  pub from_low : (p : ℕ) → p ∈ ms → low ≤ p
  pub below : (p : ℕ) → p ∈ ms → p < n
  pub free : (p : ℕ) → p ∈ ms → taken p ≡ false

module _ (n : ℕ) (taken : ℕ → Bool) where
  pub fitting_members : (low : ℕ) (ms : List ℕ) → MembersFitting n taken low ms → members_fit n taken low ms ≡ true
  unfolding members_fit
  fitting_members low [] f = refl
  fitting_members low (x ∷ xs) f =
      let m : x ∈ (x ∷ xs) = Memᴰ.head refl in
      and_true (le-leb low x (f.from_low x m)) (and_true (lt-ltb x n (f.below x m)) (and_true (ap not (f.free x m))
      (fitting_members (suc x) xs (record { ascends = f.ascends.1; from_low = f.ascends.0; below = λ p k. f.below p (Memᴰ.tail k); free = λ p k. f.free p (Memᴰ.tail k) }))))

  pub members_fitting : (low : ℕ) (ms : List ℕ) → members_fit n taken low ms ≡ true → MembersFitting n taken low ms
  unfolding members_fit
  members_fitting low [] t = record { ascends = tt; from_low = λ p m. absurd (Memᴰ.not-nil m); below = λ p m. absurd (Memᴰ.not-nil m); free = λ p m. absurd (Memᴰ.not-nil m) }
  members_fitting low (x ∷ xs) t =
      let more : MembersFitting n taken (suc x) xs = members_fitting (suc x) xs (and_snd (not (taken x)) _ after) in
      record {
        ascends = (more.from_low, more.ascends);
        from_low = λ p m. by (λ q. low ≤ q) p least (λ k. omega (arith, least, more.from_low p k)) (Memᴰ.cases_cons m);
        below = λ p m. by (λ q. q < n) p (ltb-true x n (and_fst (ltb x n) _ rest)) (more.below p) (Memᴰ.cases_cons m);
        free = λ p m. by (λ q. taken q ≡ false) p (not-true (taken x) (and_fst (not (taken x)) _ after)) (more.free p) (Memᴰ.cases_cons m);
      }
    where
      rest : (ltb x n && (not (taken x) && members_fit n taken (suc x) xs)) ≡ true
      rest = and_snd (leb low x) _ t

      after : (not (taken x) && members_fit n taken (suc x) xs) ≡ true
      after = and_snd (ltb x n) _ rest

      least : low ≤ x
      least = leb-true low x (and_fst (leb low x) _ t)

      by : (P : ℕ → Type 0) (p : ℕ) → P x → (p ∈ xs → P p) → (p ≡ x) ⊎ (p ∈ xs) → P p
      by P p h k (inl q) = rw q h
      by P p h k (inr m) = k m

size_one : (c : Bool) (k : ℕ) → cond c 2 1 ≤ k → 1 ≤ k
size_one true k h = omega arith
size_one false k h = h

head_in : (ms : List ℕ) → 1 ≤ length ms → head_or 0 ms ∈ ms
head_in [] h = absurd (omega arith)
head_in (x ∷ xs) h = Memᴰ.head refl

-- a group that fits, at its position
module _ (n : ℕ) where
  group-fitting : (taken : ℕ → Bool) (low : ℕ) (g : Head × List ℕ) → group_fits n taken low g ≡ true → MembersFitting n taken low g.1 × (cond g.0.clique 2 1 ≤ length g.1)
  unfolding group_fits
  group-fitting taken low g t =
      let s = and_snd (ltb g.0.class max_classes) _ t in
      let size = leb (cond g.0.clique 2 1) (length g.1) in
      (members_fitting n taken low g.1 (and_snd size _ s), leb-true (cond g.0.clique 2 1) (length g.1) (and_fst size _ s))

  pub class_at_lem : (taken : ℕ → Bool) (low : ℕ) (gs : List (Head × List ℕ)) → groups_fit n taken low gs ≡ true → (i : ℕ) → i < length gs → class_at gs i < max_classes
  unfolding groups_fit group_fits class_at
  class_at_lem taken low [] t i l = absurd (omega arith)
  class_at_lem taken low (g ∷ gs) t zero l = ltb-true g.0.class max_classes (and_fst (ltb g.0.class max_classes) _ (and_fst (group_fits n taken low g) _ t))
  class_at_lem taken low (g ∷ gs) t (suc i) l = class_at_lem (λ p. member p g.1 || taken p) (suc (head_or 0 g.1)) gs (and_snd (group_fits n taken low g) _ t) i (omega arith)

  pub fits_at : (taken : ℕ → Bool) (low : ℕ) (gs : List (Head × List ℕ)) → groups_fit n taken low gs ≡ true → (i : ℕ) → i < length gs → MembersFitting n taken low (members_at gs i) × (cond (clique_at gs i) 2 1 ≤ length (members_at gs i))
  unfolding groups_fit members_at clique_at
  fits_at taken low [] t i l = absurd (omega arith)
  fits_at taken low (g ∷ gs) t zero l = group-fitting taken low g (and_fst (group_fits n taken low g) _ t)
  fits_at taken low (g ∷ gs) t (suc i) l = step (fits_at (λ p. member p g.1 || taken p) (suc (head_or 0 g.1)) gs (and_snd (group_fits n taken low g) _ t) i (omega arith)) (group-fitting taken low g (and_fst (group_fits n taken low g) _ t))
    where
      step : MembersFitting n (λ p. member p g.1 || taken p) (suc (head_or 0 g.1)) (members_at gs i) × (cond (clique_at gs i) 2 1 ≤ length (members_at gs i)) → MembersFitting n taken low g.1 × (cond g.0.clique 2 1 ≤ length g.1) → MembersFitting n taken low (members_at gs i) × (cond (clique_at gs i) 2 1 ≤ length (members_at gs i))
      step f h = (
        record {
          ascends = f.0.ascends;
          from_low = λ p m. omega (arith, f.0.from_low p m, h.0.from_low (head_or 0 g.1) (head_in g.1 (size_one g.0.clique (length g.1) h.1)));
          below = f.0.below;
          free = λ p m. (or_none (member p g.1) (taken p) (f.0.free p m)).1;
        },
        f.1,
      )

  -- what comes later has no member of a group, and members above its first
  later : (taken : ℕ → Bool) (low : ℕ) (gs : List (Head × List ℕ)) → groups_fit n taken low gs ≡ true → (i j p : ℕ) → i < j → j < length gs → p ∈ members_at gs j → (p ∈ members_at gs i → ⊥) × (head_or 0 (members_at gs i) < p)
  unfolding groups_fit members_at
  later taken low [] t i j p l h m = absurd (omega arith)
  later taken low (g ∷ gs) t i zero p l h m = absurd (omega arith)
  later taken low (g ∷ gs) t zero (suc j) p l h m =
      let f = (fits_at (λ p. member p g.1 || taken p) (suc (head_or 0 g.1)) gs (and_snd (group_fits n taken low g) _ t) j (omega arith)).0 in
      (λ k. differ (member_intro p g.1 k) (or_none (member p g.1) (taken p) (f.free p m)).0, f.from_low p m)
  later taken low (g ∷ gs) t (suc i) (suc j) p l h m = later (λ p. member p g.1 || taken p) (suc (head_or 0 g.1)) gs (and_snd (group_fits n taken low g) _ t) i j p (omega arith) (omega arith) m

-- a node's position is the first of a group that has it
pub position-member : (p : ℕ) (gs : List (List ℕ)) → position p gs < length gs → p ∈ get_or gs (position p gs) []
unfolding position
position-member p [] l = absurd (omega arith)
position-member p (g ∷ gs) l = step (member p g) refl l (position-member p gs)
  where
    step : (b : Bool) → member p g ≡ b → cond b 0 (suc (position p gs)) < suc (length gs) → (position p gs < length gs → p ∈ get_or gs (position p gs) []) → p ∈ get_or (g ∷ gs) (cond b 0 (suc (position p gs))) []
    step true t h below = member_elim p g t
    step false t h below = below (omega arith)

pub position-le : (p : ℕ) (gs : List (List ℕ)) (i : ℕ) → i < length gs → p ∈ get_or gs i [] → position p gs ≤ i
unfolding position
position-le p [] i l m = absurd (omega arith)
position-le p (g ∷ gs) zero l m = rw (member_intro p g m) (omega arith)
position-le p (g ∷ gs) (suc i) l m = step (member p g) (position-le p gs i (omega arith) m)
  where
    step : (b : Bool) → position p gs ≤ i → cond b 0 (suc (position p gs)) ≤ suc i
    step true h = omega arith
    step false h = omega arith

abbrev pub place_of : List (Head × List ℕ) → ℕ → ℕ
place_of gs p = position p (map (λ g. g.1) gs)

length_members : (gs : List (Head × List ℕ)) → length (map (λ (g : Head × List ℕ). g.1) gs) ≡ length gs
length_members gs = length-map gs (λ g. g.1)

-- groups that fit
module _ (n : ℕ) (gs : List (Head × List ℕ)) (fits : groups_fit n (λ p. false) 0 gs ≡ true) where
  fitting : (i : ℕ) → i < length gs → MembersFitting n (λ p. false) 0 (members_at gs i)
  fitting i l = (fits_at n (λ p. false) 0 gs fits i l).0

  pub members_ascend : (i : ℕ) → i < length gs → Ascending (members_at gs i)
  members_ascend i l = (fitting i l).ascends

  pub members_below : (i p : ℕ) → i < length gs → p ∈ members_at gs i → p < n
  members_below i p l m = (fitting i l).below p m

  pub clique_two : (i : ℕ) → i < length gs → clique_at gs i ≡ true → 2 ≤ length (members_at gs i)
  clique_two i l t = rw t at (fits_at n (λ p. false) 0 gs fits i l).1

  pub members_one : (i : ℕ) → i < length gs → 1 ≤ length (members_at gs i)
  members_one i l = size_one (clique_at gs i) (length (members_at gs i)) (fits_at n (λ p. false) 0 gs fits i l).1

  pub first_in : (i : ℕ) → i < length gs → head_or 0 (members_at gs i) ∈ members_at gs i
  first_in i l = head_in (members_at gs i) (members_one i l)

  pub in_one : (p i j : ℕ) → i < length gs → j < length gs → p ∈ members_at gs i → p ∈ members_at gs j → i ≡ j
  in_one p i j a b x y = step (decide (ltb i j)) (decide (ltb j i))
    where
      step : (ltb i j ≡ true) ⊎ (ltb i j ≡ false) → (ltb j i ≡ true) ⊎ (ltb j i ≡ false) → i ≡ j
      step (inl t) u = absurd ((later n (λ p. false) 0 gs fits i j p (ltb-true i j t) b y).0 x)
      step (inr t) (inl u) = absurd ((later n (λ p. false) 0 gs fits j i p (ltb-true j i u) a x).0 y)
      step (inr t) (inr u) = omega (arith, ltb-false i j t, ltb-false j i u)

  pub firsts_ascend : (i j : ℕ) → i < j → j < length gs → head_or 0 (members_at gs i) < head_or 0 (members_at gs j)
  firsts_ascend i j l h = (later n (λ p. false) 0 gs fits i j (head_or 0 (members_at gs j)) l h (first_in j h)).1

  pub place_of_lem : (i p : ℕ) → i < length gs → p ∈ members_at gs i → place_of gs p ≡ i
  unfolding members_at
  place_of_lem i p l m =
      let le : place_of gs p ≤ i = position-le p (map (λ g. g.1) gs) i (omega (arith, length_members gs)) m in
      in_one p (place_of gs p) i (omega arith) l (position-member p (map (λ g. g.1) gs) (omega (arith, length_members gs))) m

  pub place_in : (p : ℕ) → place_of gs p < length gs → p ∈ members_at gs (place_of gs p)
  unfolding members_at
  place_in p l = position-member p (map (λ g. g.1) gs) (omega (arith, length_members gs))

  -- there are no more groups than nodes
  pub groups_few : length gs ≤ n
  groups_few =
      omega (
        arith,
        pigeonhole (nodes (length gs)) (λ i. head_or 0 (members_at gs i)) (nodes n) (nodes_ascending (length gs)) into apart,
        length-nodes (length gs),
        length-nodes n,
      )
    where
      into : (i : ℕ) → i ∈ nodes (length gs) → head_or 0 (members_at gs i) ∈ nodes n
      into i m = let l = nodes_out (length gs) i m in nodes_in_lem n (head_or 0 (members_at gs i)) (members_below i (head_or 0 (members_at gs i)) l (first_in i l))

      apart : (i j : ℕ) → i ∈ nodes (length gs) → j ∈ nodes (length gs) → head_or 0 (members_at gs i) ≡ head_or 0 (members_at gs j) → i ≡ j
      apart i j mi mj q = let a = nodes_out (length gs) i mi in let b = nodes_out (length gs) j mj in in_one (head_or 0 (members_at gs i)) i j a b (first_in i a) (rw q (first_in j b))

-- what superedges in order are
follows_out : (g last i j : ℕ) → follows g last i j ≡ true → (i < j) × (j < g) × (last < pair_key i j)
unfolding follows
follows_out g last i j t =
    let r : (ltb j g && ltb last (pair_key i j)) ≡ true = and_snd (ltb i j) _ t in
    (ltb-true i j (and_fst (ltb i j) _ t), ltb-true j g (and_fst (ltb j g) _ r), ltb-true last (pair_key i j) (and_snd (ltb j g) _ r))

pair_is : (x : ℕ × ℕ) (i j : ℕ) → (eqb x.0 i && eqb x.1 j) ≡ true → (x.0 ≡ i) × (x.1 ≡ j)
pair_is x i j t = (eqb-true x.0 i (and_fst (eqb x.0 i) _ t), eqb-true x.1 j (and_snd (eqb x.0 i) _ t))

pub pair_fits : (g last : ℕ) (js : List (ℕ × ℕ)) → superedges_fit g last js ≡ true → (i j : ℕ) → has_pair js i j ≡ true → (i < j) × (j < g) × (last < pair_key i j)
unfolding superedges_fit has_pair
pair_fits g last [] o i j t = differ t refl
pair_fits g last (x ∷ xs) o i j t = step (pair_fits g (pair_key x.0 x.1) xs (and_snd (follows g last x.0 x.1) _ o) i j) (or_cases (eqb x.0 i && eqb x.1 j) (has_pair xs i j) t)
  where
    first : (x.0 < x.1) × (x.1 < g) × (last < pair_key x.0 x.1)
    first = follows_out g last x.0 x.1 (and_fst (follows g last x.0 x.1) _ o)

    step : (has_pair xs i j ≡ true → (i < j) × (j < g) × (pair_key x.0 x.1 < pair_key i j)) → ((eqb x.0 i && eqb x.1 j) ≡ true) ⊎ (has_pair xs i j ≡ true) → (i < j) × (j < g) × (last < pair_key i j)
    step below (inl y) = let e = pair_is x i j y in rw (e.0, e.1) at first
    step below (inr y) = let r = below y in (r.0, r.1, omega (arith, r.2, first.2))

key_one : (i j k l : ℕ) → j < 65536 → l < 65536 → pair_key i j ≡ pair_key k l → (i ≡ k) × (j ≡ l)
unfolding pair_key
key_one i j k l a b e = (omega arith, omega arith)

-- superedges in order are one list if they are the same pairs
module _ (g : ℕ) (few : g ≤ 65536) where
  first-least : (last : ℕ) (x : ℕ × ℕ) (xs : List (ℕ × ℕ)) → superedges_fit g last (x ∷ xs) ≡ true → (i j : ℕ) → has_pair (x ∷ xs) i j ≡ true → pair_key x.0 x.1 ≤ pair_key i j
  unfolding superedges_fit has_pair
  first-least last x xs o i j t = step (or_cases (eqb x.0 i && eqb x.1 j) (has_pair xs i j) t)
    where
      step : ((eqb x.0 i && eqb x.1 j) ≡ true) ⊎ (has_pair xs i j ≡ true) → pair_key x.0 x.1 ≤ pair_key i j
      step (inl y) = let e = pair_is x i j y in rw (e.0, e.1) (omega arith)
      step (inr y) = omega (arith, (pair_fits g (pair_key x.0 x.1) xs (and_snd (follows g last x.0 x.1) _ o) i j y).2)

  first-has : (x : ℕ × ℕ) (xs : List (ℕ × ℕ)) → has_pair (x ∷ xs) x.0 x.1 ≡ true
  unfolding has_pair
  first-has x xs = or_left (has_pair xs x.0 x.1) (and_true (eq-eqb x.0 x.0 refl) (eq-eqb x.1 x.1 refl))

  rest_has : (last : ℕ) (x y : ℕ × ℕ) (xs ys : List (ℕ × ℕ)) → superedges_fit g last (x ∷ xs) ≡ true → x ≡ y → ((i j : ℕ) → has_pair (x ∷ xs) i j ≡ true → has_pair (y ∷ ys) i j ≡ true) → (i j : ℕ) → has_pair xs i j ≡ true → has_pair ys i j ≡ true
  unfolding superedges_fit has_pair
  rest_has last x y xs ys o e f i j t = step (or_cases (eqb y.0 i && eqb y.1 j) (has_pair ys i j) (f i j (or_right (eqb x.0 i && eqb x.1 j) t)))
    where
      after : pair_key x.0 x.1 < pair_key i j
      after = (pair_fits g (pair_key x.0 x.1) xs (and_snd (follows g last x.0 x.1) _ o) i j t).2

      step : ((eqb y.0 i && eqb y.1 j) ≡ true) ⊎ (has_pair ys i j ≡ true) → has_pair ys i j ≡ true
      step (inl k) =
          let s = pair_is y i j k in
          let z : pair_key x.0 x.1 ≡ pair_key i j = ap₂ pair_key (ap (λ (w : ℕ × ℕ). w.0) e ∙ s.0) (ap (λ (w : ℕ × ℕ). w.1) e ∙ s.1) in
          absurd (omega (arith, after))
      step (inr k) = k

  pub same_pairs : (l m : ℕ) (xs ys : List (ℕ × ℕ)) → superedges_fit g l xs ≡ true → superedges_fit g m ys ≡ true → ((i j : ℕ) → has_pair xs i j ≡ true → has_pair ys i j ≡ true) → ((i j : ℕ) → has_pair ys i j ≡ true → has_pair xs i j ≡ true) → xs ≡ ys
  same_pairs l m [] [] a b f h = refl
  same_pairs l m [] (y ∷ ys) a b f h = differ (h y.0 y.1 (first-has y ys)) (unfold has_pair in refl)
  same_pairs l m (x ∷ xs) [] a b f h = differ (f x.0 x.1 (first-has x xs)) (unfold has_pair in refl)
  same_pairs l m (x ∷ xs) (y ∷ ys) a b f h =
      ap₂ ◌∷◌ same (same_pairs (pair_key x.0 x.1) (pair_key y.0 y.1) xs ys (rest l x xs a) (rest m y ys b) (rest_has l x y xs ys a same f) (rest_has m y x ys xs b (sym same) h))
    where
      rest : (k : ℕ) (z : ℕ × ℕ) (zs : List (ℕ × ℕ)) → superedges_fit g k (z ∷ zs) ≡ true → superedges_fit g (pair_key z.0 z.1) zs ≡ true
      rest k z zs t = unfold superedges_fit in and_snd (follows g k z.0 z.1) _ t

      key : pair_key x.0 x.1 ≡ pair_key y.0 y.1
      key = omega (arith, first-least l x xs a y.0 y.1 (h y.0 y.1 (first-has y ys)), first-least m y ys b x.0 x.1 (f x.0 x.1 (first-has x xs)))

      same : x ≡ y
      same =
          let p = pair_fits g l (x ∷ xs) a x.0 x.1 (first-has x xs) in
          let q = pair_fits g m (y ∷ ys) b y.0 y.1 (first-has y ys) in
          let e = key_one x.0 x.1 y.0 y.1 (omega (arith, p.1)) (omega (arith, q.1)) key in
          ap₂ (λ (s t : ℕ). (s, t)) e.0 e.1

-- the first members of the groups
abbrev pub firsts : List (Head × List ℕ) → List ℕ
firsts gs = map (λ g. head_or 0 g.1) gs

pub firsts_in : (gs : List (Head × List ℕ)) (i : ℕ) → i < length gs → head_or 0 (members_at gs i) ∈ firsts gs
unfolding members_at
firsts_in [] i l = absurd (omega arith)
firsts_in (g ∷ gs) zero l = Memᴰ.head refl
firsts_in (g ∷ gs) (suc i) l = Memᴰ.tail (firsts_in gs i (omega arith))

pub firsts_out : (gs : List (Head × List ℕ)) (p : ℕ) → p ∈ firsts gs → (i : ℕ) × (i < length gs) × (p ≡ head_or 0 (members_at gs i))
unfolding members_at
firsts_out [] p m = absurd (Memᴰ.not-nil m)
firsts_out (g ∷ gs) p m = step (firsts_out gs p) (Memᴰ.cases_cons m)
  where
    step : (p ∈ firsts gs → (i : ℕ) × (i < length gs) × (p ≡ head_or 0 (members_at gs i))) → (p ≡ head_or 0 g.1) ⊎ (p ∈ firsts gs) → (i : ℕ) × (i < suc (length gs)) × (p ≡ head_or 0 (members_at (g ∷ gs) i))
    step below (inl z) = (0, omega arith, z)
    step below (inr k) = let r = below k in (suc r.0, omega (arith, r.1), r.2)

pub firsts_ascending : (gs : List (Head × List ℕ)) → ((i j : ℕ) → i < j → j < length gs → head_or 0 (members_at gs i) < head_or 0 (members_at gs j)) → Ascending (firsts gs)
unfolding members_at
firsts_ascending [] h = tt
firsts_ascending (g ∷ gs) h = (
  λ q m. let r = firsts_out gs q m in omega (arith, r.2, h 0 (suc r.0) (omega arith) (omega (arith, r.1))),
  firsts_ascending gs (λ i j l k. h (suc i) (suc j) (omega arith) (omega arith)),
)

-- groups by their first members, and by their members
pub groups_by_firsts : (M : ℕ → List ℕ) (gs : List (Head × List ℕ)) → ((i : ℕ) → i < length gs → M (head_or 0 (members_at gs i)) ≡ members_at gs i) → map M (firsts gs) ≡ map (λ g. g.1) gs
unfolding members_at
groups_by_firsts M [] h = refl
groups_by_firsts M (g ∷ gs) h = ap₂ ◌∷◌ (h 0 (omega arith)) (groups_by_firsts M gs (λ i l. h (suc i) (omega arith)))

pub groups_by_members : (C : List ℕ → Bool) (K : List ℕ → ℕ) (gs : List (Head × List ℕ)) → ((i : ℕ) → i < length gs → C (members_at gs i) ≡ clique_at gs i) → ((i : ℕ) → i < length gs → K (members_at gs i) ≡ class_at gs i)
    → map (λ (l : List ℕ). (record { clique = C l; class = K l }, l)) (map (λ g. g.1) gs) ≡ gs
unfolding members_at clique_at class_at
groups_by_members C K [] h k = refl
groups_by_members C K (g ∷ gs) h k = ap₂ ◌∷◌ (ap₂ (λ (b : Bool) (x : ℕ). (record { clique = b; class = x }, g.1)) (h 0 (omega arith)) (k 0 (omega arith))) (groups_by_members C K gs (λ i l. h (suc i) (omega arith)) (λ i l. k (suc i) (omega arith)))

-- the groups hold each node once, so there are no more members than nodes
module _ (n : ℕ) (gs : List (Head × List ℕ)) (fits : groups_fit n (λ p. false) 0 gs ≡ true) where
  abbrev in_group : ℕ → Bool
  in_group p = ltb (place_of gs p) (length gs)

  abbrev same_group : ℕ → ℕ → Bool
  same_group p q = eqb (place_of gs p) (place_of gs q)

  pub count_members : length (members_in gs) ≡ length (filter (λ p. ltb (place_of gs p) (length gs)) (nodes n))
  unfolding members_in
  count_members = ap (λ (l : List (List ℕ)). length (concat l)) (sym (groups_by_firsts (λ l. filter (same_group l) vs) gs same)) ∙ parts_length same_group vs (firsts gs) one
    where
      vs : List ℕ
      vs = filter in_group (nodes n)

      first : ℕ → ℕ
      first i = head_or 0 (members_at gs i)

      place_first : (i : ℕ) → i < length gs → place_of gs (first i) ≡ i
      place_first i l = place_of_lem n gs fits i (first i) l (first_in n gs fits i l)

      same : (i : ℕ) → i < length gs → filter (same_group (first i)) vs ≡ members_at gs i
      same i l = same_ascending (filter (same_group (first i)) vs) (members_at gs i) (filter_ascending (same_group (first i)) vs (filter_ascending in_group (nodes n) (nodes_ascending n))) (members_ascend n gs fits i l) there back
        where
          there : (p : ℕ) → p ∈ filter (same_group (first i)) vs → p ∈ members_at gs i
          there p m =
              let o = filter_elim (same_group (first i)) vs p m in
              let e : place_of gs p ≡ i = sym (eqb-true (place_of gs (first i)) (place_of gs p) o.1) ∙ place_first i l in
              rw e at (place_in n gs fits p (omega arith))

          back : (p : ℕ) → p ∈ members_at gs i → p ∈ filter (same_group (first i)) vs
          back p m =
              let e = place_of_lem n gs fits i p l m in
              filter_intro (same_group (first i)) vs p (filter_intro in_group (nodes n) p (nodes_in_lem n p (members_below n gs fits i p l m)) (lt-ltb (place_of gs p) (length gs) (omega arith))) (eq-eqb (place_of gs (first i)) (place_of gs p) (place_first i l ∙ sym e))

      one : (p : ℕ) → p ∈ vs → length (filter (λ l. same_group l p) (firsts gs)) ≡ 1
      one p m =
          let i : ℕ = place_of gs p in
          let l = ltb-true i (length gs) (filter_elim in_group (nodes n) p m).1 in
          ap length (filter_cong (λ x. same_group x p) (eqb (first i)) (firsts gs) (λ x k. alike x i l (firsts_out gs x k)))
          ∙ one_of (first i) (firsts gs) (firsts_ascending gs (firsts_ascend n gs fits)) (firsts_in gs i l)
        where
          alike : (x i : ℕ) → i < length gs → (j : ℕ) × (j < length gs) × (x ≡ first j) → eqb (place_of gs x) i ≡ eqb (first i) x
          alike x i l j =
              let e : place_of gs x ≡ j.0 = ap (place_of gs) j.2 ∙ place_first j.0 j.1 in
              iff_eq (eqb (place_of gs x) i) (eqb (first i) x)
              (λ t. eq-eqb (first i) x (ap first (sym (eqb-true (place_of gs x) i t) ∙ e) ∙ sym j.2))
              (λ t. eq-eqb (place_of gs x) i (ap (place_of gs) (sym (eqb-true (first i) x t)) ∙ place_first i l))

  pub members_few : length (members_in gs) ≤ n
  members_few = omega (arith, count_members, length-filter in_group (nodes n), length-nodes n)
