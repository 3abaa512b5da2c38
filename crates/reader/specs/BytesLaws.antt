-- An accepted file has the bytes of what it tells, in order, and no others.
use Rattle.std.proofs.Math.Path.{◌≡◌, refl, sym, ap, ap₂, subst}
use Rattle.std.proofs.Common.{◌∙◌, inl, inr, length-append, drop-drop, get_or-drop}
use Rattle.std.specs.Prelude.{Bool, not, ◌&&◌, ◌||◌, ◌⊎◌, eqb, ltb, get_or, Option, Some, None, option_and_then}
use Rattle.std.proofs.lemmas.Option.{none-some, same_Some}
use Rattle.std.proofs.Math.Bool.{true, false, cond}
use mathlib.Core.List.{List, [], ◌∷◌, ◌++◌, map, append_assoc}
use Prim.Native.Nat.{ℕ, zero, suc, ◌+◌, ◌*◌, ◌-◌, ◌≤◌}
use native.Mathlib.Omega.{arith}
use Rattle.std.proofs.Math.Dec.{leb}
use Rattle.std.proofs.Math.ListN.{length, drop, length-drop, drop_of_length-le}
use borrow.Author.Tests.{eqb-true, eqb-false, ltb-false, leb-true, le-leb}
use Rattle.model.specs.Lists.{concat, head_or, member}
use Rattle.model.specs.Graph.{max_classes, max_nodes}
use Rattle.model.specs.Release.{end_record, head_record, superedge_record, u16}
use Rattle.model.specs.Reading.{is_mark, u16_at, u16s}
use Rattle.model.specs.Reading as reading
use Rattle.model.specs.InOrder.{file_by, follows, group_fits, groups_fit, in_order, marked_record, members_fit, members_in, pair_key, superedges_fit, told_groups, told_superedges}
use Rattle.model.proofs.TestLaws.{and_fst, and_snd, and_true, decide, differ}
use Rattle.model.proofs.InOrderLaws.{file_count, file_told_groups, file_told_superedges}
use Rattle.records.specs.declared.Counts.{Counts}
use Rattle.records.specs.declared.Record.{Record}
use Rattle.records.specs.declared.Record.TheVariants.{Head, Group, Superedge, End}
use Rattle.records.specs.Records.{group_item, head_item, if_whole, item_in, less_group, less_member, spent, superedge_item}
use Rattle.records.specs.RecordLaws.{u16-drop}
use Rattle.compressed.specs.Compressed.{kind_marked}
use Rattle.reader.specs.declared.Taken.{Taken}
use Rattle.reader.specs.declared.Rest.{Rest}
use Rattle.reader.specs.Decoding.{accepted, body_fits, count_at, counts_fit, ends_at, group_by, group_taken, groups_read, least_count, listed_at, members_read, numbers_at, on_end, on_head, on_superedge, on_whole, stop_at}
use Rattle.reader.specs.Bytes.{Bytes}
use Rattle.reader.specs.GroupLaws.{length-numbers}

bytes_after_lem : (s : List ℕ) (at : ℕ) → Bytes s → Bytes (drop at s)
bytes_after_lem s at b i = rw (get_or-drop at s i 0) (b (at + i))

-- two bytes at a place, and the number that they are
two : (r : List ℕ) (i : ℕ) → i + 2 ≤ length r → drop i r ≡ get_or r i 0 ∷ get_or r (suc i) 0 ∷ drop (suc (suc i)) r
two [] i h = absurd (omega arith)
two (x ∷ []) zero h = absurd (omega arith)
two (x ∷ y ∷ r) zero h = refl
two (x ∷ r) (suc i) h = two r i (omega arith)

number : (r : List ℕ) (i : ℕ) → Bytes r → i + 2 ≤ length r → drop i r ≡ u16 (u16_at r i) ++ drop (suc (suc i)) r
unfolding u16 u16_at
number r i b h = two r i h ∙ ap₂ (λ (x y : ℕ). x ∷ y ∷ drop (suc (suc i)) r) (omega (arith, b i, b (suc i))) (omega (arith, b i, b (suc i)))

numbers : (k : ℕ) (r : List ℕ) → Bytes r → 2 * k ≤ length r → r ≡ concat (map u16 (u16s k r)) ++ drop (2 * k) r
unfolding u16s concat
numbers zero r b h = refl
numbers (suc k) r b h =
    let e : 2 + 2 * k ≡ 2 * suc k = omega arith in
    number r 0 b (omega arith)
    ∙ ap (λ (x : List ℕ). u16 (u16_at r 0) ++ x) (numbers k (drop 2 r) (bytes_after_lem r 2 b) (omega (arith, length-drop 2 r)) ∙ ap (λ (x : List ℕ). concat (map u16 (u16s k (drop 2 r))) ++ x) (drop-drop (2 * k) 2 r ∙ ap (λ (x : ℕ). drop x r) e))
    ∙ sym (append_assoc (u16 (u16_at r 0)) (concat (map u16 (u16s k (drop 2 r)))) (drop (2 * suc k) r))

-- a record that was read is written at the front of the bytes
abbrev Written : List ℕ → Option Record → Type 0
Written r (Some (Head n m g)) = r ≡ head_record n m g ++ drop 8 r
Written r (Some (Group q count class)) = r ≡ 0x47 ∷ cond q 0x43 0x49 ∷ (u16 count ++ (u16 class ++ drop 6 r))
Written r (Some (Superedge i j)) = r ≡ superedge_record (i, j) ++ drop 6 r
Written r (Some End) = r ≡ end_record ++ drop 2 r
Written r None = Unit {0}

whole-written : (r : List ℕ) (size : ℕ) (i : Record) → (size ≤ length r → Written r (Some i)) → Written r (if_whole r size i)
unfolding if_whole
whole-written r size i f = step (decide (leb size (length r)))
  where
    step : (leb size (length r) ≡ true) ⊎ (leb size (length r) ≡ false) → Written r (cond (leb size (length r)) (Some i) None)
    step (inl t) = rw t (f (leb-true size (length r) t))
    step (inr t) = rw t tt

cond-written : (r : List ℕ) (t : Bool) (i j : Option Record) → (t ≡ true → Written r i) → (t ≡ false → Written r j) → Written r (cond t i j)
cond-written r true i j f g = f refl
cond-written r false i j f g = g refl

module _ (r : List ℕ) (b : Bytes r) where
  marked : (x y : ℕ) → is_mark r x y ≡ true → 2 ≤ length r → r ≡ x ∷ y ∷ drop 2 r
  unfolding is_mark
  marked x y t h = two r 0 h ∙ ap₂ (λ (u v : ℕ). u ∷ v ∷ drop 2 r) (eqb-true (get_or r 0 0) x (and_fst (eqb (get_or r 0 0) x) (eqb (get_or r 1 0) y) t)) (eqb-true (get_or r 1 0) y (and_snd (eqb (get_or r 0 0) x) (eqb (get_or r 1 0) y) t))

  head-written : is_mark r 0x48 0x44 ≡ true → 8 ≤ length r → r ≡ head_record (u16_at r 2) (u16_at r 4) (u16_at r 6) ++ drop 8 r
  unfolding head_record u16
  head-written t h =
      marked 0x48 0x44 t (omega arith)
      ∙ ap (λ (x : List ℕ). 0x48 ∷ 0x44 ∷ x) (number r 2 b (omega arith) ∙ ap (λ (x : List ℕ). u16 (u16_at r 2) ++ x) (number r 4 b (omega arith) ∙ ap (λ (x : List ℕ). u16 (u16_at r 4) ++ x) (number r 6 b (omega arith))))

  group-written : (y : ℕ) → is_mark r 0x47 y ≡ true → 6 ≤ length r → r ≡ 0x47 ∷ y ∷ (u16 (u16_at r 2) ++ (u16 (u16_at r 4) ++ drop 6 r))
  group-written y t h = marked 0x47 y t (omega arith) ∙ ap (λ (x : List ℕ). 0x47 ∷ y ∷ x) (number r 2 b (omega arith) ∙ ap (λ (x : List ℕ). u16 (u16_at r 2) ++ x) (number r 4 b (omega arith)))

  superedge-written : is_mark r 0x53 0x45 ≡ true → 6 ≤ length r → r ≡ superedge_record (u16_at r 2, u16_at r 4) ++ drop 6 r
  unfolding superedge_record u16
  superedge-written t h = marked 0x53 0x45 t (omega arith) ∙ ap (λ (x : List ℕ). 0x53 ∷ 0x45 ∷ x) (number r 2 b (omega arith) ∙ ap (λ (x : List ℕ). u16 (u16_at r 2) ++ x) (number r 4 b (omega arith)))

  end-written : is_mark r 0x45 0x4E ≡ true → 2 ≤ length r → r ≡ end_record ++ drop 2 r
  unfolding end_record
  end-written t h = marked 0x45 0x4E t h

  item-written : Written r (item_in r)
  unfolding item_in superedge_item group_item head_item
  item-written =
      cond-written r (ltb (length r) 2) None _ (λ t. tt) (λ room.
      cond-written r (is_mark r 0x53 0x45) (superedge_item r) _ (λ t. whole-written r 6 (Superedge (u16_at r 2) (u16_at r 4)) (superedge-written t)) (λ _.
      cond-written r (is_mark r 0x47 0x49) (group_item false r) _ (λ t. whole-written r 6 (Group false (u16_at r 2) (u16_at r 4)) (group-written 0x49 t)) (λ _.
      cond-written r (is_mark r 0x47 0x43) (group_item true r) _ (λ t. whole-written r 6 (Group true (u16_at r 2) (u16_at r 4)) (group-written 0x43 t)) (λ _.
      cond-written r (is_mark r 0x48 0x44) (head_item r) _ (λ t. whole-written r 8 (Head (u16_at r 2) (u16_at r 4) (u16_at r 6)) (head-written t)) (λ _.
      cond-written r (is_mark r 0x45 0x4E) (Some End) None (λ t. end-written t (ltb-false (length r) 2 room)) (λ _. tt))))))

-- members that were taken fit, and are counted
members_counted : (n : ℕ) (f : ℕ → Bool) (ms : List ℕ) (low : ℕ) (c d : Counts) → members_read n f low c ms ≡ Some d → (members_fit n f low ms ≡ true) × (c.members ≡ length ms + d.members)
unfolding members_read members_fit
members_counted n f [] low c d e = let g : c ≡ d = same_Some c d e in (refl, omega (arith, ap (λ (x : Counts). x.members) g))
members_counted n f (x ∷ xs) low c d e = fits (members_counted n f xs (suc x)) (decide (leb low x && (ltb x n && not (f x)))) e
  where
    Below : Type 0
    Below = (y z : Counts) → members_read n f (suc x) y xs ≡ Some z → (members_fit n f (suc x) xs ≡ true) × (y.members ≡ length xs + z.members)

    Goal : Type 0
    Goal = ((leb low x && (ltb x n && (not (f x) && members_fit n f (suc x) xs))) ≡ true) × (c.members ≡ suc (length xs) + d.members)

    none : {X : Type 0} → None ≡ Some d → X
    none g = absurd (none-some d g)

    one : Below → (leb low x && (ltb x n && not (f x))) ≡ true → (eqb c.members 0 ≡ true) ⊎ (eqb c.members 0 ≡ false) → option_and_then (λ y. members_read n f (suc x) y xs) (cond (eqb c.members 0) None (Some (record { members = c.members - 1; groups = c.groups }))) ≡ Some d → Goal
    one below t (inl u) g = none (rw u at g)
    one below t (inr u) g =
        let more = below (record { members = c.members - 1; groups = c.groups }) d (rw u at g) in
        let v : (ltb x n && not (f x)) ≡ true = and_snd (leb low x) _ t in
        (and_true (and_fst (leb low x) _ t) (and_true (and_fst (ltb x n) _ v) (and_true (and_snd (ltb x n) _ v) more.0)), omega (arith, eqb-false c.members 0 u, more.1))

    fits : Below → ((leb low x && (ltb x n && not (f x))) ≡ true) ⊎ ((leb low x && (ltb x n && not (f x))) ≡ false) → cond (leb low x && (ltb x n && not (f x))) (option_and_then (λ y. members_read n f (suc x) y xs) (less_member c)) None ≡ Some d → Goal
    fits below (inl t) g = one below t (decide (eqb c.members 0)) (unfold less_member in rw t at g)
    fits below (inr t) g = none (rw t at g)

-- the count in a group record, and its first number
group-count : (r : List ℕ) (q : Bool) (count class : ℕ) → Written r (Some (Group q count class)) → count ≡ u16_at r 2
group-count r q count class w = sym (ap (λ (x : List ℕ). u16_at x 2) w ∙ back)
  where
    back : u16_at (0x47 ∷ cond q 0x43 0x49 ∷ (u16 count ++ (u16 class ++ drop 6 r))) 2 ≡ count
    back = unfold u16_at u16 in omega arith

length-listed : (s : List ℕ) (at : ℕ) → length (listed_at s at) ≡ count_at s at
unfolding listed_at numbers_at
length-listed s at = length-numbers (count_at s at) (drop (at + 6) s)

first_number : (s : List ℕ) (at k : ℕ) → 1 ≤ k → u16_at s at ≡ head_or 0 (numbers_at s at k)
unfolding numbers_at u16s
first_number s at zero h = absurd (omega arith)
first_number s at (suc k) h = let e : at + 0 ≡ at = omega arith in sym (u16-drop s at 0 ∙ ap (u16_at s) e)

some_members : (q : Bool) (k : ℕ) → leb (least_count q) k ≡ true → 1 ≤ k
unfolding least_count
some_members true k t = omega (arith, leb-true 2 k t)
some_members false k t = leb-true 1 k t

-- a group that was taken: its record fits, and stands at its place
record GroupIn (n : ℕ) (f : ℕ → Bool) (low : ℕ) (c : Counts) (s : List ℕ) (at first next : ℕ) (d : Counts) : Type 0 where
  head : reading.Head
  item : item_in (drop at s) ≡ Some (Group head.clique (count_at s at) head.class)
  room : at + 6 + 2 * count_at s at ≤ length s
  after : next ≡ at + 6 + 2 * count_at s at
  lead : first ≡ head_or 0 (listed_at s at)
  fits : group_fits n f low (head, listed_at s at) ≡ true
  members : c.members ≡ length (listed_at s at) + d.members

module _ (n : ℕ) (f : ℕ → Bool) (low : ℕ) (c : Counts) (s : List ℕ) (b : Bytes s) (at : ℕ) (a : Taken) where
  abbrev many : ℕ
  many = count_at s at

  taken_in : group_taken n f low c s at ≡ Some a → GroupIn n f low c s at a.first a.next a.left
  unfolding group_taken
  taken_in e = by_kind (item_in (drop at s)) refl (item-written (drop at s) (bytes_after_lem s at b)) e
    where
      none : {X : Type 0} → None ≡ Some a → X
      none g = absurd (none-some a g)

      -- the tests that a group passes before its members are read
      Passed : Bool → ℕ → Type 0
      Passed q k = (ltb k max_classes ≡ true) × (leb (least_count q) many ≡ true) × (at + 6 + 2 * many ≤ length s)

      enough : (q : Bool) → leb (least_count q) many ≡ true → leb (cond q 2 1) (length (listed_at s at)) ≡ true
      enough q l = unfold least_count in rw (length-listed s at) l

      by_members : (q : Bool) (k : ℕ) (y : Counts) (o : Option Counts) → members_read n f low y (listed_at s at) ≡ o → y.members ≡ c.members → item_in (drop at s) ≡ Some (Group q many k) → Passed q k
          → option_and_then (λ z. Some (record { kind = kind_marked q many; class = k; first = u16_at s (at + 6); next = at + 6 + 2 * many; left = z })) o ≡ Some a → GroupIn n f low c s at a.first a.next a.left
      by_members q k y (Some z) h m i l u =
          let told = members_counted n f (listed_at s at) low y z h in
          let same : a ≡ record { kind = kind_marked q many; class = k; first = u16_at s (at + 6); next = at + 6 + 2 * many; left = z } = sym (same_Some _ a u) in
          let led : a.first ≡ u16_at s (at + 6) = ap (λ (x : Taken). x.first) same in
          let left : z ≡ a.left = sym (ap (λ (x : Taken). x.left) same) in
          record {
            head = record { clique = q; class = k };
            item = i;
            room = l.2;
            after = ap (λ (x : Taken). x.next) same;
            lead = led ∙ (unfold listed_at in first_number s (at + 6) many (some_members q many l.1));
            fits = unfold group_fits in and_true l.0 (and_true (enough q l.1) told.0);
            members = sym m ∙ told.1 ∙ ap (λ (x : Counts). length (listed_at s at) + x.members) left;
          }
      by_members q k y None h m i l u = none u

      by_less : (q : Bool) (k : ℕ) → item_in (drop at s) ≡ Some (Group q many k) → Passed q k → (eqb c.groups 0 ≡ true) ⊎ (eqb c.groups 0 ≡ false)
          → option_and_then (λ y. option_and_then (λ z. Some (record { kind = kind_marked q many; class = k; first = u16_at s (at + 6); next = at + 6 + 2 * many; left = z })) (members_read n f low y (numbers_at s (at + 6) many))) (cond (eqb c.groups 0) None (Some (record { members = c.members; groups = c.groups - 1 }))) ≡ Some a → GroupIn n f low c s at a.first a.next a.left
      by_less q k i l (inl t) u = none (rw t at u)
      by_less q k i l (inr t) u = by_members q k (record { members = c.members; groups = c.groups - 1 }) (members_read n f low (record { members = c.members; groups = c.groups - 1 }) (listed_at s at)) refl refl i l (unfold listed_at in rw t at u)

      passed : (q : Bool) (k : ℕ) → (ltb k max_classes && (leb (least_count q) many && leb (at + 6 + 2 * many) (length s))) ≡ true → Passed q k
      passed q k t =
          let v = and_snd (ltb k max_classes) (leb (least_count q) many && leb (at + 6 + 2 * many) (length s)) t in
          (and_fst (ltb k max_classes) _ t, and_fst (leb (least_count q) many) _ v, leb-true (at + 6 + 2 * many) (length s) (and_snd (leb (least_count q) many) _ v))

      by-room : (q : Bool) (k : ℕ) → item_in (drop at s) ≡ Some (Group q many k) → ((ltb k max_classes && (leb (least_count q) many && leb (at + 6 + 2 * many) (length s))) ≡ true) ⊎ ((ltb k max_classes && (leb (least_count q) many && leb (at + 6 + 2 * many) (length s))) ≡ false) → group_by n f low c s at (Some (Group q many k)) ≡ Some a → GroupIn n f low c s at a.first a.next a.left
      by-room q k i (inl t) u = by_less q k i (passed q k t) (decide (eqb c.groups 0)) (unfold less_group in rw t at u)
      by-room q k i (inr t) u = none (rw t at u)

      by_kind : (i : Option Record) → item_in (drop at s) ≡ i → Written (drop at s) i → group_by n f low c s at i ≡ Some a → GroupIn n f low c s at a.first a.next a.left
      by_kind (Some (Group q m k)) i w u =
          let g : m ≡ many = unfold count_at in (group-count (drop at s) q m k w ∙ u16-drop s at 2) in
          by-room q k (i ∙ ap (λ (x : ℕ). Some (Group q x k)) g) (decide (ltb k max_classes && (leb (least_count q) many && leb (at + 6 + 2 * many) (length s)))) (rw g at u)
      by_kind (Some (Head x y z)) i w k = none k
      by_kind (Some (Superedge x y)) i w k = none k
      by_kind (Some End) i w k = none k
      by_kind None i w k = none k

-- records one after the other
more_bytes : (g : reading.Head × List ℕ) (gs : List (reading.Head × List ℕ)) (r : List ℕ) → concat (map marked_record (g ∷ gs)) ++ r ≡ marked_record g ++ (concat (map marked_record gs) ++ r)
unfolding concat
more_bytes g gs r = append_assoc (marked_record g) (concat (map marked_record gs)) r

more_members : (g : reading.Head × List ℕ) (gs : List (reading.Head × List ℕ)) → length (members_in (g ∷ gs)) ≡ length g.1 + length (members_in gs)
unfolding members_in concat
more_members g gs = length-append g.1 (concat (map (λ (g : reading.Head × List ℕ). g.1) gs))

more_superedges : (j : ℕ × ℕ) (js : List (ℕ × ℕ)) (r : List ℕ) → concat (map superedge_record (j ∷ js)) ++ r ≡ superedge_record j ++ (concat (map superedge_record js) ++ r)
unfolding concat
more_superedges j js r = append_assoc (superedge_record j) (concat (map superedge_record js)) r

-- groups that were read: they fit, and stand from a place on to the next
record GroupsIn (n k : ℕ) (f : ℕ → Bool) (low : ℕ) (c : Counts) (s : List ℕ) (at next : ℕ) (left : Counts) : Type 0 where
  groups : List (reading.Head × List ℕ)
  count : length groups ≡ k
  fits : groups_fit n f low groups ≡ true
  bytes : drop at s ≡ concat (map marked_record groups) ++ drop next s
  members : c.members ≡ length (members_in groups) + left.members

-- superedges that were read: they stand in order
record SuperedgesIn (g last : ℕ) (s : List ℕ) (at next : ℕ) : Type 0 where
  pairs : List (ℕ × ℕ)
  fits : superedges_fit g last pairs ≡ true
  bytes : drop at s ≡ concat (map superedge_record pairs) ++ drop next s

no_groups : (n : ℕ) (f : ℕ → Bool) (low : ℕ) (c : Counts) (s : List ℕ) (at : ℕ) → GroupsIn n 0 f low c s at at c
unfolding groups_fit concat members_in
no_groups n f low c s at = record { groups = []; count = refl; fits = refl; bytes = refl; members = omega arith }

no_superedges : (g last : ℕ) (s : List ℕ) (at : ℕ) → SuperedgesIn g last s at at
unfolding superedges_fit concat
no_superedges g last s at = record { pairs = []; fits = refl; bytes = refl }

module _ (s : List ℕ) (b : Bytes s) where
  -- one group
  group-here : (at : ℕ) (h : reading.Head) → item_in (drop at s) ≡ Some (Group h.clique (count_at s at) h.class) → at + 6 + 2 * count_at s at ≤ length s → drop at s ≡ marked_record (h, listed_at s at) ++ drop (at + 6 + 2 * count_at s at) s
  unfolding marked_record listed_at numbers_at
  group-here at h i room =
      let w : Written (drop at s) (Some (Group h.clique (count_at s at) h.class)) = subst (Written (drop at s)) i (item-written (drop at s) (bytes_after_lem s at b)) in
      let f : drop (at + 6) s ≡ concat (map u16 (u16s (count_at s at) (drop (at + 6) s))) ++ drop (at + 6 + 2 * count_at s at) s =
      numbers (count_at s at) (drop (at + 6) s) (bytes_after_lem s (at + 6) b) (omega (arith, length-drop (at + 6) s)) ∙ ap (λ (x : List ℕ). concat (map u16 (u16s (count_at s at) (drop (at + 6) s))) ++ x) (drop-drop (2 * count_at s at) (at + 6) s) in
      w
      ∙ ap (λ (x : List ℕ). 0x47 ∷ cond h.clique 0x43 0x49 ∷ (u16 (count_at s at) ++ (u16 h.class ++ x))) (drop-drop 6 at s ∙ f)
      ∙ ap (λ (x : ℕ). 0x47 ∷ cond h.clique 0x43 0x49 ∷ (u16 x ++ (u16 h.class ++ (members ++ rest)))) (sym (length-numbers (count_at s at) (drop (at + 6) s)))
      ∙ (unfold u16 in refl)
    where
      members : List ℕ
      members = concat (map u16 (u16s (count_at s at) (drop (at + 6) s)))

      rest : List ℕ
      rest = drop (at + 6 + 2 * count_at s at) s

  groups-in : (n k : ℕ) (f : ℕ → Bool) (low : ℕ) (c : Counts) (at : ℕ) (a : Rest) → groups_read n k f low c s at ≡ Some a → GroupsIn n k f low c s at a.next a.left
  groups-in n zero f low c at a e =
      let same : record { next = at; left = c } ≡ a = same_Some (record { next = at; left = c }) a (unfold groups_read in e) in
      subst (λ (x : Rest). GroupsIn n 0 f low c s at x.next x.left) same (no_groups n f low c s at)
  groups-in n (suc k) f low c at a e = by_group (group_taken n f low c s at) refl (λ g x d y. groups-in n k g x d y a) (unfold groups_read in e)
    where
      Below : Type 0
      Below = (g : ℕ → Bool) (x : ℕ) (d : Counts) (y : ℕ) → groups_read n k g x d s y ≡ Some a → GroupsIn n k g x d s y a.next a.left

      by_group : (g : Option Taken) → group_taken n f low c s at ≡ g → Below → option_and_then (λ t. groups_read n k (λ p. member p (listed_at s at) || f p) (suc t.first) t.left s t.next) g ≡ Some a → GroupsIn n (suc k) f low c s at a.next a.left
      by_group None h below u = absurd (none-some a u)
      by_group (Some t) h below u =
          let one : GroupIn n f low c s at t.first t.next t.left = taken_in n f low c s b at t h in
          let more : GroupsIn n k (λ p. member p (listed_at s at) || f p) (suc t.first) t.left s t.next a.next a.left = below (λ p. member p (listed_at s at) || f p) (suc t.first) t.left t.next u in
          let g : reading.Head × List ℕ = (one.head, listed_at s at) in
          record {
            groups = g ∷ more.groups;
            count = ap suc more.count;
            fits = unfold groups_fit in and_true one.fits (ap (λ (y : ℕ). groups_fit n (λ p. member p (listed_at s at) || f p) (suc y) more.groups) (sym one.lead) ∙ more.fits);
            bytes =
                group-here at one.head one.item one.room
                ∙ ap (λ (y : List ℕ). marked_record g ++ y) (ap (λ (y : ℕ). drop y s) (sym one.after) ∙ more.bytes)
                ∙ sym (more_bytes g more.groups (drop a.next s));
            members = omega (arith, one.members, more.members, more_members g more.groups);
          }

  superedges-in : (g k last at : ℕ) → SuperedgesIn g last s at (stop_at g s last k at)
  unfolding stop_at
  superedges-in g zero last at = no_superedges g last s at
  superedges-in g (suc k) last at = by_kind (item_in (drop at s)) (item-written (drop at s) (bytes_after_lem s at b)) (superedges-in g k)
    where
      Below : Type 0
      Below = (last at : ℕ) → SuperedgesIn g last s at (stop_at g s last k at)

      by_order : (i j : ℕ) → Written (drop at s) (Some (Superedge i j)) → Below → (follows g last i j ≡ true) ⊎ (follows g last i j ≡ false) → SuperedgesIn g last s at (cond (follows g last i j) (stop_at g s (pair_key i j) k (at + 6)) at)
      by_order i j w below (inl t) =
          let more : SuperedgesIn g (pair_key i j) s (at + 6) (stop_at g s (pair_key i j) k (at + 6)) = below (pair_key i j) (at + 6) in
          rw t
          (record {
            pairs = (i, j) ∷ more.pairs;
            fits = unfold superedges_fit in and_true t more.fits;
            bytes = w ∙ ap (λ (y : List ℕ). superedge_record (i, j) ++ y) (drop-drop 6 at s ∙ more.bytes) ∙ sym (more_superedges (i, j) more.pairs (drop (stop_at g s (pair_key i j) k (at + 6)) s));
          })
      by_order i j w below (inr t) = rw t (no_superedges g last s at)

      by_kind : (i : Option Record) → Written (drop at s) i → Below → SuperedgesIn g last s at (on_superedge i (λ i j. cond (follows g last i j) (stop_at g s (pair_key i j) k (at + 6)) at) at)
      by_kind (Some (Superedge i j)) w below = by_order i j w below (decide (follows g last i j))
      by_kind (Some End) w below = no_superedges g last s at
      by_kind (Some (Head x y z)) w below = no_superedges g last s at
      by_kind (Some (Group x y z)) w below = no_superedges g last s at
      by_kind None w below = no_superedges g last s at

  -- the end of the file
  end-here : (c : Counts) (at : ℕ) → ends_at c s at ≡ true → (c.members ≡ 0) × (drop at s ≡ end_record)
  unfolding ends_at
  end-here c at t = by_kind (item_in (drop at s)) (item-written (drop at s) (bytes_after_lem s at b)) t
    where
      alone : (r : List ℕ) → r ≡ [] → end_record ++ r ≡ end_record
      alone r e = unfold end_record in rw e

      by_kind : (i : Option Record) → Written (drop at s) i → on_end i (spent c && eqb (at + 2) (length s)) ≡ true → (c.members ≡ 0) × (drop at s ≡ end_record)
      by_kind (Some End) w u =
          let none : (eqb c.members 0 && eqb c.groups 0) ≡ true = unfold spent in and_fst (spent c) _ u in
          let last : at + 2 ≡ length s = eqb-true (at + 2) (length s) (and_snd (spent c) _ u) in
          (eqb-true c.members 0 (and_fst (eqb c.members 0) _ none), w ∙ alone (drop 2 (drop at s)) (drop-drop 2 at s ∙ drop_of_length-le s {i = at + 2} (omega arith)))
      by_kind (Some (Superedge x y)) w u = differ u refl
      by_kind (Some (Head x y z)) w u = differ u refl
      by_kind (Some (Group x y z)) w u = differ u refl
      by_kind None w u = differ u refl

  -- the whole file
  abbrev FileIn : Type 0
  FileIn = (n : ℕ) × (gs : List (reading.Head × List ℕ)) × (js : List (ℕ × ℕ)) × (in_order n gs js ≡ true) × (s ≡ file_by n gs js)

  file-in : accepted s ≡ true → FileIn
  unfolding accepted
  file-in t = by_kind (item_in s) (item-written s b) t
    where
      by_parts : (n m g next : ℕ) (left : Counts) → Written s (Some (Head n m g)) → n ≤ max_nodes → GroupsIn n g (λ p. false) 0 (record { members = m; groups = g }) s 8 next left → SuperedgesIn g 0 s next (stop_at g s 0 (length s) next) → (left.members ≡ 0) × (drop (stop_at g s 0 (length s) next) s ≡ end_record) → FileIn
      by_parts n m g next left w small gs js end = (
        n,
        gs.groups,
        js.pairs,
        unfold in_order in and_true (le-leb n max_nodes small) (and_true gs.fits (ap (λ (x : ℕ). superedges_fit x 0 js.pairs) gs.count ∙ js.fits)),
        unfold file_by in
            (w
            ∙ ap₂ (λ (x y : ℕ). head_record n x y ++ drop 8 s) total (sym gs.count)
            ∙ ap (λ (x : List ℕ). head_record n (length (members_in gs.groups)) (length gs.groups) ++ x)
            (gs.bytes ∙ ap (λ (x : List ℕ). concat (map marked_record gs.groups) ++ x) (js.bytes ∙ ap (λ (x : List ℕ). concat (map superedge_record js.pairs) ++ x) end.1))),
      )
        where
          total : m ≡ length (members_in gs.groups)
          total = omega (arith, gs.members, end.0)

      by_groups : (n m g : ℕ) (r : Option Rest) → groups_read n g (λ p. false) 0 (record { members = m; groups = g }) s 8 ≡ r → Written s (Some (Head n m g)) → n ≤ max_nodes → on_whole r (λ next left. ends_at left s (stop_at g s 0 (length s) next)) ≡ true → FileIn
      by_groups n m g (Some a) e w small u = by_parts n m g a.next a.left w small (groups-in n g (λ p. false) 0 (record { members = m; groups = g }) 8 a e) (superedges-in g (length s) 0 a.next) (end-here a.left (stop_at g s 0 (length s) a.next) u)
      by_groups n m g None e w small u = differ u refl

      by_kind : (i : Option Record) → Written s i → on_head i (λ n m g. counts_fit n m g && body_fits s n m g) false ≡ true → FileIn
      by_kind (Some (Head n m g)) w u =
          by_groups n m g (groups_read n g (λ p. false) 0 (record { members = m; groups = g }) s 8) refl w
          (leb-true n max_nodes (and_fst (leb n max_nodes) (leb m n && leb g m) (unfold counts_fit in and_fst (counts_fit n m g) (body_fits s n m g) u)))
          (unfold body_fits in and_snd (counts_fit n m g) (body_fits s n m g) u)
      by_kind (Some (Group x y z)) w u = differ u refl
      by_kind (Some (Superedge x y)) w u = differ u refl
      by_kind (Some End) w u = differ u refl
      by_kind None w u = differ u refl

pub accepted-in_order : (s : List ℕ) → Bytes s → accepted s ≡ true → (in_order (u16_at s 2) (told_groups s) (told_superedges s) ≡ true) × (s ≡ file_by (u16_at s 2) (told_groups s) (told_superedges s))
accepted-in_order s b t = step (file-in s b t)
  where
    step : (n : ℕ) × (gs : List (reading.Head × List ℕ)) × (js : List (ℕ × ℕ)) × (in_order n gs js ≡ true) × (s ≡ file_by n gs js) → (in_order (u16_at s 2) (told_groups s) (told_superedges s) ≡ true) × (s ≡ file_by (u16_at s 2) (told_groups s) (told_superedges s))
    step (n, gs, js, o, e) =
        let x : u16_at s 2 ≡ n = ap (λ (r : List ℕ). u16_at r 2) e ∙ file_count n gs js in
        let y : told_groups s ≡ gs = ap told_groups e ∙ file_told_groups n gs js in
        let z : told_superedges s ≡ js = ap told_superedges e ∙ file_told_superedges n gs js in
        (rw (x, y, z) o, e ∙ sym (rw (x, y, z)))
