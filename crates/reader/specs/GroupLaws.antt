-- Laws of members and groups of a file, taken one after the other.
use Rattle.std.proofs.Math.Path.{◌≡◌, refl, sym, ap, ap₂}
use Rattle.std.proofs.Common.{subst, ◌∙◌, inl, inr, length-set, get_or-drop, get_or-set_same}
use Rattle.std.proofs.Math.Bool.{Bool, false, cond}
use Rattle.std.specs.Prelude.{true, not, ◌&&◌, ◌||◌, ◌⊎◌, ltb, set, replicate, Option, Some, None, option_and_then}
use Rattle.std.proofs.lemmas.Option.{none-some, same_Some}
use mathlib.Core.List.{List, [], ◌∷◌}
use Prim.Native.Nat.{ℕ, zero, suc, ◌+◌, ◌*◌, ◌-◌, ◌≤◌, ◌<◌}
use native.Mathlib.Omega.{arith}
use Rattle.std.proofs.Math.Dec.{eqb, leb}
use Rattle.std.proofs.Math.ListN.{length, get_or, drop, length-drop}
use Rattle.std.proofs.lemmas.List.{length-replicate, get_or-replicate}
use Rattle.std.proofs.Math.Seq.{drop-drop, get_or-set_other}
use borrow.Author.Tests.{eqb-true, eqb-false, eq-eqb, ne_eqb, ltb-true, lt-ltb, le-ltb, leb-true, le-leb, lt-leb, not-true, not-false}
use Rattle.model.specs.Lists.{any, head_or, member}
use Rattle.model.specs.Graph.{max_classes, max_nodes}
use Rattle.model.specs.Reading.{after_groups, groups_at, u16_at, u16s}
use Rattle.model.specs.Reading as reading
use Rattle.model.specs.InOrder.{members_at}
use Rattle.model.proofs.TestLaws.{decide, differ, and_fst, and_snd, or_cases, or_left}
use Rattle.records.specs.declared.Counts.{Counts}
use Rattle.records.specs.declared.Record.{Record}
use Rattle.records.specs.declared.Record.TheVariants.{Head, Group, Superedge, End}
use Rattle.records.specs.declared.Read.{Read}
use Rattle.records.specs.Records.{item_in, less_group, less_member, record_at, size_of}
use Rattle.records.specs.RecordLaws.{Fits, fits_at, item_fits, item_is, next_is, none_in, u16-drop}
use Rattle.rows.specs.Rows.{leads, no_node}
use Rattle.compressed.specs.Compressed.{class_of, first_at, first_member_of, kind_in, kind_marked, led_by, single}
use Rattle.reader.specs.declared.Taken.{Taken}
use Rattle.reader.specs.declared.Rest.{Rest}
use Rattle.reader.specs.Decoding.{GroupTaken, GroupsLeft, GroupsRead, LeastPut, LeastPutting, MembersRead, NumbersLeft, bytes_after, count_at, group_by, group_head, group_taken, groups_from, groups_read, least_count, listed_at, members_read, numbers_at, rest_at, taken}

-- numbers in a file, one after the other
module _ (s : List ℕ) (at count : ℕ) where
  pub rest_step : (k : ℕ) → k < count → rest_at s at count k ≡ u16_at s (at + 2 * k) ∷ rest_at s at count (k + 1)
  unfolding rest_at numbers_at u16s
  rest_step k h =
      let e : count - k ≡ suc (count - (k + 1)) = omega arith in
      let f : at + 2 * k + 2 ≡ at + 2 * (k + 1) = omega arith in
      let g : at + 2 * k + 0 ≡ at + 2 * k = omega arith in
      rw (e, drop-drop 2 (at + 2 * k) s, f, u16-drop s (at + 2 * k) 0, g)

  pub rest_end : (k : ℕ) → count ≤ k → rest_at s at count k ≡ []
  unfolding rest_at numbers_at u16s
  rest_end k h = let e : count - k ≡ 0 = omega arith in rw e

  pub rest_start : rest_at s at count 0 ≡ numbers_at s at count
  unfolding rest_at
  rest_start = let e : at + 2 * 0 ≡ at = omega arith in let f : count - 0 ≡ count = omega arith in rw (e, f)

  pub numbers_first : 0 < count → u16_at s at ≡ head_or 0 (numbers_at s at count)
  numbers_first h =
      let e : at + 2 * 0 ≡ at = omega arith in
      sym (ap (head_or 0) (sym rest_start ∙ rest_step 0 h) ∙ ap (u16_at s) e)

pub length-numbers : (k : ℕ) (r : List ℕ) → length (u16s k r) ≡ k
unfolding u16s
length-numbers zero r = refl
length-numbers (suc k) r = ap suc (length-numbers k (drop 2 r))

-- the members' loop
module _ (n : ℕ) (f : ℕ → Bool) (s : List ℕ) (at count k q : ℕ) (inside : k < count) (read : q ≡ u16_at s (at + 2 * k)) (low : ℕ) (c : Counts) (r : Option Counts) (before : members_read n f low c (rest_at s at count k) ≡ r) where
  pub member_low : q < low → None ≡ r
  unfolding members_read
  member_low l = rw (rest_step s at count k inside, ← read, lt-leb low q l) at before

  pub member_large : low ≤ q → n ≤ q → None ≡ r
  unfolding members_read
  member_large h l = rw (rest_step s at count k inside, ← read, le-leb low q h, le-ltb q n l) at before

  pub member_twice : low ≤ q → q < n → f q ≡ true → None ≡ r
  unfolding members_read
  member_twice h l t = rw (rest_step s at count k inside, ← read, le-leb low q h, lt-ltb q n l, t) at before

  module _ (o : Option Counts) (h : low ≤ q) (l : q < n) (t : f q ≡ false) (less : o ≡ less_member c) where
    pub member_over : o ≡ None → None ≡ r
    unfolding members_read
    member_over e = rw (rest_step s at count k inside, ← read, le-leb low q h, lt-ltb q n l, t, ← less, e) at before

    pub member_counts : (d : Counts) → o ≡ Some d → members_read n f (q + 1) d (rest_at s at count (k + 1)) ≡ r
    unfolding members_read
    member_counts d e =
        let one : q + 1 ≡ suc q = omega arith in
        rw one (rw (rest_step s at count k inside, ← read, le-leb low q h, lt-ltb q n l, t, ← less, e) at before)

-- a node that has a group, or none
pub taken_yes : (t : List ℕ) (p x : ℕ) → x ≡ get_or t p 0 → (x ≡ no_node → ⊥) → taken t p ≡ true
unfolding taken
taken_yes t p x e h = rw (ne_eqb (get_or t p 0) no_node (λ f. h (e ∙ f)))

pub taken_no : (t : List ℕ) (p x : ℕ) → x ≡ get_or t p 0 → x ≡ no_node → taken t p ≡ false
unfolding taken
taken_no t p x e h = rw (eq-eqb (get_or t p 0) no_node (sym e ∙ h))

module _ (s : List ℕ) (at count : ℕ) where
  pub members_start : (n : ℕ) (f : ℕ → Bool) (low : ℕ) (c : Counts) → members_read n f low c (rest_at s at count 0) ≡ members_read n f low c (numbers_at s at count)
  members_start n f low c = ap (members_read n f low c) (rest_start s at count)

  pub members_end : (n : ℕ) (f : ℕ → Bool) (low k : ℕ) (c : Counts) (r : Option Counts) → count ≤ k → members_read n f low c (rest_at s at count k) ≡ r → Some c ≡ r
  unfolding members_read
  members_end n f low k c r l h = rw (rest_end s at count k l) at h

  module _ (l : ℕ) where
    pub put_start : (low : ℕ) (t : List ℕ) → LeastPutting l (numbers_at s at count) (rest_at s at count 0) low t t
    put_start low t = record { size = refl; least = λ p. ap (λ (ms : List ℕ). cond (member p ms) l (get_or t p 0)) (rest_start s at count); above = λ p h. refl }

    module _ (k low : ℕ) {all t now : List ℕ} (before : LeastPutting l all (rest_at s at count k) low t now) where
      pub put_step : (q : ℕ) → k < count → q ≡ u16_at s (at + 2 * k) → q < length now → low ≤ q → LeastPutting l all (rest_at s at count (k + 1)) (q + 1) t (set now q l)
      put_step q more read h from = record {
        size = length-set now q l ∙ before.size;
        least = λ p. at_p p (decide (eqb p q)) ∙ was p;
        above = λ p j. get_or-set_other now q p l 0 (λ e. omega arith) ∙ before.above p (omega arith);
      }
        where
          rest : List ℕ
          rest = rest_at s at count (k + 1)

          was : (p : ℕ) → cond (eqb p q || member p (rest_at s at count (k + 1))) l (get_or now p 0) ≡ cond (member p all) l (get_or t p 0)
          was p = sym (ap (λ (ms : List ℕ). cond (member p ms) l (get_or now p 0)) (rest_step s at count k more ∙ ap (λ (x : ℕ). x ∷ rest) (sym read)) ∙ (unfold member any in refl)) ∙ before.least p

          same : (b : Bool) → cond b l l ≡ l
          same true = refl
          same false = refl

          at_p : (p : ℕ) → (eqb p q ≡ true) ⊎ (eqb p q ≡ false) → cond (member p (rest_at s at count (k + 1))) l (get_or (set now q l) p 0) ≡ cond (eqb p q || member p (rest_at s at count (k + 1))) l (get_or now p 0)
          at_p p (inl e) = ap (cond (member p rest) l) (ap (λ (x : ℕ). get_or (set now q l) x 0) (eqb-true p q e) ∙ get_or-set_same now q l 0 h) ∙ same (member p rest) ∙ (rw e)
          at_p p (inr e) = rw (e, get_or-set_other now q p l 0 (eqb-false p q e))

      put-done : count ≤ k → LeastPut all l t now
      unfolding member any
      put-done h = record { size = before.size; least = λ p. sym (ap (λ (ms : List ℕ). cond (member p ms) l (get_or now p 0)) (rest_end s at count k h)) ∙ before.least p }

  -- what the function hands back: all members, or none
  pub members_over : (n low : ℕ) (c : Counts) (t now : List ℕ) → length now ≡ length t → None ≡ members_read n (taken t) low c (numbers_at s at count) → MembersRead n low c (numbers_at s at count) t now None
  members_over n low c t now size e = record { result = e; size = size; put = λ d f. over f }
    where
      over : {d : Counts} → None ≡ Some d → LeastPut (numbers_at s at count) (head_or 0 (numbers_at s at count)) t now
      over f = let z : ◌≡◌ {A = ℕ} 0 1 = cc in absurd (omega arith)

  pub members_done : (n low : ℕ) (c left : Counts) (from k first : ℕ) (t now : List ℕ) → 0 < count → count ≤ k → first ≡ u16_at s at → Some left ≡ members_read n (taken t) low c (numbers_at s at count) → LeastPutting first (numbers_at s at count) (rest_at s at count k) from t now → MembersRead n low c (numbers_at s at count) t now (Some left)
  members_done n low c left from k first t now some h is e x = record {
    result = e;
    size = x.size;
    put = λ d f. subst (λ (l : ℕ). LeastPut (numbers_at s at count) l t now) (is ∙ numbers_first s at count some) (put-done first k from x h);
  }

-- a record that was read at a place
module _ (s : List ℕ) (at : ℕ) (r : Read) (read : Some r ≡ record_at s at) where
  -- a group: its count, its head and its room
  pub group-told : (q : Bool) (count class : ℕ) → r.item ≡ Group q count class → (r.next ≡ at + 6) × (at + 6 ≤ length s) × (count ≡ count_at s at)
  unfolding count_at size_of
  group-told q count class e =
      let f = fits_at s at r read (Group q count class) e in
      let g : r.next ≡ at + 6 = next_is s at r read ∙ ap (λ (x : Record). at + size_of x) e in
      (g, omega (arith, f.0, length-drop at s), f.1 ∙ u16-drop s at 2)

some : (q : Bool) (count m : ℕ) → m ≡ least_count q → m ≤ count → 0 < count
unfolding least_count
some true count m e h = omega arith
some false count m e h = omega arith

-- all members of a group stand in the bytes
pub numbers_room : (s : List ℕ) (at : ℕ) (r : Read) → Some r ≡ record_at s at → (q : Bool) (count class : ℕ) → r.item ≡ Group q count class → (m : ℕ) → m ≡ least_count q → m ≤ count → 2 * count ≤ length s - r.next → (0 < count) × (r.next + 2 * count ≤ length s)
numbers_room s at r read q count class item m least h room =
    let told = group-told s at r read q count class item in
    (some q count m least h, omega (arith, told.0, told.1))

-- what the function hands back: the group, or none
module _ (n low : ℕ) (c : Counts) (s : List ℕ) (at : ℕ) (t : List ℕ) where
  group-missing : (now : List ℕ) → length now ≡ length t → None ≡ group_taken n (taken t) low c s at → GroupTaken n low c s at t now None
  group-missing now size e = record { result = e; size = size; put = λ a f. absurd (none-some a f) }

  -- no record at all
  pub no_record : None ≡ record_at s at → GroupTaken n low c s at t t None
  no_record read = group-missing t refl (unfold group_taken in (ap (group_by n (taken t) low c s at) (none_in s at read)))

  module _ (r : Read) (read : Some r ≡ record_at s at) where
    by-item : (i : Record) → r.item ≡ i → group_by n (taken t) low c s at (Some i) ≡ group_taken n (taken t) low c s at
    unfolding group_taken
    by-item i e = ap (group_by n (taken t) low c s at) (ap Some (sym e) ∙ item_is s at r read)

    pub other_record : ((q : Bool) (count class : ℕ) → r.item ≡ Group q count class → ⊥) → GroupTaken n low c s at t t None
    other_record h = group-missing t refl (step r.item refl)
      where
        step : (i : Record) → r.item ≡ i → None ≡ group_taken n (taken t) low c s at
        step (Group q count class) e = absurd (h q count class e)
        step (Head x y z) e = by-item (Head x y z) e
        step (Superedge x y) e = by-item (Superedge x y) e
        step End e = by-item End e

    module _ (q : Bool) (count class : ℕ) (item : r.item ≡ Group q count class) where
      six : r.next ≡ at + 6
      six = (group-told s at r read q count class item).0

      inside : at + 6 ≤ length s
      inside = (group-told s at r read q count class item).1

      by_group : group_by n (taken t) low c s at (Some (Group q count class)) ≡ group_taken n (taken t) low c s at
      by_group = by-item (Group q count class) item

      pub large_class : max_classes ≤ class → GroupTaken n low c s at t t None
      large_class l = group-missing t refl (sym (sym by_group ∙ (rw (le-ltb class max_classes l))))

      module _ (m : ℕ) (small : class < max_classes) (least : m ≡ least_count q) where
        pub few_members : count < m → GroupTaken n low c s at t t None
        few_members l = group-missing t refl (sym (sym by_group ∙ (rw (lt-ltb class max_classes small, ← least, lt-leb m count l))))

        pub no_room : m ≤ count → length s - r.next < 2 * count → GroupTaken n low c s at t t None
        no_room h l = group-missing t refl (sym (sym by_group ∙ (rw (lt-ltb class max_classes small, ← least, le-leb m count h, lt-leb (at + 6 + 2 * count) (length s) (omega (arith, six, inside))))))

        module _ (o : Option Counts) (enough : m ≤ count) (room : 2 * count ≤ length s - r.next) (less : o ≡ less_group c) where
          roomy : leb (at + 6 + 2 * count) (length s) ≡ true
          roomy = le-leb (at + 6 + 2 * count) (length s) (omega (arith, six, inside))

          pub no_group : o ≡ None → GroupTaken n low c s at t t None
          no_group e = group-missing t refl (sym (sym by_group ∙ (rw (lt-ltb class max_classes small, ← least, le-leb m count enough, roomy, ← less, e))))

          module _ (d : Counts) (left : o ≡ Some d) (now : List ℕ) (p : Option Counts) (members : MembersRead n low d (numbers_at s r.next count) t now p) where
            by_members : p ≡ members_read n (taken t) low d (numbers_at s (at + 6) count)
            by_members = members.result ∙ ap (λ (x : ℕ). members_read n (taken t) low d (numbers_at s x count)) six

            pub no_members : p ≡ None → GroupTaken n low c s at t now None
            no_members e = group-missing now members.size (sym (sym by_group ∙ (rw (lt-ltb class max_classes small, ← least, le-leb m count enough, roomy, ← less, left, ← by_members, e))))

            listed : numbers_at s r.next count ≡ listed_at s at
            unfolding listed_at
            listed = ap₂ (λ (x y : ℕ). numbers_at s x y) six (group-told s at r read q count class item).2

            pub all_members : (kind first : ℕ) (e : Counts) → p ≡ Some e → kind ≡ kind_marked q count → first ≡ u16_at s r.next → GroupTaken n low c s at t now (Some (record { kind = kind; class = class; first = first; next = r.next + 2 * count; left = e }))
            all_members kind first e is k f = record {
              result = sym (sym by_group ∙ (rw (lt-ltb class max_classes small, ← least, le-leb m count enough, roomy, ← less, left, ← by_members, is, k, f, six)));
              size = members.size;
              put =
                  λ a z.
                  let same : first ≡ a.first = ap (λ (x : Taken). x.first) (same_Some (record { kind = kind; class = class; first = first; next = r.next + 2 * count; left = e }) a z) in
                  subst (λ (l : ℕ). LeastPut (listed_at s at) l t now) (sym (f ∙ numbers_first s r.next count (some q count m least enough)) ∙ same)
                  (subst (λ (ms : List ℕ). LeastPut ms (head_or 0 (numbers_at s r.next count)) t now) listed (members.put e is));
            }

head_in : (l : List ℕ) → 0 < length l → member (head_or 0 l) l ≡ true
unfolding member any
head_in [] h = absurd (omega arith)
head_in (x ∷ xs) h = rw (eq-eqb x x refl)

-- members that were taken are nodes of no group
pub members_free : (n : ℕ) (f : ℕ → Bool) (low : ℕ) (c d : Counts) (ms : List ℕ) → members_read n f low c ms ≡ Some d → (p : ℕ) → member p ms ≡ true → (p < n) × (f p ≡ false)
unfolding members_read member any
members_free n f low c d [] e p m = differ m refl
members_free n f low c d (x ∷ xs) e p m = by (λ y h j. members_free n f (suc x) y d xs h p j) (decide (leb low x && (ltb x n && not (f x))))
  where
    Below : Type 0
    Below = (y : Counts) → members_read n f (suc x) y xs ≡ Some d → any xs (eqb p) ≡ true → (p < n) × (f p ≡ false)

    rest : Below → (o : Option Counts) → option_and_then (λ y. members_read n f (suc x) y xs) o ≡ Some d → any xs (eqb p) ≡ true → (p < n) × (f p ≡ false)
    rest below (Some y) h j = below y h j
    rest below None h j = let z : ◌≡◌ {A = ℕ} 0 1 = cc in absurd (omega arith)

    by : Below → ((leb low x && (ltb x n && not (f x))) ≡ true) ⊎ ((leb low x && (ltb x n && not (f x))) ≡ false) → (p < n) × (f p ≡ false)
    by below (inl t) = here (or_cases (eqb p x) (any xs (eqb p)) m)
      where
        fits : (ltb x n && not (f x)) ≡ true
        fits = and_snd (leb low x) (ltb x n && not (f x)) t

        here : (eqb p x ≡ true) ⊎ (any xs (eqb p) ≡ true) → (p < n) × (f p ≡ false)
        here (inl i) = rw (eqb-true p x i) (ltb-true x n (and_fst (ltb x n) (not (f x)) fits), not-true (f x) (and_snd (ltb x n) (not (f x)) fits))
        here (inr j) = rest below (less_member c) (rw t at e) j
    by below (inr t) = let h : None ≡ Some d = rw t at e in let z : ◌≡◌ {A = ℕ} 0 1 = cc in absurd (omega arith)

-- and the first of them is not below the lowest that may be
members_low : (n : ℕ) (f : ℕ → Bool) (low : ℕ) (c d : Counts) (ms : List ℕ) → 0 < length ms → members_read n f low c ms ≡ Some d → low ≤ head_or 0 ms
unfolding members_read
members_low n f low c d [] h e = absurd (omega arith)
members_low n f low c d (x ∷ xs) h e = by (decide (leb low x))
  where
    by : (leb low x ≡ true) ⊎ (leb low x ≡ false) → low ≤ x
    by (inl t) = leb-true low x t
    by (inr t) = let k : None ≡ Some d = rw t at e in let z : ◌≡◌ {A = ℕ} 0 1 = cc in absurd (omega arith)

-- what a group that was taken tells
pub record GroupTold (n : ℕ) (f : ℕ → Bool) (low : ℕ) (s : List ℕ) (at kind class first next : ℕ) : Type 0 where
  pub after : next ≡ at + 6 + 2 * count_at s at
  pub leader : first ≡ head_or 0 (listed_at s at)
  pub from : low ≤ first
  pub listed : member first (listed_at s at) ≡ true
  pub sort : kind ≡ kind_in (group_head s at, listed_at s at)
  pub label : class ≡ class_of (group_head s at, listed_at s at)
  pub free : (p : ℕ) → member p (listed_at s at) ≡ true → (p < n) × (f p ≡ false)

module _ (n : ℕ) (f : ℕ → Bool) (low : ℕ) (c : Counts) (s : List ℕ) (at : ℕ) (a : Taken) where
  pub taken-told : group_taken n f low c s at ≡ Some a → GroupTold n f low s at a.kind a.class a.first a.next
  unfolding group_taken
  taken-told e = by-item (item_in (drop at s)) (item_fits (drop at s)) e
    where
      -- the numbers of a group record are those of the place
      Here : Bool → ℕ → ℕ → Type 0
      Here q count k = (count ≡ count_at s at) × (k ≡ (group_head s at).class) × (q ≡ (group_head s at).clique)

      by_members : (q : Bool) (count k : ℕ) (y : Counts) (o : Option Counts) → members_read n f low y (numbers_at s (at + 6) count) ≡ o → 0 < count → Here q count k
          → option_and_then (λ z. Some (record { kind = kind_marked q count; class = k; first = u16_at s (at + 6); next = at + 6 + 2 * count; left = z })) o ≡ Some a → GroupTold n f low s at a.kind a.class a.first a.next
      by_members q count k y (Some z) h some is u =
          let same : a ≡ record { kind = kind_marked q count; class = k; first = u16_at s (at + 6); next = at + 6 + 2 * count; left = z } = sym (same_Some _ a u) in
          let i : a.next ≡ at + 6 + 2 * count = ap (λ (x : Taken). x.next) same in
          let j : a.first ≡ u16_at s (at + 6) = ap (λ (x : Taken). x.first) same in
          let l : a.kind ≡ kind_marked q count = ap (λ (x : Taken). x.kind) same in
          let v : a.class ≡ k = ap (λ (x : Taken). x.class) same in
          let listed : numbers_at s (at + 6) count ≡ listed_at s at = unfold listed_at in (ap (numbers_at s (at + 6)) is.0) in
          let size : count ≡ length (listed_at s at) = is.0 ∙ sym (unfold listed_at numbers_at in length-numbers (count_at s at) (drop (at + 6) s)) in
          let lead : a.first ≡ head_or 0 (numbers_at s (at + 6) count) = j ∙ numbers_first s (at + 6) count some in
          let many : length (numbers_at s (at + 6) count) ≡ count = unfold numbers_at in length-numbers count (drop (at + 6) s) in
          let head : a.first ≡ head_or 0 (listed_at s at) = lead ∙ ap (head_or 0) listed in
          record {
            after = i ∙ ap (λ (u : ℕ). at + 6 + 2 * u) is.0;
            leader = head;
            from = rw lead (members_low n f low y z (numbers_at s (at + 6) count) (omega arith) h);
            listed = ap (λ (x : ℕ). member x (listed_at s at)) head ∙ head_in (listed_at s at) (omega arith);
            sort = l ∙ ap₂ kind_marked is.2 size;
            label = v ∙ is.1;
            free = λ p m. members_free n f low y z (numbers_at s (at + 6) count) h p (ap (member p) listed ∙ m);
          }
      by_members q count k y None h some is u = absurd (none-some a u)

      by_count : (q : Bool) (count k : ℕ) (o : Option Counts) → 0 < count → Here q count k
          → option_and_then (λ y. option_and_then (λ z. Some (record { kind = kind_marked q count; class = k; first = u16_at s (at + 6); next = at + 6 + 2 * count; left = z })) (members_read n f low y (numbers_at s (at + 6) count))) o ≡ Some a → GroupTold n f low s at a.kind a.class a.first a.next
      by_count q count k (Some y) some is u = by_members q count k y (members_read n f low y (numbers_at s (at + 6) count)) refl some is u
      by_count q count k None some is u = absurd (none-some a u)

      enough : (q : Bool) (count k : ℕ) → (ltb k max_classes && (leb (least_count q) count && leb (at + 6 + 2 * count) (length s))) ≡ true → 0 < count
      enough q count k t = some q count (least_count q) refl (leb-true (least_count q) count (and_fst (leb (least_count q) count) _ (and_snd (ltb k max_classes) _ t)))

      by-room : (q : Bool) (count k : ℕ) (b : Bool) → (ltb k max_classes && (leb (least_count q) count && leb (at + 6 + 2 * count) (length s))) ≡ b → Here q count k
          → group_by n f low c s at (Some (Group q count k)) ≡ Some a → GroupTold n f low s at a.kind a.class a.first a.next
      by-room q count k true t is u = by_count q count k (less_group c) (enough q count k t) is (rw t at u)
      by-room q count k false t is u = absurd (none-some a (rw t at u))

      here : (q : Bool) (count k : ℕ) → Fits (drop at s) (Some (Group q count k)) → Here q count k
      here q count k x = unfold count_at group_head in (x.1 ∙ u16-drop s at 2, x.2 ∙ u16-drop s at 4, x.3 ∙ ap (λ (y : ℕ). eqb y 0x43) (get_or-drop at s 1 0))

      by-item : (i : Option Record) → Fits (drop at s) i → group_by n f low c s at i ≡ Some a → GroupTold n f low s at a.kind a.class a.first a.next
      by-item (Some (Group q count k)) x u = by-room q count k (ltb k max_classes && (leb (least_count q) count && leb (at + 6 + 2 * count) (length s))) refl (here q count k x) u
      by-item (Some (Head x y z)) g k = absurd (none-some a k)
      by-item (Some (Superedge x y)) g k = absurd (none-some a k)
      by-item (Some End) g k = absurd (none-some a k)
      by-item None g k = absurd (none-some a k)

-- its first member is a node
pub taken-first : (n low : ℕ) (c : Counts) (s : List ℕ) (at : ℕ) (t after : List ℕ) (a : Taken) → GroupTaken n low c s at t after (Some a) → a.first < n
taken-first n low c s at t after a got = let told = taken-told n (taken t) low c s at a (sym got.result) in (told.free a.first told.listed).0

-- only which nodes of the graph are taken counts
module _ (n : ℕ) where
  abbrev Alike : (ℕ → Bool) → (ℕ → Bool) → Type 0
  Alike f g = (p : ℕ) → p < n → f p ≡ g p

  pub members_alike : (f g : ℕ → Bool) → Alike f g → (low : ℕ) (c : Counts) (ms : List ℕ) → members_read n f low c ms ≡ members_read n g low c ms
  unfolding members_read
  members_alike f g h low c [] = refl
  members_alike f g h low c (x ∷ xs) = by (λ d. members_alike f g h (suc x) d xs) (decide (ltb x n))
    where
      Below : Type 0
      Below = (d : Counts) → members_read n f (suc x) d xs ≡ members_read n g (suc x) d xs

      less : Below → (o : Option Counts) → option_and_then (λ d. members_read n f (suc x) d xs) o ≡ option_and_then (λ d. members_read n g (suc x) d xs) o
      less below (Some d) = below d
      less below None = refl

      by : Below → (ltb x n ≡ true) ⊎ (ltb x n ≡ false)
          → cond (leb low x && (ltb x n && not (f x))) (option_and_then (λ d. members_read n f (suc x) d xs) (less_member c)) None
          ≡ cond (leb low x && (ltb x n && not (g x))) (option_and_then (λ d. members_read n g (suc x) d xs) (less_member c)) None
      by below (inl t) =
          ap₂ (λ (b : Bool) (o : Option Counts). cond (leb low x && (ltb x n && not b)) o None) (h x (ltb-true x n t)) (less below (less_member c))
      by below (inr t) = rw t (cut (leb low x))
        where
          cut : (b : Bool) → cond (b && false) (option_and_then (λ d. members_read n f (suc x) d xs) (less_member c)) None ≡ cond (b && false) (option_and_then (λ d. members_read n g (suc x) d xs) (less_member c)) None
          cut true = refl
          cut false = refl

  pub group-alike : (f g : ℕ → Bool) → Alike f g → (low : ℕ) (c : Counts) (s : List ℕ) (at : ℕ) → group_taken n f low c s at ≡ group_taken n g low c s at
  unfolding group_taken
  group-alike f g h low c s at = by (item_in (drop at s))
    where
      by : (i : Option Record) → group_by n f low c s at i ≡ group_by n g low c s at i
      by (Some (Group q count class)) = ap (λ (o : Option Taken). cond (ltb class max_classes && (leb (least_count q) count && leb (at + 6 + 2 * count) (length s))) o None) (less (less_group c))
        where
          found : Counts → Option Taken
          found e = Some (record { kind = kind_marked q count; class = class; first = u16_at s (at + 6); next = at + 6 + 2 * count; left = e })

          less : (o : Option Counts)
              → option_and_then (λ d. option_and_then found (members_read n f low d (numbers_at s (at + 6) count))) o
              ≡ option_and_then (λ d. option_and_then found (members_read n g low d (numbers_at s (at + 6) count))) o
          less (Some d) = ap (option_and_then found) (members_alike f g h low d (numbers_at s (at + 6) count))
          less None = refl
      by (Some (Head x y z)) = refl
      by (Some (Superedge x y)) = refl
      by (Some End) = refl
      by None = refl

  pub groups_alike : (k : ℕ) (f g : ℕ → Bool) → Alike f g → (low : ℕ) (c : Counts) (s : List ℕ) (at : ℕ) → groups_read n k f low c s at ≡ groups_read n k g low c s at
  unfolding groups_read
  groups_alike zero f g h low c s at = refl
  groups_alike (suc k) f g h low c s at = ap (option_and_then (λ (a : Taken). groups_read n k (λ p. member p (listed_at s at) || f p) (suc a.first) a.left s a.next)) (group-alike f g h low c s at) ∙ more (λ a. groups_alike k (λ p. member p (listed_at s at) || f p) (λ p. member p (listed_at s at) || g p) (λ p l. ap (λ (b : Bool). member p (listed_at s at) || b) (h p l)) (suc a.first) a.left s a.next) (group_taken n g low c s at)
    where
      Below : Type 0
      Below = (a : Taken) → groups_read n k (λ p. member p (listed_at s at) || f p) (suc a.first) a.left s a.next ≡ groups_read n k (λ p. member p (listed_at s at) || g p) (suc a.first) a.left s a.next

      more : Below → (o : Option Taken) → option_and_then (λ (a : Taken). groups_read n k (λ p. member p (listed_at s at) || f p) (suc a.first) a.left s a.next) o ≡ option_and_then (λ (a : Taken). groups_read n k (λ p. member p (listed_at s at) || g p) (suc a.first) a.left s a.next) o
      more below (Some a) = below a
      more below None = refl

-- the groups of a file by places
pub from_step : (s : List ℕ) (at k next : ℕ) → next ≡ at + 6 + 2 * count_at s at → groups_from s at (suc k) ≡ (group_head s at, listed_at s at) ∷ groups_from s next k
unfolding groups_from groups_at group_head listed_at numbers_at count_at
from_step s at k next e = rw (e, get_or-drop at s 1 0, u16-drop s at 2, u16-drop s at 4, drop-drop 6 at s, drop-drop (2 * u16_at s (at + 2)) (at + 6) s)

pub after_step : (s : List ℕ) (at k next : ℕ) → next ≡ at + 6 + 2 * count_at s at → bytes_after s at (suc k) ≡ bytes_after s next k
unfolding bytes_after after_groups count_at
after_step s at k next e = rw (e, u16-drop s at 2, drop-drop 6 at s, drop-drop (2 * u16_at s (at + 2)) (at + 6) s)

read_missing : (n k : ℕ) (f : ℕ → Bool) (low : ℕ) (c : Counts) (s : List ℕ) (at : ℕ) → group_taken n f low c s at ≡ None → groups_read n (suc k) f low c s at ≡ None
unfolding groups_read
read_missing n k f low c s at e = rw e

read_taken : (n k : ℕ) (f : ℕ → Bool) (low : ℕ) (c : Counts) (s : List ℕ) (at : ℕ) (a : Taken) → group_taken n f low c s at ≡ Some a → groups_read n (suc k) f low c s at ≡ groups_read n k (λ p. member p (listed_at s at) || f p) (suc a.first) a.left s a.next
unfolding groups_read
read_taken n k f low c s at a e = rw e

-- first members by position
at_zero : (g : reading.Head × List ℕ) (gs : List (reading.Head × List ℕ)) → first_at (g ∷ gs) 0 ≡ head_or 0 g.1
unfolding first_at members_at
at_zero g gs = refl

at_suc : (g : reading.Head × List ℕ) (gs : List (reading.Head × List ℕ)) (k : ℕ) → first_at (g ∷ gs) (suc k) ≡ first_at gs k
unfolding first_at members_at
at_suc g gs k = refl

-- a node of no group leads none
untaken : (t : List ℕ) (p : ℕ) → taken t p ≡ false → get_or t p 0 ≡ no_node
unfolding taken
untaken t p h = eqb-true (get_or t p 0) no_node (not-false (eqb (get_or t p 0) no_node) h)

leads-not : (t : List ℕ) (p : ℕ) → (get_or t p 0 ≡ p → ⊥) → leads t p ≡ false
unfolding leads
leads-not t p h = ne_eqb (get_or t p 0) p h

leads_is : (t : List ℕ) (p : ℕ) → get_or t p 0 ≡ p → leads t p ≡ true
unfolding leads
leads_is t p h = eq-eqb (get_or t p 0) p h

leads_by : (t u : List ℕ) (p : ℕ) → get_or t p 0 ≡ get_or u p 0 → leads t p ≡ leads u p
unfolding leads
leads_by t u p h = ap (λ (x : ℕ). eqb x p) h

taken_by : (t u : List ℕ) (p : ℕ) → get_or t p 0 ≡ get_or u p 0 → taken t p ≡ taken u p
unfolding taken
taken_by t u p h = ap (λ (x : ℕ). not (eqb x no_node)) h

taken_or : (t : List ℕ) (p : ℕ) → cond (taken t p) (get_or t p 0) no_node ≡ get_or t p 0
taken_or t p = by (decide (taken t p))
  where
    by : (taken t p ≡ true) ⊎ (taken t p ≡ false) → cond (taken t p) (get_or t p 0) no_node ≡ get_or t p 0
    by (inl h) = rw h
    by (inr h) = ap (λ (b : Bool). cond b (get_or t p 0) no_node) h ∙ sym (untaken t p h)

pub filled-size : (t : List ℕ) (x : ℕ) → t ≡ replicate max_nodes x → length t ≡ max_nodes
filled-size t x e = ap length e ∙ length-replicate {A = ℕ} max_nodes x

-- a number of each group, before any is read and when all are
numbers_start : (number : reading.Head × List ℕ → ℕ) (gs : List (reading.Head × List ℕ)) (least t : List ℕ) → ((p : ℕ) → p < max_nodes → leads least p ≡ false) → t ≡ replicate max_nodes 0 → NumbersLeft number gs gs least t
numbers_start number gs least t none e = record {
  size = filled-size t 0 e;
  told = λ p h. ap (λ (b : Bool). cond b (get_or t p 0) (led_by number gs p)) (none p h);
  others = λ p h _. ap (λ (x : List ℕ). get_or x p 0) e ∙ get_or-replicate {A = ℕ} max_nodes p 0 0 h;
}

numbers_done : (number : reading.Head × List ℕ → ℕ) {all rest : List (reading.Head × List ℕ)} {least t : List ℕ} → rest ≡ [] → NumbersLeft number all rest least t → (p : ℕ) → p < max_nodes → get_or t p 0 ≡ led_by number all p
unfolding led_by
numbers_done number {all} {rest} {least} {t} ended x p h = sym (unled (decide (leads least p))) ∙ sym (ap (λ (y : List (reading.Head × List ℕ)). cond (leads least p) (get_or t p 0) (led_by number y p)) ended) ∙ x.told p h
  where
    unled : (leads least p ≡ true) ⊎ (leads least p ≡ false) → cond (leads least p) (get_or t p 0) 0 ≡ get_or t p 0
    unled (inl u) = rw u
    unled (inr u) = ap (λ (b : Bool). cond b (get_or t p 0) 0) u ∙ sym (x.others p h u)

-- the groups' loop
module _ (n g : ℕ) (c : Counts) (s : List ℕ) (from : ℕ) where
  pub groups_start : (least firsts kinds classes : List ℕ) → n ≤ max_nodes → least ≡ replicate max_nodes no_node → kinds ≡ replicate max_nodes single → classes ≡ replicate max_nodes 0 → GroupsLeft n g c s from 0 0 c from least firsts kinds classes
  groups_start least firsts kinds classes small l k v =
      let e : g - 0 ≡ g = omega arith in
      record {
        result = ap (λ (x : ℕ). groups_read n x (taken least) 0 c s from) e ∙ groups_alike n g (taken least) (λ p. false) (λ p h. free p (omega arith)) 0 c s from;
        nodes = filled-size least no_node l;
        first = λ p h. ap₂ (λ (b : Bool) (x : ℕ). cond b (get_or least p 0) (first_member_of (groups_from s from x) p)) (free p h) e;
        kind = numbers kind_in kinds k;
        class = numbers class_of classes v;
        led = λ t h. absurd (omega arith);
        ascend = record { small = λ t h. absurd (omega arith); order = λ t u a b. absurd (omega arith) };
        passed = λ t h. absurd (omega arith);
        shifted = λ t. let f : 0 + t ≡ t = omega arith in rw (e, f);
        rest = rw e;
      }
    where
      none : (p : ℕ) → p < max_nodes → get_or least p 0 ≡ no_node
      none p h = ap (λ (t : List ℕ). get_or t p 0) l ∙ get_or-replicate {A = ℕ} max_nodes p no_node 0 h

      free : (p : ℕ) → p < max_nodes → taken least p ≡ false
      free p h = taken_no least p no_node (sym (none p h)) refl

      numbers : (number : reading.Head × List ℕ → ℕ) (t : List ℕ) → t ≡ replicate max_nodes 0 → NumbersLeft number (groups_from s from g) (groups_from s from (g - 0)) least t
      numbers number t z =
          let e : g - 0 ≡ g = omega arith in
          rw e (numbers_start number (groups_from s from g) least t (λ p h. leads-not least p (λ f. omega (arith, none p h))) z)

  module _ (i low : ℕ) (left : Counts) (at : ℕ) (least firsts kinds classes : List ℕ) (more : i < g) (before : GroupsLeft n g c s from i low left at least firsts kinds classes) (r : Option Taken) (least' : List ℕ) (got : GroupTaken n low left s at least least' r) where
    one_more : g - i ≡ suc (g - (i + 1))
    one_more = omega arith

    -- no group: nothing is read
    pub groups_broken : r ≡ None → None ≡ groups_read n g (λ p. false) 0 c s from
    groups_broken e = sym (read_missing n (g - (i + 1)) (taken least) low left s at (sym got.result ∙ e)) ∙ (rw one_more at before.result)

    module _ (small : n ≤ max_nodes) (took : Taken) (is : r ≡ Some took) where
      told : GroupTold n (taken least) low s at took.kind took.class took.first took.next
      told = taken-told n (taken least) low left s at took (sym got.result ∙ is)

      put : LeastPut (listed_at s at) took.first least least'
      put = got.put took is

      pub first_small : took.first < max_nodes
      first_small = omega (arith, (told.free took.first told.listed).0)

      abbrev others : List (reading.Head × List ℕ)
      others = groups_from s took.next (g - (i + 1))

      abbrev this : reading.Head × List ℕ
      this = (group_head s at, listed_at s at)

      cons : groups_from s at (g - i) ≡ (group_head s at, listed_at s at) ∷ groups_from s took.next (g - (i + 1))
      cons = ap (groups_from s at) one_more ∙ from_step s at (g - (i + 1)) took.next told.after

      mine : (p : ℕ) → member p (listed_at s at) ≡ true → get_or least' p 0 ≡ took.first
      mine p m = put.least p ∙ ap (λ (b : Bool). cond b took.first (get_or least p 0)) m

      kept : (p : ℕ) → member p (listed_at s at) ≡ false → get_or least' p 0 ≡ get_or least p 0
      kept p m = put.least p ∙ ap (λ (b : Bool). cond b took.first (get_or least p 0)) m

      now-taken : (p : ℕ) → member p (listed_at s at) ≡ true → taken least' p ≡ true
      now-taken p m = taken_yes least' p took.first (sym (mine p m)) (λ e. omega (arith, first_small))

      taken_more : (p : ℕ) → taken least' p ≡ (member p (listed_at s at) || taken least p)
      taken_more p = by (decide (member p (listed_at s at)))
        where
          by : (member p (listed_at s at) ≡ true) ⊎ (member p (listed_at s at) ≡ false) → taken least' p ≡ (member p (listed_at s at) || taken least p)
          by (inl m) = now-taken p m ∙ sym (or_left (taken least p) m)
          by (inr m) = taken_by least' least p (kept p m) ∙ sym (ap (λ (b : Bool). b || taken least p) m)

      leads-first : leads least' took.first ≡ true
      leads-first = leads_is least' took.first (mine took.first told.listed)

      leads-not-yet : (p : ℕ) → p < max_nodes → member p (listed_at s at) ≡ true → leads least p ≡ false
      leads-not-yet p h m = leads-not least p (λ e. omega (arith, untaken least p (told.free p m).1))

      leads-other : (p : ℕ) → p < max_nodes → (p ≡ took.first → ⊥) → leads least' p ≡ leads least p
      leads-other p h f = by (decide (member p (listed_at s at)))
        where
          by : (member p (listed_at s at) ≡ true) ⊎ (member p (listed_at s at) ≡ false) → leads least' p ≡ leads least p
          by (inl m) = leads-not least' p (λ e. f (sym e ∙ mine p m)) ∙ sym (leads-not-yet p h m)
          by (inr m) = leads_by least' least p (kept p m)

      first_step : (p x : ℕ) → cond (taken least' p) (get_or least' p 0) x ≡ cond (taken least p) (get_or least p 0) (cond (member p (listed_at s at)) (head_or 0 (listed_at s at)) x)
      first_step p x = by (decide (member p (listed_at s at)))
        where
          by : (member p (listed_at s at) ≡ true) ⊎ (member p (listed_at s at) ≡ false) → cond (taken least' p) (get_or least' p 0) x ≡ cond (taken least p) (get_or least p 0) (cond (member p (listed_at s at)) (head_or 0 (listed_at s at)) x)
          by (inl m) =
              ap₂ (λ (b : Bool) (y : ℕ). cond b y x) (now-taken p m) (mine p m ∙ told.leader)
              ∙ sym (ap₂ (λ (b b' : Bool). cond b (get_or least p 0) (cond b' (head_or 0 (listed_at s at)) x)) (told.free p m).1 m)
          by (inr m) =
              ap₂ (λ (b : Bool) (y : ℕ). cond b y x) (taken_by least' least p (kept p m)) (kept p m)
              ∙ sym (ap (λ (b : Bool). cond (taken least p) (get_or least p 0) (cond b (head_or 0 (listed_at s at)) x)) m)

      -- a number of the group stands at its took.first member
      module _ (number : reading.Head × List ℕ → ℕ) (t : List ℕ) (k : ℕ) (is_number : k ≡ number (group_head s at, listed_at s at)) (left-before : NumbersLeft number (groups_from s from g) (groups_from s at (g - i)) least t) where
        number_step : (p x : ℕ) → p < max_nodes → cond (leads least' p) (get_or (set t took.first k) p 0) x ≡ cond (leads least p) (get_or t p 0) (cond (eqb p (head_or 0 (listed_at s at))) (number (group_head s at, listed_at s at)) x)
        number_step p x h = by (decide (eqb p took.first))
          where
            by : (eqb p took.first ≡ true) ⊎ (eqb p took.first ≡ false) → cond (leads least' p) (get_or (set t took.first k) p 0) x ≡ cond (leads least p) (get_or t p 0) (cond (eqb p (head_or 0 (listed_at s at))) (number (group_head s at, listed_at s at)) x)
            by (inl e) =
                let f : p ≡ took.first = eqb-true p took.first e in
                ap₂ (λ (b : Bool) (y : ℕ). cond b y x) (ap (leads least') f ∙ leads-first) (ap (λ (y : ℕ). get_or (set t took.first k) y 0) f ∙ get_or-set_same t took.first k 0 (omega (arith, first_small, left-before.size)) ∙ is_number)
                ∙ sym (ap₂ (λ (b b' : Bool). cond b (get_or t p 0) (cond b' (number this) x)) (ap (leads least) f ∙ leads-not-yet took.first first_small told.listed) (ap (eqb p) (sym told.leader) ∙ e))
            by (inr e) =
                ap₂ (λ (b : Bool) (y : ℕ). cond b y x) (leads-other p h (eqb-false p took.first e)) (get_or-set_other t took.first p k 0 (eqb-false p took.first e))
                ∙ sym (ap (λ (b : Bool). cond (leads least p) (get_or t p 0) (cond b (number this) x)) (ap (eqb p) (sym told.leader) ∙ e))

        numbers_more : NumbersLeft number (groups_from s from g) (groups_from s took.next (g - (i + 1))) least' (set t took.first k)
        numbers_more = record {
          size = length-set t took.first k ∙ left-before.size;
          told = λ p h. number_step p (led_by number others p) h ∙ sym (ap (λ (l : List (reading.Head × List ℕ)). cond (leads least p) (get_or t p 0) (led_by number l p)) cons ∙ (unfold led_by in refl)) ∙ left-before.told p h;
          others = λ p h f. unled p h f (decide (eqb p took.first));
        }
          where
            unled : (p : ℕ) → p < max_nodes → leads least' p ≡ false → (eqb p took.first ≡ true) ⊎ (eqb p took.first ≡ false) → get_or (set t took.first k) p 0 ≡ 0
            unled p h f (inl e) = differ (ap (leads least') (eqb-true p took.first e) ∙ leads-first) f
            unled p h f (inr e) = get_or-set_other t took.first p k 0 (eqb-false p took.first e) ∙ left-before.others p h (sym (leads-other p h (eqb-false p took.first e)) ∙ f)

      first-here : first_at (groups_from s from g) i ≡ took.first
      first-here =
          let e : i + 0 ≡ i = omega arith in
          (rw e at (before.shifted 0)) ∙ ap (λ (l : List (reading.Head × List ℕ)). first_at l 0) cons ∙ at_zero this others ∙ sym told.leader

      pub groups_more : i < length firsts → GroupsLeft n g c s from (i + 1) (took.first + 1) took.left took.next least' (set firsts i took.first) (set kinds took.first took.kind) (set classes took.first took.class)
      groups_more fits = record {
        result =
            groups_alike n (g - (i + 1)) (taken least') (λ p. member p (listed_at s at) || taken least p) (λ p h. taken_more p) (took.first + 1) took.left s took.next
            ∙ ap (λ (x : ℕ). groups_read n (g - (i + 1)) (λ p. member p (listed_at s at) || taken least p) x took.left s took.next) one
            ∙ sym (read_taken n (g - (i + 1)) (taken least) low left s at took (sym got.result ∙ is))
            ∙ (rw one_more at before.result);
        nodes = put.size ∙ before.nodes;
        first = λ p h. first_step p (first_member_of others p) ∙ sym (ap (λ (l : List (reading.Head × List ℕ)). cond (taken least p) (get_or least p 0) (first_member_of l p)) cons ∙ (unfold first_member_of in refl)) ∙ before.first p h;
        kind = numbers_more kind_in kinds took.kind told.sort before.kind;
        class = numbers_more class_of classes took.class told.label before.class;
        led = λ k h. led k h (decide (eqb k i));
        ascend = record { small = λ k h. inside k h (decide (eqb k i)); order = λ k l a b. order k l a b (decide (eqb l i)) };
        passed = λ k h. passed k h (decide (eqb k i));
        shifted = λ k. let e : i + 1 + k ≡ i + suc k = omega arith in rw e (before.shifted (suc k) ∙ ap (λ (l : List (reading.Head × List ℕ)). first_at l (suc k)) cons ∙ at_suc this others k);
        rest = sym (after_step s at (g - (i + 1)) took.next told.after) ∙ (rw one_more at before.rest);
      }
        where
          one : took.first + 1 ≡ suc took.first
          one = omega arith

          led : (k : ℕ) → k < i + 1 → (eqb k i ≡ true) ⊎ (eqb k i ≡ false) → get_or (set firsts i took.first) k 0 ≡ first_at (groups_from s from g) k
          led k h (inl e) = rw (eqb-true k i e, get_or-set_same firsts i took.first 0 fits) (sym first-here)
          led k h (inr e) = get_or-set_other firsts i k took.first 0 (eqb-false k i e) ∙ before.led k (omega (arith, eqb-false k i e))

          inside : (k : ℕ) → k < i + 1 → (eqb k i ≡ true) ⊎ (eqb k i ≡ false) → get_or (set firsts i took.first) k 0 < n
          inside k h (inl e) = rw (eqb-true k i e, get_or-set_same firsts i took.first 0 fits) (told.free took.first told.listed).0
          inside k h (inr e) = rw (get_or-set_other firsts i k took.first 0 (eqb-false k i e)) (before.ascend.small k (omega (arith, eqb-false k i e)))

          order : (k l : ℕ) → k < l → l < i + 1 → (eqb l i ≡ true) ⊎ (eqb l i ≡ false) → get_or (set firsts i took.first) k 0 < get_or (set firsts i took.first) l 0
          order k l a b (inl e) =
              let h : l ≡ i = eqb-true l i e in
              rw (h, get_or-set_same firsts i took.first 0 fits, get_or-set_other firsts i k took.first 0 (λ d. omega arith)) (omega (arith, before.passed k (omega arith), told.from))
          order k l a b (inr e) = rw (get_or-set_other firsts i k took.first 0 (λ d. omega arith), get_or-set_other firsts i l took.first 0 (eqb-false l i e)) (before.ascend.order k l a (omega (arith, eqb-false l i e)))

          passed : (k : ℕ) → k < i + 1 → (eqb k i ≡ true) ⊎ (eqb k i ≡ false) → get_or (set firsts i took.first) k 0 < took.first + 1
          passed k h (inl e) = rw (eqb-true k i e, get_or-set_same firsts i took.first 0 fits) (omega arith)
          passed k h (inr e) = rw (get_or-set_other firsts i k took.first 0 (eqb-false k i e)) (omega (arith, before.passed k (omega (arith, eqb-false k i e)), told.from))

  -- what the function hands back: all groups, or none
  pub groups_none : (least firsts₀ firsts kinds classes : List ℕ) → length least ≡ max_nodes → length kinds ≡ max_nodes → length classes ≡ max_nodes → length firsts ≡ length firsts₀ → None ≡ groups_read n g (λ p. false) 0 c s from → GroupsRead n g c s from least firsts₀ firsts kinds classes None
  groups_none least firsts₀ firsts kinds classes a b v h e = record { result = e; nodes = a; groups = b; labels = v; size = h; held = λ a f. absurd (none-some a f) }

  pub groups_all : (i low : ℕ) (left : Counts) (at : ℕ) (least firsts₀ firsts kinds classes : List ℕ) → i ≡ g → length firsts ≡ length firsts₀ → GroupsLeft n g c s from i low left at least firsts kinds classes → GroupsRead n g c s from least firsts₀ firsts kinds classes (Some (record { next = at; left = left }))
  groups_all i low left at least firsts₀ firsts kinds classes last a x = record {
    result = sym (if_whole (g - i) none) ∙ x.result;
    nodes = x.nodes;
    groups = x.kind.size;
    labels = x.class.size;
    size = a;
    held =
        λ a e.
        let f : a.next ≡ at = sym (ap (λ (x : Rest). x.next) (same_Some (record { next = at; left = left }) a e)) in
        record {
          first = λ p h. sym (taken_or least p) ∙ sym (ap (λ (y : List (reading.Head × List ℕ)). cond (taken least p) (get_or least p 0) (first_member_of y p)) ended ∙ (unfold first_member_of in refl)) ∙ x.first p h;
          kind = numbers_done kind_in ended x.kind;
          class = numbers_done class_of ended x.class;
          led = λ k h. x.led k (omega arith);
          ascend = record { small = λ k h. x.ascend.small k (omega arith); order = λ k m a b. x.ascend.order k m a (omega arith) };
          rest = ap (λ (y : ℕ). drop y s) f ∙ sym (after (g - i) none) ∙ x.rest;
        };
  }
    where
      none : g - i ≡ 0
      none = omega arith

      if_whole : (k : ℕ) → k ≡ 0 → groups_read n k (taken least) low left s at ≡ Some (record { next = at; left = left })
      if_whole k e = unfold groups_read in rw e

      after : (k : ℕ) → k ≡ 0 → bytes_after s at k ≡ drop at s
      after k e = unfold bytes_after after_groups in rw e

      ended : groups_from s at (g - i) ≡ []
      ended = unfold groups_from groups_at in rw none
