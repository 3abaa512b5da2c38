-- Laws of counts and records.
use Rattle.std.proofs.Math.Path.{◌≡◌, sym, ap}
use Rattle.std.specs.Prelude.{refl, Bool, true, false, ◌&&◌, cond, List, [], ◌∷◌, ◌⊎◌, ltb, leb, length, drop, Option, Some, None, option_map}
use Rattle.std.proofs.lemmas.Option.{none-some, same_Some}
use Rattle.std.proofs.Common.{subst, ◌∙◌, inl, inr}
use Prim.Native.Nat.{ℕ, suc, ◌+◌, ◌*◌, ◌≤◌, ◌<◌}
use native.Mathlib.Omega.{arith}
use Rattle.std.proofs.Math.Dec.{eqb}
use Rattle.std.proofs.Math.ListN.{get_or, length-drop}
use Rattle.std.proofs.Math.Seq.{get_or-drop}
use borrow.Author.Tests.{eq-eqb, eqb-true, ne_eqb, leb-true, le-leb, lt-leb, le-ltb, lt-ltb, ltb-false}
use Rattle.model.specs.Reading.{is_mark, u16_at}
use Rattle.model.proofs.TestLaws.{and_fst, and_snd, and_true, decide, differ, iff_eq}
use Rattle.records.specs.declared.Record.{Record}
use Rattle.records.specs.declared.Record.TheVariants.{Head, Group, Superedge, End}
use Rattle.records.specs.declared.Read.{Read}
use Rattle.records.specs.Records.{group_at, group_item, head_at, head_item, if_whole, is_from, item_in, lead_of, mark_at, read_as, record_at, size_of, superedge_at, superedge_from, superedge_item, u32_at}

module _ (s : List ℕ) (at : ℕ) where
  -- a number read at a place is read in what follows the place
  pub u16-drop : (i : ℕ) → u16_at (drop at s) i ≡ u16_at s (at + i)
  unfolding u16_at
  u16-drop i = let e : at + suc i ≡ suc (at + i) = omega arith in rw (get_or-drop at s i 0, get_or-drop at s (suc i) 0, e)

  -- a mark's two bytes, compared as one number
  pub mark_is : (m : List ℕ) (x y : ℕ) → x ≡ u16_at s at → y ≡ get_or m 0 0 + get_or m 1 0 * 256 → get_or s at 0 < 256 → get_or s (at + 1) 0 < 256 → get_or m 0 0 < 256 → eqb x y ≡ mark_at s at m
  unfolding mark_at is_mark u16_at
  mark_is m x y e f hs ht hm =
      let z : at + 0 ≡ at = omega arith in
      let o : suc at ≡ at + 1 = omega arith in
      let g : x ≡ get_or s at 0 + 256 * get_or s (at + 1) 0 = e ∙ ap (λ (i : ℕ). get_or s at 0 + 256 * get_or s i 0) o in
      rw (get_or-drop at s 0 0, get_or-drop at s 1 0, z)
      (iff_eq (eqb x y) (eqb (get_or s at 0) (get_or m 0 0) && eqb (get_or s (at + 1) 0) (get_or m 1 0))
      (λ t. let h : x ≡ y = eqb-true x y t in and_true (eq-eqb (get_or s at 0) (get_or m 0 0) (omega arith)) (eq-eqb (get_or s (at + 1) 0) (get_or m 1 0) (omega arith)))
      (λ t.
      let h : get_or s at 0 ≡ get_or m 0 0 = eqb-true (get_or s at 0) (get_or m 0 0) (and_fst (eqb (get_or s at 0) (get_or m 0 0)) (eqb (get_or s (at + 1) 0) (get_or m 1 0)) t) in
      let k : get_or s (at + 1) 0 ≡ get_or m 1 0 = eqb-true (get_or s (at + 1) 0) (get_or m 1 0) (and_snd (eqb (get_or s at 0) (get_or m 0 0)) (eqb (get_or s (at + 1) 0) (get_or m 1 0)) t) in
      eq-eqb x y (omega arith)))

  -- how much follows the place
  short : (size : ℕ) (i : Record) → at ≤ length s → length s < at + size → if_whole (drop at s) size i ≡ None
  unfolding if_whole
  short size i l h = rw (lt-leb size (length (drop at s)) (simp length-drop (omega arith)))

  full : (size : ℕ) (i : Record) → at + size ≤ length s → if_whole (drop at s) size i ≡ Some i
  unfolding if_whole
  full size i h = rw (le-leb size (length (drop at s)) (simp length-drop (omega arith)))

  pub head_short : at ≤ length s → length s < at + 8 → None ≡ head_at s at
  unfolding head_at head_item
  head_short l h = ap (option_map (read_as at)) (sym (short 8 (Head (u16_at (drop at s) 2) (u16_at (drop at s) 4) (u16_at (drop at s) 6)) l h))

  pub head_full : (n m g : ℕ) → at + 8 ≤ length s → n ≡ u16_at s (at + 2) → m ≡ u16_at s (at + 4) → g ≡ u16_at s (at + 6) → Some (record { next = at + 8; item = Head n m g }) ≡ head_at s at
  unfolding head_at head_item read_as size_of
  head_full n m g h a b c = rw (full 8 (Head (u16_at (drop at s) 2) (u16_at (drop at s) 4) (u16_at (drop at s) 6)) h, u16-drop 2, u16-drop 4, u16-drop 6, ← a, ← b, ← c)

  pub group_short : (q : Bool) → at ≤ length s → length s < at + 6 → None ≡ group_at q s at
  unfolding group_at group_item
  group_short q l h = ap (option_map (read_as at)) (sym (short 6 (Group q (u16_at (drop at s) 2) (u16_at (drop at s) 4)) l h))

  pub group_full : (q : Bool) (n k : ℕ) → at + 6 ≤ length s → n ≡ u16_at s (at + 2) → k ≡ u16_at s (at + 4) → Some (record { next = at + 6; item = Group q n k }) ≡ group_at q s at
  unfolding group_at group_item read_as size_of
  group_full q n k h a b = rw (full 6 (Group q (u16_at (drop at s) 2) (u16_at (drop at s) 4)) h, u16-drop 2, u16-drop 4, ← a, ← b)

  pub superedge_short : at ≤ length s → length s < at + 6 → None ≡ superedge_at s at
  unfolding superedge_at superedge_item
  superedge_short l h = ap (option_map (read_as at)) (sym (short 6 (Superedge (u16_at (drop at s) 2) (u16_at (drop at s) 4)) l h))

  pub superedge_full : (i j : ℕ) → at + 6 ≤ length s → i ≡ u16_at s (at + 2) → j ≡ u16_at s (at + 4) → Some (record { next = at + 6; item = Superedge i j }) ≡ superedge_at s at
  unfolding superedge_at superedge_item read_as size_of
  superedge_full i j h a b = rw (full 6 (Superedge (u16_at (drop at s) 2) (u16_at (drop at s) 4)) h, u16-drop 2, u16-drop 4, ← a, ← b)

  -- no room for a mark
  pub no_mark : length s < at + 2 → None ≡ record_at s at
  unfolding record_at item_in
  no_mark h = rw (lt-ltb (length (drop at s)) 2 (simp length-drop (omega arith)))

  -- the record by its mark: a mark that was found, after those that were not
  abbrev pub Marked : Bool → ℕ → ℕ → Type 0
  Marked t a b = t ≡ mark_at s at (a ∷ b ∷ [])

  module _ (room : at + 2 ≤ length s) where
    roomy : ltb (length (drop at s)) 2 ≡ false
    roomy = le-ltb (length (drop at s)) 2 (simp length-drop (omega arith))

    pub by_superedge : Marked true 0x53 0x45 → superedge_at s at ≡ record_at s at
    unfolding mark_at head_at group_at superedge_at record_at item_in
    by_superedge a = rw (roomy, ← a)

    pub by_group : Marked false 0x53 0x45 → Marked true 0x47 0x49 → group_at false s at ≡ record_at s at
    unfolding mark_at head_at group_at superedge_at record_at item_in
    by_group a b = rw (roomy, ← a, ← b)

    pub by_clique : Marked false 0x53 0x45 → Marked false 0x47 0x49 → Marked true 0x47 0x43 → group_at true s at ≡ record_at s at
    unfolding mark_at head_at group_at superedge_at record_at item_in
    by_clique a b c = rw (roomy, ← a, ← b, ← c)

    pub by_head : Marked false 0x53 0x45 → Marked false 0x47 0x49 → Marked false 0x47 0x43 → Marked true 0x48 0x44 → head_at s at ≡ record_at s at
    unfolding mark_at head_at group_at superedge_at record_at item_in
    by_head a b c d = rw (roomy, ← a, ← b, ← c, ← d)

    pub by_end : Marked false 0x53 0x45 → Marked false 0x47 0x49 → Marked false 0x47 0x43 → Marked false 0x48 0x44 → Marked true 0x45 0x4E → Some (record { next = at + 2; item = End }) ≡ record_at s at
    unfolding mark_at head_at group_at superedge_at record_at item_in read_as size_of
    by_end a b c d e = rw (roomy, ← a, ← b, ← c, ← d, ← e)

    pub by_none : Marked false 0x53 0x45 → Marked false 0x47 0x49 → Marked false 0x47 0x43 → Marked false 0x48 0x44 → Marked false 0x45 0x4E → None ≡ record_at s at
    unfolding mark_at head_at group_at superedge_at record_at item_in
    by_none a b c d e = rw (roomy, ← a, ← b, ← c, ← d, ← e)

-- what the record that bytes begin with tells of them
abbrev pub Fits : List ℕ → Option Record → Type 0
Fits r (Some (Head n m g)) = (8 ≤ length r) × (n ≡ u16_at r 2) × (m ≡ u16_at r 4) × (g ≡ u16_at r 6)
Fits r (Some (Group q count class)) = (6 ≤ length r) × (count ≡ u16_at r 2) × (class ≡ u16_at r 4) × (q ≡ eqb (get_or r 1 0) 0x43)
Fits r (Some (Superedge i j)) = (6 ≤ length r) × (i ≡ u16_at r 2) × (j ≡ u16_at r 4) × (is_mark r 0x53 0x45 ≡ true)
Fits r (Some End) = (2 ≤ length r) × (get_or r 0 0 ≡ 0x45)
Fits r None = Unit {0}

whole_fits : (r : List ℕ) (size : ℕ) (i : Record) → (size ≤ length r → Fits r (Some i)) → Fits r (if_whole r size i)
unfolding if_whole
whole_fits r size i f = step (decide (leb size (length r)))
  where
    step : (leb size (length r) ≡ true) ⊎ (leb size (length r) ≡ false) → Fits r (cond (leb size (length r)) (Some i) None)
    step (inl t) = rw t (f (leb-true size (length r) t))
    step (inr t) = rw t tt

cond_fits : (r : List ℕ) (t : Bool) (i j : Option Record) → (t ≡ true → Fits r i) → (t ≡ false → Fits r j) → Fits r (cond t i j)
cond_fits r true i j f g = f refl
cond_fits r false i j f g = g refl

pub item_fits : (r : List ℕ) → Fits r (item_in r)
unfolding item_in is_mark superedge_item group_item head_item
item_fits r =
    cond_fits r (ltb (length r) 2) None _ (λ t. tt) (λ room.
    cond_fits r (eqb (get_or r 0 0) 0x53 && eqb (get_or r 1 0) 0x45) (superedge_item r) _ (λ t. whole_fits r 6 (Superedge (u16_at r 2) (u16_at r 4)) (λ l. (l, refl, refl, t))) (λ _.
    cond_fits r (eqb (get_or r 0 0) 0x47 && eqb (get_or r 1 0) 0x49) (group_item false r) _ (λ t. whole_fits r 6 (Group false (u16_at r 2) (u16_at r 4)) (λ l. (l, refl, refl, sym (ne_eqb (get_or r 1 0) 0x43 (λ e. omega (arith, eqb-true (get_or r 1 0) 0x49 (and_snd (eqb (get_or r 0 0) 0x47) (eqb (get_or r 1 0) 0x49) t))))))) (λ _.
    cond_fits r (eqb (get_or r 0 0) 0x47 && eqb (get_or r 1 0) 0x43) (group_item true r) _ (λ t. whole_fits r 6 (Group true (u16_at r 2) (u16_at r 4)) (λ l. (l, refl, refl, sym (and_snd (eqb (get_or r 0 0) 0x47) (eqb (get_or r 1 0) 0x43) t)))) (λ _.
    cond_fits r (eqb (get_or r 0 0) 0x48 && eqb (get_or r 1 0) 0x44) (head_item r) _ (λ t. whole_fits r 8 (Head (u16_at r 2) (u16_at r 4) (u16_at r 6)) (λ l. (l, refl, refl, refl))) (λ _.
    cond_fits r (eqb (get_or r 0 0) 0x45 && eqb (get_or r 1 0) 0x4E) (Some End) None (λ t. (ltb-false (length r) 2 room, eqb-true (get_or r 0 0) 0x45 (and_fst (eqb (get_or r 0 0) 0x45) (eqb (get_or r 1 0) 0x4E) t))) (λ _. tt))))))

-- a record that was read at a place
module _ (s : List ℕ) (at : ℕ) (r : Read) (read : Some r ≡ record_at s at) where
  told_read : (o : Option Record) → Some r ≡ option_map (read_as at) o → (o ≡ Some r.item) × (r.next ≡ at + size_of r.item)
  unfolding read_as
  told_read None e = absurd (none-some r (sym e))
  told_read (Some i) e =
      let f : r ≡ record { next = at + size_of i; item = i } = same_Some r _ e in
      let g : i ≡ r.item = sym (ap (λ (x : Read). x.item) f) in
      (ap Some g, ap (λ (x : Read). x.next) f ∙ ap (λ (x : Record). at + size_of x) g)

  both : (item_in (drop at s) ≡ Some r.item) × (r.next ≡ at + size_of r.item)
  unfolding record_at
  both = told_read (item_in (drop at s)) read

  pub item_is : Some r.item ≡ item_in (drop at s)
  item_is = sym both.0

  pub next_is : r.next ≡ at + size_of r.item
  next_is = both.1

  pub fits_at : (i : Record) → r.item ≡ i → Fits (drop at s) (Some i)
  fits_at i e = subst (Fits (drop at s)) (both.0 ∙ ap Some e) (item_fits (drop at s))

-- no record at a place
pub none_in : (s : List ℕ) (at : ℕ) → None ≡ record_at s at → None ≡ item_in (drop at s)
unfolding record_at
none_in s at read = by (item_in (drop at s)) read
  where
    by : (o : Option Record) → None ≡ option_map (read_as at) o → None ≡ o
    by None e = refl
    by (Some i) e = absurd (none-some (read_as at i) e)

-- a superedge from a group: six bytes, the mark and the group
from_first : (i a j : ℕ) → is_from i (Some (Superedge a j)) ≡ true → a ≡ i
unfolding is_from
from_first i a j t = eqb-true a i t

from_told : (r : List ℕ) (i : ℕ) (x : Option Record) → Fits r x → is_from i x ≡ true → (6 ≤ length r) × (is_mark r 0x53 0x45 ≡ true) × (u16_at r 2 ≡ i)
unfolding is_from
from_told r i (Some (Superedge a j)) f t = (f.0, f.3, sym f.1 ∙ from_first i a j t)
from_told r i (Some (Head n m g)) f t = differ t refl
from_told r i (Some (Group q count class)) f t = differ t refl
from_told r i (Some End) f t = differ t refl
from_told r i None f t = differ t refl

from_by : (r : List ℕ) (i : ℕ) → 6 ≤ length r → is_mark r 0x53 0x45 ≡ true → u16_at r 2 ≡ i → is_from i (item_in r) ≡ true
unfolding item_in superedge_item if_whole is_from
from_by r i h m e = rw (le-ltb (length r) 2 (omega arith), m, le-leb 6 (length r) h) (eq-eqb (u16_at r 2) i e)

module _ (s : List ℕ) (at i : ℕ) where
  from-yes : is_from i (item_in (drop at s)) ≡ true → record_at s at ≡ superedge_from i s at
  unfolding superedge_from record_at read_as
  from-yes t = rw t

  from-no : is_from i (item_in (drop at s)) ≡ false → None ≡ superedge_from i s at
  unfolding superedge_from record_at read_as
  from-no t = rw t

  from_none : (is_from i (item_in (drop at s)) ≡ true → ⊥) → None ≡ superedge_from i s at
  from_none h = by (decide (is_from i (item_in (drop at s))))
    where
      by : (is_from i (item_in (drop at s)) ≡ true) ⊎ (is_from i (item_in (drop at s)) ≡ false) → None ≡ superedge_from i s at
      by (inl t) = absurd (h t)
      by (inr t) = from-no t

  told : is_from i (item_in (drop at s)) ≡ true → (6 ≤ length (drop at s)) × (is_mark (drop at s) 0x53 0x45 ≡ true) × (u16_at (drop at s) 2 ≡ i)
  told = from_told (drop at s) i (item_in (drop at s)) (item_fits (drop at s))

  pub from_short : length s < at + 6 → None ≡ superedge_from i s at
  from_short h = from_none (λ t. omega (arith, (told t).0, length-drop at s))

  -- by the number that four bytes make
  module _ (x y : ℕ) (read : x ≡ u32_at s at) (lead : y ≡ lead_of i) where
    halves : x ≡ u16_at (drop at s) 0 + 65536 * u16_at (drop at s) 2
    unfolding u32_at
    halves = let z : at + 0 ≡ at = omega arith in read ∙ rw (u16-drop s at 0, u16-drop s at 2, z)

    pub from_other : (x ≡ y → ⊥) → None ≡ superedge_from i s at
    unfolding is_mark u16_at lead_of
    from_other h =
        from_none (λ t.
        let a = eqb-true (get_or (drop at s) 0 0) 0x53 (and_fst (eqb (get_or (drop at s) 0 0) 0x53) (eqb (get_or (drop at s) 1 0) 0x45) (told t).1) in
        let b = eqb-true (get_or (drop at s) 1 0) 0x45 (and_snd (eqb (get_or (drop at s) 0 0) 0x53) (eqb (get_or (drop at s) 1 0) 0x45) (told t).1) in
        h (omega (arith, halves, (told t).2)))

    pub from_here : at + 6 ≤ length s → get_or s at 0 < 256 → get_or s (at + 1) 0 < 256 → x ≡ y → record_at s at ≡ superedge_from i s at
    unfolding is_mark u16_at lead_of
    from_here room a b e =
        let z : at + 0 ≡ at = omega arith in
        let c : get_or (drop at s) 0 0 < 256 = rw (get_or-drop at s 0 0, z) a in
        let d : get_or (drop at s) 1 0 < 256 = rw (get_or-drop at s 1 0) b in
        let mark = and_true (eq-eqb (get_or (drop at s) 0 0) 0x53 (omega (arith, halves))) (eq-eqb (get_or (drop at s) 1 0) 0x45 (omega (arith, halves))) in
        from-yes (from_by (drop at s) i (simp length-drop (omega arith)) mark (omega (arith, halves)))

  -- what was found, or not
  pub from_is : (r : Read) → Some r ≡ superedge_from i s at → (a j : ℕ) → r.item ≡ Superedge a j → (Some r ≡ record_at s at) × (a ≡ i)
  from_is r read a j e = by (decide (is_from i (item_in (drop at s))))
    where
      by : (is_from i (item_in (drop at s)) ≡ true) ⊎ (is_from i (item_in (drop at s)) ≡ false) → (Some r ≡ record_at s at) × (a ≡ i)
      by (inl t) =
          let here : Some r ≡ record_at s at = read ∙ sym (from-yes t) in
          (here, from_first i a j (ap (is_from i) (ap Some (sym e) ∙ item_is s at r here) ∙ t))
      by (inr t) = absurd (none-some r (from-no t ∙ sym read))

  from_here-is : (j : ℕ) → item_in (drop at s) ≡ Some (Superedge i j) → record_at s at ≡ superedge_from i s at
  from_here-is j e = from-yes (unfold is_from in (ap (is_from i) e ∙ eq-eqb i i refl))

  -- no record, or no superedge
  pub none-from : None ≡ superedge_from i s at → (j : ℕ) → item_in (drop at s) ≡ Some (Superedge i j) → ⊥
  none-from read j e =
      let f : record_at s at ≡ Some (read_as at (Superedge i j)) = unfold record_at in (ap (option_map (read_as at)) e) in
      none-some (read_as at (Superedge i j)) (read ∙ sym (from_here-is j e) ∙ f)

  pub from-not : (r : Read) → Some r ≡ superedge_from i s at → ((a j : ℕ) → r.item ≡ Superedge a j → ⊥) → (j : ℕ) → item_in (drop at s) ≡ Some (Superedge i j) → ⊥
  from-not r read h j e = h i j (same_Some _ _ (item_is s at r (read ∙ sym (from_here-is j e)) ∙ e))
