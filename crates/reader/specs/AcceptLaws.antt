-- Every file in order is accepted.
use Rattle.std.specs.Prelude.{◌≡◌, Bool, true, false, not, ◌&&◌, ◌||◌, cond, ltb, leb, drop, Some}
use Rattle.std.proofs.Math.Path.{refl, ap}
use Rattle.std.proofs.Common.{sym, ◌∙◌, arith, length-append, drop_at, drop-drop}
use mathlib.Core.List.{List, [], ◌∷◌, ◌++◌, map, append_assoc}
use Prim.Native.Nat.{ℕ, zero, suc, ◌+◌, ◌*◌, ◌-◌, ◌/◌, ◌%◌, ◌≤◌, ◌<◌}
use Rattle.std.proofs.Math.ListN.{length, length-drop}
use borrow.Author.Tests.{eq-eqb, ne_eqb, le-ltb, leb-true, le-leb}
use Rattle.model.specs.Lists.{concat, head_or, member}
use Rattle.model.specs.Graph.{max_classes, max_nodes}
use Rattle.model.specs.Release.{end_record, head_record, superedge_record, u16}
use Rattle.model.specs.Reading.{is_mark, u16_at, u16s}
use Rattle.model.specs.Reading as reading
use Rattle.model.specs.InOrder.{file_by, follows, group_fits, groups_fit, in_order, marked_record, members_fit, members_in, pair_key, superedges_fit}
use Rattle.model.proofs.TestLaws.{and_fst, and_snd, and_true}
use Rattle.model.proofs.ReleaseLaws.{length_superedge_records, length-u16s}
use Rattle.model.proofs.ReadingLaws.{u16s_back}
use Rattle.model.proofs.InOrderLaws.{in_order_parts, members_few}
use Rattle.records.specs.declared.Counts.{Counts}
use Rattle.records.specs.declared.Record.TheVariants.{Head, Group, Superedge, End}
use Rattle.records.specs.Records.{group_item, head_item, if_whole, item_in, less_group, less_member, spent, superedge_item}
use Rattle.records.specs.RecordLaws.{u16-drop}
use Rattle.compressed.specs.Compressed.{kind_marked}
use Rattle.reader.specs.Decoding.{accepted, body_fits, count_at, counts_fit, ends_at, group_taken, groups_read, least_count, listed_at, members_read, numbers_at, stop_at}

number : (x : ℕ) → x % 256 + 256 * (x / 256) ≡ x
number x = omega arith

-- each record is read as what it was written for
head_item_lem : (n m g : ℕ) (r : List ℕ) → item_in (head_record n m g ++ r) ≡ Some (Head n m g)
unfolding item_in is_mark head_item if_whole head_record u16 u16_at
head_item_lem n m g r =
    let l = head_record n m g ++ r in
    rw (le-ltb (length l) 2 (omega arith), le-leb 8 (length l) (omega arith), number n, number m, number g)

group_item_lem : (q : Bool) (count class : ℕ) (r : List ℕ) → item_in (0x47 ∷ cond q 0x43 0x49 ∷ (u16 count ++ (u16 class ++ r))) ≡ Some (Group q count class)
unfolding item_in is_mark group_item if_whole u16 u16_at
group_item_lem true count class r = let l : List ℕ = 0x47 ∷ 0x43 ∷ (u16 count ++ (u16 class ++ r)) in rw (le-ltb (length l) 2 (omega arith), le-leb 6 (length l) (omega arith), number count, number class)
group_item_lem false count class r = let l : List ℕ = 0x47 ∷ 0x49 ∷ (u16 count ++ (u16 class ++ r)) in rw (le-ltb (length l) 2 (omega arith), le-leb 6 (length l) (omega arith), number count, number class)

superedge_item_lem : (x : ℕ × ℕ) (r : List ℕ) → item_in (superedge_record x ++ r) ≡ Some (Superedge x.0 x.1)
unfolding item_in is_mark superedge_item if_whole superedge_record u16 u16_at
superedge_item_lem x r =
    let l = superedge_record x ++ r in
    rw (le-ltb (length l) 2 (omega arith), le-leb 6 (length l) (omega arith), number x.0, number x.1)

end_item : item_in end_record ≡ Some End
unfolding item_in is_mark end_record
end_item = refl

-- members that fit are taken while the counts last
members_pass : (n : ℕ) (f : ℕ → Bool) (ms : List ℕ) (low : ℕ) (c : Counts) → members_fit n f low ms ≡ true → length ms ≤ c.members → members_read n f low c ms ≡ Some (record { members = c.members - length ms; groups = c.groups })
unfolding members_read members_fit less_member
members_pass n f [] low c t l = let e : c.members - 0 ≡ c.members = omega arith in rw e
members_pass n f (x ∷ xs) low c t l =
    let u : (ltb x n && (not (f x) && members_fit n f (suc x) xs)) ≡ true = and_snd (leb low x) _ t in
    let v : (not (f x) && members_fit n f (suc x) xs) ≡ true = and_snd (ltb x n) _ u in
    let e : c.members - 1 - length xs ≡ c.members - suc (length xs) = omega arith in
    rw (and_fst (leb low x) _ t, and_fst (ltb x n) _ u, and_fst (not (f x)) _ v, ne_eqb c.members 0 (λ z. omega arith))
    (members_pass n f xs (suc x) (record { members = c.members - 1; groups = c.groups }) (and_snd (not (f x)) _ v) (omega arith) ∙ rw e)

length_marked : (g : reading.Head × List ℕ) → length (marked_record g) ≡ 6 + 2 * length g.1
unfolding marked_record u16
length_marked g = omega (arith, length-u16s g.1)

-- a group that fits: its class, its count and its members
group_parts : (n : ℕ) (f : ℕ → Bool) (low : ℕ) (g : reading.Head × List ℕ) → group_fits n f low g ≡ true → (ltb g.0.class max_classes ≡ true) × (leb (least_count g.0.clique) (length g.1) ≡ true) × (members_fit n f low g.1 ≡ true)
unfolding group_fits least_count
group_parts n f low g t =
    let u = and_snd (ltb g.0.class max_classes) (leb (cond g.0.clique 2 1) (length g.1) && members_fit n f low g.1) t in
    (and_fst (ltb g.0.class max_classes) _ t, and_fst (leb (cond g.0.clique 2 1) (length g.1)) _ u, and_snd (leb (cond g.0.clique 2 1) (length g.1)) _ u)

-- it has a member
group_some : (n : ℕ) (f : ℕ → Bool) (low : ℕ) (g : reading.Head × List ℕ) → group_fits n f low g ≡ true → 1 ≤ length g.1
unfolding least_count
group_some n f low g t = some g.0.clique (leb-true (cond g.0.clique 2 1) (length g.1) (group_parts n f low g t).1)
  where
    some : (q : Bool) → cond q 2 1 ≤ length g.1 → 1 ≤ length g.1
    some true l = omega arith
    some false l = l

-- so there are at least as many members as groups
groups_within : (n : ℕ) (f : ℕ → Bool) (low : ℕ) (gs : List (reading.Head × List ℕ)) → groups_fit n f low gs ≡ true → length gs ≤ length (members_in gs)
unfolding groups_fit members_in concat
groups_within n f low [] t = omega arith
groups_within n f low (g ∷ gs) t =
    omega (
      arith,
      length-append g.1 (concat (map (λ (h : reading.Head × List ℕ). h.1) gs)),
      group_some n f low g (and_fst (group_fits n f low g) _ t),
      groups_within n (λ p. member p g.1 || f p) (suc (head_or 0 g.1)) gs (and_snd (group_fits n f low g) _ t),
    )

module _ (n : ℕ) (s : List ℕ) where
  -- one group at a place
  module _ (g : reading.Head × List ℕ) (r : List ℕ) (at : ℕ) (here : drop at s ≡ marked_record g ++ r) where
    room : at + 6 + 2 * length g.1 ≤ length s
    room = omega (arith, length-drop at s, ap length here, length-append (marked_record g) r, length_marked g)

    item : item_in (drop at s) ≡ Some (Group g.0.clique (length g.1) g.0.class)
    item = ap item_in here ∙ (unfold marked_record u16 in group_item_lem g.0.clique (length g.1) g.0.class (concat (map u16 g.1) ++ r))

    body : drop (at + 6) s ≡ concat (map u16 g.1) ++ r
    body = sym (drop-drop 6 at s) ∙ ap (drop 6) here ∙ (unfold marked_record u16 in refl)

    members : numbers_at s (at + 6) (length g.1) ≡ g.1
    members = unfold numbers_at in (ap (u16s (length g.1)) body ∙ u16s_back g.1 r)

    count : count_at s at ≡ length g.1
    count = unfold count_at in (sym (u16-drop s at 2) ∙ ap (λ (x : List ℕ). u16_at x 2) here ∙ (unfold marked_record u16_at u16 in number (length g.1)))

    listed : listed_at s at ≡ g.1
    listed = unfold listed_at in (ap (numbers_at s (at + 6)) count ∙ members)

    first : 1 ≤ length g.1 → u16_at s (at + 6) ≡ head_or 0 g.1
    first l =
        let e : at + 6 + 0 ≡ at + 6 = omega arith in
        ap (u16_at s) (sym e) ∙ sym (u16-drop s (at + 6) 0) ∙ ap (λ (x : List ℕ). u16_at x 0) body ∙ led g.1 l
      where
        led : (ms : List ℕ) → 1 ≤ length ms → u16_at (concat (map u16 ms) ++ r) 0 ≡ head_or 0 ms
        led [] l = absurd (omega arith)
        led (x ∷ xs) l = unfold concat u16_at u16 in number x

    after : drop (at + 6 + 2 * length g.1) s ≡ r
    after =
        let f : at + (6 + 2 * length g.1) ≡ at + 6 + 2 * length g.1 = omega arith in
        ap (λ (x : ℕ). drop x s) (sym f) ∙ sym (drop-drop (6 + 2 * length g.1) at s) ∙ ap (drop (6 + 2 * length g.1)) here ∙ drop_at (marked_record g) r (6 + 2 * length g.1) (length_marked g)

    group-pass : (f : ℕ → Bool) (low : ℕ) (c : Counts) → group_fits n f low g ≡ true → length g.1 ≤ c.members → 0 < c.groups
        → group_taken n f low c s at ≡ Some (record { kind = kind_marked g.0.clique (length g.1); class = g.0.class; first = head_or 0 g.1; next = at + 6 + 2 * length g.1; left = record { members = c.members - length g.1; groups = c.groups - 1 } })
    group-pass f low c t l some = unfold group_taken less_group in rw (item, (group_parts n f low g t).0, (group_parts n f low g t).1, le-leb (at + 6 + 2 * length g.1) (length s) room, ne_eqb c.groups 0 (λ z. omega arith), members, taken, first (group_some n f low g t))
      where
        taken : members_read n f low (record { members = c.members; groups = c.groups - 1 }) g.1 ≡ Some (record { members = c.members - length g.1; groups = c.groups - 1 })
        taken = members_pass n f g.1 low (record { members = c.members; groups = c.groups - 1 }) (group_parts n f low g t).2 l

  -- groups that fit are taken while the counts last
  groups-pass : (gs : List (reading.Head × List ℕ)) (f : ℕ → Bool) (low : ℕ) (r : List ℕ) (at : ℕ) (c : Counts) → drop at s ≡ concat (map marked_record gs) ++ r → groups_fit n f low gs ≡ true → c.groups ≡ length gs → c.members ≡ length (members_in gs)
      → (next : ℕ) × (groups_read n (length gs) f low c s at ≡ Some (record { next = next; left = record { members = 0; groups = 0 } })) × (drop next s ≡ r)
  unfolding concat members_in groups_fit
  groups-pass [] f low r at c here t a b = (at, (unfold groups_read in (λ i. Some (record { next = at; left = record { members = b i; groups = a i } }))), here)
  groups-pass (g ∷ gs) f low r at c here t a b =
      let more = groups-pass gs (λ p. member p g.1 || f p) (suc (head_or 0 g.1)) r (at + 6 + 2 * length g.1) left (after g (concat (map marked_record gs) ++ r) at one) (and_snd (group_fits n f low g) _ t) (omega arith) (omega (arith, size)) in
      (more.0, step ∙ more.1, more.2)
    where
      left : Counts
      left = record { members = c.members - length g.1; groups = c.groups - 1 }

      one : drop at s ≡ marked_record g ++ (concat (map marked_record gs) ++ r)
      one = here ∙ append_assoc (marked_record g) (concat (map marked_record gs)) r

      size : length (g.1 ++ concat (map (λ (h : reading.Head × List ℕ). h.1) gs)) ≡ length g.1 + length (concat (map (λ (h : reading.Head × List ℕ). h.1) gs))
      size = length-append g.1 (concat (map (λ (h : reading.Head × List ℕ). h.1) gs))

      first_step : groups_read n (suc (length gs)) f low c s at ≡ groups_read n (length gs) (λ p. member p (listed_at s at) || f p) (suc (head_or 0 g.1)) left s (at + 6 + 2 * length g.1)
      first_step = unfold groups_read in rw (group-pass g (concat (map marked_record gs) ++ r) at one f low c (and_fst (group_fits n f low g) _ t) (omega (arith, size, b)) (omega (arith, a)))

      step : groups_read n (suc (length gs)) f low c s at ≡ groups_read n (length gs) (λ p. member p g.1 || f p) (suc (head_or 0 g.1)) left s (at + 6 + 2 * length g.1)
      step = first_step ∙ ap (λ (l : List ℕ). groups_read n (length gs) (λ p. member p l || f p) (suc (head_or 0 g.1)) left s (at + 6 + 2 * length g.1)) (listed g (concat (map marked_record gs) ++ r) at one)

  -- superedges in order are read up to the end
  superedges-pass : (g : ℕ) (c : Counts) → spent c ≡ true → (js : List (ℕ × ℕ)) (last k at : ℕ) → length js ≤ k → drop at s ≡ concat (map superedge_record js) ++ end_record → superedges_fit g last js ≡ true → ends_at c s (stop_at g s last k at) ≡ true
  unfolding stop_at superedges_fit concat
  superedges-pass g c t [] last k at l here o = ap (ends_at c s) (stops k) ∙ (unfold ends_at in rw (ap item_in here ∙ end_item, t) (eq-eqb (at + 2) (length s) (omega (arith, length-drop at s, two))))
    where
      two : length (drop at s) ≡ 2
      two = ap length here ∙ (unfold end_record in refl)

      stops : (k : ℕ) → stop_at g s last k at ≡ at
      stops zero = unfold stop_at in refl
      stops (suc k) = unfold stop_at in rw (ap item_in here ∙ end_item)
  superedges-pass g c t (x ∷ xs) last zero at l here o = absurd (omega arith)
  superedges-pass g c t (x ∷ xs) last (suc k) at l here o = rw (ap item_in one ∙ superedge_item_lem x rest, and_fst (follows g last x.0 x.1) _ o) (superedges-pass g c t xs (pair_key x.0 x.1) k (at + 6) (omega arith) next (and_snd (follows g last x.0 x.1) _ o))
    where
      rest : List ℕ
      rest = concat (map superedge_record xs) ++ end_record

      one : drop at s ≡ superedge_record x ++ rest
      one = here ∙ append_assoc (superedge_record x) (concat (map superedge_record xs)) end_record

      next : drop (at + 6) s ≡ rest
      next = sym (drop-drop 6 at s) ∙ ap (drop 6) one ∙ (unfold superedge_record u16 in refl)

-- the whole file
pub in_order-accepted : (n : ℕ) (gs : List (reading.Head × List ℕ)) (js : List (ℕ × ℕ)) → in_order n gs js ≡ true → accepted (file_by n gs js) ≡ true
in_order-accepted n gs js t = unfold accepted in rw head (and_true sizes body-fits)
  where
    parts : (n ≤ max_nodes) × (groups_fit n (λ p. false) 0 gs ≡ true) × (superedges_fit (length gs) 0 js ≡ true)
    parts = in_order_parts n gs js t

    s : List ℕ
    s = file_by n gs js

    m : ℕ
    m = length (members_in gs)

    tail : List ℕ
    tail = concat (map superedge_record js) ++ end_record

    head : item_in (file_by n gs js) ≡ Some (Head n (length (members_in gs)) (length gs))
    head = unfold file_by in head_item_lem n m (length gs) (concat (map marked_record gs) ++ tail)

    sizes : counts_fit n (length (members_in gs)) (length gs) ≡ true
    sizes = unfold counts_fit in and_true (le-leb n max_nodes parts.0) (and_true (le-leb m n (members_few n gs parts.1)) (le-leb (length gs) m (groups_within n (λ p. false) 0 gs parts.1)))

    after_head : drop 8 s ≡ concat (map marked_record gs) ++ tail
    after_head = unfold file_by head_record u16 in refl

    long : length js ≤ length s
    long = omega (arith, length-drop 8 s, ap length after_head, length-append (concat (map marked_record gs)) tail, length-append (concat (map superedge_record js)) end_record, length_superedge_records js)

    groups : (next : ℕ) × (groups_read n (length gs) (λ p. false) 0 (record { members = m; groups = length gs }) s 8 ≡ Some (record { next = next; left = record { members = 0; groups = 0 } })) × (drop next s ≡ tail)
    groups = groups-pass n s gs (λ p. false) 0 tail 8 (record { members = m; groups = length gs }) after_head parts.1 refl refl

    body-fits : body_fits (file_by n gs js) n (length (members_in gs)) (length gs) ≡ true
    body-fits = unfold body_fits in rw groups.1 (superedges-pass n s (length gs) (record { members = 0; groups = 0 }) (unfold spent in refl) js 0 (length s) groups.0 long groups.2 parts.2)
