-- Further laws of chains and of slots, which no proof here cites.
use Rattle.std.specs.Prelude.{◌≡◌, ℕ, suc, ◌+◌, ◌*◌, ◌<◌, ◌≤◌, Bool, true, false, not, ◌⊎◌, List, length, ◌==◌, ◌≢◌, slice_index, slice_index_or, slice_set, Option, None, Some, unwrap_or}
use Rattle.std.proofs.Math.Path.{refl, sym, ap, ap₂}
use Rattle.std.proofs.Common.{◌∙◌, inl, inr, add-one, arith, eqb-true, eq-eqb, get_or-set_other, get_or-set_same, length-set, ne_eqb}
use Rattle.std.specs.Int.Bits.{bit_xor, xor_zero_r}
use Rattle.std.proofs.lemmas.Bool.{eqb-false, not-false, not-true}
use Rattle.model.proofs.TestLaws.{decide, differ}
use Rattle.masking.specs.Masking.{Apart, drawn, shown}
use Rattle.grouping.specs.declared.Leaders.{Leaders}
use Rattle.grouping.specs.Least.{leading, least_visible}
use Rattle.grouping.specs.Chains.{Chains, Entered, Links, Met, SlotsTell, Sought, class_alike, classed_slot, hash_of, row_word, slot_in, slot_in_class}
use Rattle.grouping.specs.ChainLaws.{below, chains_keep, classed_slot_lem, links_keep, met_miss, seeking_start}
use Rattle.grouping.specs.LeastLaws.{least-closed, least_fits, least-met_by, sought_more}
use Rattle.grouping.specs.Keyed.{KeysTold, key_slot, nobody}
use Rattle.grouping.specs.KeyedLaws.{keys_tell, nobody_hidden, shown-all}
use Rattle.grouping.specs.Parted.{New}

-- the hash of a row, word by word
pub hash_more : (rotate : ℕ → ℕ) (edges : List ℕ) (p w : ℕ) {h r : ℕ} → h ≡ hash_of rotate edges false p w → r ≡ bit_xor (rotate h) (slice_index edges (8 * p + w)) → r ≡ hash_of rotate edges false p (w + 1)
unfolding hash_of row_word
hash_more rotate edges p w e g = rw (add-one w) (g ∙ ap₂ (λ (a b : ℕ). bit_xor (rotate a) b) e (sym (xor_zero_r (slice_index edges (8 * p + w)))))

pub hash_done : (rotate : ℕ → ℕ) (edges : List ℕ) (p : ℕ) {w h : ℕ} → h ≡ hash_of rotate edges false p w → w ≡ 8 → h ≡ hash_of rotate edges false p 8
hash_done rotate edges p e f = e ∙ ap (hash_of rotate edges false p) f

-- u leads, and is put in
module _ {u s : ℕ} {t : Leaders} (l : Links u t) (hu : u < 512) (hs : s < 1024) where
  abbrev one : List ℕ
  one = slice_set t.earlier u (slice_index t.last s)

  abbrev two : List ℕ
  two = slice_set t.last s (u + 1)

  size_one : length (slice_set t.earlier u (slice_index t.last s)) ≡ length t.earlier
  size_one = length-set t.earlier u (slice_index t.last s)

  slot-here : slice_index_or two s 0 ≡ u + 1
  slot-here = get_or-set_same t.last s (u + 1) 0 (omega (arith, l.last_size))

  slot-off : (i : ℕ) → (i ≢ s) → slice_index two i ≡ slice_index t.last i
  slot-off i d = get_or-set_other t.last s i (u + 1) 0 d

  next_here : slice_index_or one u 0 ≡ slice_index t.last s
  next_here = get_or-set_same t.earlier u (slice_index t.last s) 0 (omega (arith, l.earlier_size))

  next_off : (c : ℕ) → (c ≢ u) → slice_index one c ≡ slice_index t.earlier c
  next_off c d = get_or-set_other t.earlier u c (slice_index t.last s) 0 d

  pub links_more : Links (u + 1) (record { last = slice_set t.last s (u + 1); earlier = slice_set t.earlier u (slice_index t.last s) })
  links_more = record {
    last_size = length-set t.last s (u + 1) ∙ l.last_size;
    earlier_size = size_one ∙ l.earlier_size;
    below = λ i h. slot-low i h (decide (i == s));
    falls = λ c h. next_low c h (decide (c == u));
  }
    where
      slot-low : (i : ℕ) → i < 1024 → ((i == s) ≡ true) ⊎ ((i == s) ≡ false) → slice_index two i ≤ u + 1
      slot-low i h (inl y) = rw (eqb-true i s y) (omega (arith, slot-here))
      slot-low i h (inr y) = omega (arith, slot-off i (eqb-false i s y), l.below i h)

      next_low : (c : ℕ) → c < 512 → ((c == u) ≡ true) ⊎ ((c == u) ≡ false) → slice_index one c ≤ c
      next_low c h (inl y) = rw (eqb-true c u y) (omega (arith, next_here, l.below s hs))
      next_low c h (inr y) = omega (arith, next_off c (eqb-false c u y), l.falls c h)

  pub chains_more : {slot : ℕ → ℕ} {leads : ℕ → Bool} → Chains slot leads u t → ((q : ℕ) → slot q < 1024) → slot u ≡ s → leads u ≡ true → Chains slot leads (u + 1) (record { last = slice_set t.last s (u + 1); earlier = slice_set t.earlier u (slice_index t.last s) })
  chains_more {slot} {leads} k small es hl = record {
    last = λ q h m. last q m (below q u h) (decide (slot q == s));
    earlier = λ c q m h hc hq e. earlier c q m hc hq e (below c u h);
    last_in = λ i c h e. last_in i c h e (decide (i == s));
    earlier_in = λ c d h hc e. earlier_in c d hc e (below c u h);
  }
    where
      last : (q : ℕ) → leads q ≡ true → (q < u) ⊎ (q ≡ u) → ((slot q == s) ≡ true) ⊎ ((slot q == s) ≡ false) → q < slice_index two (slot q)
      last q m y (inl z) = rw (eqb-true (slot q) s z) (low y)
        where
          low : (q < u) ⊎ (q ≡ u) → q < slice_index two s
          low (inl x) = omega (arith, slot-here)
          low (inr x) = omega (arith, slot-here)
      last q m (inl y) (inr z) = omega (arith, slot-off (slot q) (eqb-false (slot q) s z), k.last q y m)
      last q m (inr y) (inr z) = absurd (eqb-false (slot q) s z (ap slot y ∙ es))

      earlier : (c q : ℕ) → q < c → leads c ≡ true → leads q ≡ true → slot q ≡ slot c → (c < u) ⊎ (c ≡ u) → q < slice_index one c
      earlier c q m hc hq e (inl y) = omega (arith, next_off c (omega arith), k.earlier c q m y hc hq e)
      earlier c q m hc hq e (inr y) =
          let z : slice_index_or t.last (slot q) 0 ≡ slice_index_or t.last s 0 = ap (λ (x : ℕ). slice_index t.last x) (e ∙ ap slot y ∙ es) in
          rw y (omega (arith, next_here, k.last q (omega arith) hq))

      last_in : (i c : ℕ) → i < 1024 → slice_index two i ≡ suc c → ((i == s) ≡ true) ⊎ ((i == s) ≡ false) → (leads c ≡ true) × (slot c ≡ i)
      last_in i c h e (inl y) =
          let si : i ≡ s = eqb-true i s y in
          let z : slice_index_or two i 0 ≡ slice_index_or two s 0 = ap (λ (x : ℕ). slice_index two x) si in
          let cu : c ≡ u = omega (arith, slot-here) in
          (ap leads cu ∙ hl, ap slot cu ∙ es ∙ sym si)
      last_in i c h e (inr y) = k.last_in i c h (sym (slot-off i (eqb-false i s y)) ∙ e)

      earlier_in : (c d : ℕ) → leads c ≡ true → slice_index one c ≡ suc d → (c < u) ⊎ (c ≡ u) → (leads d ≡ true) × (slot d ≡ slot c)
      earlier_in c d hc e (inl y) = k.earlier_in c d y hc (sym (next_off c (omega arith)) ∙ e)
      earlier_in c d hc e (inr y) =
          let z : slice_index_or one c 0 ≡ slice_index_or one u 0 = ap (λ (x : ℕ). slice_index one x) y in
          let i = k.last_in s d hs (sym next_here ∙ sym z ∙ e) in
          (i.0, i.1 ∙ sym es ∙ ap slot (sym y))

-- as the code does it
pub entered : {u s l : ℕ} {t : Leaders} → Links u t → u < 512 → s < 1024 → l ≡ u → Entered u s l t (record { last = slice_set t.last s (u + 1); earlier = slice_set t.earlier u (slice_index t.last s) })
entered {u} {s} {l} h hu hs e = record { links = links_more h hu hs; chains = λ slot leads small es el k. chains_more h hu hs k small es (el ∙ eq-eqb l u e) }

pub not_entered : {u s l : ℕ} {t : Leaders} → Links u t → (l ≢ u) → Entered u s l t t
not_entered {u} {s} {l} h d = record { links = links_keep h; chains = λ slot leads small es el k. chains_keep k (el ∙ ne_eqb l u d) }

-- the search by open rows has found u's group
pub least_open : {n : ℕ} {edges marks classes : List ℕ} → Apart n edges marks classes → {u : ℕ} → u < n → (b : Bool) → b ≡ shown marks u → b ≡ true → (slot : Bool → ℕ → ℕ) → {q : ℕ} → Met (slot false) (leading (drawn n edges marks classes)) (class_alike edges classes false u) u (Some q)
    → q ≡ least_visible (drawn n edges marks classes) u
least_open a hu b e t slot m = least-met_by a hu b e t slot false m

-- r is the least member of u's group, where chains by any slots hold the leaders below u, and u's are a and b
pub record Led (edges classes : List ℕ) (opens closeds : Leaders) (u a b r : ℕ) : Type 0 where
  pub least : (n : ℕ) (slot : Bool → ℕ → ℕ) → Apart n edges nobody classes → u < n → SlotsTell edges classes slot u → slot false u ≡ a → slot true u ≡ b → Sought slot n edges nobody classes u opens closeds
      → r ≡ least_visible (drawn n edges nobody classes) u

-- a slot that is empty
pub none_met : (edges classes : List ℕ) (closed : Bool) {chains : Leaders} {u s : ℕ} → s < 1024 → slice_index chains.last s ≡ 0 → (slot : ℕ → ℕ) (leads : ℕ → Bool) → slot u ≡ s → Chains slot leads u chains → Met slot leads (class_alike edges classes closed u) u None
none_met edges classes closed {u = u} l e slot leads es k = met_miss (seeking_start (class_alike edges classes closed u) k es l (sym e)) refl

-- the two searches lead to the least member
module _ {edges classes : List ℕ} {opens closeds : Leaders} {u a b : ℕ} where
  pub led_open : {q : ℕ} → ((slot : ℕ → ℕ) (leads : ℕ → Bool) → slot u ≡ a → Chains slot leads u opens → Met slot leads (class_alike edges classes false u) u (Some q)) → Led edges classes opens closeds u a b q
  led_open m = record { least = λ n slot h hu tell ea eb s. least_open h hu true (sym (shown-all u)) refl slot (m (slot false) _ ea s.open_chains) }

  pub led_closed : {r : Option ℕ} → ((slot : ℕ → ℕ) (leads : ℕ → Bool) → slot u ≡ a → Chains slot leads u opens → Met slot leads (class_alike edges classes false u) u None)
      → ((slot : ℕ → ℕ) (leads : ℕ → Bool) → slot u ≡ b → Chains slot leads u closeds → Met slot leads (class_alike edges classes true u) u r) → Led edges classes opens closeds u a b (unwrap_or r u)
  led_closed {r} m i = record {
    least = λ n slot h hu tell ea eb s. least-closed h hu true (sym (shown-all u)) refl slot tell (m (slot false) _ ea s.open_chains) r (i (slot true) _ eb s.closed_chains);
  }

-- a turn of the loop: u's slots are a and b, and l is its least member
module _ {n : ℕ} {edges keys classes : List ℕ} (k : KeysTold n edges keys classes) {u a b : ℕ} (hu : u < n) {x y : ℕ} (ex : x ≡ slot_in (slice_index keys (2 * u))) (ey : y ≡ slot_in (slice_index keys (2 * u + 1))) (ea : a ≡ slot_in_class x (slice_index classes u)) (eb : b ≡ slot_in_class y (slice_index classes u)) {opens closeds : Leaders}
    (s : Sought (classed_slot classes (key_slot keys)) n edges nobody classes u opens closeds) {l : ℕ} (d : Led edges classes opens closeds u a b l) where
  open-slot : a ≡ classed_slot classes (key_slot keys) false u
  unfolding key_slot
  open-slot = let z : 2 * u ≡ 2 * u + 0 = omega arith in classed_slot_lem classes (key_slot keys) false u (ex ∙ ap (λ (i : ℕ). slot_in (slice_index keys i)) z) ea

  closed-slot : b ≡ classed_slot classes (key_slot keys) true u
  unfolding key_slot
  closed-slot = classed_slot_lem classes (key_slot keys) true u ey eb

  pub led_least : l ≡ least_visible (drawn n edges nobody classes) u
  led_least = d.least n (classed_slot classes (key_slot keys)) (nobody_hidden k) hu (keys_tell k hu) (sym open-slot) (sym closed-slot) s

  pub led_fits : l < 65536
  led_fits = least_fits (nobody_hidden k) hu led_least

  pub led_on : {opens₁ closeds₁ : Leaders} → Entered u a l opens opens₁ → Entered u b l closeds closeds₁ → Sought (classed_slot classes (key_slot keys)) n edges nobody classes (u + 1) opens₁ closeds₁
  led_on x y = sought_more s led_least (keys_tell k hu) open-slot closed-slot x y

-- one node sought in a chain: no candidate, or one that is met by none and enters
pub new_passed : {twin : ℕ → Bool} {a : Bool} {u s : ℕ} {t : Leaders} → Links u t → not a ≡ true → New twin a u s t t true
new_passed {twin} {a} l n = record {
  hit = λ f. differ refl f;
  miss = λ e t. differ t (not-true a n);
  links = λ e. links_keep l;
  chains = λ e slot leads small es el k. chains_keep k (el ∙ not-true a n);
}

pub new_miss : {twin : ℕ → Bool} {a : Bool} {u s : ℕ} {t : Leaders} → not a ≡ false → {x : Option ℕ} → ((slot : ℕ → ℕ) (leads : ℕ → Bool) → slot u ≡ s → Chains slot leads u t → Met slot leads twin u x) → {after : Leaders} → x ≡ None → Entered u s u t after → New twin a u s t after true
new_miss {a = a} {u = u} y m e h = record {
  hit = λ f. differ refl f;
  miss = λ _ _ slot leads es k. (m slot leads es k).miss e;
  links = λ _. h.links;
  chains = λ _ slot leads small es el k. h.chains slot leads small es (el ∙ not-false a y ∙ sym (eq-eqb u u refl)) k;
}
