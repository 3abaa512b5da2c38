-- Laws of chains: what a walk over one finds, and a leader put in.
use Rattle.std.specs.Prelude.{◌≡◌, ℕ, suc, ◌+◌, ◌-◌, ◌*◌, ◌^◌, ◌<◌, ◌≤◌, Bool, true, false, cond, ◌&&◌, ◌⊎◌, List, length, take, drop, replicate, ◌==◌, ◌≢◌, nat_lt, slice_index, slice_index_or, None, Some}
use Rattle.std.proofs.Math.Path.{refl, sym, ap, ap₂}
use Rattle.std.proofs.Common.{◌∙◌, inl, inr, arith, pow_pos, eqb-true, eq-eqb, ltb-true, ltb-false, ne_eqb}
use Rattle.std.proofs.Math.Bool.{and-false, xor}
use Rattle.std.specs.Int.Bits.{bit_xor, xor_lt}
use Rattle.std.proofs.lemmas.Bool.{eqb-false}
use Rattle.model.specs.Tables.{bit_at}
use Rattle.model.proofs.TestLaws.{and_fst, and_snd, and_true, decide, differ}
use Rattle.buffers.specs.FilledLaws.{get_d_zeros}
use Rattle.search.specs.Search.{own_bit, own_bits, row_in}
use Rattle.rows.specs.Rows.{Words}
use Rattle.rows.specs.BitLaws.{bit_xor_lem, bit_zero}
use Rattle.search.specs.TwinRowLaws.{own_bit_lem, own_bit-lt, own_bits_lem, words_eq, xor_swap}
use Rattle.search.specs.SearchLaws.{meets-all, meets_differ, meets_words, row-length, row_part_lem}
use Rattle.compressed.specs.Compressed.{alike}
use Rattle.grouping.specs.declared.Leaders.{Leaders}
use Rattle.grouping.specs.Chains.{Chains, Links, Met, SlotsTell, class_alike, classed_slot, rotated, row_slot, row_word, slot_for, slot_in_class, unrotated}
use Rattle.grouping.specs.HashLaws.{hash_same}

-- rows that agree have one slot
module _ (edges : List ℕ) (fit : Words edges) (closed : Bool) (u q : ℕ) where
  own-lt : (p w : ℕ) → cond closed (own_bit p w) 0 < 2 ^ 64
  own-lt p w = step closed
    where
      step : (c : Bool) → cond c (own_bit p w) 0 < 2 ^ 64
      step true = own_bit-lt p w
      step false = pow_pos 64

  own_at : (p w j : ℕ) → j < 64 → bit_at (cond closed (own_bit p w) 0) j ≡ cond closed (p == 64 * w + j) false
  own_at p w j l = step closed
    where
      step : (c : Bool) → bit_at (cond c (own_bit p w) 0) j ≡ cond c (p == 64 * w + j) false
      step true = own_bit_lem p w j l
      step false = bit_zero j

  word_same : (w : ℕ) → bit_xor (slice_index edges (8 * u + w)) (slice_index edges (8 * q + w)) ≡ own_bits closed u q w → row_word edges closed q w ≡ row_word edges closed u w
  unfolding row_word
  word_same w h = words_eq _ _ (small q) (small u) (λ j l. bits q j l ∙ sym (rotated j l) ∙ sym (bits u j l))
    where
      small : (p : ℕ) → bit_xor (slice_index edges (8 * p + w)) (cond closed (own_bit p w) 0) < 2 ^ 64
      small p = xor_lt 64 (slice_index edges (8 * p + w)) (cond closed (own_bit p w) 0) (fit (8 * p + w)) (own-lt p w)

      bits : (p j : ℕ) → j < 64 → bit_at (bit_xor (slice_index edges (8 * p + w)) (cond closed (own_bit p w) 0)) j ≡ xor (bit_at (slice_index edges (8 * p + w)) j) (cond closed (p == 64 * w + j) false)
      bits p j l = bit_xor_lem (slice_index edges (8 * p + w)) (cond closed (own_bit p w) 0) j ∙ ap (xor (bit_at (slice_index edges (8 * p + w)) j)) (own_at p w j l)

      both : (c x y : Bool) → cond c (xor x y) false ≡ xor (cond c x false) (cond c y false)
      both true x y = refl
      both false x y = unfold xor in refl

      rotated : (j : ℕ) → j < 64 → xor (bit_at (slice_index edges (8 * u + w)) j) (cond closed (u == 64 * w + j) false) ≡ xor (bit_at (slice_index edges (8 * q + w)) j) (cond closed (q == 64 * w + j) false)
      rotated j l =
          xor_swap (bit_at (slice_index edges (8 * u + w)) j) (bit_at (slice_index edges (8 * q + w)) j) (cond closed (u == 64 * w + j) false) (cond closed (q == 64 * w + j) false)
          (sym (bit_xor_lem (slice_index edges (8 * u + w)) (slice_index edges (8 * q + w)) j) ∙ ap (λ (x : ℕ). bit_at x j) h ∙ own_bits_lem closed u q w j l ∙ both closed (u == 64 * w + j) (q == 64 * w + j))

  pub alike_slot : alike edges closed u q ≡ true → row_slot edges closed q ≡ row_slot edges closed u
  unfolding alike row_slot
  alike_slot h = ap₂ slot_for (hash_same rotated edges closed q u 8 words) (hash_same unrotated edges closed q u 8 words)
    where
      words : (w : ℕ) → w < 8 → row_word edges closed q w ≡ row_word edges closed u w
      words w l = word_same w (meets_words closed u q edges h w l)

-- a slot moved by a class
moved_lt : (s class : ℕ) → slot_in_class s class < 1024
unfolding slot_in_class
moved_lt s class = omega arith

pub moved_small : (s class : ℕ) {r : ℕ} → r ≡ slot_in_class s class → r < 1024
moved_small s class e = omega (arith, moved_lt s class)

-- where rows that agree have one slot, so have those of one class, moved by it
pub classed_tell : (edges classes : List ℕ) (slot : Bool → ℕ → ℕ) {u : ℕ} → ((closed : Bool) (q : ℕ) → q < u → alike edges closed u q ≡ true → slot closed q ≡ slot closed u) → SlotsTell edges classes (classed_slot classes slot) u
unfolding classed_slot class_alike
classed_tell edges classes slot {u} h = record {
  small = λ closed q. moved_lt (slot closed q) (slice_index classes q);
  same = λ closed q l t. ap₂ slot_in_class (h closed q l (and_snd (slice_index classes u == slice_index classes q) (alike edges closed u q) t)) (sym (eqb-true (slice_index classes u) (slice_index classes q) (and_fst (slice_index classes u == slice_index classes q) (alike edges closed u q) t)));
}

pub classed_slot_lem : (classes : List ℕ) (slot : Bool → ℕ → ℕ) (closed : Bool) (u : ℕ) {s r : ℕ} → s ≡ slot closed u → r ≡ slot_in_class s (slice_index classes u) → r ≡ classed_slot classes slot closed u
unfolding classed_slot
classed_slot_lem classes slot closed u es e = e ∙ ap (λ (x : ℕ). slot_in_class x (slice_index classes u)) es

-- a row has eight words
pub row-size : (edges : List ℕ) (u : ℕ) {row : List ℕ} → row ≡ row_in edges u → 8 * u + 8 ≤ length edges → length row ≡ 8
row-size edges u e h = ap length (e ∙ sym (row_part_lem edges u)) ∙ row-length edges u h

-- at a node of another class, or at a row that was lent as a part
module _ (edges classes : List ℕ) (closed : Bool) (u q : ℕ) where
  pub class_differs : (slice_index classes q ≢ slice_index classes u) → class_alike edges classes closed u q ≡ false
  unfolding class_alike
  class_differs d = rw (ne_eqb (slice_index classes u) (slice_index classes q) (λ e. d (sym e)))

  module _ {row : List ℕ} (mine : row ≡ row_in edges u) where
    pub alike_differs : (i own : ℕ) → i < 8 → own ≡ own_bits closed u q i → (bit_xor (slice_index row i) (slice_index (take (8 * q + 8 - 8 * q) (drop (8 * q) edges)) i) ≢ own) → class_alike edges classes closed u q ≡ false
    unfolding class_alike alike
    alike_differs i own l e d = ap (λ (b : Bool). (slice_index classes u == slice_index classes q) && b) (rw (← mine) (meets_differ closed u q row (row_in edges q) i own l e (λ h. d (rw row_part_lem h)))) ∙ and-false (slice_index classes u == slice_index classes q)

    pub alike-agrees : slice_index_or classes q 0 ≡ slice_index classes u → ((k : ℕ) → k < 8 → bit_xor (slice_index row k) (slice_index (take (8 * q + 8 - 8 * q) (drop (8 * q) edges)) k) ≡ own_bits closed u q k) → class_alike edges classes closed u q ≡ true
    unfolding class_alike alike
    alike-agrees e h = and_true (eq-eqb (slice_index classes u) (slice_index classes q) (sym e)) (rw (← mine) (meets-all closed u q row (row_in edges q) 8 (λ k l. rw row_part_lem at (h k l))))

-- a chain goes down
pub links_less : {u : ℕ} {t : Leaders} {c c' : ℕ} → Links u t → (c ≢ 0) → c ≤ 512 → c' ≡ slice_index t.earlier (c - 1) → c' < c
links_less {u} {t} {c} {c'} l some small e = omega (arith, l.falls (c - 1) (omega arith))

-- a walk over the chain of u's slot: c is the node that it has come to, counted from 1
pub record Seeking (slot : ℕ → ℕ) (leads twin : ℕ → Bool) (u c : ℕ) : Type 0 where
  pub on : (d : ℕ) → c ≡ suc d → (leads d ≡ true) × (slot d ≡ slot u)
  pub left : (q : ℕ) → q < u → leads q ≡ true → slot q ≡ slot u → twin q ≡ true → q < c

module _ {slot : ℕ → ℕ} {leads : ℕ → Bool} (twin : ℕ → Bool) {u : ℕ} {t : Leaders} (k : Chains slot leads u t) where
  pub seeking_start : {s c : ℕ} → slot u ≡ s → s < 1024 → c ≡ slice_index t.last s → Seeking slot leads twin u c
  seeking_start {s} {c} es l ec = record {
    on = λ d h. let i = k.last_in s d l (sym ec ∙ h) in (i.0, i.1 ∙ sym es);
    left = λ q hq hl hs ht. let z : slice_index_or t.last (slot q) 0 ≡ c = ap (λ (x : ℕ). slice_index t.last x) (hs ∙ es) ∙ sym ec in omega (arith, k.last q hq hl);
  }

  module _ {c : ℕ} (h : Seeking slot leads twin u c) (some : c ≡ 0 → ⊥) (low : c ≤ u) where
    at : c ≡ suc (c - 1)
    at = omega arith

    pub seeking_on : {c' : ℕ} → twin (c - 1) ≡ false → c' ≡ slice_index t.earlier (c - 1) → Seeking slot leads twin u c'
    seeking_on {c'} f ec = record {
      on = λ d g. let i = k.earlier_in (c - 1) d (omega arith) (h.on (c - 1) at).0 (here ∙ g) in (i.0, i.1 ∙ (h.on (c - 1) at).1);
      left = λ q hq hl hs ht. let m : q < c - 1 = less q (h.left q hq hl hs ht) ht in omega (arith, here, k.earlier (c - 1) q m (omega arith) (h.on (c - 1) at).0 hl (hs ∙ sym (h.on (c - 1) at).1));
    }
      where
        here : slice_index_or t.earlier (c - 1) 0 ≡ c'
        here = sym ec

        less : (q : ℕ) → q < c → twin q ≡ true → q < c - 1
        less q l ht = step (decide (q == c - 1))
          where
            step : ((q == c - 1) ≡ true) ⊎ ((q == c - 1) ≡ false) → q < c - 1
            step (inl y) = differ ht (ap twin (eqb-true q (c - 1) y) ∙ f)
            step (inr y) = let d : q ≡ c - 1 → ⊥ = eqb-false q (c - 1) y in omega arith

    pub met_hit : twin (c - 1) ≡ true → Met slot leads twin u (Some (c - 1))
    met_hit f = record { hit = λ q z. let e : c - 1 ≡ q = cc in (omega arith, ap leads (sym e) ∙ (h.on (c - 1) at).0, ap twin (sym e) ∙ f); miss = λ z. cc }

pub met_miss : {slot : ℕ → ℕ} {leads twin : ℕ → Bool} {u c : ℕ} → Seeking slot leads twin u c → c ≡ 0 → Met slot leads twin u None
met_miss {slot} {leads} {twin} {u} {c} h e = record { hit = λ q z. cc; miss = λ z q hq hl hs. step q hq hl hs (decide (twin q)) }
  where
    step : (q : ℕ) → q < u → leads q ≡ true → slot q ≡ slot u → (twin q ≡ true) ⊎ (twin q ≡ false) → twin q ≡ false
    step q hq hl hs (inl y) = absurd (omega (arith, h.left q hq hl hs y))
    step q hq hl hs (inr y) = y

-- nothing in the chains
pub links_none : Links 0 (record { last = replicate 1024 0; earlier = replicate 512 0 })
links_none = record { last_size = refl; earlier_size = refl; below = λ s h. omega (arith, get_d_zeros 1024 s); falls = λ c h. omega (arith, get_d_zeros 512 c) }

pub chains_none : (slot : ℕ → ℕ) (leads : ℕ → Bool) {t : Leaders} → Links 0 t → Chains slot leads 0 t
chains_none slot leads l = record {
  last = λ q h. absurd (omega arith);
  earlier = λ c q h g. absurd (omega arith);
  last_in = λ s c h e. absurd (omega (arith, l.below s h));
  earlier_in = λ c d h. absurd (omega arith);
}

-- u does not lead
pub links_keep : {u : ℕ} {t : Leaders} → Links u t → Links (u + 1) t
links_keep l = record { last_size = l.last_size; earlier_size = l.earlier_size; below = λ s h. omega (arith, l.below s h); falls = l.falls }

pub below : (q u : ℕ) → q < u + 1 → (q < u) ⊎ (q ≡ u)
below q u h = step (decide (nat_lt q u))
  where
    step : (nat_lt q u ≡ true) ⊎ (nat_lt q u ≡ false) → (q < u) ⊎ (q ≡ u)
    step (inl t) = inl (ltb-true q u t)
    step (inr t) = inr (omega (arith, ltb-false q u t))

pub chains_keep : {slot : ℕ → ℕ} {leads : ℕ → Bool} {u : ℕ} {t : Leaders} → Chains slot leads u t → leads u ≡ false → Chains slot leads (u + 1) t
chains_keep {slot} {leads} {u} {t} k f = record {
  last = λ q h hl. k.last q (low q h hl) hl;
  earlier = λ c q m h hc hl hs. k.earlier c q m (low c h hc) hc hl hs;
  last_in = k.last_in;
  earlier_in = λ c d h hc e. k.earlier_in c d (low c h hc) hc e;
}
  where
    low : (q : ℕ) → q < u + 1 → leads q ≡ true → q < u
    low q h hl = step (below q u h)
      where
        step : (q < u) ⊎ (q ≡ u) → q < u
        step (inl y) = y
        step (inr y) = differ hl (ap leads y ∙ f)
