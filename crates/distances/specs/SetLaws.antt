-- Laws of sets of nodes as rows of bits: what words tell, and the nodes joined to one in a set.
use Rattle.std.specs.Prelude.{◌≡◌, refl, Bool, ◌&&◌, ◌||◌, List, [], ◌∷◌, ◌⊎◌, ℕ, ◌+◌, ◌*◌, ◌-◌, ◌/◌, ◌%◌, ◌^◌, ◌≤◌, ◌<◌, ltb, drop, get_or, length, replicate, take}
use Rattle.std.proofs.Math.Path.{sym, ap}
use Rattle.std.proofs.Common.{ap₂, ◌∙◌, inl, inr, length-set, get_or-set_same, get_or-set_other}
use Rattle.std.proofs.Math.Bool.{true, false, not, xor, and-false, and-or_distrib_left, and-or_distrib_right, and_self, or-false, or-true}
use mathlib.Core.List.Memᴰ
use native.Mathlib.Omega.{arith}
use Rattle.std.proofs.lemmas.Nat.{and_le_l, or_lt}
use Rattle.std.specs.Int.Bits.{bit_and, bit_or, bit_xor}
use Rattle.std.specs.Int.Count.{count_trailing_zeros}
use Rattle.std.proofs.Math.Dec.{eqb}
use Rattle.std.proofs.Math.ListN.{set}
use borrow.Author.Tests.{eqb-false, eqb-true, eq-eqb, le-ltb, lt-ltb, ltb-false, ltb-true, ne_eqb}
use Rattle.model.specs.Lists.{◌∈◌, any, nodes}
use Rattle.model.specs.Tables.{bit_at, edge_bit}
use Rattle.model.proofs.TestLaws.{and_fst, and_snd, and_true, decide, differ, iff_eq, or_cases, or_left, or_right}
use Rattle.model.proofs.ListLaws.{any_cong, any_elim, any_intro, nodes_in_lem, nodes_out}
use Rattle.rows.specs.BitLaws.{bit_and_lem, bit_xor_lem, bit_zero, row-bit}
use Rattle.buffers.specs.WordBitsLaws.{cleared_off, lowest_set, lowest_small}
use Rattle.drawing.specs.Drawing.{Added, Adding, row_to}
use Rattle.drawing.specs.BitLaws.{added_only, bit_or_lem}
use Rattle.drawing.specs.DrawingLaws.{added_none, added_then, adding_done, adding_step}
use Rattle.unfolding.specs.Filling.{Room, RowRoom}
use Rattle.unfolding.specs.FillingLaws.{word_room}
use Rattle.distances.specs.Distances.{SetOf, from_any, have_common, in_word}

-- a node of a set, by its word
row_word_lem : (row : List ℕ) (q w : ℕ) → q / 64 ≡ w → edge_bit row 0 q ≡ bit_at (get_or row w 0) (q % 64)
unfolding edge_bit
row_word_lem row q w e = let z : 8 * 0 + q / 64 ≡ w = omega arith in rw z

-- the first w words of two sets have a node in common where a word has a bit
pub record Common (set other : List ℕ) (w common : ℕ) : Type 0 where
  pub small : common < 2 ^ 64
  pub told : (k : ℕ) → k < 64 → bit_at common k ≡ true → (q : ℕ) × (q < 64 * w) × ((edge_bit set 0 q && edge_bit other 0 q) ≡ true)
  pub kept : (q : ℕ) → q < 64 * w → (edge_bit set 0 q && edge_bit other 0 q) ≡ true → bit_at common (q % 64) ≡ true

module _ (set other : List ℕ) where
  both_bits : (q w : ℕ) → q / 64 ≡ w → (edge_bit set 0 q && edge_bit other 0 q) ≡ bit_at (bit_and (get_or set w 0) (get_or other w 0)) (q % 64)
  both_bits q w e = ap₂ ◌&&◌ (row_word_lem set q w e) (row_word_lem other q w e) ∙ sym (bit_and_lem (get_or set w 0) (get_or other w 0) (q % 64))

  pub common_none : Common set other 0 0
  common_none = record { small = omega arith; told = λ k l h. differ h (bit_zero k); kept = λ q l h. absurd (omega arith) }

  pub common_more : (w common : ℕ) → get_or set w 0 < 2 ^ 64 → Common set other w common → Common set other (w + 1) (bit_or common (bit_and (get_or set w 0) (get_or other w 0)))
  common_more w common fits c = record {
    small = or_lt 64 common x c.small (omega (arith, and_le_l (get_or set w 0) (get_or other w 0)));
    told = λ k l h. told k l (or_cases (bit_at common k) (bit_at x k) (sym (bit_or_lem common x k) ∙ h));
    kept = λ q l h. bit_or_lem common x (q % 64) ∙ kept q l h (decide (eqb (q / 64) w));
  }
    where
      x : ℕ
      x = bit_and (get_or set w 0) (get_or other w 0)

      told : (k : ℕ) → k < 64 → (bit_at common k ≡ true) ⊎ (bit_at x k ≡ true) → (q : ℕ) × (q < 64 * (w + 1)) × ((edge_bit set 0 q && edge_bit other 0 q) ≡ true)
      told k l (inl h) = let r = c.told k l h in (r.0, omega (arith, r.1), r.2)
      told k l (inr h) =
          let u : (64 * w + k) % 64 ≡ k = omega arith in
          (64 * w + k, omega arith, both_bits (64 * w + k) w (omega arith) ∙ rw u h)

      kept : (q : ℕ) → q < 64 * (w + 1) → (edge_bit set 0 q && edge_bit other 0 q) ≡ true → (eqb (q / 64) w ≡ true) ⊎ (eqb (q / 64) w ≡ false) → (bit_at common (q % 64) || bit_at x (q % 64)) ≡ true
      kept q l h (inl e) = or_right (bit_at common (q % 64)) (sym (both_bits q w (eqb-true (q / 64) w e)) ∙ h)
      kept q l h (inr e) = let d = eqb-false (q / 64) w e in or_left (bit_at x (q % 64)) (c.kept q (omega (arith, d)) h)

  pub common_done : (w common : ℕ) → w ≤ 8 → 8 ≤ w → Common set other w common → not (eqb common 0) ≡ have_common set other
  unfolding have_common
  common_done w common l m c = iff_eq (not (eqb common 0)) (any (nodes 512) (λ q. edge_bit set 0 q && edge_bit other 0 q)) (λ h. there (decide (eqb common 0)) h) back
    where
      there : (eqb common 0 ≡ true) ⊎ (eqb common 0 ≡ false) → not (eqb common 0) ≡ true → any (nodes 512) (λ q. edge_bit set 0 q && edge_bit other 0 q) ≡ true
      there (inl e) h = differ h (ap not e)
      there (inr e) h =
          let some = eqb-false common 0 e in
          let r = c.told (count_trailing_zeros 64 common) (lowest_small common c.small some) (lowest_set common c.small some) in
          any_intro (nodes 512) (λ q. edge_bit set 0 q && edge_bit other 0 q) r.0 (nodes_in_lem 512 r.0 (omega (arith, r.1))) r.2

      back : any (nodes 512) (λ q. edge_bit set 0 q && edge_bit other 0 q) ≡ true → not (eqb common 0) ≡ true
      back h =
          let r = any_elim (nodes 512) (λ q. edge_bit set 0 q && edge_bit other 0 q) h in
          ap not (ne_eqb common 0 (λ e. differ (c.kept r.0 (omega (arith, nodes_out 512 r.0 r.1)) r.2) (ap (λ (y : ℕ). bit_at y (r.0 % 64)) e ∙ bit_zero (r.0 % 64))))

-- the first w words of a row have the bits that are told
pub record WordsOf (P : ℕ → Bool) (w : ℕ) (row : List ℕ) : Type 0 where
  pub size : length row ≡ 8
  pub bits : (q : ℕ) → q < 64 * w → edge_bit row 0 q ≡ P q

words_more : {P : ℕ → Bool} {w : ℕ} {row : List ℕ} (x : ℕ) → w < 8 → ((q : ℕ) → q / 64 ≡ w → bit_at x (q % 64) ≡ P q) → WordsOf P w row → WordsOf P (w + 1) (set row w x)
words_more {P} {w} {row} x l e h = record { size = length-set row w x ∙ h.size; bits = λ q m. one q m (decide (eqb (q / 64) w)) }
  where
    one : (q : ℕ) → q < 64 * (w + 1) → (eqb (q / 64) w ≡ true) ⊎ (eqb (q / 64) w ≡ false) → edge_bit (set row w x) 0 q ≡ P q
    one q m (inl i) =
        let u = eqb-true (q / 64) w i in
        row_word_lem (set row w x) q w u ∙ ap (λ (y : ℕ). bit_at y (q % 64)) (get_or-set_same row w x 0 (omega (arith, h.size))) ∙ e q u
    one q m (inr i) =
        let d = eqb-false (q / 64) w i in
        row_word_lem (set row w x) q (q / 64) refl ∙ ap (λ (y : ℕ). bit_at y (q % 64)) (get_or-set_other row w (q / 64) x 0 d) ∙ sym (row_word_lem row q (q / 64) refl) ∙ h.bits q (omega (arith, d))

-- a word without the bits of another
less_bit : (s o : Bool) → xor (s || o) o ≡ (s && not o)
unfolding xor
less_bit true true = refl
less_bit true false = refl
less_bit false true = refl
less_bit false false = refl

pub less_more : (st other : List ℕ) {w : ℕ} {row : List ℕ} → w < 8 → WordsOf (λ q. edge_bit st 0 q && not (edge_bit other 0 q)) w row
    → WordsOf (λ q. edge_bit st 0 q && not (edge_bit other 0 q)) (w + 1) (set row w (bit_xor (bit_or (get_or st w 0) (get_or other w 0)) (get_or other w 0)))
less_more st other {w} {row} l = words_more (bit_xor (bit_or (get_or st w 0) (get_or other w 0)) (get_or other w 0)) l bits
  where
    bits : (q : ℕ) → q / 64 ≡ w → bit_at (bit_xor (bit_or (get_or st w 0) (get_or other w 0)) (get_or other w 0)) (q % 64) ≡ (edge_bit st 0 q && not (edge_bit other 0 q))
    bits q e =
        rw (row_word_lem st q w e, row_word_lem other q w e)
        (bit_xor_lem (bit_or (get_or st w 0) (get_or other w 0)) (get_or other w 0) (q % 64)
        ∙ ap (λ (b : Bool). xor b (bit_at (get_or other w 0) (q % 64))) (bit_or_lem (get_or st w 0) (get_or other w 0) (q % 64))
        ∙ less_bit (bit_at (get_or st w 0) (q % 64)) (bit_at (get_or other w 0) (q % 64)))

-- the nodes joined to one in a set, by parts of the set
any_or : (p f g : ℕ → Bool) (l : List ℕ) → ((r : ℕ) → r ∈ l → p r ≡ (f r || g r)) → any l p ≡ (any l f || any l g)
unfolding any
any_or p f g [] e = refl
any_or p f g (x ∷ xs) e = rw (e x (Memᴰ.head refl), any_or p f g xs (λ r m. e r (Memᴰ.tail m))) (swap (f x) (g x) (any xs f) (any xs g))
  where
    swap : (a b c d : Bool) → ((a || b) || (c || d)) ≡ ((a || c) || (b || d))
    swap true b c d = refl
    swap false true c d = sym (or-true c)
    swap false false c d = refl

module _ (joined : List ℕ) (a b : ℕ) where
  from_or : (P R Q : ℕ → Bool) → ((r : ℕ) → r < 512 → P r ≡ (R r || Q r)) → from_any P joined a b ≡ (from_any R joined a b || from_any Q joined a b)
  unfolding from_any
  from_or P R Q e =
      ap (λ (z : Bool). eqb a 0 && z)
      (any_or (λ r. P r && edge_bit joined r b) (λ r. R r && edge_bit joined r b) (λ r. Q r && edge_bit joined r b) (nodes 512)
      (λ r m. ap (λ (z : Bool). z && edge_bit joined r b) (e r (nodes_out 512 r m)) ∙ and-or_distrib_right (R r) (Q r) (edge_bit joined r b)))
      ∙ and-or_distrib_left (eqb a 0) (any (nodes 512) (λ r. R r && edge_bit joined r b)) (any (nodes 512) (λ r. Q r && edge_bit joined r b))

  from-same : (P Q : ℕ → Bool) → ((r : ℕ) → r < 512 → P r ≡ Q r) → from_any P joined a b ≡ from_any Q joined a b
  unfolding from_any
  from-same P Q e = ap (λ (z : Bool). eqb a 0 && z) (any_cong (λ r. P r && edge_bit joined r b) (λ r. Q r && edge_bit joined r b) (nodes 512) (λ r m. ap (λ (z : Bool). z && edge_bit joined r b) (e r (nodes_out 512 r m))))

  from_none : (P : ℕ → Bool) → ((r : ℕ) → P r ≡ false) → from_any P joined a b ≡ false
  unfolding from_any
  from_none P e = iff_eq (eqb a 0 && any (nodes 512) (λ r. P r && edge_bit joined r b)) false some (λ h. differ h refl)
    where
      some : (eqb a 0 && any (nodes 512) (λ r. P r && edge_bit joined r b)) ≡ true → false ≡ true
      some h =
          let r = any_elim (nodes 512) (λ r. P r && edge_bit joined r b) (and_snd (eqb a 0) (any (nodes 512) (λ r. P r && edge_bit joined r b)) h) in
          sym (e r.0) ∙ and_fst (P r.0) (edge_bit joined r.0 b) r.2

  from_one : (l : ℕ) → l < 512 → from_any (λ r. eqb r l) joined a b ≡ (eqb a 0 && edge_bit joined l b)
  unfolding from_any
  from_one l m = ap (λ (z : Bool). eqb a 0 && z) (iff_eq (any (nodes 512) (λ r. eqb r l && edge_bit joined r b)) (edge_bit joined l b) there back)
    where
      there : any (nodes 512) (λ r. eqb r l && edge_bit joined r b) ≡ true → edge_bit joined l b ≡ true
      there h =
          let r = any_elim (nodes 512) (λ r. eqb r l && edge_bit joined r b) h in
          ap (λ (y : ℕ). edge_bit joined y b) (sym (eqb-true r.0 l (and_fst (eqb r.0 l) (edge_bit joined r.0 b) r.2))) ∙ and_snd (eqb r.0 l) (edge_bit joined r.0 b) r.2

      back : edge_bit joined l b ≡ true → any (nodes 512) (λ r. eqb r l && edge_bit joined r b) ≡ true
      back h = any_intro (nodes 512) (λ r. eqb r l && edge_bit joined r b) l (nodes_in_lem 512 l m) (and_true (eq-eqb l l refl) h)

-- the nodes of a word, from the lowest on
module _ (w x : ℕ) (small : x < 2 ^ 64) (some : x ≡ 0 → ⊥) {t : ℕ} (lowest : t ≡ count_trailing_zeros 64 x) where
  word_next : (r : ℕ) → (eqb r (64 * w + t) ≡ true) ⊎ (eqb r (64 * w + t) ≡ false) → (eqb (r / 64) w ≡ true) ⊎ (eqb (r / 64) w ≡ false) → in_word x w r ≡ (eqb r (64 * w + t) || in_word (bit_and x (x - 1)) w r)
  unfolding in_word
  word_next r (inl h) i =
      let s : t < 64 = omega (arith, lowest_small x small some) in
      let e : r ≡ 64 * w + t = eqb-true r (64 * w + t) h in
      let u : r / 64 ≡ w = omega arith in
      let v : r % 64 ≡ count_trailing_zeros 64 x = omega arith in
      rw (h, eq-eqb (r / 64) w u, v) (lowest_set x small some)
  word_next r (inr h) (inl i) =
      let d : r ≡ 64 * w + t → ⊥ = eqb-false r (64 * w + t) h in
      let u : r / 64 ≡ w = eqb-true (r / 64) w i in
      rw (h, i, cleared_off x small some (r % 64) (λ v. d (omega arith)))
  word_next r (inr h) (inr i) = rw (h, i)

  pub reach_next : (joined : List ℕ) {all : ℕ → ℕ → Bool} {t₀ now after : List ℕ} → 64 * w + t < 512 → Adding all (from_any (in_word x w) joined) t₀ now
      → Added (row_to 0 (take (8 * (64 * w + t) + 8 - 8 * (64 * w + t)) (drop (8 * (64 * w + t)) joined))) now after → Adding all (from_any (in_word (bit_and x (x - 1)) w) joined) t₀ after
  unfolding row_to
  reach_next joined {now = now} {after = after} m i d =
      adding_step i drawn (λ a b. from_or joined a b (in_word x w) (λ r. eqb r (64 * w + t)) (in_word (bit_and x (x - 1)) w) (λ r l. word_next r (decide (eqb r (64 * w + t))) (decide (eqb (r / 64) w))))
    where
      drawn : Added (from_any (λ r. eqb r (64 * w + t)) joined) now after
      drawn = record {
        size = d.size;
        bits = λ a b l. d.bits a b l ∙ ap (λ (z : Bool). edge_bit now a b || z) (ap (λ (z : Bool). eqb a 0 && z) (row-bit joined (64 * w + t) b l) ∙ sym (from_one joined a b (64 * w + t) m));
      }

word_none : (w r : ℕ) → in_word 0 w r ≡ false
unfolding in_word
word_none w r = rw (bit_zero (r % 64), and-false (eqb (r / 64) w))

pub reach_done : (joined : List ℕ) (x w : ℕ) {all : ℕ → ℕ → Bool} {t now : List ℕ} → Adding all (from_any (in_word x w) joined) t now → x ≡ 0 → Added all t now
reach_done joined x w i e = adding_done i (λ a b. from_none joined a b (in_word x w) (λ r. ap (λ (y : ℕ). in_word y w r) e ∙ word_none w r))

-- word after word of a set
pub set_room : (set : List ℕ) (w : ℕ) {size : ℕ} → w < 8 → RowRoom size set 0 → Room size w (get_or set w 0)
set_room set w h r = word_room set 0 w (get_or set w 0) (let z : 8 * 0 + w ≡ w = omega arith in rw z) h r

abbrev pub to_word : List ℕ → ℕ → ℕ → Bool
to_word set w r = ltb (r / 64) w && edge_bit set 0 r

module _ (joined set : List ℕ) where
  pub reached_none : (t : List ℕ) → Added (from_any (to_word set 0) joined) t t
  reached_none t = added_none (from_any (to_word set 0) joined) t (λ a b. from_none joined a b (to_word set 0) (λ r. rw (le-ltb (r / 64) 0 (omega arith))))

  word_more : (w r : ℕ) → (ltb (r / 64) w ≡ true) ⊎ (ltb (r / 64) w ≡ false) → (eqb (r / 64) w ≡ true) ⊎ (eqb (r / 64) w ≡ false) → to_word set (w + 1) r ≡ (to_word set w r || in_word (get_or set w 0) w r)
  unfolding in_word
  word_more w r (inl h) d =
      let l = ltb-true (r / 64) w h in
      rw (h, lt-ltb (r / 64) (w + 1) (omega arith), ne_eqb (r / 64) w (λ e. omega arith)) (sym (or-false (edge_bit set 0 r)))
  word_more w r (inr h) (inl d) =
      let e = eqb-true (r / 64) w d in
      rw (h, d, lt-ltb (r / 64) (w + 1) (omega arith)) (row_word_lem set r w e)
  word_more w r (inr h) (inr d) =
      let l = ltb-false (r / 64) w h in
      rw (h, d, le-ltb (r / 64) (w + 1) (omega (arith, eqb-false (r / 64) w d)))

  pub reached_more : (w : ℕ) {t now after : List ℕ} → Added (from_any (to_word set w) joined) t now → Added (from_any (in_word (get_or set w 0) w) joined) now after → Added (from_any (to_word set (w + 1)) joined) t after
  reached_more w x y = added_then x y (λ a b. sym (from_or joined a b (to_word set (w + 1)) (to_word set w) (in_word (get_or set w 0) w) (λ r l. word_more w r (decide (ltb (r / 64) w)) (decide (eqb (r / 64) w)))))

  pub reached_done : (w : ℕ) {t now : List ℕ} → 8 ≤ w → length t ≡ 8 → t ≡ replicate (length t) 0 → Added (from_any (to_word set w) joined) t now → SetOf (from_any (edge_bit set 0) joined 0) now
  reached_done w {t} l n blank x = record {
    size = x.size ∙ n;
    bits = λ q m. added_only t blank x 0 q m ∙ from-same joined 0 q (to_word set w) (edge_bit set 0) (λ r k. rw (lt-ltb (r / 64) w (omega arith)));
  }

-- a row has a node in common with itself where it has one
abbrev pub row_part : List ℕ → ℕ → List ℕ
row_part joined l = take (8 * l + 8 - 8 * l) (drop (8 * l) joined)

pub own_common : (joined : List ℕ) (l : ℕ) → have_common (row_part joined l) (row_part joined l) ≡ any (nodes 512) (edge_bit joined l)
unfolding have_common
own_common joined l =
    any_cong (λ q. edge_bit (row_part joined l) 0 q && edge_bit (row_part joined l) 0 q) (edge_bit joined l) (nodes 512) (λ q m. and_self (edge_bit (row_part joined l) 0 q) ∙ row-bit joined l q (nodes_out 512 q m))
