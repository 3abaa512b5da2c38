-- Laws of superedges found word by word.
use Rattle.std.specs.Prelude.{◌≡◌, refl, Bool, true, false, not, ◌&&◌, cond, ◌⊎◌, ℕ, suc, zero, ◌+◌, ◌*◌, ◌-◌, ◌/◌, ◌%◌, ◌^◌, ◌≤◌, ◌<◌, eqb, ltb, replicate}
use Rattle.std.proofs.Math.Path.{sym, ap}
use Rattle.std.proofs.Common.{◌∙◌, inl, inr, div-mul-le_self, mod-eq_of_lt, add-one, length-set, drop-cons, get_or-set_same, get_or-set_other, eqb-true, ltb-true, lt-ltb, le-ltb}
use Rattle.std.proofs.Math.Bool.{and-false}
use mathlib.Core.List.{List, [], ◌∷◌, ◌++◌, map, append_assoc, map-append}
use Rattle.std.proofs.Math.Nat.{zero-div}
use native.Mathlib.Omega.{arith}
use Rattle.std.specs.Int.Bits.{bit_and}
use Rattle.std.proofs.lemmas.Nat.{and_le_l, and_le_r}
use Rattle.std.specs.Int.Count.{ones, count_trailing_zeros}
use Rattle.std.proofs.Math.ListN.{length, get_or, set, drop, drop_of_length-le}
use Rattle.std.proofs.lemmas.Bool.{eqb-false}
use Rattle.model.specs.Lists.{concat, filter, from}
use Rattle.model.specs.Tables.{bit_at, edge_bit}
use Rattle.model.specs.Release.{superedge_record}
use Rattle.model.proofs.TestLaws.{decide, iff_eq}
use Rattle.rows.specs.BitLaws.{bit_and_lem}
use Rattle.rows.specs.Rows.{leads}
use Rattle.buffers.specs.FilledLaws.{get_d_zeros}
use Rattle.buffers.specs.Wrote.{Left, Wrote}
use Rattle.buffers.specs.WroteLaws.{left_room, left_step}
use Rattle.buffers.specs.Scan.{Counting, scan}
use Rattle.buffers.specs.WordBits.{bits_from}
use Rattle.buffers.specs.WordBitsLaws.{bit_above, bit_below, counting_bits, from_lowest, from_none, scan-word}
use Rattle.buffers.specs.ScanLaws.{filter_and, scan_ascends, scan_cong, scan_cut, scan_end, scan_no, scan_yes, upward}
use Rattle.layout.specs.File.{Partition, Rows, later, leaders_of, superedge_between, superedges_to}
use Rattle.layout.specs.FileLaws.{length_superedge}
use Rattle.layout.specs.WholeLaws.{rows_of}
use Rattle.layout.specs.Words.{AscendingLeaders, LeaderPlaces, LeaderSet, Marking, Rowed, later_records, later_word, marked_edge, positions_of}

-- the marked nodes from q on: those of q's word, then those from the next word on
module _ (edges set : List ℕ) (p q w : ℕ) (at : w ≡ q / 64) where
  word-bit : (k : ℕ) → q % 64 ≤ k → k < 64 → bit_at (later_word edges set p q) k ≡ marked_edge edges set p (64 * w + k)
  unfolding later_word marked_edge edge_bit
  word-bit k a b =
      let e : (64 * w + k) / 64 ≡ q / 64 = omega arith in
      let f : (64 * w + k) % 64 ≡ k = omega arith in
      let z : 8 * 0 + q / 64 ≡ q / 64 = omega arith in
      bit_above (bit_and (get_or set (q / 64) 0) (get_or edges (8 * p + q / 64) 0)) (q % 64) k a ∙ bit_and_lem (get_or set (q / 64) 0) (get_or edges (8 * p + q / 64) 0) k ∙ sym (rw (e, f, z))

  word-before : (k : ℕ) → k < q % 64 → bit_at (later_word edges set p q) k ≡ false
  unfolding later_word
  word-before k a = bit_below (bit_and (get_or set (q / 64) 0) (get_or edges (8 * p + q / 64) 0) / 2 ^ (q % 64)) (q % 64) k a

  module _ (inside : q < 512) where
    pub word_split : scan (marked_edge edges set p) 512 q ≡ bits_from (64 * w) (later_word edges set p q) ++ scan (marked_edge edges set p) 512 (64 * w + 64)
    word_split =
        let e : q ≡ 64 * w + q % 64 = omega arith in
        ap (scan (marked_edge edges set p) 512) e ∙ scan-word (marked_edge edges set p) 512 (later_word edges set p q) w (q % 64) (omega arith) word-bit (omega arith) word-before

-- as the code finds it
pub later-word_is : (edges set : List ℕ) (p q t w j : ℕ) → t ≡ q % 64 → w ≡ q / 64 → j ≡ 8 * p + q / 64 → get_or edges j 0 < 2 ^ 64 → bit_and (get_or set w 0) (get_or edges j 0) / 2 ^ t * 2 ^ t % 2 ^ 64 ≡ later_word edges set p q
unfolding later_word
later-word_is edges set p q t w j et ew ej h =
    let a : bit_and (get_or set w 0) (get_or edges j 0) / 2 ^ t * 2 ^ t < 2 ^ 64 = omega (arith, and_le_r (get_or set w 0) (get_or edges j 0), div-mul-le_self (bit_and (get_or set w 0) (get_or edges j 0)) (2 ^ t)) in
    mod-eq_of_lt a ∙ rw (et, ew, ej)

pub later-word-lt : (edges set : List ℕ) (p q : ℕ) → ((i : ℕ) → get_or set i 0 < 2 ^ 64) → later_word edges set p q < 2 ^ 64
unfolding later_word
later-word-lt edges set p q h =
    let x : ℕ = bit_and (get_or set (q / 64) 0) (get_or edges (8 * p + q / 64) 0) in
    omega (arith, h (q / 64), and_le_l (get_or set (q / 64) 0) (get_or edges (8 * p + q / 64) 0), div-mul-le_self (bit_and (get_or set (q / 64) 0) (get_or edges (8 * p + q / 64) 0)) (2 ^ (q % 64)))

-- the later groups that the i-th has a superedge to, by the marked nodes
scan-drop : (L : ℕ → Bool) (n a i : ℕ) → i < length (scan L n a) → drop (suc i) (scan L n a) ≡ scan L n (get_or (scan L n a) i 0 + 1)
scan-drop L n = upward (λ a. (i : ℕ) → i < length (scan L n a) → drop (suc i) (scan L n a) ≡ scan L n (get_or (scan L n a) i 0 + 1)) n (λ a h i l. absurd (omega (arith, ap length (scan_end L n a h)))) (λ a h below. step a h below (decide (L a)))
  where
    cons : (a : ℕ) (l : List ℕ) → l ≡ scan L n (a + 1) → ((i : ℕ) → i < length l → drop (suc i) l ≡ scan L n (get_or l i 0 + 1)) → (i : ℕ) → i < suc (length l) → drop (suc i) (a ∷ l) ≡ scan L n (get_or (a ∷ l) i 0 + 1)
    cons a l e f zero k = e
    cons a l e f (suc i) k = f i (omega arith)

    step : (a : ℕ) → a < n → ((i : ℕ) → i < length (scan L n (a + 1)) → drop (suc i) (scan L n (a + 1)) ≡ scan L n (get_or (scan L n (a + 1)) i 0 + 1)) → (L a ≡ true) ⊎ (L a ≡ false) → (i : ℕ) → i < length (scan L n a) → drop (suc i) (scan L n a) ≡ scan L n (get_or (scan L n a) i 0 + 1)
    step a h below (inl y) = rw (scan_yes L n a h y) (cons a (scan L n (a + 1)) refl below)
    step a h below (inr y) = rw (scan_no L n a h y) below

scan-filter : (F L : ℕ → Bool) (n a : ℕ) → filter F (scan L n a) ≡ scan (λ q. L q && F q) n a
unfolding scan
scan-filter F L n a = filter_and F L (from a (n - a))

module _ (F : ℕ → Bool) (ls position : List ℕ) (h : (i : ℕ) → i < length ls → get_or position (get_or ls i 0) 0 ≡ i) where
  scan-positions : (j : ℕ) → scan (λ j. F (get_or ls j 0)) (length ls) j ≡ map (λ q. get_or position q 0) (filter F (drop j ls))
  unfolding filter
  scan-positions = upward (λ j. scan (λ j. F (get_or ls j 0)) (length ls) j ≡ map (λ q. get_or position q 0) (filter F (drop j ls))) (length ls) top (λ j l below. step j l below (decide (F (get_or ls j 0))))
    where
      top : (j : ℕ) → length ls ≤ j → scan (λ j. F (get_or ls j 0)) (length ls) j ≡ map (λ q. get_or position q 0) (filter F (drop j ls))
      top j l = rw (scan_end (λ j. F (get_or ls j 0)) (length ls) j l, drop_of_length-le ls l)

      step : (j : ℕ) → j < length ls → scan (λ j. F (get_or ls j 0)) (length ls) (j + 1) ≡ map (λ q. get_or position q 0) (filter F (drop (j + 1) ls)) → (F (get_or ls j 0) ≡ true) ⊎ (F (get_or ls j 0) ≡ false)
          → scan (λ j. F (get_or ls j 0)) (length ls) j ≡ map (λ q. get_or position q 0) (filter F (drop j ls))
      step j l below (inl y) = scan_yes (λ j. F (get_or ls j 0)) (length ls) j l y ∙ ap (λ (r : List ℕ). j ∷ r) (below ∙ ap (λ (x : ℕ). map (λ q. get_or position q 0) (filter F (drop x ls))) (add-one j)) ∙ sym (rw (drop-cons ls j 0 l, y) (ap (λ (x : ℕ). x ∷ map (λ q. get_or position q 0) (filter F (drop (suc j) ls))) (h j l)))
      step j l below (inr y) = scan_no (λ j. F (get_or ls j 0)) (length ls) j l y ∙ below ∙ ap (λ (x : ℕ). map (λ q. get_or position q 0) (filter F (drop x ls))) (add-one j) ∙ sym (rw (drop-cons ls j 0 l, y))

scan_total : (F : ℕ → Bool) (ls : List ℕ) (j : ℕ) → length (scan (λ j. F (get_or ls j 0)) (length ls) j) ≡ length (filter F (drop j ls))
unfolding filter
scan_total F ls = upward (λ j. length (scan (λ j. F (get_or ls j 0)) (length ls) j) ≡ length (filter F (drop j ls))) (length ls) (λ j l. rw (scan_end (λ j. F (get_or ls j 0)) (length ls) j l, drop_of_length-le ls l)) (λ j l below. step j l below (decide (F (get_or ls j 0))))
  where
    step : (j : ℕ) → j < length ls → length (scan (λ j. F (get_or ls j 0)) (length ls) (j + 1)) ≡ length (filter F (drop (j + 1) ls)) → (F (get_or ls j 0) ≡ true) ⊎ (F (get_or ls j 0) ≡ false)
        → length (scan (λ j. F (get_or ls j 0)) (length ls) j) ≡ length (filter F (drop j ls))
    step j l below (inl y) = ap length (scan_yes (λ j. F (get_or ls j 0)) (length ls) j l y) ∙ ap suc (below ∙ ap (λ (x : ℕ). length (filter F (drop x ls))) (add-one j)) ∙ sym (rw (drop-cons ls j 0 l, y))
    step j l below (inr y) = ap length (scan_no (λ j. F (get_or ls j 0)) (length ls) j l y) ∙ below ∙ ap (λ (x : ℕ). length (filter F (drop x ls))) (add-one j) ∙ sym (rw (drop-cons ls j 0 l, y))

module _ (edges ls set : List ℕ) (m : LeaderSet ls set) (i p : ℕ) (inside : i < length ls) (at : p ≡ get_or ls i 0) where
  later-nodes : filter (edge_bit edges p) (drop (i + 1) ls) ≡ scan (marked_edge edges set p) 512 (p + 1)
  unfolding marked_edge
  later-nodes =
      let e : drop (suc i) ls ≡ scan (edge_bit set 0) 512 (p + 1) = rw at (ends ls m.list inside) in
      rw (add-one i, e) (scan-filter (edge_bit edges p) (edge_bit set 0) 512 (p + 1))
    where
      ends : (l : List ℕ) → l ≡ scan (edge_bit set 0) 512 0 → i < length l → drop (suc i) l ≡ scan (edge_bit set 0) 512 (get_or l i 0 + 1)
      ends l e h = rw e (scan-drop (edge_bit set 0) 512 0 i (rw e at h))

  pub later_is : (position : List ℕ) → LeaderPlaces ls position → later (edge_bit edges) ls i ≡ map (λ q. get_or position q 0) (scan (marked_edge edges set p) 512 (p + 1))
  unfolding later superedge_between
  later_is position d = ap (λ (x : ℕ). scan (λ j. edge_bit edges x (get_or ls j 0)) (length ls) (i + 1)) (sym at) ∙ scan-positions (edge_bit edges p) ls position d.place (i + 1) ∙ ap (map (λ q. get_or position q 0)) later-nodes

  pub later_total : length (later (edge_bit edges) ls i) ≡ length (scan (marked_edge edges set p) 512 (p + 1))
  unfolding later superedge_between
  later_total = ap (λ (x : ℕ). length (scan (λ j. edge_bit edges x (get_or ls j 0)) (length ls) (i + 1))) (sym at) ∙ scan_total (edge_bit edges p) ls (i + 1) ∙ ap length later-nodes

  pub records_start : (position : List ℕ) → LeaderPlaces ls position → superedges_to i (later (edge_bit edges) ls i) ≡ later_records edges set position i p (p + 1)
  unfolding later_records
  records_start position d = ap (superedges_to i) (later_is position d)

-- counting them
pub counting_word : (edges set : List ℕ) (p q w : ℕ) {total c x : ℕ} → Counting (marked_edge edges set p) 512 total c q → ((i : ℕ) → get_or set i 0 < 2 ^ 64) → w ≡ q / 64 → q < 512 → x ≡ later_word edges set p q → Counting (marked_edge edges set p) 512 total (c + ones x) (64 * w + 64)
counting_word edges set p q w k h e l is = rw is (counting_bits (64 * w) (later_word edges set p q) k (later-word-lt edges set p q h) (word_split edges set p q w e l))

-- writing them
to_append : (i : ℕ) (a b : List ℕ) → superedges_to i (a ++ b) ≡ superedges_to i a ++ superedges_to i b
unfolding superedges_to concat
to_append i [] b = refl
to_append i (x ∷ xs) b =
    ap (λ (s : List ℕ). superedge_record (i, x) ++ s) (to_append i xs b)
    ∙ sym (append_assoc (superedge_record (i, x)) (concat (map (λ j. superedge_record (i, j)) xs)) (concat (map (λ j. superedge_record (i, j)) b)))

module _ (edges set position : List ℕ) (i p q : ℕ) where
  pub records_end : 512 ≤ q → later_records edges set position i p q ≡ []
  unfolding later_records superedges_to concat
  records_end h = rw (scan_end (marked_edge edges set p) 512 q h)

  module _ (w : ℕ) (at : w ≡ q / 64) (inside : q < 512) where
    records-word : later_records edges set position i p q ≡ superedges_to i (positions_of position (64 * w) (later_word edges set p q)) ++ later_records edges set position i p (64 * w + 64)
    unfolding later_records positions_of
    records-word =
        ap (λ (l : List ℕ). superedges_to i (map (λ x. get_or position x 0) l)) (word_split edges set p q w at inside)
        ∙ ap (superedges_to i) (map-append (λ x. get_or position x 0) (bits_from (64 * w) (later_word edges set p q)) (scan (marked_edge edges set p) 512 (64 * w + 64)))
        ∙ to_append i (map (λ x. get_or position x 0) (bits_from (64 * w) (later_word edges set p q))) (map (λ x. get_or position x 0) (scan (marked_edge edges set p) 512 (64 * w + 64)))

    pub records_room : {s₀ : List ℕ} {at₀ : ℕ} {all s : List ℕ} {to : ℕ} → Left s₀ at₀ all s to (later_records edges set position i p q) → at₀ + length all ≤ length s₀ → to + length (superedges_to i (positions_of position (64 * w) (later_word edges set p q))) ≤ length s
    records_room l room = left_room l room (superedges_to i (positions_of position (64 * w) (later_word edges set p q))) (later_records edges set position i p (64 * w + 64)) records-word

    pub records_more : {s₀ : List ℕ} {at₀ : ℕ} {all s : List ℕ} {to : ℕ} {t : List ℕ} {next : ℕ} → Left s₀ at₀ all s to (later_records edges set position i p q) → Wrote s to (superedges_to i (positions_of position (64 * w) (later_word edges set p q))) t next → Left s₀ at₀ all t next (later_records edges set position i p (64 * w + 64))
    records_more l v = left_step l v records-word

-- one word's
module _ (position : List ℕ) (i b x : ℕ) where
  pub word_end : x ≡ 0 → superedges_to i (positions_of position b x) ≡ []
  unfolding superedges_to positions_of concat
  word_end e = rw (from_none b x e)

  module _ (z : ℕ) (fits : x < 2 ^ 64) (some : x ≡ 0 → ⊥) (low : z ≡ count_trailing_zeros 64 x) where
    word-one : superedges_to i (positions_of position b x) ≡ superedge_record (i, get_or position (b + z) 0) ++ superedges_to i (positions_of position b (bit_and x (x - 1)))
    unfolding superedges_to positions_of concat
    word-one = rw (from_lowest b x z fits some low)

    pub word_room : {s₀ : List ℕ} {at₀ : ℕ} {all s : List ℕ} {to : ℕ} → Left s₀ at₀ all s to (superedges_to i (positions_of position b x)) → at₀ + length all ≤ length s₀ → to + 6 ≤ length s
    word_room l room = omega (arith, left_room l room (superedge_record (i, get_or position (b + z) 0)) (superedges_to i (positions_of position b (bit_and x (x - 1)))) word-one, length_superedge i (get_or position (b + z) 0))

    pub word_more : {s₀ : List ℕ} {at₀ : ℕ} {all s : List ℕ} {to : ℕ} {t : List ℕ} {next : ℕ} → Left s₀ at₀ all s to (superedges_to i (positions_of position b x)) → Wrote s to (superedge_record (i, get_or position (b + z) 0)) t next → Left s₀ at₀ all t next (superedges_to i (positions_of position b (bit_and x (x - 1))))
    word_more l v = left_step l v word-one

-- a set of bits, node after node
pub marking_start : (P : ℕ → Bool) → Marking P (replicate 8 0) 0
unfolding edge_bit bit_at
marking_start P = record {
  size = refl;
  words = λ i. rw (get_d_zeros 8 i) (omega arith);
  bits = λ q h. rw (get_d_zeros 8 (8 * 0 + q / 64), zero-div (2 ^ (q % 64)), le-ltb q 0 (omega arith));
}

below_more : (q p : ℕ) → (q ≡ p → ⊥) → ltb q (p + 1) ≡ ltb q p
below_more q p h = iff_eq (ltb q (p + 1)) (ltb q p) (λ t. lt-ltb q p (omega (arith, ltb-true q (p + 1) t))) (λ t. lt-ltb q (p + 1) (omega (arith, ltb-true q p t)))

-- p's bit was false, and is flipped
pub marking_yes : {P : ℕ → Bool} {set after : List ℕ} {p : ℕ} → Marking P set p → P p ≡ true → length after ≡ length set → (((i : ℕ) → get_or set i 0 < 2 ^ 64) → (i : ℕ) → get_or after i 0 < 2 ^ 64)
    → ((a b : ℕ) → b < 512 → edge_bit after a b ≡ cond (eqb a 0 && eqb b p) (not (edge_bit set a b)) (edge_bit set a b)) → Marking P after (p + 1)
marking_yes {P} {set} {after} {p} m y s w f = record { size = s ∙ m.size; words = w m.words; bits = λ q h. f 0 q h ∙ step q h (decide (eqb q p)) }
  where
    step : (q : ℕ) → q < 512 → (eqb q p ≡ true) ⊎ (eqb q p ≡ false) → cond (eqb q p) (not (edge_bit set 0 q)) (edge_bit set 0 q) ≡ (ltb q (p + 1) && P q)
    step q h (inl t) =
        let e : q ≡ p = eqb-true q p t in
        rw (t, m.bits q h, le-ltb q p (omega arith), lt-ltb q (p + 1) (omega arith)) (sym (ap P e ∙ y))
    step q h (inr t) = rw (t, m.bits q h, below_more q p (eqb-false q p t))

pub marking_no : {P : ℕ → Bool} {set : List ℕ} {p : ℕ} → Marking P set p → P p ≡ false → Marking P set (p + 1)
marking_no {P} {set} {p} m y = record { size = m.size; words = m.words; bits = λ q h. m.bits q h ∙ step q (decide (eqb q p)) }
  where
    step : (q : ℕ) → (eqb q p ≡ true) ⊎ (eqb q p ≡ false) → (ltb q p && P q) ≡ (ltb q (p + 1) && P q)
    step q (inl t) =
        let e : P q ≡ false = ap P (eqb-true q p t) ∙ y in
        rw (e, and-false (ltb q p), and-false (ltb q (p + 1)))
    step q (inr t) = rw (below_more q p (eqb-false q p t))

pub marking_done : (least : List ℕ) {set : List ℕ} {n p : ℕ} → Marking (leads least) set p → p ≡ n → n ≤ 512 → LeaderSet (leaders_of n least) set
unfolding leaders_of
marking_done least {set} {n} {p} m e small = record { size = m.size; words = m.words; list = sym (scan_cut (edge_bit set 0) n 512 small after 0 (omega arith) ∙ scan_cong (edge_bit set 0) (leads least) n 0 before) }
  where
    after : (q : ℕ) → n ≤ q → q < 512 → edge_bit set 0 q ≡ false
    after q a b = m.bits q b ∙ rw (le-ltb q p (omega arith))

    before : (q : ℕ) → 0 ≤ q → q < n → edge_bit set 0 q ≡ leads least q
    before q a b = m.bits q (omega arith) ∙ rw (lt-ltb q p (omega arith))

-- the positions while they are set: those of the leaders before the i-th
pub record Placing (ls position : List ℕ) (i : ℕ) : Type 0 where
  pub size : length position ≡ 512
  pub place : (k : ℕ) → k < i → get_or position (get_or ls k 0) 0 ≡ k

pub placing_more : {ls position : List ℕ} {i p : ℕ} → Placing ls position i → AscendingLeaders ls → i < length ls → p ≡ get_or ls i 0 → Placing ls (set position p i) (i + 1)
placing_more {ls} {position} {i} {p} m l h e = record { size = length-set position p i ∙ m.size; place = λ k b. step k b (decide (eqb k i)) }
  where
    step : (k : ℕ) → k < i + 1 → (eqb k i ≡ true) ⊎ (eqb k i ≡ false) → get_or (set position p i) (get_or ls k 0) 0 ≡ k
    step k b (inl t) =
        let q : k ≡ i = eqb-true k i t in
        rw (q, ← e) (get_or-set_same position p i 0 (omega (arith, l.below i h, m.size)))
    step k b (inr t) =
        let low : k < i = omega (arith, eqb-false k i t) in
        get_or-set_other position p (get_or ls k 0) i 0 (λ z. omega (arith, l.ascends k i low h)) ∙ m.place k low

pub placing_done : {ls position : List ℕ} {i : ℕ} → Placing ls position i → length ls ≤ i → LeaderPlaces ls position
placing_done m h = record { size = m.size; place = λ k b. m.place k (omega arith) }

-- the leaders of the tables
pub leading_of : {n : ℕ} {least edges ls : List ℕ} → Partition n least edges → ls ≡ leaders_of n least → AscendingLeaders ls
unfolding leaders_of
leading_of {n} {least} {edges} {ls} g q = record {
  few = let f = (rows_of g q).few in omega (arith, g.small);
  below = λ i h. let b = (rows_of g q).below i h in omega (arith, g.small);
  ascends = λ i j h k. rw q (scan_ascends (leads least) n 0 i j h (omega (arith, ap length q)));
}

pub rowed_of : {n : ℕ} {edges ls : List ℕ} → Rows n edges ls → Rowed edges ls
rowed_of r = record {
  few = omega (arith, r.few, r.small);
  below = λ i h. omega (arith, r.below i h, r.small);
  rows = λ i h. omega (arith, r.below i h, r.rows);
}

pub marked_as : {ls ls' set : List ℕ} → LeaderSet ls set → ls' ≡ ls → LeaderSet ls' set
marked_as m e = record { size = m.size; words = m.words; list = e ∙ m.list }
