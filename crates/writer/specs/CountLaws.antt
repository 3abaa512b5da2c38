-- Counting the later groups that a group has a superedge to, word by word.
use Rattle.std.specs.Prelude.{◌≡◌, refl, Bool, true, false, cond, List, ◌∷◌, ◌⊎◌, ℕ, ◌+◌, ◌*◌, ◌/◌, ◌%◌, ◌^◌, ◌≤◌, ◌<◌, count_by, drop, get_or, length, nat_lt, take}
use Rattle.std.proofs.Common.{sym, ap, ◌∙◌, inl, inr, add-one, add-zero, arith, drop-cons, get_or-take, length-take-le}
use Rattle.std.proofs.Math.ListN.{drop_of_length-le}
use Rattle.std.proofs.lemmas.List.Sums.{sum_by-cons}
use Rattle.model.proofs.TestLaws.{decide}
use Rattle.std.specs.Int.Bits.{bit_and}
use Rattle.std.specs.Int.Count.{ones}
use Rattle.model.specs.Tables.{edge_bit}
use Rattle.layout.specs.File.{in_group, later}
use Rattle.buffers.specs.Scan.{Counting, scan}
use Rattle.buffers.specs.ScanLaws.{counting_done, counting_start, scan_end, scan-length, scan_no, scan_yes, upward}
use Rattle.layout.specs.WordLaws.{counting_word, later_total}
use Rattle.layout.specs.Words.{LeaderSet, later_word, marked_edge}

-- a word without bits
pub none_added : (c : ℕ) {x : ℕ} → x ≡ 0 → c ≡ c + ones x
unfolding ones
none_added c e = rw e (sym (add-zero c))

-- a word from its first bit on
whole_word : (edges set : List ℕ) (p w : ℕ) → later_word edges set p (64 * w) ≡ bit_and (get_or set w 0) (get_or edges (8 * p + w) 0)
unfolding later_word
whole_word edges set p w =
    let a : 64 * w / 64 ≡ w = omega arith in
    let b : 64 * w % 64 ≡ 0 = omega arith in
    rw (a, b) (omega arith)

pub counting_next : (edges set : List ℕ) (p w : ℕ) {total c r : ℕ} → Counting (marked_edge edges set p) 512 total c (64 * w) → ((i : ℕ) → get_or set i 0 < 2 ^ 64) → w < 8
    → r ≡ c + ones (bit_and (get_or set w 0) (get_or edges (8 * p + w) 0)) → Counting (marked_edge edges set p) 512 total r (64 * (w + 1))
counting_next edges set p w k h l e =
    let next : 64 * w + 64 ≡ 64 * (w + 1) = omega arith in
    rw (← next, e) (counting_word edges set p (64 * w) w k h (omega arith) (omega arith) (sym (whole_word edges set p w)))

pub counting_small : (P : ℕ → Bool) (from : ℕ) {c q : ℕ} → Counting P 512 (length (scan P 512 from)) c q → c ≤ 512
counting_small P from k = omega (arith, k.sum, scan-length P 512 from)

-- the first n of a list that pass, counted by place or by element
pub count_taken : (f : ℕ → Bool) (xs : List ℕ) (n : ℕ) → n ≤ length xs → count_by f (take n xs) ≡ length (scan (λ p. f (get_or xs p 0)) n 0)
count_taken f xs n h = upward (λ p. count_by f (drop p (take n xs)) ≡ length (scan (λ q. f (get_or xs q 0)) n p)) n top (λ p l below. step p l below (decide (f (get_or xs p 0)))) 0
  where
    size : length (take n xs) ≡ n
    size = length-take-le n xs h

    top : (p : ℕ) → n ≤ p → count_by f (drop p (take n xs)) ≡ length (scan (λ q. f (get_or xs q 0)) n p)
    top p l =
        let short : length (take n xs) ≤ p = omega (arith, size) in
        rw (scan_end (λ q. f (get_or xs q 0)) n p l, drop_of_length-le (take n xs) short) refl

    cons : (p : ℕ) → p < n → drop p (take n xs) ≡ get_or xs p 0 ∷ drop (p + 1) (take n xs)
    cons p l =
        let inside : p < length (take n xs) = omega (arith, size) in
        drop-cons (take n xs) p 0 inside ∙ rw (get_or-take n xs p 0 l, add-one p) refl

    step : (p : ℕ) → p < n → count_by f (drop (p + 1) (take n xs)) ≡ length (scan (λ q. f (get_or xs q 0)) n (p + 1)) → (f (get_or xs p 0) ≡ true) ⊎ (f (get_or xs p 0) ≡ false) → count_by f (drop p (take n xs)) ≡ length (scan (λ q. f (get_or xs q 0)) n p)
    step p l below (inl t) = rw (cons p l, sum_by-cons (λ x. cond (f x) 1 0) (get_or xs p 0) (drop (p + 1) (take n xs)), t) (omega (arith, below, ap length (scan_yes (λ q. f (get_or xs q 0)) n p l t)))
    step p l below (inr t) = rw (cons p l, sum_by-cons (λ x. cond (f x) 1 0) (get_or xs p 0) (drop (p + 1) (take n xs)), t) (omega (arith, below, ap length (scan_no (λ q. f (get_or xs q 0)) n p l t)))

pub visible_counted : (least : List ℕ) (n : ℕ) {m : ℕ} → n ≤ length least → m ≡ count_by (λ l. nat_lt l n) (take n least) → m ≡ length (scan (in_group least n) n 0)
unfolding in_group
visible_counted least n h e = e ∙ count_taken (λ l. nat_lt l n) least n h

-- the word of the next node, then the words after it
module _ (edges ls set : List ℕ) (marks : LeaderSet ls set) (i p : ℕ) (l : i < length ls) (at : p ≡ get_or ls i 0) where
  pub none_later : p ≡ 511 → 0 ≡ length (later (edge_bit edges) ls i)
  none_later e = counting_done (counting_start (marked_edge edges set p) 512 (p + 1)) (omega arith) ∙ sym (later_total edges ls set marks i p l at)

  pub words_later : {w x a b : ℕ} → p < 511 → w ≡ (p + 1) / 64 → x ≡ later_word edges set p (p + 1) → a ≡ 0 + ones x → b ≡ length (scan (marked_edge edges set p) 512 (64 * (w + 1))) → a + b ≡ length (later (edge_bit edges) ls i)
  words_later {w} {x} {a} {b} h ew ex ea eb =
      let next : 64 * w + 64 ≡ 64 * (w + 1) = omega arith in
      let k = counting_word edges set p (p + 1) w (counting_start (marked_edge edges set p) 512 (p + 1)) marks.words ew (omega arith) ex in
      let f : length (scan (marked_edge edges set p) 512 (64 * w + 64)) ≡ b = rw next (sym eb) in
      omega (arith, k.sum, later_total edges ls set marks i p l at)
