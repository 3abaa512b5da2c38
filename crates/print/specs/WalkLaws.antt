-- Laws of a walk over a file: what stands from a place on, record by record.
use Rattle.std.specs.Prelude.{◌≡◌, refl, true, false, List, [], ◌∷◌, ◌++◌, ◌⊎◌, ℕ, suc, zero, ◌+◌, ◌*◌, ◌-◌, ◌≤◌, ◌<◌, eqb, ltb, length, get_or, drop}
use Rattle.std.proofs.Common.{sym, ap, ◌∙◌, inl, inr, add-one, arith, drop-drop, get_or-drop, eq-eqb, eqb-true, ltb-false, ltb-true, ne_eqb}
use Rattle.std.proofs.Math.ListN.{get_or-eq_default}
use Rattle.model.specs.Lists.{concat}
use Rattle.model.specs.Program.{open_line, spaced, superedge_line, text}
use Rattle.model.specs.Reading.{after_groups, is_mark, superedges_at, u16_at, u16s}
use Rattle.model.proofs.TestLaws.{and_fst, decide}
use Rattle.buffers.specs.Wrote.{Left, Wrote}
use Rattle.buffers.specs.WroteLaws.{left_done, left_room, left_start, left_step}
use Rattle.print.specs.Lines.{file_text, group_text, group_texts, member_texts, next_group, superedge_part, superedge_texts, superedges_in}

pub number_is : (s : List ℕ) (i a b : ℕ) → a ≡ get_or s i 0 → b ≡ get_or s (i + 1) 0 → a + b * 256 ≡ u16_at s i
unfolding u16_at
number_is s i a b x y = rw (x, y, add-one i) (omega arith)

u16_at-drop : (n i : ℕ) (s : List ℕ) → u16_at (drop n s) i ≡ u16_at s (n + i)
unfolding u16_at
u16_at-drop n i s =
    let e : n + suc i ≡ suc (n + i) = omega arith in
    rw (get_or-drop n s i 0, get_or-drop n s (suc i) 0, e)

-- the number that stands at a place, and at the place itself
u16_at_front : (n : ℕ) (s : List ℕ) → u16_at (drop n s) 0 ≡ u16_at s n
u16_at_front n s = let e : n + 0 ≡ n = omega arith in u16_at-drop n 0 s ∙ ap (u16_at s) e

members_next : (k p : ℕ) (s : List ℕ) → 0 < k → member_texts k (drop p s) ≡ spaced (u16_at s p) ++ member_texts (k - 1) (drop (p + 2) s)
unfolding member_texts u16s concat
members_next zero p s h = absurd (omega arith)
members_next (suc j) p s h =
    let e : suc j - 1 ≡ j = omega arith in
    rw (e, ← drop-drop 2 p s, ← u16_at_front p s)

members_at : (k i p : ℕ) (s : List ℕ) → i < k → member_texts (k - i) (drop (p + 2 * i) s) ≡ spaced (u16_at s (p + 2 * i)) ++ member_texts (k - (i + 1)) (drop (p + 2 * (i + 1)) s)
members_at k i p s h =
    let a : k - i - 1 ≡ k - (i + 1) = omega arith in
    let b : p + 2 * i + 2 ≡ p + 2 * (i + 1) = omega arith in
    rw (← a, ← b) (members_next (k - i) (p + 2 * i) s (omega arith))

after_group : (p : ℕ) (s : List ℕ) → drop (2 * u16_at (drop p s) 2) (drop 6 (drop p s)) ≡ drop (next_group s p) s
unfolding next_group
after_group p s = rw (u16_at-drop p 2 s) (ap (drop (2 * u16_at s (p + 2))) (drop-drop 6 p s) ∙ drop-drop (2 * u16_at s (p + 2)) (p + 6) s)

groups_next : (k p : ℕ) (s : List ℕ) → 0 < k → group_texts k (drop p s) ≡ group_text (drop p s) ++ group_texts (k - 1) (drop (next_group s p) s)
unfolding group_texts
groups_next zero p s h = absurd (omega arith)
groups_next (suc j) p s h = let e : suc j - 1 ≡ j = omega arith in rw (e, ← after_group p s)

groups_at : (k i p : ℕ) (s : List ℕ) → i < k → group_texts (k - i) (drop p s) ≡ group_text (drop p s) ++ group_texts (k - (i + 1)) (drop (next_group s p) s)
groups_at k i p s h = let e : k - i - 1 ≡ k - (i + 1) = omega arith in rw (← e) (groups_next (k - i) p s (omega arith))

pub after_next : (k p : ℕ) (s : List ℕ) → 0 < k → after_groups k (drop p s) ≡ after_groups (k - 1) (drop (next_group s p) s)
unfolding after_groups
after_next zero p s h = absurd (omega arith)
after_next (suc j) p s h = let e : suc j - 1 ≡ j = omega arith in rw (e, ← after_group p s)

pub after_step : {x : List ℕ} (k i p q : ℕ) (s : List ℕ) → i < k → q ≡ next_group s p → after_groups (k - i) (drop p s) ≡ x → after_groups (k - (i + 1)) (drop q s) ≡ x
after_step k i p q s h e f = let z : k - i - 1 ≡ k - (i + 1) = omega arith in rw (e, ← z) (sym (after_next (k - i) p s (omega arith)) ∙ f)

pub after_end : {s x : List ℕ} (k i : ℕ) → k ≤ i → after_groups (k - i) s ≡ x → s ≡ x
unfolding after_groups
after_end k i h e = let z : k - i ≡ 0 = omega arith in rw z at e

-- members
pub member_room : {s₀ : List ℕ} {at₀ : ℕ} {all s : List ℕ} {at : ℕ} (k i p x : ℕ) (file : List ℕ) → i < k → x ≡ u16_at file (p + 2 * i)
    → Left s₀ at₀ all s at (member_texts (k - i) (drop (p + 2 * i) file)) → at₀ + length all ≤ length s₀ → at + length (spaced x) ≤ length s
member_room k i p x file h e l r = rw e (left_room l r (spaced (u16_at file (p + 2 * i))) (member_texts (k - (i + 1)) (drop (p + 2 * (i + 1)) file)) (members_at k i p file h))

pub member_step : {s₀ : List ℕ} {at₀ : ℕ} {all s : List ℕ} {at : ℕ} {t : List ℕ} {next : ℕ} (k i p x : ℕ) (file : List ℕ) → i < k → x ≡ u16_at file (p + 2 * i)
    → Left s₀ at₀ all s at (member_texts (k - i) (drop (p + 2 * i) file)) → Wrote s at (spaced x) t next → Left s₀ at₀ all t next (member_texts (k - (i + 1)) (drop (p + 2 * (i + 1)) file))
member_step k i p x file h e l w = left_step l w (rw e (members_at k i p file h))

pub member_done : {s₀ : List ℕ} {at₀ : ℕ} {all s : List ℕ} {at : ℕ} (x : List ℕ) (k i : ℕ) → k ≤ i → Left s₀ at₀ all s at (member_texts (k - i) x) → Wrote s₀ at₀ all s at
unfolding member_texts u16s concat
member_done x k i h l = let z : k - i ≡ 0 = omega arith in left_done l (rw z)

-- groups
pub group_room : {s₀ : List ℕ} {at₀ : ℕ} {all s : List ℕ} {at : ℕ} (k i p : ℕ) (file : List ℕ) → i < k
    → Left s₀ at₀ all s at (group_texts (k - i) (drop p file)) → at₀ + length all ≤ length s₀ → at + length (group_text (drop p file)) ≤ length s
group_room k i p file h l r = left_room l r (group_text (drop p file)) (group_texts (k - (i + 1)) (drop (next_group file p) file)) (groups_at k i p file h)

pub group_step : {s₀ : List ℕ} {at₀ : ℕ} {all s : List ℕ} {at : ℕ} {t : List ℕ} {next : ℕ} (k i p q : ℕ) (file : List ℕ) → i < k → q ≡ next_group file p
    → Left s₀ at₀ all s at (group_texts (k - i) (drop p file)) → Wrote s at (group_text (drop p file)) t next → Left s₀ at₀ all t next (group_texts (k - (i + 1)) (drop q file))
group_step k i p q file h e l w = rw e (left_step l w (groups_at k i p file h))

pub group_done : {s₀ : List ℕ} {at₀ : ℕ} {all s : List ℕ} {at : ℕ} (x : List ℕ) (k i : ℕ) → k ≤ i → Left s₀ at₀ all s at (group_texts (k - i) x) → Wrote s₀ at₀ all s at
unfolding group_texts
group_done x k i h l = let z : k - i ≡ 0 = omega arith in left_done l (rw z)

-- a superedge's mark at p: its first byte tells that p is inside the file
pub letter_below : (file : List ℕ) (p : ℕ) → get_or file p 0 ≡ 0x53 → p < length file
letter_below file p e = go (decide (ltb p (length file)))
  where
    go : (ltb p (length file) ≡ true) ⊎ (ltb p (length file) ≡ false) → p < length file
    go (inl t) = ltb-true p (length file) t
    go (inr t) = absurd (omega (arith, e, get_or-eq_default file 0 (ltb-false p (length file) t)))

front : (file : List ℕ) (p : ℕ) → get_or (drop p file) 0 0 ≡ get_or file p 0
front file p = let e : p + 0 ≡ p = omega arith in get_or-drop p file 0 0 ∙ ap (λ i. get_or file i 0) e

pub mark_below : (file : List ℕ) (p : ℕ) → is_mark (drop p file) 0x53 0x45 ≡ true → p < length file
unfolding is_mark
mark_below file p t = letter_below file p (sym (front file p) ∙ eqb-true (get_or (drop p file) 0 0) 0x53 (and_fst (eqb (get_or (drop p file) 0 0) 0x53) (eqb (get_or (drop p file) 1 0) 0x45) t))

-- its bytes, tested one after the other
pub no_mark : (file : List ℕ) (p a : ℕ) → a ≡ get_or file p 0 → (a ≡ 0x53 → ⊥) → false ≡ is_mark (drop p file) 0x53 0x45
unfolding is_mark
no_mark file p a e h = rw (front file p, ← e, ne_eqb a 0x53 h)

pub by_second : (file : List ℕ) (p a b : ℕ) → a ≡ get_or file p 0 → a ≡ 0x53 → b ≡ get_or file (p + 1) 0 → eqb b 0x45 ≡ is_mark (drop p file) 0x53 0x45
unfolding is_mark
by_second file p a b e h f = rw (front file p, ← e, eq-eqb a 0x53 h, get_or-drop p file 1 0, ← f)

-- superedge records from p on: with fuel for them all, the first is there exactly if its mark is
superedges_yes : (j : ℕ) (s : List ℕ) → is_mark s 0x53 0x45 ≡ true → superedges_at (suc j) s ≡ (u16_at s 2, u16_at s 4) ∷ superedges_at j (drop 6 s)
unfolding superedges_at
superedges_yes j s e = rw (e, superedges_at)

superedges_more : (j p : ℕ) (file : List ℕ) → is_mark (drop p file) 0x53 0x45 ≡ true → superedges_at (suc j) (drop p file) ≡ (u16_at file (p + 2), u16_at file (p + 4)) ∷ superedges_at j (drop (p + 6) file)
superedges_more j p file e = rw (← u16_at-drop p 2 file, ← u16_at-drop p 4 file, ← drop-drop 6 p file) (superedges_yes j (drop p file) e)

superedges_none : (k p : ℕ) (file : List ℕ) → is_mark (drop p file) 0x53 0x45 ≡ false → superedges_at k (drop p file) ≡ []
unfolding superedges_at
superedges_none zero p file n = refl
superedges_none (suc k) p file n = rw (n, superedges_at)

-- as many superedges are still to be counted
pub record ToCount (file : List ℕ) (total c p : ℕ) : Type 0 where
  pub fuel : ℕ
  pub enough : length file ≤ p + fuel
  pub sum : c + length (superedges_at fuel (drop p file)) ≡ total
  pub few : c ≤ p

pub count_start : (file : List ℕ) (p : ℕ) → ToCount file (length (superedges_at (length file) (drop p file))) 0 p
count_start file p = record { fuel = length file; enough = omega arith; sum = omega arith; few = omega arith }

pub count_step : {total c p : ℕ} (file : List ℕ) → ToCount file total c p → is_mark (drop p file) 0x53 0x45 ≡ true → ToCount file total (c + 1) (p + 6)
count_step {total} {c} {p} file t e = go t.fuel t.enough t.sum
  where
    go : (k : ℕ) → length file ≤ p + k → c + length (superedges_at k (drop p file)) ≡ total → ToCount file total (c + 1) (p + 6)
    go zero h s = absurd (omega (arith, mark_below file p e))
    go (suc j) h s = record { fuel = j; enough = omega arith; sum = omega (arith, s, ap length (superedges_more j p file e)); few = omega (arith, t.few) }

pub count_done : {total c p : ℕ} (file : List ℕ) → ToCount file total c p → is_mark (drop p file) 0x53 0x45 ≡ false → c ≡ total
count_done {total} {c} {p} file t n = omega (arith, t.sum, ap length (superedges_none t.fuel p file n))

-- the lines of the superedges from p on are still to be written
pub record ToWrite (file s₀ : List ℕ) (at₀ : ℕ) (all s : List ℕ) (at p : ℕ) : Type 0 where
  pub fuel : ℕ
  pub enough : length file ≤ p + fuel
  pub left : Left s₀ at₀ all s at (superedge_texts fuel (drop p file))

pub line_start : (file s : List ℕ) (at p : ℕ) → ToWrite file s at (superedge_texts (length file) (drop p file)) s at p
line_start file s at p = record { fuel = length file; enough = omega arith; left = left_start s at (superedge_texts (length file) (drop p file)) }

texts_more : (j p i k : ℕ) (file : List ℕ) → is_mark (drop p file) 0x53 0x45 ≡ true → i ≡ u16_at file (p + 2) → k ≡ u16_at file (p + 4)
    → superedge_texts (suc j) (drop p file) ≡ superedge_line (i, k) ++ superedge_texts j (drop (p + 6) file)
unfolding superedge_texts concat
texts_more j p i k file e a b = rw (superedges_more j p file e, a, b)

pub line_room : {s₀ : List ℕ} {at₀ : ℕ} {all s : List ℕ} {at p : ℕ} (file : List ℕ) (i k : ℕ) → ToWrite file s₀ at₀ all s at p → is_mark (drop p file) 0x53 0x45 ≡ true → i ≡ u16_at file (p + 2) → k ≡ u16_at file (p + 4)
    → at₀ + length all ≤ length s₀ → at + length (superedge_line (i, k)) ≤ length s
line_room {s₀} {at₀} {all} {s} {at} {p} file i k w e a b r = go w.fuel w.enough w.left
  where
    go : (f : ℕ) → length file ≤ p + f → Left s₀ at₀ all s at (superedge_texts f (drop p file)) → at + length (superedge_line (i, k)) ≤ length s
    go zero h l = absurd (omega (arith, mark_below file p e))
    go (suc j) h l = left_room l r (superedge_line (i, k)) (superedge_texts j (drop (p + 6) file)) (texts_more j p i k file e a b)

pub line_step : {s₀ : List ℕ} {at₀ : ℕ} {all s : List ℕ} {at p : ℕ} {t : List ℕ} {next : ℕ} (file : List ℕ) (i k : ℕ) → ToWrite file s₀ at₀ all s at p → is_mark (drop p file) 0x53 0x45 ≡ true → i ≡ u16_at file (p + 2) → k ≡ u16_at file (p + 4)
    → Wrote s at (superedge_line (i, k)) t next → ToWrite file s₀ at₀ all t next (p + 6)
line_step {s₀} {at₀} {all} {s} {at} {p} {t} {next} file i k w e a b x = go w.fuel w.enough w.left
  where
    go : (f : ℕ) → length file ≤ p + f → Left s₀ at₀ all s at (superedge_texts f (drop p file)) → ToWrite file s₀ at₀ all t next (p + 6)
    go zero h l = absurd (omega (arith, mark_below file p e))
    go (suc j) h l = record { fuel = j; enough = omega arith; left = left_step l x (texts_more j p i k file e a b) }

pub line_done : {s₀ : List ℕ} {at₀ : ℕ} {all s : List ℕ} {at p : ℕ} (file : List ℕ) → ToWrite file s₀ at₀ all s at p → is_mark (drop p file) 0x53 0x45 ≡ false → Wrote s₀ at₀ all s at
unfolding superedge_texts concat
line_done {s₀} {at₀} {all} {s} {at} {p} file w n = left_done w.left (rw (superedges_none w.fuel p file n))

-- one group's line, piece by piece
pub group_line_is : (p b k : ℕ) (file : List ℕ) → b ≡ get_or file (p + 1) 0 → k ≡ u16_at file (p + 2) → group_text (drop p file) ≡ (b ∷ []) ++ (member_texts k (drop (p + 6) file) ++ text "\n")
unfolding group_text
group_line_is p b k file e f = rw (e, f, ← u16_at-drop p 2 file, ← get_or-drop p file 1 0, ← drop-drop 6 p file)

-- the whole text, with the numbers that are read and the place after the groups
pub file_text_is : (file : List ℕ) (m g s p : ℕ) → m ≡ u16_at file 4 → g ≡ u16_at file 6 → drop p file ≡ after_groups g (drop 8 file) → s ≡ length (superedges_at (length file) (drop p file))
    → file_text file ≡ open_line m g s ++ (group_texts g (drop 8 file) ++ superedge_texts (length file) (drop p file))
unfolding file_text superedges_in superedge_part
file_text_is file m g s p a b d e = rw (e, d, a, b)
