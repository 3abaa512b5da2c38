-- Laws of the whole input: its first line, then line after line with the changes so far in the batch.
use Rattle.std.specs.Prelude.{◌≡◌, false, not, cond, List, [], ◌∷◌, ◌++◌, ℕ, suc, Option, Some, None, Result, Ok, Err, ◌+◌, ◌*◌, ◌≤◌, ◌<◌, leb, length, take, drop, set}
use Rattle.std.specs.Option.{ok_or}
use Rattle.std.proofs.Math.Path.{refl, sym, ap}
use Rattle.std.proofs.Common.{◌∙◌, append_assoc, append-nil, arith, length-append, drop-set-lt, take_all, take_at, le-leb, le-ltb, lt-ltb, ne_eqb}
use Rattle.std.proofs.lemmas.List.Edits.{sets, sets-eq}
use Rattle.std.proofs.lemmas.Slice.{put_mid-paste}
use borrow.Rule.Slice.PartMut.{put_mid}
use Rattle.std.proofs.lemmas.Bool.{lt-leb}
use Rattle.model.specs.Graph.{max_nodes, max_updates}
use Rattle.model.specs.Program.{Input, Line, accepted, change, first_line, ill_formed, input_of, is_count, is_none, line_of, lines_from, max_bytes, pieces, refused_at, value_of, with_line, with_update}
use Rattle.model.specs.Updates.{Update, update_numbers, updates_in}
use Rattle.buffers.specs.Wrote.{Wrote}
use Rattle.buffers.specs.WroteLaws.{wrote_then}
use Rattle.text.specs.declared.Change.{Change}
use Rattle.text.specs.Grammar.{ParsedAs, SplitAt, input_in, number_of, numbers_of, update_of, used}
use Rattle.text.specs.NumberLaws.{number_none, number_value}
use Rattle.text.specs.PieceLaws.{pieces_some}

-- changes as numbers, four for each
unfoldable pub numbers : List Update → List ℕ
numbers [] = []
numbers (c ∷ cs) = c.kind ∷ c.u ∷ c.v ∷ c.wanted ∷ numbers cs

numbers-append : (a b : List Update) → numbers (a ++ b) ≡ numbers a ++ numbers b
unfolding numbers
numbers-append [] b = refl
numbers-append (c ∷ cs) b = ap (λ (l : List ℕ). c.kind ∷ c.u ∷ c.v ∷ c.wanted ∷ l) (numbers-append cs b)

numbers-length : (cs : List Update) → length (numbers cs) ≡ update_numbers * length cs
unfolding numbers
numbers-length [] = refl
numbers-length (c ∷ cs) = omega (arith, numbers-length cs)

numbers_back : (cs : List Update) → updates_in (numbers cs) ≡ cs
unfolding numbers updates_in
numbers_back [] = refl
numbers_back (c ∷ cs) = ap (λ (l : List Update). c ∷ l) (numbers_back cs)

-- changes before what follows them
unfoldable pub following : List Update → Input → Input
following us (refused_at k) = refused_at k
following us (accepted n cs) = accepted n (us ++ cs)

following_none : (i : Input) → following [] i ≡ i
unfolding following
following_none (refused_at k) = refl
following_none (accepted n cs) = refl

following_more : (us : List Update) (c : Update) (i : Input) → following us (with_update c i) ≡ following (us ++ (c ∷ [])) i
unfolding following with_update
following_more us c (refused_at k) = refl
following_more us c (accepted n cs) = ap (accepted n) (sym (append_assoc us (c ∷ []) cs))

-- what stands behind the numbers written is untouched
drop_sets : (bs s : List ℕ) (at k : ℕ) → at + length bs ≤ k → drop k (sets s at bs) ≡ drop k s
drop_sets [] s at k h = refl
drop_sets (b ∷ bs) s at k h = drop_sets bs (set s at b) (suc at) k (omega arith) ∙ drop-set-lt k s at b (omega arith)

-- the changes of the lines before `rest` are in the batch, and those of `rest` are still to be read
pub record Reading (before after : List ℕ) (all : Input) (n count : ℕ) (rest : List ℕ) : Type 0 where
  pub few : count ≤ max_updates
  pub room : update_numbers * max_updates ≤ length before
  pub changes : List Update
  pub size : length changes ≡ count
  pub wrote : Wrote before 0 (numbers changes) after (update_numbers * count)
  pub same : following changes (lines_from n (count + 2) (pieces 0x0A rest)) ≡ all

pub reading_start : (batch : List ℕ) (n : ℕ) (lines : List ℕ) → update_numbers * max_updates ≤ length batch → Reading batch batch (lines_from n 2 (pieces 0x0A lines)) n 0 lines
unfolding numbers
reading_start batch n lines r = record {
  few = omega arith;
  room = r;
  changes = [];
  size = refl;
  wrote = record { bytes = refl; place = refl };
  same = following_none (lines_from n 2 (pieces 0x0A lines));
}

module _ {before after : List ℕ} {all : Input} {n count : ℕ} {rest : List ℕ} (x : Reading before after all n count rest) where
  -- refused at the line that is read
  refused : lines_from n (count + 2) (pieces 0x0A rest) ≡ refused_at (count + 2) → ParsedAs all before after (Err (record { line = count + 2 }))
  unfolding following input_in used
  refused e = record {
    input = sym (ap (following x.changes) e) ∙ x.same;
    few = omega arith;
    beyond = ap (drop (update_numbers * max_updates)) x.wrote.bytes ∙ drop_sets (numbers x.changes) before 0 (update_numbers * max_updates) (omega (arith, numbers-length x.changes, x.size, x.few));
  }

  -- a last line without a line feed
  pub reading_open : pieces 0x0A rest ≡ rest ∷ [] → (length rest ≡ 0 → ⊥) → ParsedAs all before after (Err (record { line = count + 2 }))
  reading_open e h = refused (rw e tail)
    where
      tail : lines_from n (count + 2) (rest ∷ []) ≡ refused_at (count + 2)
      tail = unfold lines_from is_none in rw (ne_eqb (length rest) 0 h)

  -- no line is left
  pub reading_done : pieces 0x0A rest ≡ rest ∷ [] → length rest ≡ 0 → ParsedAs all before after (Ok (record { n = n; count = count }))
  unfolding following input_in used
  reading_done e h = record {
    input = ap (accepted n) (ap updates_in front ∙ numbers_back x.changes) ∙ sym (ap (accepted n) (append-nil x.changes)) ∙ sym (ap (following x.changes) none) ∙ x.same;
    few = x.few;
    beyond = ap (drop (update_numbers * count)) x.wrote.bytes ∙ drop_sets (numbers x.changes) before 0 (update_numbers * count) (omega (arith, numbers-length x.changes, x.size));
  }
    where
      long : length (numbers x.changes) ≡ update_numbers * count
      long = omega (arith, numbers-length x.changes, x.size)

      front : take (update_numbers * count) after ≡ numbers x.changes
      front =
          ap (take (update_numbers * count)) (x.wrote.bytes ∙ sets-eq (numbers x.changes) before 0 (omega (arith, long, x.room, x.few)))
          ∙ take_at (numbers x.changes) (drop (0 + length (numbers x.changes)) before) (update_numbers * count) long

      none : lines_from n (count + 2) (pieces 0x0A rest) ≡ accepted n []
      none = rw e (unfold lines_from is_none in rw h)

  -- a line with its line feed
  module _ {line next : List ℕ} (s : SplitAt 0x0A rest line next) where
    line_first : lines_from n (count + 2) (pieces 0x0A rest) ≡ with_line (count + 2) (line_of line) (lines_from n (suc (count + 2)) (pieces 0x0A next))
    line_first = rw s.pieces (unfold lines_from in rw (pieces_some 0x0A next))

    -- a 4,097th change, whatever it is
    pub reading_over : count ≡ max_updates → ParsedAs all before after (Err (record { line = count + 2 }))
    reading_over f = refused (line_first ∙ over (line_of line))
      where
        over : (y : Line) → with_line (count + 2) y (lines_from n (suc (count + 2)) (pieces 0x0A next)) ≡ refused_at (count + 2)
        over ill_formed = unfold with_line in refl
        over (change c) = unfold with_line in rw (lt-ltb (suc max_updates) (count + 2) (omega arith))

    -- an ill-formed line
    pub reading_ill : ill_formed ≡ line_of line → ParsedAs all before after (Err (record { line = count + 2 }))
    reading_ill e = refused (line_first ∙ rw (← e) (unfold with_line in refl))

    -- a change
    pub reading_step : (c : Change) {batch : List ℕ} → (count ≡ max_updates → ⊥) → change (update_of c) ≡ line_of line → Wrote after (update_numbers * count) (numbers_of c) batch (update_numbers * (count + 1)) → Reading before batch all n (count + 1) next
    reading_step c {batch} f e w = record {
      few = omega (arith, f, x.few);
      room = x.room;
      changes = x.changes ++ (update_of c ∷ []);
      size = omega (arith, length-append x.changes (update_of c ∷ []), x.size);
      wrote = rw (numbers-append x.changes (update_of c ∷ [])) (unfold numbers in wrote_then x.wrote w);
      same = sym (ap (following x.changes) first ∙ following_more x.changes (update_of c) after-it) ∙ x.same;
    }
      where
        after-it : Input
        after-it = lines_from n (count + 1 + 2) (pieces 0x0A next)

        first : lines_from n (count + 2) (pieces 0x0A rest) ≡ with_update (update_of c) after-it
        first =
            let z : suc (count + 2) ≡ count + 1 + 2 = omega arith in
            line_first ∙ rw (← e, z) (unfold with_line in rw (le-ltb (suc max_updates) (count + 2) (omega (arith, f, x.few))))

-- a part is written over
pub wrote_part : (s : List ℕ) {bs new : List ℕ} (at : ℕ) {k next : ℕ} → new ≡ bs → length bs ≡ k → at + k ≤ length s → next ≡ at + k → Wrote s at bs (put_mid at k s new) next
wrote_part s {bs} {new} at {k} a b h e = record {
  bytes = put_mid-paste at k s new bs (length bs) a b refl ∙ rw (take_all (length bs) bs (omega arith)) (sym (sets-eq bs s at (omega (arith, b))));
  place = omega (arith, e, b);
}

-- what the number in the first line tells
count_is : (ds : List ℕ) (v : ℕ) → Some v ≡ number_of ds → is_count ds ≡ leb v max_nodes
unfolding is_count
count_is ds v h = let x = number_value ds v h in rw (x.0, x.1)

count_none : (ds : List ℕ) → None ≡ number_of ds → is_count ds ≡ false
unfolding is_count
count_none ds h = rw (number_none ds h)

-- the first line
pub first_open : (s : List ℕ) → pieces 0x0A s ≡ s ∷ [] → first_line (pieces 0x0A s) ≡ refused_at 1
unfolding first_line is_none
first_open s e = rw e

module _ {s first lines : List ℕ} (x : SplitAt 0x0A s first lines) where
  first-line : first_line (pieces 0x0A s) ≡ cond (not (is_count first)) (refused_at 1) (lines_from (value_of 0 first) 2 (pieces 0x0A lines))
  unfolding first_line
  first-line = rw (x.pieces, pieces_some 0x0A lines)

  pub first_ill : None ≡ number_of first → first_line (pieces 0x0A s) ≡ refused_at 1
  first_ill a = first-line ∙ rw (count_none first a)

  pub first_large : (v : ℕ) → Some v ≡ number_of first → max_nodes < v → first_line (pieces 0x0A s) ≡ refused_at 1
  first_large v a h = first-line ∙ rw (count_is first v a, lt-leb v max_nodes h)

  pub first_then : (v : ℕ) → Some v ≡ number_of first → v ≤ max_nodes → first_line (pieces 0x0A s) ≡ lines_from v 2 (pieces 0x0A lines)
  first_then v a h = first-line ∙ rw (count_is first v a, le-leb v max_nodes h, (number_value first v a).1)

-- refused at the first line, or for its length, with the batch as it was
refused_at_lem : (input batch : List ℕ) (k : ℕ) → input_of input ≡ refused_at k → ParsedAs (input_of input) batch batch (Err (record { line = k }))
unfolding input_in used
refused_at_lem input batch k e = record { input = sym e; few = omega arith; beyond = refl }

pub input_long : (input batch : List ℕ) → max_bytes < length input → ParsedAs (input_of input) batch batch (Err (record { line = 0 }))
input_long input batch h = refused_at_lem input batch 0 (unfold input_of in rw (lt-ltb max_bytes (length input) h))

pub by_lines : (input : List ℕ) → length input ≤ max_bytes → first_line (pieces 0x0A input) ≡ input_of input
unfolding input_of
by_lines input small = rw (le-ltb max_bytes (length input) small)

pub input_refused : (input batch : List ℕ) → length input ≤ max_bytes → first_line (pieces 0x0A input) ≡ refused_at 1 → ParsedAs (input_of input) batch batch (Err (record { line = 1 }))
input_refused input batch small e = refused_at_lem input batch 1 (sym (by_lines input small) ∙ e)

-- what an error made of a missing value tells
pub ok_or-err : {A E : Type 0} {r : Result A E} (o : Option A) {e x : E} → r ≡ ok_or o e → r ≡ Err x → (o ≡ None) × (x ≡ e)
ok_or-err (Some v) a b = let z : Ok v ≡ Err _ = sym a ∙ b in cc
ok_or-err None a b = (refl, cc)
