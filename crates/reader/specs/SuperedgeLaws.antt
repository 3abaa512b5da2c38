-- Laws of the superedges of a file, read run by run.
use Rattle.std.specs.Prelude.{◌≡◌, Bool, false, ◌&&◌, ◌||◌, cond, ◌⊎◌, eqb, ltb, length, get_or, drop, Option, Some, None}
use Rattle.std.proofs.Math.Path.{refl, ap}
use Rattle.std.proofs.Common.{sym, subst, ◌∙◌, inl, inr, length-drop, eqb-true, eq-eqb, ne_eqb, lt-ltb, le-ltb, ltb-true}
use Rattle.std.proofs.Math.Bool.{true}
use mathlib.Core.List.{List, [], ◌∷◌, ◌++◌}
use Prim.Native.Nat.{ℕ, zero, suc, ◌+◌, ◌*◌, ◌-◌, ◌≤◌, ◌<◌}
use native.Mathlib.Omega.{arith}
use Rattle.std.proofs.lemmas.Bool.{eqb-false}
use Rattle.model.specs.Release.{u16_limit}
use Rattle.model.specs.InOrder.{follows, pair_key}
use Rattle.model.proofs.TestLaws.{and_fst, and_snd, decide, differ, iff_eq}
use Rattle.records.specs.declared.Counts.{Counts}
use Rattle.records.specs.declared.Record.{Record}
use Rattle.records.specs.declared.Record.TheVariants.{Head, Group, Superedge, End}
use Rattle.records.specs.declared.Read.{Read}
use Rattle.records.specs.Records.{item_in, record_at, size_of, spent, superedge_from}
use Rattle.records.specs.RecordLaws.{Fits, fits_at, from_is, from-not, none-from, item_fits, item_is, next_is, none_in}
use Rattle.drawing.specs.Drawing.{Added, pair_bits}
use Rattle.drawing.specs.DrawingLaws.{adding_done, adding_start, adding_step}
use Rattle.sums.specs.Joined.{SumsAdded}
use Rattle.sums.specs.JoinedLaws.{cubes_start}
use Rattle.reader.specs.AddedLaws.{all_added, one_added, some_added}
use Rattle.reader.specs.Decoding.{RunLeft, RunRead, RunsLeft, RunsPassed, SuperedgesRead, added_by, drawn_by, ends_at, in_run, on_superedge, pair_adds, pairs_to, run_pairs, run_stop, stop_at}

-- a superedge has six bytes
module _ (s : List ℕ) (at i : ℕ) (r : Read) (read : Some r ≡ superedge_from i s at) (a j : ℕ) (item : r.item ≡ Superedge a j) where
  read_here : Some r ≡ record_at s at
  read_here = (from_is s at i r read a j item).0

  pub superedge_next : r.next ≡ at + 6
  unfolding size_of
  superedge_next = next_is s at r read_here ∙ ap (λ (x : Record). at + size_of x) item

  pub superedge_room : at + 6 ≤ length s
  superedge_room = let f = fits_at s at r read_here (Superedge a j) item in omega (arith, f.0, length-drop at s)

-- the end record, judged by the record just read
pub ends_none : (s : List ℕ) (at : ℕ) (c : Counts) → None ≡ record_at s at → false ≡ ends_at c s at
unfolding ends_at
ends_none s at c read = rw (← none_in s at read)

module _ (s : List ℕ) (at : ℕ) (r : Read) (read : Some r ≡ record_at s at) (c : Counts) where
  pub ends_other : (r.item ≡ End → ⊥) → false ≡ ends_at c s at
  ends_other h = by_kind r.item refl
    where
      by_kind : (i : Record) → r.item ≡ i → false ≡ ends_at c s at
      by_kind (Superedge i j) e = unfold ends_at in rw (← item_is s at r read, e)
      by_kind End e = absurd (h e)
      by_kind (Head x y z) e = unfold ends_at in rw (← item_is s at r read, e)
      by_kind (Group x y z) e = unfold ends_at in rw (← item_is s at r read, e)

  module _ (end : r.item ≡ End) where
    pub ends_unspent : false ≡ spent c → false ≡ ends_at c s at
    unfolding ends_at
    ends_unspent e = rw (← item_is s at r read, end, ← e)

    pub ends_spent : true ≡ spent c → eqb r.next (length s) ≡ ends_at c s at
    unfolding ends_at
    ends_spent e =
        let two : r.next ≡ at + 2 = unfold size_of in (next_is s at r read ∙ ap (λ (x : Record). at + size_of x) end) in
        rw (← item_is s at r read, end, ← e, two)

-- the record at a place
module _ (s : List ℕ) (at : ℕ) where
  pub told_by : (i : Option Record) → item_in (drop at s) ≡ i → Fits (drop at s) i
  told_by i e = subst (Fits (drop at s)) e (item_fits (drop at s))

  -- a superedge here that passes a test, or none that does
  pub here_or_not : (f : ℕ → ℕ → Bool) {X : Type 0} → ((a j : ℕ) → item_in (drop at s) ≡ Some (Superedge a j) → f a j ≡ true → X) → (((a j : ℕ) → item_in (drop at s) ≡ Some (Superedge a j) → f a j ≡ false) → X) → X
  here_or_not f {X} taken none = by_kind (item_in (drop at s)) refl
    where
      by-test : (a j : ℕ) → item_in (drop at s) ≡ Some (Superedge a j) → (f a j ≡ true) ⊎ (f a j ≡ false) → X
      by-test a j e (inl t) = taken a j e t
      by-test a j e (inr t) = none (λ b k d. let z = sym e ∙ d in let x : a ≡ b = cc in let y : j ≡ k = cc in rw (← x, ← y) t)

      by_kind : (x : Option Record) → item_in (drop at s) ≡ x → X
      by_kind (Some (Superedge a j)) e = by-test a j e (decide (f a j))
      by_kind (Some End) e = none (λ b k d. let w = sym e ∙ d in let z : ◌≡◌ {A = ℕ} 0 1 = cc in absurd (omega arith))
      by_kind (Some (Head x y z)) e = none (λ b k d. let w = sym e ∙ d in let z : ◌≡◌ {A = ℕ} 0 1 = cc in absurd (omega arith))
      by_kind (Some (Group x y z)) e = none (λ b k d. let w = sym e ∙ d in let z : ◌≡◌ {A = ℕ} 0 1 = cc in absurd (omega arith))
      by_kind None e = none (λ b k d. let w = sym e ∙ d in let z : ◌≡◌ {A = ℕ} 0 1 = cc in absurd (omega arith))

-- no superedge that passes a test: the way out
on_none : {A : Type 0} (r : Option Record) (t : ℕ → ℕ → Bool) (f : ℕ → ℕ → A) (x : A) → ((i j : ℕ) → r ≡ Some (Superedge i j) → t i j ≡ false) → on_superedge r (λ i j. cond (t i j) (f i j) x) x ≡ x
on_none (Some (Superedge i j)) t f x h = rw (h i j refl)
on_none (Some End) t f x h = refl
on_none (Some (Head n m g)) t f x h = refl
on_none (Some (Group q count class)) t f x h = refl
on_none None t f x h = refl

-- which superedges a run takes
other_first : (g i last a j : ℕ) → (a ≡ i → ⊥) → in_run g i last a j ≡ false
unfolding in_run
other_first g i last a j h = rw (ne_eqb a i h)

pub not_after : (g i last a j : ℕ) → j ≤ last → in_run g i last a j ≡ false
unfolding in_run
not_after g i last a j h = step (decide (eqb a i))
  where
    step : (eqb a i ≡ true) ⊎ (eqb a i ≡ false) → (eqb a i && (ltb last j && ltb j g)) ≡ false
    step (inl t) = rw (t, le-ltb last j h)
    step (inr t) = rw t

pub no_position : (g i last a j : ℕ) → g ≤ j → in_run g i last a j ≡ false
unfolding in_run
no_position g i last a j h = step (decide (eqb a i)) (decide (ltb last j))
  where
    step : (eqb a i ≡ true) ⊎ (eqb a i ≡ false) → (ltb last j ≡ true) ⊎ (ltb last j ≡ false) → (eqb a i && (ltb last j && ltb j g)) ≡ false
    step (inl t) (inl u) = rw (t, u, le-ltb j g h)
    step (inl t) (inr u) = rw (t, u)
    step (inr t) u = rw t

in_run_lem : (g i last a j : ℕ) → a ≡ i → last < j → j < g → in_run g i last a j ≡ true
unfolding in_run
in_run_lem g i last a j e l h = rw (eq-eqb a i e, lt-ltb last j l, lt-ltb j g h)

run_first : (g i last a j : ℕ) → in_run g i last a j ≡ true → a ≡ i
unfolding in_run
run_first g i last a j t = eqb-true a i (and_fst (eqb a i) (ltb last j && ltb j g) t)

run_second : (g i last a j : ℕ) → in_run g i last a j ≡ true → (last < j) × (j < g)
unfolding in_run
run_second g i last a j t = let u = and_snd (eqb a i) (ltb last j && ltb j g) t in (ltb-true last j (and_fst (ltb last j) (ltb j g) u), ltb-true j g (and_snd (ltb last j) (ltb j g) u))

-- one record of a run: none that belongs to it, or one
module _ (g i : ℕ) (s : List ℕ) (last at : ℕ) where
  abbrev NotHere : Type 0
  NotHere = (a j : ℕ) → item_in (drop at s) ≡ Some (Superedge a j) → in_run g i last a j ≡ false

  run-stops : (k : ℕ) → NotHere → run_stop g i s last k at ≡ at
  unfolding run_stop
  run-stops zero h = refl
  run-stops (suc k) h = on_none (item_in (drop at s)) (in_run g i last) (λ a j. run_stop g i s j k (at + 6)) at h

  run-empty : (k : ℕ) → NotHere → run_pairs g i s last k at ≡ []
  unfolding run_pairs
  run-empty zero h = refl
  run-empty (suc k) h = on_none (item_in (drop at s)) (in_run g i last) (λ a j. (i, j) ∷ run_pairs g i s j k (at + 6)) [] h

  module _ (k a j : ℕ) (here : item_in (drop at s) ≡ Some (Superedge a j)) (taken : in_run g i last a j ≡ true) where
    run-goes : run_stop g i s last (suc k) at ≡ run_stop g i s j k (at + 6)
    unfolding run_stop
    run-goes = rw (here, taken)

    run-pair : run_pairs g i s last (suc k) at ≡ (i, j) ∷ run_pairs g i s j k (at + 6)
    unfolding run_pairs
    run-pair = rw (here, taken)

-- the loop over the records of a run
pub run_start : (g i : ℕ) (few : Bool) (s : List ℕ) (from : ℕ) (firsts joined sums : List ℕ) → RunLeft g i few s from firsts joined joined sums sums i from
run_start g i few s from firsts joined sums = record {
  most = length s;
  enough = omega arith;
  place = refl;
  drawn = adding_start (drawn_by few firsts (run_pairs g i s i (length s) from)) (drawn_by few firsts (run_pairs g i s i (length s) from)) joined (λ a b. refl);
  summed = cubes_start (added_by few firsts sums (run_pairs g i s i (length s) from)) sums;
}

module _ (g i : ℕ) (few : Bool) (s : List ℕ) (from : ℕ) (firsts joined₀ joined sums₀ sums : List ℕ) (last at : ℕ) (left : RunLeft g i few s from firsts joined₀ joined sums₀ sums last at) where
  run_ends : NotHere g i s last at → RunRead g i few s from firsts joined₀ joined sums₀ sums at
  run_ends h = record {
    place = sym (run-stops g i s last at left.most h) ∙ left.place;
    drawn = adding_done left.drawn (λ a b. ap (λ (l : List (ℕ × ℕ)). drawn_by few firsts l a b) (run-empty g i s last at left.most h) ∙ (unfold drawn_by in refl));
    summed = all_added few firsts left.summed (run-empty g i s last at left.most h);
  }

  -- no record here
  pub run_none : None ≡ superedge_from i s at → RunRead g i few s from firsts joined₀ joined sums₀ sums at
  run_none read = run_ends (λ a j e. by a j e (decide (eqb a i)))
    where
      by : (a j : ℕ) → item_in (drop at s) ≡ Some (Superedge a j) → (eqb a i ≡ true) ⊎ (eqb a i ≡ false) → in_run g i last a j ≡ false
      by a j e (inl t) = absurd (none-from s at i read j (e ∙ ap (λ (x : ℕ). Some (Superedge x j)) (eqb-true a i t)))
      by a j e (inr t) = other_first g i last a j (eqb-false a i t)

  module _ (r : Read) (read : Some r ≡ superedge_from i s at) where
    pub run_other : ((a j : ℕ) → r.item ≡ Superedge a j → ⊥) → RunRead g i few s from firsts joined₀ joined sums₀ sums at
    run_other h = run_ends (λ a j e. by a j e (decide (eqb a i)))
      where
        by : (a j : ℕ) → item_in (drop at s) ≡ Some (Superedge a j) → (eqb a i ≡ true) ⊎ (eqb a i ≡ false) → in_run g i last a j ≡ false
        by a j e (inl t) = absurd (from-not s at i r read h j (e ∙ ap (λ (x : ℕ). Some (Superedge x j)) (eqb-true a i t)))
        by a j e (inr t) = other_first g i last a j (eqb-false a i t)

    module _ (a j : ℕ) (item : r.item ≡ Superedge a j) where
      here : item_in (drop at s) ≡ Some (Superedge a j)
      here = sym (item_is s at r (read_here s at i r read a j item)) ∙ ap Some item

      pub run_over : in_run g i last a j ≡ false → RunRead g i few s from firsts joined₀ joined sums₀ sums at
      run_over h = run_ends (λ b k e. one b k (sym here ∙ e))
        where
          one : (b k : ℕ) → Some (Superedge a j) ≡ Some (Superedge b k) → in_run g i last b k ≡ false
          one b k e = let x : a ≡ b = cc in let y : j ≡ k = cc in rw (← x, ← y) h

      pub run_more : (joined' sums' : List ℕ) (p q : ℕ) → last < j → j < g → p ≡ get_or firsts i 0 → q ≡ get_or firsts j 0
          → Added (pair_bits few p q) joined joined' → SumsAdded (pair_adds few sums p q) sums sums' → RunLeft g i few s from firsts joined₀ joined' sums₀ sums' j r.next
      run_more joined' sums' p q l h ep eq x y = record {
        most = left.most - 1;
        enough = omega (arith, left.enough, superedge_next s at i r read a j item);
        place = ap (run_stop g i s j (left.most - 1)) (superedge_next s at i r read a j item) ∙ sym (run-goes g i s last at (left.most - 1) a j here t) ∙ ap (λ (k : ℕ). run_stop g i s last k at) (sym most-is) ∙ left.place;
        drawn = adding_step left.drawn x (λ b c. ap (λ (l : List (ℕ × ℕ)). drawn_by few firsts l b c) pairs ∙ (unfold drawn_by in rw (ep, eq)));
        summed = one_added few firsts left.summed i j (run_pairs g i s j (left.most - 1) r.next) p q pairs ep eq y;
      }
        where
          t : in_run g i last a j ≡ true
          t = in_run_lem g i last a j (from_is s at i r read a j item).1 l h

          most-is : left.most ≡ suc (left.most - 1)
          most-is = omega (arith, left.enough, superedge_room s at i r read a j item)

          pairs : run_pairs g i s last left.most at ≡ (i, j) ∷ run_pairs g i s j (left.most - 1) r.next
          pairs = ap (λ (k : ℕ). run_pairs g i s last k at) most-is ∙ run-pair g i s last at (left.most - 1) a j here t ∙ ap (λ (z : ℕ). (i, j) ∷ run_pairs g i s j (left.most - 1) z) (sym (superedge_next s at i r read a j item))

-- which superedges stand in order
pub ordered_first : (g last i j : ℕ) → follows g last i j ≡ true → i < j
unfolding follows
ordered_first g last i j t = ltb-true i j (and_fst (ltb i j) (ltb j g && ltb last (pair_key i j)) t)

pub ordered_second : (g last i j : ℕ) → follows g last i j ≡ true → j < g
unfolding follows
ordered_second g last i j t = ltb-true j g (and_fst (ltb j g) (ltb last (pair_key i j)) (and_snd (ltb i j) (ltb j g && ltb last (pair_key i j)) t))

ordered_key : (g last i j : ℕ) → follows g last i j ≡ true → last < i * u16_limit + j
unfolding follows pair_key
ordered_key g last i j t = ltb-true last (i * u16_limit + j) (and_snd (ltb j g) (ltb last (i * u16_limit + j)) (and_snd (ltb i j) (ltb j g && ltb last (i * u16_limit + j)) t))

in_order_lem : (g last i j : ℕ) → i < j → j < g → last < i * u16_limit + j → follows g last i j ≡ true
unfolding follows pair_key
in_order_lem g last i j a b c = rw (lt-ltb i j a, lt-ltb j g b, lt-ltb last (i * u16_limit + j) c)

pub refuted : (b : Bool) → (b ≡ true → ⊥) → b ≡ false
refuted true h = absurd (h refl)
refuted false h = refl

-- both positions of a superedge in order are below g
pub positions : (g last i j : ℕ) → follows g last i j ≡ true → (i < g) × (j < g)
positions g last i j t =
    let a = ordered_first g last i j t in
    let b = ordered_second g last i j t in
    (omega arith, b)

-- one record: no superedge in order, or one
module _ (g : ℕ) (s : List ℕ) (last at : ℕ) where
  abbrev pub NoneHere : Type 0
  NoneHere = (a j : ℕ) → item_in (drop at s) ≡ Some (Superedge a j) → follows g last a j ≡ false

  pub stops : (k : ℕ) → NoneHere → stop_at g s last k at ≡ at
  unfolding stop_at
  stops zero h = refl
  stops (suc k) h = on_none (item_in (drop at s)) (follows g last) (λ i j. stop_at g s (pair_key i j) k (at + 6)) at h

  pub stops_empty : (k : ℕ) → NoneHere → pairs_to g s last k at ≡ []
  unfolding pairs_to
  stops_empty zero h = refl
  stops_empty (suc k) h = on_none (item_in (drop at s)) (follows g last) (λ i j. (i, j) ∷ pairs_to g s (pair_key i j) k (at + 6)) [] h

  module _ (k a j : ℕ) (here : item_in (drop at s) ≡ Some (Superedge a j)) (taken : follows g last a j ≡ true) where
    pub stop_goes : stop_at g s last (suc k) at ≡ stop_at g s (pair_key a j) k (at + 6)
    unfolding stop_at
    stop_goes = rw (here, taken)

    pub stop_pair : pairs_to g s last (suc k) at ≡ (a, j) ∷ pairs_to g s (pair_key a j) k (at + 6)
    unfolding pairs_to
    stop_pair = rw (here, taken)

-- a run read from a state in which it is the next one, and the state after it
module _ (g i : ℕ) (s : List ℕ) (few : g ≤ u16_limit) where
  -- the last key tells the same order as the last second position
  record Agree (key last : ℕ) : Type 0 where
    after : i ≤ last
    high : key ≤ suc i * u16_limit
    there : (j : ℕ) → i < j → j < g → key < i * u16_limit + j → last < j
    back : (j : ℕ) → last < j → key < i * u16_limit + j

  agree : {key last : ℕ} → Agree key last → (j : ℕ) → follows g key i j ≡ in_run g i last i j
  agree {key = key} {last = last} h j =
      iff_eq (follows g key i j) (in_run g i last i j)
      (λ t. in_run_lem g i last i j refl (h.there j (ordered_first g key i j t) (ordered_second g key i j t) (ordered_key g key i j t)) (ordered_second g key i j t))
      (λ t. let r = run_second g i last i j t in let b = h.after in in_order_lem g key i j (omega arith) r.1 (h.back j r.0))

  agree-first : (key : ℕ) → key ≤ i * u16_limit → Agree key i
  agree-first key l = record { after = omega arith; high = omega arith; there = λ j a b c. a; back = λ j a. omega arith }

  agree-next : (j : ℕ) → i < j → j < g → Agree (pair_key i j) j
  unfolding pair_key
  agree-next j a b = record { after = omega arith; high = omega arith; there = λ k c d e. omega arith; back = λ k c. omega arith }

  -- a superedge from an earlier group is not in order any more
  passed-next : (j at : ℕ) → RunsPassed g s i (pair_key i j) at
  unfolding pair_key
  passed-next j at a k e l = refuted (follows g (i * u16_limit + j) a k) (λ t. let x = ordered_key g (i * u16_limit + j) a k t in let y = ordered_second g (i * u16_limit + j) a k t in absurd (omega arith))

  record AfterRun (k key last kr at : ℕ) : Type 0 where
    most : ℕ
    final : ℕ
    enough : length s ≤ run_stop g i s last kr at + most
    low : final ≤ suc i * u16_limit
    passed : RunsPassed g s (suc i) final (run_stop g i s last kr at)
    place : stop_at g s final most (run_stop g i s last kr at) ≡ stop_at g s key k at
    pairs : pairs_to g s key k at ≡ run_pairs g i s last kr at ++ pairs_to g s final most (run_stop g i s last kr at)

  abbrev Walk : ℕ → Type 0
  Walk kr = (k key last at : ℕ) → length s ≤ at + k → length s ≤ at + kr → Agree key last → RunsPassed g s i key at → AfterRun k key last kr at

  -- the run has nothing here
  stays : (kr k key last at : ℕ) → length s ≤ at + k → Agree key last → RunsPassed g s i key at → NotHere g i s last at → AfterRun k key last kr at
  stays kr k key last at l h p none = record {
    most = k;
    final = key;
    enough = rw (run-stops g i s last at kr none) l;
    low = h.high;
    passed = rw (run-stops g i s last at kr none) passed';
    place = ap (stop_at g s key k) (run-stops g i s last at kr none);
    pairs = rw (run-empty g i s last at kr none, run-stops g i s last at kr none) refl;
  }
    where
      passed' : RunsPassed g s (suc i) key at
      passed' a j e b = step (decide (eqb a i))
        where
          step : (eqb a i ≡ true) ⊎ (eqb a i ≡ false) → follows g key a j ≡ false
          step (inl t) = let x : a ≡ i = eqb-true a i t in ap (λ (y : ℕ). follows g key y j) x ∙ agree h j ∙ ap (λ (y : ℕ). in_run g i last y j) (sym x) ∙ none a j e
          step (inr t) = let x = eqb-false a i t in p a j e (omega arith)

  one : (kr : ℕ) → Walk kr → Walk (suc kr)
  one kr rec k key last at l m h p = here_or_not s at (in_run g i last) goes (stays (suc kr) k key last at l h p)
    where
      goes : (a j : ℕ) → item_in (drop at s) ≡ Some (Superedge a j) → in_run g i last a j ≡ true → AfterRun k key last (suc kr) at
      goes a j e t = record {
        most = next.most;
        final = next.final;
        enough = rw stop next.enough;
        low = next.low;
        passed = rw stop next.passed;
        place = ap (stop_at g s next.final next.most) stop ∙ next.place ∙ sym (stop_goes g s key at (k - 1) i j here taken) ∙ ap (λ (x : ℕ). stop_at g s key x at) (sym k-is);
        pairs = ap (λ (x : ℕ). pairs_to g s key x at) k-is ∙ stop_pair g s key at (k - 1) i j here taken ∙ ap (λ (x : List (ℕ × ℕ)). (i, j) ∷ x) next.pairs ∙ rw (run-pair g i s last at kr a j e t, stop) refl;
      }
        where
          here : item_in (drop at s) ≡ Some (Superedge i j)
          here = e ∙ ap (λ (x : ℕ). Some (Superedge x j)) (run_first g i last a j t)

          taken : follows g key i j ≡ true
          taken = agree h j ∙ ap (λ (x : ℕ). in_run g i last x j) (sym (run_first g i last a j t)) ∙ t

          room : at + 6 ≤ length s
          room = let f = told_by s at (Some (Superedge i j)) here in omega (arith, f.0, length-drop at s)

          k-is : k ≡ suc (k - 1)
          k-is = omega (arith, room)

          next : AfterRun (k - 1) (pair_key i j) j kr (at + 6)
          next = let b = run_second g i last a j t in let c = h.after in rec (k - 1) (pair_key i j) j (at + 6) (omega arith) (omega arith) (agree-next j (omega arith) b.1) (passed-next j (at + 6))

          stop : run_stop g i s last (suc kr) at ≡ run_stop g i s j kr (at + 6)
          stop = run-goes g i s last at kr a j e t

  walked : (kr : ℕ) → Walk kr
  walked zero = λ k key last at l m h p. stays zero k key last at l h p (λ a j e. let f = told_by s at (Some (Superedge a j)) e in absurd (omega (arith, f.0, length-drop at s)))
  walked (suc kr) = one kr (walked kr)

-- superedges in two parts
drawn-append : (both : Bool) (firsts : List ℕ) (xs ys : List (ℕ × ℕ)) (a b : ℕ) → drawn_by both firsts (xs ++ ys) a b ≡ (drawn_by both firsts xs a b || drawn_by both firsts ys a b)
unfolding drawn_by
drawn-append both firsts [] ys a b = refl
drawn-append both firsts (x ∷ xs) ys a b = after (pair_bits both (get_or firsts x.0 0) (get_or firsts x.1 0) a b) (drawn_by both firsts (xs ++ ys) a b) (drawn_by both firsts xs a b) (drawn_by both firsts ys a b) (drawn-append both firsts xs ys a b)
  where
    after : (u v w z : Bool) → v ≡ (w || z) → (u || v) ≡ ((u || w) || z)
    after true v w z e = refl
    after false v w z e = e

-- the loop over the runs
pub runs_start : (g : ℕ) (few : Bool) (s : List ℕ) (from : ℕ) (firsts joined sums : List ℕ) → RunsLeft g few s from firsts joined joined sums sums 0 from
runs_start g few s from firsts joined sums = record {
  most = length s;
  last = 0;
  enough = omega arith;
  low = omega arith;
  passed = λ a j e l. absurd (omega arith);
  place = refl;
  drawn = adding_start (drawn_by few firsts (pairs_to g s 0 (length s) from)) (drawn_by few firsts (pairs_to g s 0 (length s) from)) joined (λ a b. refl);
  summed = cubes_start (added_by few firsts sums (pairs_to g s 0 (length s) from)) sums;
}

module _ (g : ℕ) (few : Bool) (s : List ℕ) (from : ℕ) (firsts joined₀ joined sums₀ sums : List ℕ) (i at : ℕ) (left : RunsLeft g few s from firsts joined₀ joined sums₀ sums i at) where
  pub runs_step : (joined' sums' : List ℕ) (r : ℕ) → g ≤ u16_limit → RunRead g i few s at firsts joined joined' sums sums' r
      → RunsLeft g few s from firsts joined₀ joined' sums₀ sums' (i + 1) r
  runs_step joined' sums' r small x = record {
    most = after.most;
    last = after.final;
    enough = rw x.place after.enough;
    low = let l = after.low in omega arith;
    passed = rw x.place (λ a j e l. after.passed a j e (omega arith));
    place = ap (stop_at g s after.final after.most) x.place ∙ after.place ∙ left.place;
    drawn = adding_step left.drawn x.drawn (λ a b. ap (λ (l : List (ℕ × ℕ)). drawn_by few firsts l a b) after.pairs ∙ drawn-append few firsts (run_pairs g i s i (length s) at) (pairs_to g s after.final after.most (run_stop g i s i (length s) at)) a b ∙ rw (← x.place) refl);
    summed = some_added few firsts left.summed (run_pairs g i s i (length s) at) (pairs_to g s after.final after.most r) (rw x.place after.pairs) x.summed;
  }
    where
      after : AfterRun g i s small left.most left.last i (length s) at
      after = walked g i s small (length s) left.most left.last i at left.enough (omega arith) (agree-first g i s small left.last left.low) left.passed

  pub runs_end : g ≤ i → SuperedgesRead g few s from firsts joined₀ joined sums₀ sums at
  runs_end l = record {
    place = sym (stops g s left.last at left.most none) ∙ left.place;
    drawn = adding_done left.drawn (λ a b. ap (λ (x : List (ℕ × ℕ)). drawn_by few firsts x a b) (stops_empty g s left.last at left.most none) ∙ (unfold drawn_by in refl));
    summed = all_added few firsts left.summed (stops_empty g s left.last at left.most none);
  }
    where
      none : NoneHere g s left.last at
      none a j e = refuted (follows g left.last a j) (λ t. let x = positions g left.last a j t in differ t (left.passed a j e (omega arith)))
