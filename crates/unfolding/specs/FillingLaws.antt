-- Laws of rows drawn by groups.
use Rattle.std.specs.Prelude.{◌≡◌, Bool, not, ◌&&◌, ◌||◌, List, ◌⊎◌, ℕ, ◌+◌, ◌*◌, ◌-◌, ◌/◌, ◌%◌, ◌^◌, ◌≤◌, ◌<◌, drop, length, replicate, take}
use Rattle.std.proofs.Math.Path.{refl}
use Rattle.std.proofs.Common.{sym, ap, ◌∙◌, inl, inr}
use Rattle.std.proofs.Math.Bool.{true, false, and-false, or-false}
use native.Mathlib.Omega.{arith}
use Rattle.std.specs.Int.Bits.{bit_and}
use Rattle.std.specs.Int.Count.{count_trailing_zeros}
use Rattle.std.proofs.Math.Dec.{eqb, ltb}
use Rattle.std.proofs.Math.ListN.{get_or}
use borrow.Author.Tests.{eqb-false, eqb-true, eq-eqb, le-ltb, lt-ltb, ltb-false, ltb-true, ne_eqb}
use Rattle.model.specs.Tables.{bit_at, edge_bit}
use Rattle.model.proofs.TestLaws.{and_fst, and_one, and_snd, decide, differ}
use Rattle.rows.specs.BitLaws.{bit_zero, row-bit, word-bit}
use Rattle.buffers.specs.WordBitsLaws.{cleared_here, cleared_off, lowest_set, lowest_small}
use Rattle.drawing.specs.Drawing.{Added, Adding, one_bit, row_to}
use Rattle.drawing.specs.BitLaws.{added_only}
use Rattle.drawing.specs.DrawingLaws.{added_as, added_none, added_then, adding_done, adding_start, adding_step}
use Rattle.compressed.specs.Compressed.{Compressed, placed}
use Rattle.compressed.specs.PlacedLaws.{placed_in}
use Rattle.unfolding.specs.Filling.{
  Room,
  RowRoom,
  column,
  drawn_bit,
  each_to,
  first_member,
  is_follower,
  group_to,
  joined_to,
  only_at,
  other_at,
  other_bit,
  own_to,
  reaches,
  rest_from,
  word_of,
}

-- bits matter for the numbers of nodes only
added_in : {f g : ℕ → ℕ → Bool} {t after : List ℕ} → ((a b : ℕ) → b < 512 → f a b ≡ g a b) → Added f t after → Added g t after
added_in {t = t} e h = record { size = h.size; bits = λ a b l. h.bits a b l ∙ ap (λ (x : Bool). edge_bit t a b || x) (e a b l) }

-- bits put in by the number that a key tells
module _ (key : ℕ → ℕ → ℕ) (all : ℕ → ℕ → Bool) where
  rest_all : (a b : ℕ) → rest_from key all 0 a b ≡ all a b
  unfolding rest_from
  rest_all a b = rw (le-ltb (key a b) 0 (omega arith))

  rest-next : (k a b : ℕ) → (ltb (key a b) k ≡ true) ⊎ (ltb (key a b) k ≡ false) → (eqb (key a b) k ≡ true) ⊎ (eqb (key a b) k ≡ false) → rest_from key all k a b ≡ (only_at key all k a b || rest_from key all (k + 1) a b)
  unfolding rest_from only_at
  rest-next k a b (inl h) d = rw (h, ne_eqb (key a b) k (let l = ltb-true (key a b) k h in λ e. omega arith), lt-ltb (key a b) (k + 1) (let l = ltb-true (key a b) k h in omega arith))
  rest-next k a b (inr h) (inl d) = rw (h, d, lt-ltb (key a b) (k + 1) (omega (arith, eqb-true (key a b) k d))) (sym (or-false (all a b)))
  rest-next k a b (inr h) (inr d) = rw (h, d, le-ltb (key a b) (k + 1) (let l = ltb-false (key a b) k h in omega (arith, eqb-false (key a b) k d)))

  rest-none : (k a b : ℕ) → (all a b ≡ true → key a b < k) → (all a b ≡ true) ⊎ (all a b ≡ false) → rest_from key all k a b ≡ false
  unfolding rest_from
  rest-none k a b e (inl h) = rw (lt-ltb (key a b) k (e h))
  rest-none k a b e (inr h) = rw (h, and-false (not (ltb (key a b) k)))

  pub keyed_start : (t : List ℕ) → Adding all (rest_from key all 0) t t
  keyed_start t = adding_start all (rest_from key all 0) t rest_all

  pub keyed_step : (k : ℕ) {f : ℕ → ℕ → Bool} {t now after : List ℕ} → Adding all (rest_from key all k) t now → Added f now after → ((a b : ℕ) → b < 512 → f a b ≡ only_at key all k a b) → Adding all (rest_from key all (k + 1)) t after
  keyed_step k x y e = adding_step x (added_in e y) (λ a b. rest-next k a b (decide (ltb (key a b) k)) (decide (eqb (key a b) k)))

  pub keyed_done : (k : ℕ) {t now : List ℕ} → Adding all (rest_from key all k) t now → ((a b : ℕ) → all a b ≡ true → key a b < k) → Added all t now
  keyed_done k x e = adding_done x (λ a b. rest-none k a b (e a b) (decide (all a b)))

-- the members of groups, but the first ones
pub other_put : (least : List ℕ) (l p : ℕ) {t after : List ℕ} → l ≡ get_or least p 0 → l < p → Added (one_bit l p) t after → Added (other_at least p) t after
unfolding one_bit other_at
other_put least l p e h x = added_as (λ a b. same a b (decide (eqb b p))) x
  where
    same : (a b : ℕ) → (eqb b p ≡ true) ⊎ (eqb b p ≡ false) → (eqb a l && eqb b p) ≡ (eqb b p && (ltb (get_or least b 0) b && eqb a (get_or least b 0)))
    same a b (inl s) = rw (s, eqb-true b p s, ← e, lt-ltb l p h) (and_one (eqb a l))
    same a b (inr s) = rw (s, and-false (eqb a l))

pub other_none : (least t : List ℕ) (l p : ℕ) → l ≡ get_or least p 0 → p ≤ l → Added (other_at least p) t t
unfolding other_at
other_none least t l p e h = added_none (other_at least p) t (λ a b. same a b (decide (eqb b p)))
  where
    same : (a b : ℕ) → (eqb b p ≡ true) ⊎ (eqb b p ≡ false) → (eqb b p && (ltb (get_or least b 0) b && eqb a (get_or least b 0))) ≡ false
    same a b (inl s) = rw (s, eqb-true b p s, ← e, le-ltb l p h)
    same a b (inr s) = rw s

module _ (n : ℕ) (least : List ℕ) where
  other-one : (p : ℕ) → p < n → (a b : ℕ) → (eqb b p ≡ true) ⊎ (eqb b p ≡ false) → other_at least p a b ≡ only_at column (other_bit n least) p a b
  unfolding other_at only_at other_bit is_follower
  other-one p h a b (inl s) = rw (s, eqb-true b p s, lt-ltb p n h)
  other-one p h a b (inr s) = rw s

  other-below : (a b : ℕ) → other_bit n least a b ≡ true → b < n
  unfolding other_bit is_follower
  other-below a b e = ltb-true b n (and_fst (ltb b n) (ltb (get_or least b 0) b) (and_fst (ltb b n && ltb (get_or least b 0) b) (eqb a (get_or least b 0)) e))

  pub others_step : (p : ℕ) {t now after : List ℕ} → p < n → Adding (other_bit n least) (rest_from column (other_bit n least) p) t now → Added (other_at least p) now after → Adding (other_bit n least) (rest_from column (other_bit n least) (p + 1)) t after
  others_step p h x y = keyed_step column (other_bit n least) p x y (λ a b l. other-one p h a b (decide (eqb b p)))

  pub others_done : (p : ℕ) {t now : List ℕ} → n ≤ p → Adding (other_bit n least) (rest_from column (other_bit n least) p) t now → Added (other_bit n least) t now
  others_done p h x = keyed_done column (other_bit n least) p x (λ a b e. omega (arith, other-below a b e))

-- a set in the rows of the nodes of a word, from the lowest on
module _ (w x : ℕ) (small : x < 2 ^ 64) (some : x ≡ 0 → ⊥) {t : ℕ} (lowest : t ≡ count_trailing_zeros 64 x) where
  pub each_place : w < 8 → 64 * w + t < 512
  each_place h = omega (arith, lowest_small x small some)

  pub each_room : {size have : ℕ} → Room size w x → have ≡ size → 8 * (64 * w + t) + 8 ≤ have
  each_room r e =
      let s : t < 64 = omega (arith, lowest_small x small some) in
      let b : bit_at x t ≡ true = rw lowest (lowest_set x small some) in
      omega (arith, r.row t s b)

  pub each_rest : {size : ℕ} → Room size w x → Room size w (bit_and x (x - 1))
  each_rest {size} r = record { row = λ j l e. step j l e (decide (eqb j (count_trailing_zeros 64 x))) }
    where
      step : (j : ℕ) → j < 64 → bit_at (bit_and x (x - 1)) j ≡ true → (eqb j (count_trailing_zeros 64 x) ≡ true) ⊎ (eqb j (count_trailing_zeros 64 x) ≡ false) → 8 * (64 * w + j) + 8 ≤ size
      step j l e (inl h) = differ e (ap (bit_at (bit_and x (x - 1))) (eqb-true j (count_trailing_zeros 64 x) h) ∙ cleared_here x small some)
      step j l e (inr h) = r.row j l (sym (cleared_off x small some j (eqb-false j (count_trailing_zeros 64 x) h)) ∙ e)

  each_next : (set : List ℕ) (a b : ℕ) → (eqb a (64 * w + t) ≡ true) ⊎ (eqb a (64 * w + t) ≡ false) → (eqb (a / 64) w ≡ true) ⊎ (eqb (a / 64) w ≡ false)
      → each_to x w set a b ≡ (row_to (64 * w + t) set a b || each_to (bit_and x (x - 1)) w set a b)
  unfolding each_to row_to
  each_next set a b (inl h) i =
      let s : t < 64 = omega (arith, lowest_small x small some) in
      let e : a ≡ 64 * w + t = eqb-true a (64 * w + t) h in
      let u : a / 64 ≡ w = omega arith in
      let v : a % 64 ≡ count_trailing_zeros 64 x = omega arith in
      rw (h, eq-eqb (a / 64) w u, v, lowest_set x small some, cleared_here x small some) (sym (or-false (edge_bit set 0 b)))
  each_next set a b (inr h) (inl i) =
      let d : a ≡ 64 * w + t → ⊥ = eqb-false a (64 * w + t) h in
      let u : a / 64 ≡ w = eqb-true (a / 64) w i in
      rw (h, i, cleared_off x small some (a % 64) (λ v. d (omega arith)))
  each_next set a b (inr h) (inr i) = rw (h, i)

  pub each_step : (set : List ℕ) {all : ℕ → ℕ → Bool} {t₀ now after : List ℕ} → Adding all (each_to x w set) t₀ now → Added (row_to (64 * w + t) set) now after → Adding all (each_to (bit_and x (x - 1)) w set) t₀ after
  each_step set i d = adding_step i d (λ a b. each_next set a b (decide (eqb a (64 * w + t))) (decide (eqb (a / 64) w)))

each_none : (w : ℕ) (set : List ℕ) (a b : ℕ) → each_to 0 w set a b ≡ false
unfolding each_to
each_none w set a b = rw (bit_zero (a % 64), and-false (eqb (a / 64) w))

pub each_done : (x w : ℕ) (set : List ℕ) {all : ℕ → ℕ → Bool} {t now : List ℕ} → Adding all (each_to x w set) t now → x ≡ 0 → Added all t now
each_done x w set i e = adding_done i (λ a b. ap (λ (y : ℕ). each_to y w set a b) e ∙ each_none w set a b)

-- the same, word after word of l's row
module _ (joined : List ℕ) (l : ℕ) where
  pub word_room : (w x : ℕ) {size : ℕ} → x ≡ get_or joined (8 * l + w) 0 → w < 8 → RowRoom size joined l → Room size w x
  word_room w x e h r = record { row = λ j i s. r.row (64 * w + j) (omega arith) (word-bit joined l w j i ∙ ap (λ (y : ℕ). bit_at y j) (sym e) ∙ s) }

  joined-one : (set : List ℕ) (w x : ℕ) → x ≡ get_or joined (8 * l + w) 0 → w < 8 → (a b : ℕ) → (eqb (a / 64) w ≡ true) ⊎ (eqb (a / 64) w ≡ false) → each_to x w set a b ≡ only_at word_of (joined_to joined l set) w a b
  unfolding each_to only_at joined_to edge_bit
  joined-one set w x e h a b (inl s) =
      let u : a / 64 ≡ w = eqb-true (a / 64) w s in
      rw (s, lt-ltb a 512 (omega arith), u, ← e)
  joined-one set w x e h a b (inr s) = rw s

  joined-below : (set : List ℕ) (a b : ℕ) → joined_to joined l set a b ≡ true → a < 512
  unfolding joined_to
  joined-below set a b e = ltb-true a 512 (and_fst (ltb a 512) (edge_bit joined l a) (and_fst (ltb a 512 && edge_bit joined l a) (edge_bit set 0 b) e))

  pub joined_step : (set : List ℕ) (w x : ℕ) {t now after : List ℕ} → x ≡ get_or joined (8 * l + w) 0 → w < 8 → Adding (joined_to joined l set) (rest_from word_of (joined_to joined l set) w) t now → Added (each_to x w set) now after → Adding (joined_to joined l set) (rest_from word_of (joined_to joined l set) (w + 1)) t after
  joined_step set w x e h i d = keyed_step word_of (joined_to joined l set) w i d (λ a b s. joined-one set w x e h a b (decide (eqb (a / 64) w)))

  pub joined_done : (set : List ℕ) (w : ℕ) {t now : List ℕ} → 8 ≤ w → Adding (joined_to joined l set) (rest_from word_of (joined_to joined l set) w) t now → Added (joined_to joined l set) t now
  joined_done set w h i = keyed_done word_of (joined_to joined l set) w i (λ a b e. omega (arith, joined-below set a b e))

-- a set in l's own row
pub own_yes : (kind l : ℕ) (set : List ℕ) {t after : List ℕ} → kind ≡ 2 → Added (row_to l set) t after → Added (own_to kind l set) t after
unfolding own_to
own_yes kind l set e x = added_as (λ a b. rw (eq-eqb kind 2 e)) x

pub own_not : (kind l : ℕ) (set t : List ℕ) → (kind ≡ 2 → ⊥) → Added (own_to kind l set) t t
unfolding own_to
own_not kind l set t d = added_none (own_to kind l set) t (λ a b. rw (ne_eqb kind 2 d))

-- a group of two or more, and one of a single node
module _ (kinds joined members : List ℕ) (l : ℕ) where
  pub group-drawn : {s t u : List ℕ} → (get_or kinds l 0 ≡ 0 → ⊥) → Added (joined_to joined l (take (8 * l + 8 - 8 * l) (drop (8 * l) members))) s t → Added (own_to (get_or kinds l 0) l (take (8 * l + 8 - 8 * l) (drop (8 * l) members))) t u → Added (group_to kinds joined members l) s u
  unfolding joined_to own_to group_to reaches row_to
  group-drawn d x y = added_in (λ a b h. rw (row-bit members l b h, ne_eqb (get_or kinds l 0) 0 d) (sorted (ltb a 512 && edge_bit joined l a) (eqb (get_or kinds l 0) 2) (eqb a l) (edge_bit members l b))) (added_then x y (λ a b. refl))
    where
      sorted : (j c o m : Bool) → ((j && m) || (c && (o && m))) ≡ ((j || (c && o)) && m)
      sorted true true true true = refl
      sorted true true true false = refl
      sorted true true false true = refl
      sorted true true false false = refl
      sorted true false o true = refl
      sorted true false o false = refl
      sorted false true o m = refl
      sorted false false o m = refl

  pub group_none : (t : List ℕ) → get_or kinds l 0 ≡ 0 → Added (group_to kinds joined members l) t t
  unfolding group_to
  group_none t e = added_none (group_to kinds joined members l) t (λ a b. rw e)

-- all groups
module _ {n : ℕ} {least kinds joined : List ℕ} (c : Compressed n least kinds joined) where
  placed-other : (b : ℕ) → b < n → get_or least b 0 < b → placed n least b ≡ true
  placed-other b h l = placed_in n least b h (λ e. omega (arith, c.small))

  pub row_room : {size : ℕ} (l : ℕ) → size ≡ 8 * n → RowRoom size joined l
  row_room l e = record { row = λ a h s. omega (arith, (c.joins l a h s).1) }

  module _ {none members : List ℕ} (blank : none ≡ replicate (length none) 0) (m : Added (other_bit n least) none members) (l : ℕ) where
    held : (b : ℕ) → b < 512 → edge_bit members l b ≡ other_bit n least l b
    held b h = added_only none blank m l b h

    group-one : (a b : ℕ) → b < 512 → (eqb (get_or least b 0) l ≡ true) ⊎ (eqb (get_or least b 0) l ≡ false) → group_to kinds joined members l a b ≡ only_at (first_member least) (drawn_bit n least kinds joined) l a b
    unfolding group_to only_at drawn_bit other_bit is_follower
    group-one a b h (inr s) =
        let v : eqb l (get_or least b 0) ≡ false = ne_eqb l (get_or least b 0) (λ e. eqb-false (get_or least b 0) l s (sym e)) in
        rw (held b h, s, v, and-false (ltb b n && ltb (get_or least b 0) b), and-false (reaches kinds joined l a)) (and-false (not (eqb (get_or kinds l 0) 0)))
    group-one a b h (inl s) = rw (held b h, s, e, eq-eqb l l refl) (last (decide (ltb b n)) (decide (ltb l b)))
      where
        e : get_or least b 0 ≡ l
        e = eqb-true (get_or least b 0) l s

        last : (ltb b n ≡ true) ⊎ (ltb b n ≡ false) → (ltb l b ≡ true) ⊎ (ltb l b ≡ false)
            → (not (eqb (get_or kinds l 0) 0) && (reaches kinds joined l a && ((ltb b n && ltb l b) && true))) ≡ ((ltb b n && ltb l b) && reaches kinds joined l a)
        last (inr x) y = rw (x, and-false (reaches kinds joined l a), and-false (not (eqb (get_or kinds l 0) 0)))
        last (inl x) (inr y) = rw (x, y, and-false (reaches kinds joined l a), and-false (not (eqb (get_or kinds l 0) 0)))
        last (inl x) (inl y) = rw (x, y, ne_eqb (get_or kinds l 0) 0 several) (and_one (reaches kinds joined l a))
          where
            several : get_or kinds l 0 ≡ 0 → ⊥
            several z =
                let u : l < b = ltb-true l b y in
                let v : get_or least b 0 < b = omega (arith, e) in
                let k : get_or kinds (get_or least b 0) 0 ≡ 0 = rw e z in
                omega (arith, c.alone b (placed-other b (ltb-true b n x) v) k)

    pub groups_step : {t now after : List ℕ} → Adding (drawn_bit n least kinds joined) (rest_from (first_member least) (drawn_bit n least kinds joined) l) t now → Added (group_to kinds joined members l) now after → Adding (drawn_bit n least kinds joined) (rest_from (first_member least) (drawn_bit n least kinds joined) (l + 1)) t after
    groups_step i d = keyed_step (first_member least) (drawn_bit n least kinds joined) l i d (λ a b h. group-one a b h (decide (eqb (get_or least b 0) l)))

  drawn-below : (a b : ℕ) → drawn_bit n least kinds joined a b ≡ true → get_or least b 0 < n
  unfolding drawn_bit is_follower
  drawn-below a b e =
      let f = and_fst (ltb b n && ltb (get_or least b 0) b) (reaches kinds joined (get_or least b 0) a) e in
      omega (arith, ltb-true b n (and_fst (ltb b n) (ltb (get_or least b 0) b) f), ltb-true (get_or least b 0) b (and_snd (ltb b n) (ltb (get_or least b 0) b) f))

  pub groups_done : (l : ℕ) {t now : List ℕ} → n ≤ l → Adding (drawn_bit n least kinds joined) (rest_from (first_member least) (drawn_bit n least kinds joined) l) t now → Added (drawn_bit n least kinds joined) t now
  groups_done l h i = keyed_done (first_member least) (drawn_bit n least kinds joined) l i (λ a b e. omega (arith, drawn-below a b e))
