-- A walk over the bits of a row that adds up what a function, as the cube, tells of its nodes.
use Rattle.std.specs.Prelude.{◌≡◌, ℕ, ◌+◌, ◌*◌, ◌%◌, ◌^◌, ◌<◌, ◌≤◌, Bool, true, false, cond, ◌&&◌, List, ◌≢◌, nat_lt, slice_index}
use Rattle.std.proofs.Math.Path.{sym}
use Rattle.std.proofs.Common.{ap, ◌∙◌, arith}
use Rattle.std.specs.Int.Count.{count_trailing_zeros}
use borrow.Author.Tests.{lt-ltb}
use Rattle.model.specs.Lists.{filter, nodes}
use Rattle.model.specs.Graph.{whole}
use Rattle.model.specs.Grouping.{cube, open_key, sum_cubes}
use Rattle.model.specs.Tables.{edge_bit, edges_in, graph_in}
use Rattle.model.proofs.TestLaws.{differ}
use Rattle.rows.specs.Rows.{Words}
use Rattle.buffers.specs.WordBitsLaws.{cleared_less, lowest_small}
use Rattle.bits.specs.BitsLaws.{Cleared}
use Rattle.keys.specs.Totals.{sum_of}
use Rattle.keys.specs.TotalLaws.{total_cong, total_cubes, total_none, total_set}
use Rattle.keys.specs.Walk.{ahead}
use Rattle.keys.specs.WalkLaws.{ahead_end, ahead_gone, ahead_here, ahead_next, ahead_off, ahead_start}

-- x is what is left of word w of p's row, sum what c tells of the bits so far, key what it tells of all of them
pub record Weighing (c : ℕ → ℕ) (key n : ℕ) (edges : List ℕ) (p w x sum : ℕ) : Type 0 where
  pub small : x < 2 ^ 64
  pub fits : sum < 2 ^ 32
  pub set : (q : ℕ) → ahead edges p w x q ≡ true → edge_bit edges p q ≡ true
  pub total : (sum + sum_of n (ahead edges p w x) c) % 2 ^ 32 ≡ key

-- the cubes so far
abbrev pub CubesSoFar : ℕ → List ℕ → ℕ → ℕ → ℕ → ℕ → Type 0
CubesSoFar n edges p w x sum = Weighing (λ q. cube q) (open_key (whole (graph_in n edges)) p) n edges p w x sum

pub weights_cong : (n : ℕ) (f h : ℕ → Bool) (c : ℕ → ℕ) → ((q : ℕ) → q < n → f q ≡ h q) → sum_of n f c ≡ sum_of n h c
weights_cong n f h c e = total_cong n (λ q. cond (f q) (c q) 0) (λ q. cond (h q) (c q) 0) (λ q l. ap (λ (b : Bool). cond b (c q) 0) (e q l))

module _ {c : ℕ → ℕ} {key n : ℕ} {edges : List ℕ} {p : ℕ} where
  weighing-start : sum_of n (edge_bit edges p) c % 2 ^ 32 ≡ key → Words edges → Weighing c key n edges p 0 (slice_index edges (8 * p + 0)) 0
  weighing-start e words = record {
    small = words (8 * p + 0);
    fits = omega arith;
    set = λ q h. sym (ahead_start edges p q) ∙ h;
    total = omega (arith, e, weights_cong n (ahead edges p 0 (slice_index edges (8 * p + 0))) (edge_bit edges p) c (λ q l. ahead_start edges p q));
  }

  module _ {w x sum : ℕ} (h : Weighing c key n edges p w x sum) where
    -- a word of which nothing is left
    pub adding_next : x ≡ 0 → Words edges → Weighing c key n edges p (w + 1) (slice_index edges (8 * p + (w + 1))) sum
    adding_next e words =
        record {
          small = words (8 * p + (w + 1));
          fits = h.fits;
          set = λ q t. h.set q (same q ∙ t);
          total = ap (λ (s : ℕ). (sum + s) % 2 ^ 32) (weights_cong n (ahead edges p (w + 1) (slice_index edges (8 * p + (w + 1)))) (ahead edges p w x) c (λ q l. sym (same q))) ∙ h.total;
        }
      where
        same : (q : ℕ) → ahead edges p w x q ≡ ahead edges p (w + 1) (slice_index edges (8 * p + (w + 1))) q
        same q = ap (λ (y : ℕ). ahead edges p w y q) e ∙ ahead_next edges p w q

    -- its lowest bit is at t, and y is left
    module _ {t y : ℕ} (cut : Cleared x t y) where
      abbrev q : ℕ
      q = 64 * w + t

      here : 64 * w + t ≡ 64 * w + count_trailing_zeros 64 x
      here = omega (arith, cut.lowest)

      pub adding_place : w < 8 → 64 * w + t < 512
      adding_place l = omega (arith, lowest_small x h.small cut.some, cut.lowest)

      pub adding_set : edge_bit edges p (64 * w + t) ≡ true
      adding_set = h.set q (rw here (ahead_here edges p w x h.small cut.some))

      pub adding_less : y < x
      adding_less = omega (arith, cut.rest, cleared_less x h.small cut.some)

      pub adding_off : (j : ℕ) → (j ≢ 64 * w + t) → ahead edges p w y j ≡ ahead edges p w x j
      adding_off j d = rw cut.rest (ahead_off edges p w x h.small cut.some j (λ z. d (z ∙ sym here)))

      gone : ahead edges p w y (64 * w + t) ≡ false
      gone = rw (here, cut.rest) (ahead_gone edges p w x h.small cut.some)

      -- what its lowest bit's node adds
      pub adding_on : {a r : ℕ} → 64 * w + t < n → a ≡ c (64 * w + t) → r ≡ (sum + a) % 2 ^ 32 → Weighing c key n edges p w y r
      adding_on {a} {r} l ea er =
          record {
            small = omega (arith, adding_less, h.small);
            fits = omega arith;
            set = λ j t. h.set j (stays j t);
            total = omega (arith, h.total, sums);
          }
        where
          stays : (j : ℕ) → ahead edges p w y j ≡ true → ahead edges p w x j ≡ true
          stays j t = sym (adding_off j (λ z. differ t (ap (ahead edges p w y) z ∙ gone))) ∙ t

          sums : sum_of n (ahead edges p w x) c ≡ c q + sum_of n (ahead edges p w y) c
          sums = total_set n q (c q) (λ j. cond (ahead edges p w x j) (c j) 0) (λ j. cond (ahead edges p w y j) (c j) 0) l own (λ j d. ap (λ (b : Bool). cond b (c j) 0) (sym (adding_off j d)))
            where
              own : cond (ahead edges p w x q) (c q) 0 ≡ c q + cond (ahead edges p w y q) (c q) 0
              own =
                  let on : ahead edges p w x q ≡ true = rw here (ahead_here edges p w x h.small cut.some) in
                  rw (on, gone) (omega arith)

  -- after the last word
  weighing-done : {x sum w : ℕ} → Weighing c key n edges p w x sum → w ≡ 8 → n ≤ 512 → sum ≡ key
  weighing-done {x} {sum} {w} h e l = omega (arith, h.total, empty, h.fits)
    where
      empty : sum_of n (ahead edges p w x) c ≡ 0
      empty = total_none n (λ q. cond (ahead edges p w x q) (c q) 0) (λ q k. ap (λ (b : Bool). cond b (c q) 0) (ap (λ (m : ℕ). ahead edges p m x q) e ∙ ahead_end edges p x q (omega arith)))

module _ {n : ℕ} {edges : List ℕ} {p : ℕ} where
  pub adding_start : p < n → Words edges → CubesSoFar n edges p 0 (slice_index edges (8 * p + 0)) 0
  unfolding open_key edges_in
  adding_start hp words = weighing-start (ap (λ (s : ℕ). s % 2 ^ 32) sums) words
    where
      sums : sum_of n (edge_bit edges p) (λ q. cube q) ≡ sum_cubes (filter (λ q. nat_lt p n && (nat_lt q n && edge_bit edges p q)) (nodes n))
      sums =
          weights_cong n (edge_bit edges p) (λ q. nat_lt p n && (nat_lt q n && edge_bit edges p q)) (λ q. cube q) (λ q l. rw (lt-ltb p n hp, lt-ltb q n l))
          ∙ sym (total_cubes n (λ q. nat_lt p n && (nat_lt q n && edge_bit edges p q)))

  pub adding_done : {x sum w : ℕ} → CubesSoFar n edges p w x sum → w ≡ 8 → n ≤ 512 → sum ≡ open_key (whole (graph_in n edges)) p
  adding_done h e l = weighing-done h e l
