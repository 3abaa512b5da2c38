-- Rows that are symmetric across the diagonal, without loops, pass the test of rows if their keys do; twins' keys tell of one another.
use Rattle.std.specs.Prelude.{◌≡◌, ℕ, ◌+◌, ◌*◌, ◌%◌, ◌^◌, ◌<◌, ◌≤◌, Bool, true, false, ◌&&◌, List, length, ◌≢◌, slice_index, refl}
use Rattle.std.proofs.Math.Path.{sym, ap}
use Rattle.std.proofs.Common.{◌∙◌}
use Rattle.std.proofs.Math.Bool.{and-false}
use native.Mathlib.Omega.{arith}
use borrow.Author.Tests.{eqb-true}
use Rattle.model.specs.Graph.{max_nodes, node_numbers, row_words}
use Rattle.model.specs.Grouping.{cube, open_key}
use Rattle.model.specs.Tables.{edge_bit, graph_in, keys_of, node_number}
use Rattle.model.proofs.TestLaws.{and_true, differ, fails}
use Rattle.model.proofs.TableLaws.{length_keys}
use Rattle.rows.specs.Rows.{Words, moved_key}
use Rattle.search.specs.Search.{Ready, key_agrees, meets, row_in}
use Rattle.search.specs.SearchLaws.{meets_words}
use Rattle.search.specs.TwinRowLaws.{false_key, meet_false, meet_true, true_key}
use Rattle.keys.specs.KeySums.{LeadersSummed, row_key, twin_key, words_for}
use Rattle.keys.specs.FourLaws.{dense_key}
use Rattle.symmetry.specs.Symmetry.{symmetric}
use Rattle.edges.specs.Edges.{RowsBelow, loopless, row_holds}
use Rattle.edges.specs.EdgesLaws.{row_inside, rows_symmetric, symmetric_rows}
use Rattle.checks.specs.Checks.{KeysBelow, agrees, keys_hold, rows_hold, twins_hold}
use Rattle.buffers.specs.AllLaws.{all_fail, all_pass_lem}
use Rattle.checks.specs.HoldLaws.{closed_is, keys_told, open_is, rows_below, rows_ready, twin_low, twin_meets}

-- the keys of one node
module _ (n : ℕ) (edges keys : List ℕ) (p : ℕ) where
  pub key_told : {x : ℕ} {r : Bool} → x ≡ row_key n edges p → r ≡ agrees keys p x → r ≡ keys_hold n edges keys p
  unfolding keys_hold
  key_told e er = er ∙ ap (agrees keys p) e

  pub key_fails : p < n → keys_hold n edges keys p ≡ false → false ≡ rows_hold n edges keys
  unfolding rows_hold
  key_fails hp e = all_fail _ n p hp (rw e (and-false (row_holds n edges p)))

module _ (n : ℕ) (edges : List ℕ) (small : n ≤ max_nodes) (size : length edges ≡ row_words * n) where
  -- rows that pass are symmetric and have no loops
  pub asymmetric : (keys : List ℕ) → (symmetric edges && loopless n edges) ≡ false → false ≡ rows_hold n edges keys
  asymmetric keys e = sym (fails (rows_hold n edges keys) (λ h. differ (rows_symmetric n edges small size (rows_below n edges keys h)) e))

  -- symmetric rows without loops pass, if their keys do
  module _ (h : symmetric edges ≡ true) (free : loopless n edges ≡ true) where
    mirrored-rows : RowsBelow n edges n
    mirrored-rows = symmetric_rows n edges small size h free

    pub keys_pass : (keys : List ℕ) (p : ℕ) → n ≤ p → KeysBelow n edges keys p → true ≡ rows_hold n edges keys
    unfolding rows_hold
    keys_pass keys p l k = all_pass_lem _ n n (omega arith) (λ q hq. and_true (mirrored-rows q hq) (k q (omega arith)))

    pub key_by_table : {sums : List ℕ} (table : List ℕ) (p : ℕ) → p < n → LeadersSummed n node_numbers table edges (words_for n) sums → node_number table p 0 ≡ p → slice_index sums p ≡ row_key n edges p
    unfolding node_number
    key_by_table table p hp s el = let z : node_numbers * p + 0 ≡ node_numbers * p = omega arith in s.sums p hp (rw z at el) ∙ dense_key edges p n small hp (row_inside n edges mirrored-rows p hp)

    -- twins, by the keys that the rows tell
    module _ (words : Words edges) where
      abbrev told : List ℕ
      told = keys_of (graph_in n edges)

      told-keys : (p : ℕ) → p < n → keys_hold n edges (keys_of (graph_in n edges)) p ≡ true
      told-keys p hp = keys_told n edges told small size (length_keys (graph_in n edges)) words refl p hp

      told-ready : Ready n edges (keys_of (graph_in n edges))
      told-ready = rows_ready n edges told small size (length_keys (graph_in n edges)) words (sym (keys_pass told n (omega arith) told-keys))

      module _ (p l : ℕ) (hp : p < n) (hl : l < n) where
        open-alike : meets false p l (row_in edges p) (row_in edges l) 8 ≡ true → row_key n edges p ≡ row_key n edges l
        unfolding key_agrees
        open-alike m =
            let t = eqb-true (slice_index told (2 * p + 0)) (slice_index told (2 * l + 0)) (false_key n edges told told-ready p l hp hl (meet_false n edges told told-ready p l hp hl (meets_words false p l edges m))) in
            let zp : 2 * p + 0 ≡ 2 * p = omega arith in
            let zl : 2 * l + 0 ≡ 2 * l = omega arith in
            sym (open_is n edges told p (told-keys p hp)) ∙ (rw (zp, zl) at t) ∙ open_is n edges told l (told-keys l hl)

        closed-alike : meets true p l (row_in edges p) (row_in edges l) 8 ≡ true → (row_key n edges p + cube p) % 2 ^ 32 ≡ (row_key n edges l + cube l) % 2 ^ 32
        unfolding key_agrees
        closed-alike m =
            let t = true_key n edges told told-ready p l hp hl (meet_true n edges told told-ready p l hp hl (meets_words true p l edges m)) in
            omega (arith, eqb-true (slice_index told (2 * p + 1)) (slice_index told (2 * l + 1)) t, closed_is n edges told p (told-keys p hp), closed_is n edges told l (told-keys l hl))

        row-key-lt : row_key n edges p < 2 ^ 32
        unfolding open_key
        row-key-lt = omega arith

        twin-is : (c : Bool) (keys : List ℕ) → keys_hold n edges keys l ≡ true → meets c p l (row_in edges p) (row_in edges l) 8 ≡ true → twin_key keys c l p ≡ row_key n edges p
        unfolding twin_key moved_key
        twin-is true keys k m = omega (arith, closed-alike m, closed_is n edges keys l k, row-key-lt)
        twin-is false keys k m = open_is n edges keys l k ∙ sym (open-alike m)

      pub key_by_leader : {x l : ℕ} {c : Bool} (table keys : List ℕ) (p : ℕ) → p < n → twins_hold n edges table ≡ true → KeysBelow n edges keys p → l ≡ node_number table p 0 → (l ≢ p) → c ≡ edge_bit edges l p → x ≡ twin_key keys c l p → x ≡ row_key n edges p
      key_by_leader {x} {l} {c} table keys p hp twins k el d ec ex = ex ∙ twin-is p l hp (omega (arith, low)) c keys (k l (omega (arith, low))) met
        where
          low : l ≤ p
          low = omega (arith, twin_low n edges table twins p hp)

          met : meets c p l (row_in edges p) (row_in edges l) 8 ≡ true
          met = rw (ec, el) (twin_meets n edges table twins p hp)
