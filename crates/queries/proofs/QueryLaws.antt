-- Laws of the loops that read rows and tables.
use Rattle.std.specs.Prelude.{◌≡◌, Bool, true, false, cond, List, [], ◌∷◌, ◌++◌, ◌≢◌, ℕ, ◌+◌, ◌*◌, ◌-◌, ◌^◌, ◌≤◌, ◌<◌, eqb, ltb, get_or, set}
use Rattle.std.proofs.Math.Path.{refl}
use Rattle.std.proofs.Common.{sym, ap, ap₂, ◌∙◌, arith, eq-eqb, ne_eqb, le-ltb, lt-ltb}
use mathlib.Core.List.Memᴰ
use Rattle.std.specs.Int.Bits.{bit_and}
use Rattle.std.specs.Int.Count.{ones, count_trailing_zeros}
use Rattle.std.proofs.Math.ListN.{length}
use Rattle.std.proofs.lemmas.List.Edits.{sets}
use Rattle.model.specs.Lists.{◌∈◌, concat, nodes}
use Rattle.model.specs.Graph.{Graph, Proper, View, max_nodes, node_numbers}
use Rattle.model.specs.Tables.{bit_at, edge_bit, node_number}
use Rattle.model.specs.Refusals.{Reasons, first_of, judged}
use Rattle.model.specs.Queries.{leader_in, neighbours, pairs}
use Rattle.model.specs.Calls.{Listed, list_refused, listing}
use Rattle.model.proofs.TestLaws.{fails}
use Rattle.model.proofs.ListLaws.{filter_elim}
use Rattle.model.proofs.TableLaws.{edge_below, length_blocks, map_cong}
use Rattle.rows.specs.BitLaws.{word-bit}
use Rattle.buffers.specs.Scan.{Counting, scan}
use Rattle.buffers.specs.ScanLaws.{scan_cong, scan_cut, scan-length, scan-nodes}
use Rattle.buffers.specs.WordBits.{bits_from}
use Rattle.buffers.specs.WordBitsLaws.{counting_bits, from_lowest, scan-word}
use Rattle.buffers.specs.Wrote.{Left, Wrote}
use Rattle.buffers.specs.WroteLaws.{left_put, left_room, left_step, sets_onto}
use Rattle.queries.specs.Query.{Reaches, kind_by, leader_at, led_by, listed, row_nodes, row_told}

-- pairs one after the other
pairs-length : (f : ℕ → ℕ) (qs : List ℕ) → length (pairs f qs) ≡ 2 * length qs
unfolding pairs
pairs-length f qs = length_blocks (λ q. q ∷ f q ∷ []) 2 (λ q. refl) qs

pub pairs_none : (f : ℕ → ℕ) (qs : List ℕ) → qs ≡ [] → pairs f qs ≡ []
unfolding pairs concat
pairs_none f qs e = rw e

pairs-append : (f : ℕ → ℕ) (qs rs : List ℕ) → pairs f (qs ++ rs) ≡ pairs f qs ++ pairs f rs
unfolding pairs concat
pairs-append f [] rs = refl
pairs-append f (q ∷ qs) rs = ap (λ (l : List ℕ). q ∷ f q ∷ l) (pairs-append f qs rs)

pairs_cong : (f h : ℕ → ℕ) (qs : List ℕ) → ((q : ℕ) → q ∈ qs → f q ≡ h q) → pairs f qs ≡ pairs h qs
unfolding pairs
pairs_cong f h qs e = ap concat (map_cong (λ q. q ∷ f q ∷ []) (λ q. q ∷ h q ∷ []) qs (λ q m. ap (λ (l : ℕ). q ∷ l ∷ []) (e q m)))

-- a row, word after word
module _ (row : List ℕ) (w : ℕ) (inside : w < 8) where
  row_word_lem : scan (edge_bit row 0) 512 (64 * w) ≡ bits_from (64 * w) (get_or row w 0) ++ scan (edge_bit row 0) 512 (64 * (w + 1))
  row_word_lem =
      let e : 64 * w ≡ 64 * w + 0 = omega arith in
      let f : 64 * w + 64 ≡ 64 * (w + 1) = omega arith in
      let g : 8 * 0 + w ≡ w = omega arith in
      ap (scan (edge_bit row 0) 512) e
      ∙ scan-word (edge_bit row 0) 512 (get_or row w 0) w 0 (omega arith) (λ k a b. sym (word-bit row 0 w k b ∙ ap (λ (i : ℕ). bit_at (get_or row i 0) k) g)) (omega arith) (λ k h. absurd (omega arith))
      ∙ ap (λ (q : ℕ). bits_from (64 * w) (get_or row w 0) ++ scan (edge_bit row 0) 512 q) f

  pub row_counted : {total c : ℕ} → Counting (edge_bit row 0) 512 total c (64 * w) → get_or row w 0 < 2 ^ 64 → Counting (edge_bit row 0) 512 total (c + ones (get_or row w 0)) (64 * (w + 1))
  row_counted k h = counting_bits (64 * w) (get_or row w 0) k h row_word_lem

  pub row-reaches : {least : List ℕ} {stride : ℕ} → Reaches least stride (scan (edge_bit row 0) 512 (64 * w))
      → Reaches least stride (bits_from (64 * w) (get_or row w 0)) × Reaches least stride (scan (edge_bit row 0) 512 (64 * (w + 1)))
  row-reaches h =
      (record { inside = λ q m. h.inside q (rw row_word_lem (Memᴰ.append_left (scan (edge_bit row 0) 512 (64 * (w + 1))) m)) }, record { inside = λ q m. h.inside q (rw row_word_lem (Memᴰ.append_right (bits_from (64 * w) (get_or row w 0)) m)) })

  module _ (f : ℕ → ℕ) where
    row-pairs : pairs f (scan (edge_bit row 0) 512 (64 * w)) ≡ pairs f (bits_from (64 * w) (get_or row w 0)) ++ pairs f (scan (edge_bit row 0) 512 (64 * (w + 1)))
    row-pairs = ap (pairs f) row_word_lem ∙ pairs-append f (bits_from (64 * w) (get_or row w 0)) (scan (edge_bit row 0) 512 (64 * (w + 1)))

    pub row_room : {s₀ s : List ℕ} {to : ℕ} → Left s₀ 0 (pairs f (row_nodes row)) s to (pairs f (scan (edge_bit row 0) 512 (64 * w))) → 2 * length (row_nodes row) ≤ length s₀
        → to + 2 * length (bits_from (64 * w) (get_or row w 0)) ≤ length s
    row_room l room =
        omega (
          arith,
          left_room l (omega (arith, pairs-length f (row_nodes row))) (pairs f (bits_from (64 * w) (get_or row w 0))) (pairs f (scan (edge_bit row 0) 512 (64 * (w + 1)))) row-pairs,
          pairs-length f (bits_from (64 * w) (get_or row w 0)),
        )

    pub row_written : {s₀ all s t : List ℕ} {to next : ℕ} → Left s₀ 0 all s to (pairs f (scan (edge_bit row 0) 512 (64 * w))) → Wrote s to (pairs f (bits_from (64 * w) (get_or row w 0))) t next
        → Left s₀ 0 all t next (pairs f (scan (edge_bit row 0) 512 (64 * (w + 1))))
    row_written l v = left_step l v row-pairs

-- a word, bit after bit
module _ (b x z : ℕ) (fits : x < 2 ^ 64) (some : x ≡ 0 → ⊥) (low : z ≡ count_trailing_zeros 64 x) where
  pub bit-reaches : {least : List ℕ} {stride : ℕ} → Reaches least stride (bits_from b x) → (stride * (b + z) < length least) × Reaches least stride (bits_from b (bit_and x (x - 1)))
  bit-reaches h =
      let e = from_lowest b x z fits some low in
      (h.inside (b + z) (rw e (Memᴰ.head refl)), record { inside = λ q m. h.inside q (rw e (Memᴰ.tail m)) })

  module _ (f : ℕ → ℕ) where
    bit-pair : pairs f (bits_from b x) ≡ (b + z) ∷ f (b + z) ∷ pairs f (bits_from b (bit_and x (x - 1)))
    bit-pair = ap (pairs f) (from_lowest b x z fits some low) ∙ unfold pairs concat in refl

    pub bit_room : (qs : List ℕ) {s₀ s : List ℕ} {at₀ to : ℕ} → Left s₀ at₀ (pairs f qs) s to (pairs f (bits_from b x)) → at₀ + 2 * length qs ≤ length s₀ → to + 1 < length s
    bit_room qs l room = omega (arith, left_room l (omega (arith, pairs-length f qs)) ((b + z) ∷ f (b + z) ∷ []) (pairs f (bits_from b (bit_and x (x - 1)))) bit-pair)

    pub bit-written : {s₀ all s : List ℕ} {at₀ to : ℕ} → Left s₀ at₀ all s to (pairs f (bits_from b x))
        → Left s₀ at₀ all (set (set s to (b + z)) (to + 1) (f (b + z))) (to + 2) (pairs f (bits_from b (bit_and x (x - 1))))
    bit-written {to = to} l =
        let e : to + 1 + 1 ≡ to + 2 = omega arith in
        rw (← e) (left_put (left_put l bit-pair) refl)

-- a row listed
module _ (row least : List ℕ) (stride : ℕ) (out : List ℕ) {k : ℕ} (c : k ≡ length (row_nodes row)) where
  pub row_short : length out < 2 * k → listed 18 0 out ≡ row_told row least stride out
  unfolding row_told
  row_short l = rw (lt-ltb (length out) (2 * length (row_nodes row)) (omega (arith, c)))

  pub row_done : 2 * k ≤ length out → {out₁ : List ℕ} → out₁ ≡ sets out 0 (pairs (leader_at least stride) (row_nodes row)) → listed 0 k out₁ ≡ row_told row least stride out
  unfolding row_told listing
  row_done l w =
      rw (le-ltb (length out) (2 * length (row_nodes row)) (omega (arith, c)))
      (ap₂ (listed 0) c (w ∙ sets_onto (pairs (leader_at least stride) (row_nodes row)) out (omega (arith, c, pairs-length (leader_at least stride) (row_nodes row)))))

-- a node table has the least member first
pub leader_first : (t : List ℕ) (q : ℕ) → leader_at t node_numbers q ≡ node_number t q 0
unfolding node_number
leader_first t q =
    let e : node_numbers * q ≡ node_numbers * q + 0 = omega arith in
    ap (λ (i : ℕ). get_or t i 0) e

-- a row with p's edges in g
module _ (g : Graph) (h : Proper g) (p : ℕ) (row : List ℕ) (bits : (q : ℕ) → q < max_nodes → edge_bit row 0 q ≡ g.edge p q) where
  row-neighbours : row_nodes row ≡ neighbours g p
  unfolding neighbours
  row-neighbours =
      scan_cong (edge_bit row 0) (g.edge p) max_nodes 0 (λ q a b. bits q b)
      ∙ scan_cut (g.edge p) g.node_count max_nodes h.small (λ q a b. fails (g.edge p q) (λ t. omega (arith, edge_below g h p q t))) 0 (omega arith)
      ∙ scan-nodes (g.edge p) g.node_count

  neighbour-edge : (q : ℕ) → q ∈ neighbours g p → g.edge p q ≡ true
  unfolding neighbours
  neighbour-edge q m = (filter_elim (g.edge p) (nodes g.node_count) q m).1

  pub row-reached : (least : List ℕ) (stride : ℕ) → ((q : ℕ) → q < g.node_count → stride * q < length least) → Reaches least stride (row_nodes row)
  row-reached least stride fits = record { inside = λ q m. fits q (edge_below g h p q (neighbour-edge q (rw row-neighbours at m))) }

  -- with a list of their leaders in v it answers a call
  pub row_told_lem : (least : List ℕ) (stride : ℕ) (out : List ℕ) (v : View) (rs : Reasons) → ((q : ℕ) → g.edge p q ≡ true → leader_at least stride q ≡ leader_in v q)
      → first_of rs ≡ cond (ltb (length out) (2 * length (neighbours g p))) 18 0 → row_told row least stride out ≡ judged rs (list_refused out) (listing (leader_in v) (neighbours g p) out)
  unfolding row_told listing
  row_told_lem least stride out v rs leads number = rw (row-neighbours, number, pairs_cong (leader_at least stride) (leader_in v) (neighbours g p) (λ q m. leads q (neighbour-edge q m))) (step (ltb (length out) (2 * length (neighbours g p))))
    where
      done : Listed
      done = listing (leader_in v) (neighbours g p) out

      step : (b : Bool) → cond b (list_refused out 18) done ≡ cond (eqb (cond b 18 0) 0) done (list_refused out (cond b 18 0))
      step true = refl
      step false = refl

-- the tests of the loops
pub led_yes : (t : List ℕ) (l q x : ℕ) → x ≡ node_number t q 0 → x ≡ l → led_by t l q ≡ true
unfolding led_by
led_yes t l q x e d = eq-eqb (node_number t q 0) l (sym e ∙ d)

pub led_no : (t : List ℕ) (l q x : ℕ) → x ≡ node_number t q 0 → x ≢ l → led_by t l q ≡ false
unfolding led_by
led_no t l q x e d = ne_eqb (node_number t q 0) l (λ z. d (e ∙ z))

-- the branches of the kind
module _ (es ns : List ℕ) (l x : ℕ) (e : x ≡ node_number ns l 1) where
  pub kind_single : x ≡ l → 0 ≡ kind_by es ns l
  unfolding kind_by
  kind_single d = rw (eq-eqb (node_number ns l 1) l (sym e ∙ d))

  pub kind_clique : x ≢ l → edge_bit es l x ≡ true → 2 ≡ kind_by es ns l
  unfolding kind_by
  kind_clique d f = rw (ne_eqb (node_number ns l 1) l (λ z. d (e ∙ z)), ← e, f)

  pub kind_independent : x ≢ l → edge_bit es l x ≡ false → 1 ≡ kind_by es ns l
  unfolding kind_by
  kind_independent d f = rw (ne_eqb (node_number ns l 1) l (λ z. d (e ∙ z)), ← e, f)

-- counts of nodes are small
pub scan_small : (P : ℕ → Bool) (n k : ℕ) → k ≡ length (scan P n 0) → k ≤ n
scan_small P n k e = omega (arith, scan-length P n 0)
