-- Reading a release back, and asking it, are the model's calls.
use Rattle.std.specs.Prelude.{◌≡◌, Bool, false, cond, not, ◌&&◌, ◌||◌, List, [], ◌∷◌, ◌≢◌, ℕ, suc, zero, ◌*◌, ◌≤◌, ◌<◌, eqb, ltb, length, Option, Some, None, Err, ok_or}
use Rattle.std.proofs.Math.Path.{refl, sym, ap, fun_ext}
use Rattle.std.proofs.Common.{subst, ◌∙◌}
use Rattle.std.proofs.Math.Bool.{true, or-true}
use native.Mathlib.Omega.{arith}
use Rattle.std.proofs.Math.ListN.{get_or}
use borrow.Author.Tests.{lt-ltb, le-ltb, eq-eqb, ne_eqb, not-true, not-false}
use Rattle.model.specs.Graph.{Graph, Proper, View, max_nodes}
use Rattle.model.specs.Lists.{any, filter, head_or, nodes}
use Rattle.model.specs.Tables.{Tables, tables_of, edge_bit}
use Rattle.model.specs.Refusals.{first_of, lengths, wrong_size}
use Rattle.model.specs.Release.{is_visible, visible, visible_edge}
use Rattle.model.specs.Reading.{decode, is_release}
use Rattle.model.specs.Queries.{leader_in, neighbours}
use Rattle.model.specs.Distance.{distance, unreachable, walk}
use Rattle.model.specs.Calls.{fill_refused, read_reasons, read_call, file_distance_reasons, file_distance_call, file_neighbours_reasons, file_neighbours_call}
use Rattle.model.proofs.TestLaws.{and_fst, and_snd}
use Rattle.model.proofs.RefusalLaws.{call_refused, first_none}
use Rattle.rows.specs.Rows.{no_node}
use Rattle.compressed.specs.Compressed.{placed, unfolded, unfolded_edge}
use Rattle.compressed.specs.PlacedLaws.{placed-visible}
use Rattle.unfolding.specs.Unfolding.{NeighbourRow}
use Rattle.queries.specs.Query.{Reaches, leader_at, listed, row_nodes, row_told}
use Rattle.queries.proofs.QueryLaws.{row-reached, row_told_lem}
use Rattle.tables.specs.Lent.{filled}
use Rattle.reader.specs.Decoding.{is_few}
use Rattle.sums.specs.Sums.{Cubed}
use Rattle.sums.specs.Joined.{JoinedSummed}
use Rattle.judging.specs.Numbers.{asked_number, read_number}
use Rattle.judging.specs.Judging.{Exact, Judged, held}
use Rattle.release.specs.Release.{measured}

-- what a number tells of the file
no_first : (b : Bool) → first_of ((not b, 19) ∷ []) ≡ 19 → b ≡ false
unfolding first_of
no_first true z = absurd (omega arith)
no_first false z = refl

module _ {s first kinds classes joined sums : List ℕ} {r : Option ℕ} (j : Judged s first kinds classes joined sums r) where
  passed : (m : ℕ) → r ≡ Some m → is_release s ≡ true
  passed m z = not-false _ (first_none (not (is_release s)) 19 [] refl (sym j.asked ∙ ap asked_number z ∙ unfold asked_number in refl)).0

  failed : r ≡ None → is_release s ≡ false
  failed z = no_first (is_release s) (sym j.asked ∙ ap asked_number z ∙ unfold asked_number in refl)

-- no number of nodes is told as the refusal that stands for it
pub none_refused : {A E : Type 0} {told : Option A} {refusal instead : E} → told ≡ None → Err refusal ≡ ok_or told instead → refusal ≡ instead
none_refused {A} {E} {told} {refusal} {instead} none e =
    let f = rw none at e in
    cc

-- read
module _ (n : ℕ) (t : Tables) (s : List ℕ) (f : Bool) (e : f ≡ not (wrong_size n (lengths t))) where
  pub read_size : f ≡ false → filled 11 t ≡ read_call n t s
  unfolding read_call read_reasons first_of
  read_size z = rw (not-false (wrong_size n (lengths t)) (sym e ∙ z))

  module _ (fits : f ≡ true) {first kinds classes joined sums : List ℕ} {r : Option ℕ} (j : Judged s first kinds classes joined sums r) where
    right : wrong_size n (lengths t) ≡ false
    right = not-true (wrong_size n (lengths t)) (sym e ∙ fits)

    -- refused by the number of its case
    read-refused : (k : ℕ) → read_number n r ≡ k → k ≢ 0 → filled k t ≡ read_call n t s
    unfolding read_call
    read-refused k z d = call_refused (read_reasons n t s) (fill_refused t) _ k (number ∙ sym (j.read n) ∙ z) d
      where
        number : first_of (read_reasons n t s) ≡ first_of ((not (is_release s), 19) ∷ (not (eqb (decode s).node_count n), 20) ∷ [])
        number = unfold read_reasons first_of in rw right

    pub read_none : r ≡ None → filled 19 t ≡ read_call n t s
    read_none z = read-refused 19 (ap (read_number n) z ∙ unfold read_number in refl) (omega arith)

    -- the number of nodes that the file is for
    count : (m : ℕ) → r ≡ Some m → (decode s).node_count ≡ m
    count m z = sym (ap (λ (g : Graph). g.node_count) (j.graph m z)) ∙ unfold unfolded in refl

    pub read_other : (m : ℕ) → r ≡ Some m → m ≢ n → filled 20 t ≡ read_call n t s
    read_other m z d = read-refused 20 (ap (read_number n) z ∙ unfold read_number in rw (ne_eqb m n d)) (omega arith)

    pub read_done : (m : ℕ) → r ≡ Some m → m ≡ n → {t₁ : Tables} → t₁ ≡ tables_of (held n first kinds classes joined) → filled 0 t₁ ≡ read_call n t s
    unfolding read_call read_reasons first_of
    read_done m z d w = rw (right, passed j m z, eq-eqb (decode s).node_count n (count m z ∙ d)) (ap (filled 0) (w ∙ ap tables_of (ap (λ (k : ℕ). held k first kinds classes joined) (sym d) ∙ j.graph m z)))

-- whether a node is in a group, as it is looked up
module _ (n : ℕ) (first : List ℕ) (p : ℕ) where
  pub outside_placed : n ≤ p → false ≡ placed n first p
  unfolding placed
  outside_placed h = rw (le-ltb p n h)

  pub inside_placed : p < n → not (eqb (get_or first p 0) no_node) ≡ placed n first p
  unfolding placed
  inside_placed h = rw (lt-ltb p n h)

-- which nodes are visible does not depend on classes
seen : (n : ℕ) (first kinds classes joined : List ℕ) (p : ℕ) → is_visible (held n first kinds classes joined) p ≡ placed n first p
unfolding is_visible
seen n first kinds classes joined p = placed-visible n first p kinds joined

-- nor how far apart they are
walk_same : (nodes : List ℕ) (e : ℕ → ℕ → Bool) (c d : ℕ → ℕ) (k p q : ℕ) → walk (record { nodes = nodes; edge = e; class = c }) k p q ≡ walk (record { nodes = nodes; edge = e; class = d }) k p q
unfolding walk
walk_same nodes e c d zero p q = refl
walk_same nodes e c d (suc k) p q = any_cong nodes (λ r. walk (record { nodes = nodes; edge = e; class = c }) k p r && e r q) (λ r. walk (record { nodes = nodes; edge = e; class = d }) k p r && e r q) (λ r. ap (λ (b : Bool). b && e r q) (walk_same nodes e c d k p r))
  where
    any_cong : (l : List ℕ) (f h : ℕ → Bool) → ((r : ℕ) → f r ≡ h r) → any l f ≡ any l h
    any_cong l f h s = ap (any l) (fun_ext s)

distance_same : (n : ℕ) (first kinds classes joined : List ℕ) (p q : ℕ) → distance (visible (unfolded n first kinds joined)) p q ≡ distance (visible (held n first kinds classes joined)) p q
unfolding distance is_visible visible_edge
distance_same n first kinds classes joined p q =
    let v : View = visible (unfolded n first kinds joined) in
    let w : View = visible (held n first kinds classes joined) in
    ap (λ (f : ℕ → Bool). head_or unreachable (filter f (nodes (length v.nodes)))) (fun_ext (λ k. walk_same v.nodes v.edge v.class w.class k p q))

-- a file shows the nodes in its groups
shown : {s first kinds classes joined sums : List ℕ} {r : Option ℕ} → Judged s first kinds classes joined sums r → (n : ℕ) → r ≡ Some n → (p : ℕ) → is_visible (decode s) p ≡ placed n first p
shown {s} {first} {kinds} {classes} {joined} j n z p = ap (λ (g : Graph). is_visible g p) (sym (j.graph n z)) ∙ seen n first kinds classes joined p

-- what stands in the arrays of a release: its graph, by rows and by first members
module _ {s first kinds classes joined sums : List ℕ} {r : Option ℕ} (j : Judged s first kinds classes joined sums r) (n : ℕ) (z : r ≡ Some n) where
  told_proper : Proper (decode s)
  told_proper = subst Proper (j.graph n z) (j.exact n z).proper

  told-edge : (p q : ℕ) → (unfolded n first kinds joined).edge p q ≡ (decode s).edge p q
  told-edge p q = ap (λ (g : Graph). g.edge p q) (j.graph n z)

  told-leader : (p q : ℕ) → (decode s).edge p q ≡ true → get_or first q 0 ≡ leader_in (visible (decode s)) q
  unfolding leader_in
  told-leader p q t = (j.exact n z).told q (seen n first kinds classes joined q ∙ in_group (told-edge p q ∙ t)) ∙ ap (λ (g : Graph). leader_in (visible g) q) (j.graph n z)
    where
      in_group : (unfolded n first kinds joined).edge p q ≡ true → placed n first q ≡ true
      in_group e = and_fst (placed n first q) (unfolded_edge first kinds joined p q) (and_snd (placed n first p) _ (unfold unfolded in e))

  module _ {p : ℕ} {row : List ℕ} (w : NeighbourRow n first kinds joined p row) where
    told-bits : (q : ℕ) → q < max_nodes → edge_bit row 0 q ≡ (decode s).edge p q
    told-bits q b = w.bits q b ∙ told-edge p q

    pub ask_reached : Reaches first 1 (row_nodes row)
    ask_reached = row-reached (decode s) told_proper p row told-bits first 1 (λ q l. omega (arith, (j.exact n z).compressed.nodes, told_proper.small))

-- neighbours asked of a file
module _ (s : List ℕ) (p : ℕ) (out : List ℕ) {first kinds classes joined sums : List ℕ} {r : Option ℕ} (j : Judged s first kinds classes joined sums r) where
  pub ask_none : r ≡ None → listed 19 0 out ≡ file_neighbours_call s p out
  unfolding file_neighbours_call file_neighbours_reasons first_of
  ask_none z = rw (failed j z)

  module _ (n : ℕ) (z : r ≡ Some n) {b : Bool} (e : b ≡ placed n first p) where
    pub ask_hidden : b ≡ false → listed 14 0 out ≡ file_neighbours_call s p out
    unfolding file_neighbours_call file_neighbours_reasons first_of
    ask_hidden h = rw (passed j n z, shown j n z p ∙ sym e ∙ h)

    pub ask_told : b ≡ true → {row : List ℕ} → NeighbourRow n first kinds joined p row → row_told row first 1 out ≡ file_neighbours_call s p out
    unfolding file_neighbours_call
    ask_told h {row} w = row_told_lem (decode s) (told_proper j n z) p row (told-bits j n z w) first 1 out (visible (decode s)) (file_neighbours_reasons s p out) leaders number
      where
        leaders : (q : ℕ) → (decode s).edge p q ≡ true → leader_at first 1 q ≡ leader_in (visible (decode s)) q
        leaders q t = let one : 1 * q ≡ q = omega arith in ap (λ (i : ℕ). get_or first i 0) one ∙ told-leader j n z p q t

        number : first_of (file_neighbours_reasons s p out) ≡ cond (ltb (length out) (2 * length (neighbours (decode s) p))) 18 0
        number = unfold file_neighbours_reasons first_of in rw (passed j n z, shown j n z p ∙ sym e ∙ h)

-- a distance asked of a file
module _ (s : List ℕ) (p q : ℕ) {first kinds classes joined sums : List ℕ} {r : Option ℕ} (j : Judged s first kinds classes joined sums r) where
  pub measure_none : r ≡ None → measured 19 0 ≡ file_distance_call s p q
  unfolding file_distance_call file_distance_reasons first_of
  measure_none z = rw (failed j z)

  module _ (n : ℕ) (z : r ≡ Some n) where
    -- either node may be the hidden one
    hidden : (a b : Bool) → is_visible (decode s) p ≡ a → is_visible (decode s) q ≡ b → (not a || not b) ≡ true → measured 14 0 ≡ file_distance_call s p q
    unfolding file_distance_call file_distance_reasons first_of
    hidden a b x y h = rw (passed j n z, x, y, h)

    pub measure_first : {b : Bool} → b ≡ placed n first p → b ≡ false → measured 14 0 ≡ file_distance_call s p q
    measure_first e h = hidden false _ (shown j n z p ∙ sym e ∙ h) refl refl

    pub measure_second : {b : Bool} → b ≡ placed n first q → b ≡ false → measured 14 0 ≡ file_distance_call s p q
    measure_second e h = hidden _ false refl (shown j n z q ∙ sym e ∙ h) (or-true (not (is_visible (decode s) p)))

    pub measure_done : placed n first p ≡ true → placed n first q ≡ true → {d : ℕ} → d ≡ distance (visible (unfolded n first kinds joined)) p q → measured 0 d ≡ file_distance_call s p q
    unfolding file_distance_call file_distance_reasons first_of
    measure_done a b e = rw (passed j n z, shown j n z p ∙ a, shown j n z q ∙ b) (ap (measured 0) (e ∙ distance_same n first kinds classes joined p q ∙ ap (λ (g : Graph). distance (visible g) p q) (j.graph n z)))

-- what is filled
module _ {s first kinds classes joined sums : List ℕ} {r : Option ℕ} (j : Judged s first kinds classes joined sums r) (m : ℕ) (e : r ≡ Some m) (n : ℕ) (d : m ≡ n) where
  pub judged_exact : Exact n first kinds classes joined
  judged_exact = subst (λ (k : ℕ). Exact k first kinds classes joined) d (j.exact m e)

  pub judged_sums : {few : Bool} → few ≡ is_few (length s) n → few ≡ true → Cubed n first sums × JoinedSummed joined sums
  judged_sums {few} f t =
      let k : is_few (length s) m ≡ true = ap (is_few (length s)) d ∙ sym f ∙ t in
      (subst (λ (x : ℕ). Cubed x first sums) d (j.cubed m e k), j.summed m e k)
