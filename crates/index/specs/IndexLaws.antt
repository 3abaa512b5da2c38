-- The calls on tables are those of the model.
use Rattle.std.proofs.Math.Path.{◌≡◌, refl, sym, ap, ap₂}
use Rattle.std.proofs.Common.{◌∙◌, arith}
use Rattle.std.specs.Prelude.{Bool, cond, ◌||◌, List, [], ◌∷◌, ◌≢◌, ℕ, ◌*◌, ◌%◌, ◌≤◌, ◌<◌, ltb, ℤ, length}
use Rattle.std.proofs.Math.Bool.{true, false, not, or-false}
use borrow.Author.Tests.{not-true, not-false, lt-ltb, le-ltb, ltb-false}
use Rattle.model.specs.Graph.{empty_graph, max_nodes, node_numbers, whole}
use Rattle.model.specs.Tables.{Tables, tables_of, graph_of, holds, edge_bit, edges_in, node_number, group_in}
use Rattle.model.specs.Store.{no_states, store_of, wrong_store}
use Rattle.model.specs.Refusals.{first_of, lengths, pair_reasons, wrong_size}
use Rattle.model.specs.Updates.{update_count, update_numbers, wrong_batch}
use Rattle.model.specs.Calls.{open_reasons, open_call, apply_reasons, apply_refused, apply_call, neighbours_reasons, list_refused, neighbours_call, tied_reasons, tied_refused, tied_call, group_reasons, group_refused, group_call}
use Rattle.model.proofs.TestLaws.{or_none}
use Rattle.model.proofs.TableLaws.{edge_below, edge_bit_lem, held_tables, held_proper}
use Rattle.model.proofs.RefusalLaws.{call_done, call_refused, first_none}
use Rattle.index.specs.Index.{opened, applied, tied_of, grouped}
use Rattle.answers.specs.PairLaws.{pair_ends}
use Rattle.tables.specs.Lent.{table_reasons, Held}
use Rattle.tables.specs.LentLaws.{sized, table_refused, table_rest, table_held, held_sized}
use Rattle.updates.specs.Batch.{BatchApplied}
use Rattle.updates.specs.BatchLaws.{whole_numbers}
use Rattle.queries.specs.Query.{Reaches, kind_by, leader_at, led_by, listed, row_nodes, row_told}
use Rattle.queries.proofs.QueryLaws.{leader_first, row-reached, row_told_lem}
use Rattle.index.specs.GroupLaws.{l_below, m_below, least_is, leader_told, led_group, kind_told}
use Rattle.buffers.specs.Scan.{scan}
use Rattle.model.specs.Grouping.{kind_of}
use Rattle.model.specs.Queries.{neighbours, leader_in, kind_number}

-- 11: what the two tests of sizes say
module _ (n : ℕ) (t : Tables) (s : List ℕ) (f : Bool) (e : f ≡ not (wrong_size n (lengths t))) where
  pub open_tables : f ≡ false → opened 11 t s ≡ open_call n t s
  unfolding open_call open_reasons first_of
  open_tables h = rw (not-false (wrong_size n (lengths t)) (sym e ∙ h))

  module _ (h : f ≡ true) (k : Bool) (d : k ≡ not (wrong_store n (length s))) where
    pub open_store : k ≡ false → opened 11 t s ≡ open_call n t s
    unfolding open_call open_reasons first_of
    open_store l = rw (not-true (wrong_size n (lengths t)) (sym e ∙ h), not-false (wrong_store n (length s)) (sym d ∙ l))

    pub open_done : k ≡ true → {t₁ : Tables} {s₁ : List ℕ} → t₁ ≡ tables_of (empty_graph n) → s₁ ≡ store_of n no_states → opened 0 t₁ s₁ ≡ open_call n t s
    unfolding open_call open_reasons first_of
    open_done l a b = rw (not-true (wrong_size n (lengths t)) (sym e ∙ h), not-true (wrong_store n (length s)) (sym d ∙ l), a, b)

-- apply: an ill-formed batch is 11 too
module _ (n : ℕ) (t : Tables) (xs : List ℕ) (out : List ℤ) where
  pub batch_wrong : (f : Bool) → f ≡ not (wrong_batch xs) → f ≡ false → 11 ≡ first_of (apply_reasons n t xs out)
  unfolding apply_reasons first_of
  batch_wrong f e h = rw (not-false (wrong_batch xs) (sym e ∙ h)) (step (wrong_size n (lengths t)))
    where
      step : (a : Bool) → ◌≡◌ {A = ℕ} 11 (cond (a || true) 11 (cond (not (holds n t)) 12 (cond (ltb (length out) (update_count xs)) 18 0)))
      step true = refl
      step false = refl

  module _ (f : Bool) (e : f ≡ not (wrong_batch xs)) (h : f ≡ true) where
    as-tables : first_of (apply_reasons n t xs out) ≡ first_of (table_reasons n t ((ltb (length out) (update_count xs), 18) ∷ []))
    unfolding apply_reasons first_of
    as-tables = rw (not-true (wrong_batch xs) (sym e ∙ h), or-false (wrong_size n (lengths t)))

    pub apply_table : (r : ℕ) → r ≡ first_of (table_reasons n t []) → r ≢ 0 → r ≡ first_of (apply_reasons n t xs out)
    apply_table r x d = sym (as-tables ∙ table_refused n t r x ((ltb (length out) (update_count xs), 18) ∷ []) d)

    pub apply_short : (r k : ℕ) → r ≡ first_of (table_reasons n t []) → r ≡ 0 → k ≡ update_count xs → length out < k → 18 ≡ first_of (apply_reasons n t xs out)
    apply_short r k x d q l = sym (as-tables ∙ table_rest n t r x d ((ltb (length out) (update_count xs), 18) ∷ []) ∙ unfold first_of in rw (lt-ltb (length out) (update_count xs) (omega arith)))

    pub apply_none : (r k : ℕ) → r ≡ first_of (table_reasons n t []) → r ≡ 0 → k ≡ update_count xs → k ≤ length out → 0 ≡ first_of (apply_reasons n t xs out)
    apply_none r k x d q l = sym (as-tables ∙ table_rest n t r x d ((ltb (length out) (update_count xs), 18) ∷ []) ∙ unfold first_of in rw (le-ltb (length out) (update_count xs) (omega arith)))

  pub apply_refused_lem : (r : ℕ) → r ≡ first_of (apply_reasons n t xs out) → r ≢ 0 → applied r t out ≡ apply_call n t xs out
  unfolding apply_call
  apply_refused_lem r e d = call_refused (apply_reasons n t xs out) (apply_refused t out) _ r (sym e) d

  -- what a batch that is not refused may rely on
  pub apply_ready : (r : ℕ) → r ≡ first_of (apply_reasons n t xs out) → r ≡ 0 → Held n t × (length xs % update_numbers ≡ 0) × (update_count xs ≤ length out)
  unfolding apply_reasons
  apply_ready r e d =
      let a = first_none _ 11 _ refl (sym e ∙ d) in
      let b = first_none (not (holds n t)) 12 _ refl a.1 in
      let c = first_none (ltb (length out) (update_count xs)) 18 _ refl b.1 in
      let w = or_none (wrong_size n (lengths t)) _ a.0 in
      let k = not-false _ b.0 in
      let s = sized n t true (sym (ap not w.0)) refl in
      (record { same = held_tables n t k; proper = held_proper n t k s.small }, whole_numbers xs w.1, ltb-false (length out) (update_count xs) c.0)

  pub apply_done : (r : ℕ) → r ≡ first_of (apply_reasons n t xs out) → r ≡ 0 → {t₁ : Tables} {out₁ : List ℤ} → BatchApplied n xs t out t₁ out₁ → applied 0 t₁ out₁ ≡ apply_call n t xs out
  unfolding apply_call
  apply_done r e d b = ap₂ (applied 0) b.tables b.answered ∙ call_done (apply_reasons n t xs out) (apply_refused t out) _ (sym e ∙ d)

-- neighbours: a row that is lent as a part of the table
module _ (n p : ℕ) (t : Tables) (held : Held n t) (h : p < n) (row : List ℕ) (part : (q : ℕ) → q < max_nodes → edge_bit row 0 q ≡ edge_bit t.edges p q) where
  part-bits : (q : ℕ) → q < max_nodes → edge_bit row 0 q ≡ (graph_of n t).edge p q
  unfolding graph_of tables_of
  part-bits q b = part q b ∙ ap (λ (x : Tables). edge_bit x.edges p q) held.same ∙ edge_bit_lem (graph_of n t) p q h b

  pub neighbours-reached : Reaches t.nodes node_numbers (row_nodes row)
  unfolding graph_of
  neighbours-reached = row-reached (graph_of n t) held.proper p row part-bits t.nodes node_numbers (λ q l. omega (arith, (held_sized held).nodes))

module _ (n : ℕ) (t : Tables) (p : ℕ) (out : List ℕ) (r : ℕ) (e : r ≡ first_of (table_reasons n t [])) where
  pub neighbours_table : r ≢ 0 → listed r 0 out ≡ neighbours_call n t p out
  unfolding neighbours_call neighbours_reasons
  neighbours_table d = call_refused _ (list_refused out) _ r (table_refused n t r e _ d) d

  module _ (z : r ≡ 0) where
    pub neighbours_outside : n ≤ p → listed 14 0 out ≡ neighbours_call n t p out
    unfolding neighbours_call neighbours_reasons
    neighbours_outside h = call_refused _ (list_refused out) _ 14 (table_rest n t r e z _ ∙ unfold first_of in rw (le-ltb p n h)) (omega arith)

    pub neighbours-told : (h : p < n) (row : List ℕ) → ((q : ℕ) → q < max_nodes → edge_bit row 0 q ≡ edge_bit t.edges p q) → row_told row t.nodes node_numbers out ≡ neighbours_call n t p out
    unfolding neighbours_call neighbours_reasons graph_of
    neighbours-told h row part = row_told_lem (graph_of n t) held.proper p row (part-bits n p t held h row part) t.nodes node_numbers out (whole (graph_of n t)) (neighbours_reasons n t p out) leaders number
      where
        held : Held n t
        held = table_held n t r e z

        leaders : (q : ℕ) → (graph_of n t).edge p q ≡ true → leader_at t.nodes node_numbers q ≡ leader_in (whole (graph_of n t)) q
        leaders q x = leader_first t.nodes q ∙ leader_told n t held q (edge_below (graph_of n t) held.proper p q x)

        number : first_of (neighbours_reasons n t p out) ≡ cond (ltb (length out) (2 * length (neighbours (graph_of n t) p))) 18 0
        number = table_rest n t r e z ((not (ltb p n), 14) ∷ (ltb (length out) (2 * length (neighbours (graph_of n t) p)), 18) ∷ []) ∙ unfold first_of in rw (lt-ltb p n h)

-- tied
module _ (n : ℕ) (t : Tables) (p q r : ℕ) (e : r ≡ first_of (table_reasons n t [])) where
  pub tied_table : r ≢ 0 → tied_of r false ≡ tied_call n t p q
  unfolding tied_call tied_reasons
  tied_table d = call_refused _ tied_refused _ r (table_refused n t r e _ d) d

  module _ (z : r ≡ 0) where
    module _ {pair : ℕ} (x : pair ≡ first_of (pair_reasons n p q)) where
      number : first_of (tied_reasons n t p q) ≡ pair
      unfolding tied_reasons
      number = table_rest n t r e z (pair_reasons n p q) ∙ sym x

      pub tied_pair : pair ≢ 0 → tied_of pair false ≡ tied_call n t p q
      unfolding tied_call
      tied_pair d = call_refused (tied_reasons n t p q) tied_refused _ pair number d

      pub tied_done : pair ≡ 0 → {b : Bool} → b ≡ edge_bit t.edges p q → tied_of 0 b ≡ tied_call n t p q
      unfolding tied_call graph_of edges_in
      tied_done d w =
          let h = pair_ends n p q x d in
          ap (tied_of 0) (w ∙ rw (lt-ltb p n h.0, lt-ltb q n h.1))
          ∙ call_done (tied_reasons n t p q) tied_refused _ (number ∙ d)

-- group
module _ (n : ℕ) (t : Tables) (p r : ℕ) (e : r ≡ first_of (table_reasons n t [])) where
  pub group_table : r ≢ 0 → grouped r 0 0 0 ≡ group_call n t p
  unfolding group_call group_reasons
  group_table d = call_refused _ group_refused _ r (table_refused n t r e _ d) d

  module _ (z : r ≡ 0) where
    pub group_outside : n ≤ p → grouped 14 0 0 0 ≡ group_call n t p
    unfolding group_call group_reasons
    group_outside h = call_refused _ group_refused _ 14 (table_rest n t r e z _ ∙ unfold first_of in rw (le-ltb p n h)) (omega arith)

    module _ (h : p < n) (l : ℕ) (x : l ≡ node_number t.nodes p 0) where
      held : Held n t
      held = table_held n t r e z

      -- the least member and the one that follows it are nodes
      pub group_ends : (l < n) × (node_number t.nodes l 1 < n)
      group_ends = let y = x ∙ least_is n t held p h in (rw y (l_below n t held p h), rw y (m_below n t held p h))

      pub group_done : {k s : ℕ} → k ≡ kind_by t.edges t.nodes l → s ≡ length (scan (led_by t.nodes l) n 0) → grouped 0 l k s ≡ group_call n t p
      unfolding group_call group_reasons
      group_done {k} {s} a b =
          (λ i. record { result = 0; least = (x ∙ leader_told n t held p h) i; kind = kind i; size = size i })
          ∙ call_done _ group_refused _ (table_rest n t r e z _ ∙ unfold first_of in rw (lt-ltb p n h))
        where
          kind : k ≡ kind_number (kind_of (graph_of n t).edge (group_in (graph_of n t) p))
          kind = a ∙ ap (kind_by t.edges t.nodes) x ∙ kind_told n t held p h

          size : s ≡ length (group_in (graph_of n t) p)
          size = b ∙ ap (λ (y : ℕ). length (scan (led_by t.nodes y) n 0)) x ∙ ap length (led_group n t held p h)
