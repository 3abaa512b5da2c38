-- Updates of the tables are the model's.
use Rattle.std.proofs.Math.Path.{◌≡◌, refl}
use Rattle.std.proofs.Common.{sym, ap, ◌∙◌, arith}
use Rattle.std.specs.Prelude.{Bool, cond, ◌||◌, List, ◌≢◌, ℕ, ◌+◌, ◌*◌, ◌≤◌, ◌<◌, eqb, ltb, ℤ, pos, set}
use Rattle.std.proofs.Math.Bool.{true, false, not, or-true}
use Rattle.std.proofs.Math.Decide.{ℕ_discrete}
use mir.Val.{bool_byte}
use borrow.Author.Tests.{eq-eqb, ne_eqb, lt-ltb, le-ltb}
use Rattle.model.specs.Graph.{Graph, max_classes, node_numbers}
use Rattle.model.specs.Release.{u16_limit}
use Rattle.model.specs.Tables.{Tables, tables_of, graph_of, edge_bit, node_number, edges_in, edges_of, row_of, keys_of, key_pair}
use Rattle.model.specs.Refusals.{first_of, pair_reasons}
use Rattle.model.specs.Updates.{Update, update_reasons, refusal, updated, answer, update}
use Rattle.model.proofs.UpdateLaws.{class_below, class_zero, mark_answer, refusal_below, u_inside, update-accepted, update_refused_lem as model-refused}
use Rattle.model.specs.Steps.{Stepped}
use Rattle.rings.specs.GraphLaws.{mark_nodes}
use Rattle.rows.specs.BitLaws.{bool_number}
use Rattle.rows.specs.Rows.{lent}
use Rattle.answers.specs.PairLaws.{pair_ends}
use Rattle.groups.specs.Groups.{Asked, change}
use Rattle.updates.specs.Batch.{Updated, held_reasons, is_marked}
use Rattle.tables.specs.Lent.{Held}

-- the reasons of an edge's, a mark's and a class's update, by what the code has found in the tables
module _ (n u v w : ℕ) (es ns ks : List ℕ) where
  abbrev by_edge : ℕ
  by_edge = refusal (graph_of n (lent es ns ks)) (change 1 u v w)

  abbrev by_mark : ℕ
  by_mark = refusal (graph_of n (lent es ns ks)) (change 2 u v w)

  abbrev by_class : ℕ
  by_class = refusal (graph_of n (lent es ns ks)) (change 3 u v w)

  pub edge_pair : {r : ℕ} → r ≡ first_of (pair_reasons n u v) → r ≢ 0 → r ≡ by_edge
  unfolding refusal update_reasons first_of graph_of pair_reasons
  edge_pair e d = e ∙ step (ltb u n) (ltb v n) (eqb u v) _ (λ z. d (e ∙ z))
    where
      step : (a b c : Bool) (x : ℕ) → (◌≡◌ {A = ℕ} (cond (not a || not b) 14 (cond c 15 0)) 0 → ⊥) → ◌≡◌ {A = ℕ} (cond (not a || not b) 14 (cond c 15 0)) (cond (not a || not b) 14 (cond (ltb 1 w || c) 15 x))
      step false b c x h = refl
      step true false c x h = refl
      step true true true x h = rw (or-true (ltb 1 w))
      step true true false x h = absurd (h refl)

  -- where u and v are two nodes
  module _ {r : ℕ} (e : r ≡ first_of (pair_reasons n u v)) (z : r ≡ 0) where
    pub edge_more : 1 < w → 15 ≡ by_edge
    unfolding refusal update_reasons first_of graph_of
    edge_more h = let p = pair_ends n u v e z in rw (lt-ltb u n p.0, lt-ltb v n p.1, lt-ltb 1 w h)

    pub edge_frozen : w ≤ 1 → (is_marked ns u || is_marked ns v) ≡ true → 24 ≡ by_edge
    unfolding refusal update_reasons first_of graph_of
    edge_frozen h f = let p = pair_ends n u v e z in rw (lt-ltb u n p.0, lt-ltb v n p.1, ne_eqb u v p.2, le-ltb 1 w h, f)

    pub edge_held : w ≤ 1 → (is_marked ns u || is_marked ns v) ≡ false → first_of (held_reasons w (edge_bit es u v)) ≡ by_edge
    unfolding refusal update_reasons first_of graph_of edges_in held_reasons
    edge_held h f = let p = pair_ends n u v e z in rw (lt-ltb u n p.0, lt-ltb v n p.1, ne_eqb u v p.2, le-ltb 1 w h, f)

  pub mark_u : n ≤ u → 14 ≡ by_mark
  unfolding refusal update_reasons first_of graph_of
  mark_u h = rw (le-ltb u n h)

  pub mark_v : u < n → v ≢ 0 → 15 ≡ by_mark
  unfolding refusal update_reasons first_of graph_of
  mark_v h k = rw (lt-ltb u n h, ne_eqb v 0 k, or-true (ltb 1 w))

  pub mark_more : u < n → 1 < w → 15 ≡ by_mark
  unfolding refusal update_reasons first_of graph_of
  mark_more h k = rw (lt-ltb u n h, lt-ltb 1 w k)

  pub mark_held : u < n → v ≡ 0 → w ≤ 1 → first_of (held_reasons w (is_marked ns u)) ≡ by_mark
  unfolding refusal update_reasons first_of graph_of held_reasons
  mark_held h k l = rw (lt-ltb u n h, eq-eqb v 0 k, le-ltb 1 w l)

  pub class_u : n ≤ u → 14 ≡ by_class
  unfolding refusal update_reasons first_of graph_of
  class_u h = rw (le-ltb u n h)

  pub class_more : u < n → max_classes ≤ v → 15 ≡ by_class
  unfolding refusal update_reasons first_of graph_of
  class_more h k = rw (lt-ltb u n h, le-ltb v max_classes k)

  pub class_wanted : u < n → w ≢ 0 → 15 ≡ by_class
  unfolding refusal update_reasons first_of graph_of
  class_wanted h k = rw (lt-ltb u n h, ne_eqb w 0 k, or-true (not (ltb v max_classes)))

  -- where u is a node and v a class
  module _ (h : u < n) (k : v < max_classes) (z : w ≡ 0) where
    pub class_held : node_number ns u 4 ≡ v → 16 ≡ by_class
    unfolding refusal update_reasons first_of graph_of
    class_held e = rw (lt-ltb u n h, lt-ltb v max_classes k, eq-eqb w 0 z, eq-eqb (node_number ns u 4) v e)

    pub class_other : node_number ns u 4 ≢ v → 0 ≡ by_class
    unfolding refusal update_reasons first_of graph_of
    class_other d = rw (lt-ltb u n h, lt-ltb v max_classes k, eq-eqb w 0 z, ne_eqb (node_number ns u 4) v d)

pub other_kind : (g : Graph) (k u v w : ℕ) → k ≢ 1 → k ≢ 2 → k ≢ 3 → 13 ≡ refusal g (change k u v w)
unfolding refusal update_reasons first_of
other_kind g k u v w a b c = rw (ne_eqb k 1 a, ne_eqb k 2 b, ne_eqb k 3 c)

-- what is wanted holds already, or does not
module _ (w : ℕ) (there : Bool) where
  pub held_already : bool_byte there ≡ w → 16 ≡ first_of (held_reasons w there)
  unfolding first_of held_reasons
  held_already e = rw (eq-eqb (cond there 1 0) w (sym (bool_number there) ∙ e))

  pub held-not : bool_byte there ≢ w → 0 ≡ first_of (held_reasons w there)
  unfolding first_of held_reasons
  held-not d = rw (ne_eqb (cond there 1 0) w (λ e. d (bool_number there ∙ e)))

-- an accepted update of a mark: the mark alone is written
marked : (n u v w : ℕ) (t : Tables) → Held n t → refusal (graph_of n t) (change 2 u v w) ≡ 0 → {ns : List ℕ} → ns ≡ set t.nodes (node_numbers * u + 3) w → lent t.edges ns t.keys ≡ tables_of (updated (graph_of n t) (change 2 u v w))
unfolding tables_of updated edges_of row_of keys_of key_pair
marked n u v w t h ok {ns} e =
    let es = ap (λ (s : Tables). s.edges) h.same in
    let ms = mark_nodes (graph_of n t) (change 2 u v w) h.proper ok refl (record { is = e ∙ ap (λ (s : Tables). set s.nodes (node_numbers * u + 3) w) h.same }) in
    let ks = ap (λ (s : Tables). s.keys) h.same in
    λ i. record { edges = es i; nodes = ms i; keys = ks i }

-- an update by its numbers, once it is known whether it is refused
module _ (n k u v w r : ℕ) (t : Tables) (h : Held n t) (e : r ≡ refusal (graph_of n t) (change k u v w)) where
  abbrev g : Graph
  g = graph_of n t

  abbrev c : Update
  c = change k u v w

  pub number_small : r < 32768
  number_small = let l = refusal_below g c in omega (arith, e)

  pub update_refused_lem : r ≢ 0 → {a : ℤ} → a ≡ pos r → Updated n (change k u v w) t t a
  update_refused_lem d {a} x =
      let f : update g c ≡ record { outcome = pos (refusal g c); after = g } = model-refused g c (λ z. d (e ∙ z)) in
      record { tables = h.same ∙ ap (λ (s : Stepped Graph ℤ). tables_of s.after) (sym f); answered = x ∙ ap pos e ∙ ap (λ (s : Stepped Graph ℤ). s.outcome) (sym f) }

  module _ (ok : r ≡ 0) where
    none : refusal g c ≡ 0
    none = sym e ∙ ok

    pub accepted_u : u < n
    unfolding graph_of
    accepted_u = u_inside g c h.proper none

    -- from the tables and the answer of an accepted update
    done : {after : Tables} {a : ℤ} → after ≡ tables_of (updated g c) → a ≡ answer g c → Updated n (change k u v w) t after a
    done x y = record { tables = x ∙ ap (λ (s : Stepped Graph ℤ). tables_of s.after) (sym (update-accepted g c none)); answered = y }

    pub edge_asked : k ≡ 1 → Asked n (change 1 u v w) t
    edge_asked q = record { proper = h.proper; same = h.same; accepted = rw q at none }

    pub edge_updated : k ≡ 1 → {after : Tables} {a : ℤ} → (after ≡ tables_of (updated g (change 1 u v w))) × (a ≡ answer g (change 1 u v w)) → Updated n (change k u v w) t after a
    edge_updated q x = done (rw q x.0) (rw q x.1)

    -- for a class nothing is wanted beside it
    class_none : k ≡ 3 → refusal g (change 3 u v 0) ≡ 0
    class_none q = let z = class_zero g (change 3 u v w) (rw q at none) refl in rw z at (rw q at none)

    pub class_asked : k ≡ 3 → Asked n (change 3 u v 0) t × (v < u16_limit)
    class_asked q = (record { proper = h.proper; same = h.same; accepted = class_none q }, omega (arith, class_below g (change 3 u v 0) (class_none q) refl))

    pub class_updated : k ≡ 3 → {after : Tables} {a : ℤ} → (after ≡ tables_of (updated g (change 3 u v 0))) × (a ≡ answer g (change 3 u v 0)) → Updated n (change k u v w) t after a
    class_updated q x = let z = class_zero g (change 3 u v w) (rw q at none) refl in done (rw (q, z) x.0) (rw (q, z) x.1)

    pub mark_updated : k ≢ 1 → k ≢ 3 → {ns : List ℕ} → ns ≡ set t.nodes (node_numbers * u + 3) w → Updated n (change k u v w) t (lent t.edges ns t.keys) (pos 0)
    mark_updated a b {ns} x = step (ℕ_discrete k 2)
      where
        step : Dec (k ≡ 2) → Updated n (change k u v w) t (lent t.edges ns t.keys) (pos 0)
        step (yes q) = done (rw q (marked n u v w t h (rw q at none) x)) (sym (mark_answer g c (eq-eqb k 2 q) none))
        step (no d) = absurd (omega (arith, other_kind g k u v w a d b, none))
