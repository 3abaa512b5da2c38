-- The parts of the test together are the model's `holds`.
use Rattle.std.specs.Prelude.{◌≡◌, ℕ, zero, suc, ◌+◌, ◌*◌, ◌/◌, ◌%◌, ◌^◌, ◌<◌, ◌≤◌, Bool, true, false, cond, not, ◌&&◌, ◌||◌, ◌⊎◌, List, length, ◌==◌, nat_le, nat_lt, slice_index, slice_index_or, refl}
use Rattle.std.proofs.Math.Path.{sym, ap, fun_ext}
use Rattle.std.proofs.Common.{◌∙◌, subst}
use Rattle.std.proofs.Math.Logic.{inl, inr, ⊎_elim}
use native.Mathlib.Omega.{arith}
use Rattle.std.proofs.Math.ListN.{get_or-eq_default}
use Rattle.std.proofs.Math.Seq.{ext_get_or}
use borrow.Author.Tests.{eqb-true, eqb-false, eq-eqb, ne_eqb, le-leb, leb-true, lt-ltb, ltb-true, ltb-false}
use Rattle.model.specs.Lists.{nodes, same_list}
use Rattle.model.specs.Graph.{Graph, Proper, View, max_classes, max_nodes, node_numbers, row_words, whole}
use Rattle.model.specs.Grouping.{closed_key, cube, false_twins, open_key, similar, true_twins}
use Rattle.model.specs.Tables.{Tables, classed_in, edge_bit, edges_in, edges_of, graph_in, graph_of, holds, is_graph, key_pair, keys_of, node_number, nodes_of, simple, tables_of}
use Rattle.model.proofs.TestLaws.{and_fst, and_snd, and_true, decide, differ, iff_eq, or_cases, or_left, or_right}
use Rattle.model.proofs.ListLaws.{all_elim, all_intro, nodes_in_lem, nodes_out, same_eq}
use Rattle.model.proofs.TwinLaws.{Simple, false_twins_by, false_twins_no_edge, similar_N, similar_N+, similar_cases, true_twins_edge}
use Rattle.model.proofs.TableLaws.{held_proper, held_tables, labels_proper, length_keys, mark_at_lem, simple_loop, simple_test}
use Rattle.rows.specs.Rows.{Words, key_of}
use Rattle.search.specs.Search.{Ready, classed, first_from, joins, meets, row_in, same_class}
use Rattle.rows.specs.KeyLaws.{keys_at}
use Rattle.search.specs.SearchLaws.{first_none, meets_by, meets_words, similar_by_class}
use Rattle.search.specs.TwinRowLaws.{false_meet, meet_false, meet_true, true_meet}
use Rattle.rings.specs.Ring.{Of, Parts, Table}
use Rattle.rings.specs.Steps.{Follows, Labelled}
use Rattle.rings.specs.NodesLaws.{graph_parts, is_nodes, mark_read, of_nodes}
use Rattle.rings.specs.CertificateLaws.{LedByClass, certified, led, ringed}
use Rattle.groups.specs.Groups.{similar_in}
use Rattle.groups.specs.GroupLaws.{first_cases}
use Rattle.edges.specs.Edges.{RowsBelow, edges_hold, row_holds}
use Rattle.edges.specs.EdgesLaws.{held_below, held_with, rows_held, same_of}
use Rattle.checks.specs.Checks.{KeysBelow, agrees, alone, keys_hold, leaders_apart, link_holds, node_holds, nodes_hold, rows_hold, twin_of, twins_hold}

-- keys that pass
module _ (n : ℕ) (edges keys : List ℕ) (p : ℕ) (h : keys_hold n edges keys p ≡ true) where
  abbrev own : ℕ
  own = open_key (whole (graph_in n edges)) p

  pub open_is : slice_index_or keys (2 * p) 0 ≡ open_key (whole (graph_in n edges)) p
  unfolding keys_hold agrees
  open_is = eqb-true _ _ (and_fst (slice_index keys (2 * p) == own) _ h)

  pub closed_is : slice_index_or keys (2 * p + 1) 0 ≡ (open_key (whole (graph_in n edges)) p + cube p) % 2 ^ 32
  unfolding keys_hold agrees
  closed_is = eqb-true _ _ (and_snd (slice_index keys (2 * p) == own) _ h)

-- rows that pass, each with its keys
module _ (n : ℕ) (edges keys : List ℕ) (h : rows_hold n edges keys ≡ true) where
  row : (p : ℕ) → p < n → (row_holds n edges p && keys_hold n edges keys p) ≡ true
  unfolding rows_hold
  row p hp = all_elim (nodes n) (λ p. row_holds n edges p && keys_hold n edges keys p) h p (nodes_in_lem n p hp)

  pub rows_below : RowsBelow n edges n
  rows_below p hp = and_fst (row_holds n edges p) _ (row p hp)

  keys_below : KeysBelow n edges keys n
  keys_below p hp = and_snd (row_holds n edges p) _ (row p hp)

-- rows and keys that pass are those of the graph
module _ (n : ℕ) (edges keys : List ℕ) (small : n ≤ max_nodes) (size : length edges ≡ row_words * n) (size-k : length keys ≡ 2 * n) (words : Words edges) where
  abbrev g : Graph
  g = graph_in n edges

  module _ (h : rows_hold n edges keys ≡ true) where
    pub edges_pass : edges_hold n edges ≡ true
    edges_pass = rows_held n edges small size words (rows_below n edges keys h)

    rows-edges : edges ≡ edges_of (graph_in n edges)
    unfolding edges_hold
    rows-edges = same_eq edges (edges_of g) (and_snd (simple g) _ edges_pass)

    pub rows_keys : keys ≡ keys_of (graph_in n edges)
    unfolding open_key edges_in
    rows_keys = ext_get_or 0 keys (keys_of g) (size-k ∙ sym (length_keys g)) at
      where
        one : (p k : ℕ) → p < n → k < 2 → slice_index keys (2 * p + k) ≡ key_of (graph_in n edges) p k
        one p zero hp hk =
            let e : slice_index_or keys (2 * p) 0 ≡ open_key (whole (graph_in n edges)) p = open_is n edges keys p (keys_below n edges keys h p hp) in
            let z : 2 * p + 0 ≡ 2 * p = omega arith in
            rw z (omega arith)
        one p (suc zero) hp hk =
            let e : slice_index_or keys (2 * p + 1) 0 ≡ (open_key (whole (graph_in n edges)) p + cube p) % 2 ^ 32 = closed_is n edges keys p (keys_below n edges keys h p hp) in
            omega arith
        one p (suc (suc k)) hp hk = absurd (omega arith)

        at : (i : ℕ) → i < length keys → slice_index keys i ≡ slice_index (keys_of (graph_in n edges)) i
        at i l =
            let e : i ≡ 2 * (i / 2) + i % 2 = omega arith in
            rw e (one (i / 2) (i % 2) (omega arith) (omega arith) ∙ sym (keys_at g (i / 2) (i % 2) (omega arith) (omega arith)))

    no-loops : (p : ℕ) → (edges_in n edges p p ≡ true) ⊎ (edges_in n edges p p ≡ false) → edges_in n edges p p ≡ false
    unfolding edges_hold edges_in
    no-loops p (inl e) = simple_loop g (and_fst (simple g) _ edges_pass) p (ltb-true p n (and_fst (nat_lt p n) _ e))
    no-loops p (inr e) = e

    pub rows_ready : Ready n edges keys
    rows_ready = record { small = small; loops = λ p. no-loops p (decide (edges_in n edges p p)); edges_of_lem = rows-edges; keys_of_lem = rows_keys }

  -- rows and keys of a graph pass
  module _ (same_keys : keys ≡ keys_of (graph_in n edges)) where
    pub keys_told : (p : ℕ) → p < n → keys_hold n edges keys p ≡ true
    unfolding keys_hold agrees open_key edges_in
    keys_told p hp = and_true (eq-eqb (slice_index keys (2 * p)) (open_key (whole (graph_in n edges)) p) first) (eq-eqb (slice_index keys (2 * p + 1)) ((open_key (whole (graph_in n edges)) p + cube p) % 2 ^ 32) (omega (arith, one 1 (omega arith))))
      where
        one : (k : ℕ) → k < 2 → slice_index keys (2 * p + k) ≡ key_of (graph_in n edges) p k
        one k hk = ap (λ (s : List ℕ). slice_index s (2 * p + k)) same_keys ∙ keys_at (graph_in n edges) p k hp hk

        first : slice_index_or keys (2 * p) 0 ≡ open_key (whole (graph_in n edges)) p
        first = let z : 2 * p + 0 ≡ 2 * p = omega arith in ap (λ (i : ℕ). slice_index keys i) (sym z) ∙ one 0 (omega arith) ∙ omega arith

    rows_told : edges_hold n edges ≡ true → rows_hold n edges keys ≡ true
    unfolding rows_hold
    rows_told told = all_intro (nodes n) _ (λ p m. and_true (held_below n edges told p (nodes_out n p m)) (keys_told p (nodes_out n p m)))

-- every node is a twin of its leader
module _ (n : ℕ) (edges table : List ℕ) (twins : twins_hold n edges table ≡ true) where
  abbrev leader : ℕ → ℕ
  leader p = node_number table p 0

  twin : (p : ℕ) → p < n → twin_of edges table p (node_number table p 0) ≡ true
  unfolding twins_hold
  twin p hp = all_elim (nodes n) (λ p. twin_of edges table p (node_number table p 0)) twins p (nodes_in_lem n p hp)

  pub twin_low : (p : ℕ) → p < n → node_number table p 0 ≤ p
  unfolding twin_of
  twin_low p hp = leb-true (leader p) p (and_fst (nat_le (leader p) p) _ (twin p hp))

  twin-leads : (p : ℕ) → p < n → node_number table (node_number table p 0) 0 ≡ node_number table p 0
  unfolding twin_of
  twin-leads p hp = eqb-true (leader (leader p)) (leader p) (and_fst (leader (leader p) == leader p) _ (and_snd (nat_le (leader p) p) _ (twin p hp)))

  twin-rest : (p : ℕ) → p < n → (same_class table p (leader p) && meets (edge_bit edges (leader p) p) p (leader p) (row_in edges p) (row_in edges (leader p)) 8) ≡ true
  unfolding twin_of
  twin-rest p hp = and_snd (leader (leader p) == leader p) _ (and_snd (nat_le (leader p) p) _ (twin p hp))

  twin-class : (p : ℕ) → p < n → same_class table p (node_number table p 0) ≡ true
  twin-class p hp = and_fst (same_class table p (leader p)) _ (twin-rest p hp)

  pub twin_meets : (p : ℕ) → p < n → meets (edge_bit edges (node_number table p 0) p) p (node_number table p 0) (row_in edges p) (row_in edges (node_number table p 0)) 8 ≡ true
  twin_meets p hp = and_snd (same_class table p (leader p)) _ (twin-rest p hp)

-- leaders of twins, none of which are similar, lead the groups
module _ (n : ℕ) (edges table keys : List ℕ) (r : Ready n edges keys) where
  abbrev v : View
  v = whole (graph_in n edges)

  abbrev R : ℕ → ℕ → Type 0
  R = Of n (similar_in n edges table)

  abbrev least : ℕ → ℕ
  least p = node_number table p 0

  abbrev Rows : Bool → ℕ → ℕ → Type 0
  Rows c p l = meets c p l (row_in edges p) (row_in edges l) 8 ≡ true

  rows-similar : (c : Bool) (p l : ℕ) → p < n → l < n → meets c p l (row_in edges p) (row_in edges l) 8 ≡ true → similar (whole (graph_in n edges)) p l ≡ true
  rows-similar true p l hp hl h = similar_N+ v p l refl (meet_true n edges keys r p l hp hl (meets_words true p l edges h))
  rows-similar false p l hp hl h = similar_N v p l refl (meet_false n edges keys r p l hp hl (meets_words false p l edges h))

  module _ (twins : twins_hold n edges table ≡ true) (apart : leaders_apart n edges table ≡ true) where
    twin-similar : (p : ℕ) → p < n → similar_in n edges table p (node_number table p 0) ≡ true
    twin-similar p hp = similar_by_class n edges table p (least p) ∙ and_true (twin-class n edges table twins p hp) (rows-similar (edge_bit edges (least p) p) p (least p) hp (omega (arith, twin_low n edges table twins p hp)) (twin_meets n edges table twins p hp))

    no_other : (u q : ℕ) → u < n → q < u → node_number table u 0 ≡ u → joins n edges table u u q ≡ false
    unfolding leaders_apart alone
    no_other u q hu l s = step (first_cases (joins n edges table u u) 0 u)
      where
        f : ℕ
        f = first_from (joins n edges table u u) 0 u

        none : f ≡ u
        none = eqb-true f u (rw (eq-eqb (least u) u s) at (all_elim (nodes n) (λ u. not (least u == u) || first_from (joins n edges table u u) 0 u == u) apart u (nodes_in_lem n u hu)))

        step : ((f < 0 + u) × (joins n edges table u u f ≡ true)) ⊎ ((f ≡ 0 + u) × ((p : ℕ) → 0 ≤ p → p < 0 + u → joins n edges table u u p ≡ false)) → joins n edges table u u q ≡ false
        step (inl x) = absurd (omega (arith, x.0, none))
        step (inr x) = x.1 q (omega arith) (omega arith)

    pub led_by_tests : LedByClass n (Of n (similar_in n edges table)) table
    unfolding joins
    led_by_tests = record {
      low = twin_low n edges table twins;
      leads = twin-leads n edges table twins;
      alike = λ p hp. (hp, omega (arith, twin_low n edges table twins p hp), twin-similar p hp);
      apart = λ u q l su sq x. differ (and_true (other u q l) (and_true (other u q l) (and_true (eq-eqb (least q) q sq) x.2))) (no_other u q x.0 l su);
    }
      where
        other : (u q : ℕ) → q < u → not (q == u) ≡ true
        other u q l = ap not (ne_eqb q u (omega arith))

  module _ (simple-graph : Simple (whole (graph_in n edges))) (a : LedByClass n (Of n (similar_in n edges table)) table) where
    bit_is : (p q : ℕ) → p < n → q < n → edge_bit edges p q ≡ edges_in n edges p q
    unfolding edges_in
    bit_is p q hp hq = rw (lt-ltb p n hp, lt-ltb q n hq)

    similar-rows : (p l : ℕ) → p < n → l < n → similar (whole (graph_in n edges)) p l ≡ true → meets (edge_bit edges l p) p l (row_in edges p) (row_in edges l) 8 ≡ true
    similar-rows p l hp hl h = step (decide (p == l)) (similar_cases v p l h)
      where
        tied : edge_bit edges l p ≡ v.edge p l
        tied = bit_is l p hl hp ∙ simple-graph.symmetric l p (nodes_in_lem n l hl) (nodes_in_lem n p hp)

        by-false : false_twins v p l ≡ true → Rows (edge_bit edges l p) p l
        by-false f = rw (tied ∙ false_twins_no_edge v simple-graph p l (nodes_in_lem n l hl) f) (meets_by false p l edges (false_meet n edges keys r p l hp hl f))

        step : ((p == l) ≡ true) ⊎ ((p == l) ≡ false) → (false_twins v p l ≡ true) ⊎ (true_twins v p l ≡ true) → Rows (edge_bit edges l p) p l
        step z (inl f) = by-false f
        step (inl z) (inr f) = by-false (false_twins_by v p l (λ x m. ap (λ (y : ℕ). v.edge y x) (eqb-true p l z)))
        step (inr z) (inr f) = rw (tied ∙ true_twins_edge v simple-graph p l (nodes_in_lem n l hl) (eqb-false p l z) f) (meets_by true p l edges (true_meet n edges keys r p l hp hl f))

    pub twins_told : twins_hold n edges table ≡ true
    unfolding twins_hold twin_of
    twins_told =
        all_intro (nodes n) _
        (λ p m.
        let hp : p < n = nodes_out n p m in
        let s = sym (similar_by_class n edges table p (least p)) ∙ (a.alike p hp).2 in
        and_true (le-leb (least p) p (a.low p hp)) (and_true (eq-eqb (least (least p)) (least p) (a.leads p hp)) (and_true (and_fst (same_class table p (least p)) _ s) (similar-rows p (least p) hp (a.alike p hp).1 (and_snd (same_class table p (least p)) _ s)))))

    no_join : (u q : ℕ) → u < n → q < u → node_number table u 0 ≡ u → joins n edges table u u q ≡ false
    unfolding joins
    no_join u q hu l s = step (decide (joins n edges table u u q))
      where
        step : (joins n edges table u u q ≡ true) ⊎ (joins n edges table u u q ≡ false) → joins n edges table u u q ≡ false
        step (inl h) =
            let b = and_snd (not (q == u)) _ (and_snd (not (q == u)) _ h) in
            absurd (a.apart u q l s (eqb-true (least q) q (and_fst (least q == q) _ b)) (hu, omega arith, and_snd (least q == q) _ b))
        step (inr h) = h

    pub apart-told : leaders_apart n edges table ≡ true
    unfolding leaders_apart alone
    apart-told = all_intro (nodes n) _ (λ u m. at u (nodes_out n u m) (decide (least u == u)))
      where
        at : (u : ℕ) → u < n → ((least u == u) ≡ true) ⊎ ((least u == u) ≡ false) → (not (least u == u) || first_from (joins n edges table u u) 0 u == u) ≡ true
        at u hu (inl z) = rw z (eq-eqb (first_from (joins n edges table u u) 0 u) u (sym (first_none (joins n edges table u u) u (λ q l. no_join u q hu l (eqb-true (least u) u z)))))
        at u hu (inr z) = rw z

-- rings, marks and classes
module _ (n : ℕ) (table : List ℕ) where
  module _ (h : nodes_hold n table ≡ true) where
    node : (p : ℕ) → p < n → node_holds n table p ≡ true
    unfolding nodes_hold
    node p hp = all_elim (nodes n) (node_holds n table) h p (nodes_in_lem n p hp)

    pub rings_by_tests : (p : ℕ) → p < n → Follows n table p
    unfolding node_holds link_holds
    rings_by_tests p hp =
        let h₀ = and_fst (link_holds n table p (node_number table p 2)) _ (node p hp) in
        let h₁ = and_snd (nat_lt (node_number table p 2) n) _ h₀ in
        let h₂ = and_snd (node_number table (node_number table p 2) 0 == node_number table p 0) _ h₁ in
        let h₃ = and_snd (node_number table (node_number table p 2) 1 == p) _ h₂ in
        record {
          below = ltb-true _ n (and_fst (nat_lt (node_number table p 2) n) _ h₀);
          same_least = eqb-true _ _ (and_fst (node_number table (node_number table p 2) 0 == node_number table p 0) _ h₁);
          next = eqb-true _ p (and_fst (node_number table (node_number table p 2) 1 == p) _ h₂);
          order = ⊎_elim (λ z. inl (eqb-true _ p z)) (λ z. inr (ltb-true _ p z)) (or_cases (node_number table p 0 == p) (nat_lt (node_number table p 2) p) h₃);
        }

    pub marks_by_tests : (p : ℕ) → p < n → node_number table p 3 < 2
    unfolding node_holds
    marks_by_tests p hp = ltb-true (node_number table p 3) 2 (and_fst (nat_lt (node_number table p 3) 2) _ (and_snd (link_holds n table p (node_number table p 2)) _ (node p hp)))

    pub classes_by_tests : (p : ℕ) → p < n → node_number table p 4 < max_classes
    unfolding node_holds
    classes_by_tests p hp = ltb-true (node_number table p 4) max_classes (and_snd (nat_lt (node_number table p 3) 2) _ (and_snd (link_holds n table p (node_number table p 2)) _ (node p hp)))

  pub nodes-told : ((p : ℕ) → p < n → Follows n table p) → ((p : ℕ) → p < n → node_number table p 3 < 2) → ((p : ℕ) → p < n → node_number table p 4 < max_classes) → nodes_hold n table ≡ true
  unfolding nodes_hold node_holds link_holds
  nodes-told f m d =
      all_intro (nodes n) _
      (λ p k.
      let hp : p < n = nodes_out n p k in
      let a = f p hp in
      and_true
      (and_true (lt-ltb (node_number table p 2) n a.below) (and_true (eq-eqb (node_number table (node_number table p 2) 0) (node_number table p 0) a.same_least) (and_true (eq-eqb (node_number table (node_number table p 2) 1) p a.next) (placed p a.order))))
      (and_true (lt-ltb (node_number table p 3) 2 (m p hp)) (lt-ltb (node_number table p 4) max_classes (d p hp))))
    where
      placed : (p : ℕ) → (node_number table p 0 ≡ p) ⊎ (node_number table p 2 < p) → (node_number table p 0 == p || nat_lt (node_number table p 2) p) ≡ true
      placed p (inl z) = or_left (nat_lt (node_number table p 2) p) (eq-eqb (node_number table p 0) p z)
      placed p (inr z) = or_right (node_number table p 0 == p) (lt-ltb (node_number table p 2) p z)

-- keys are those of the edges, whatever the marks and classes
keys_alike : (n : ℕ) (t : Tables) → keys_of (graph_in n t.edges) ≡ keys_of (graph_of n t)
unfolding graph_of keys_of key_pair open_key closed_key
keys_alike n t = refl

-- the whole
module _ (n : ℕ) (t : Tables) (small : n ≤ max_nodes) (size : length t.edges ≡ row_words * n) (size-n : length t.nodes ≡ node_numbers * n) (size-k : length t.keys ≡ 2 * n) (words : Words t.edges) where
  abbrev graph : Graph
  graph = graph_of n t

  -- no class stands beyond the table
  class_read : (p : ℕ) → (nat_lt p n ≡ true) ⊎ (nat_lt p n ≡ false) → (graph_of n t).class p ≡ node_number t.nodes p 4
  unfolding graph_of node_number
  class_read p (inl e) = rw e
  class_read p (inr e) = rw e (sym (get_or-eq_default t.nodes 0 (omega (arith, ltb-false p n e))))

  as_seen : whole (graph_of n t) ≡ whole (classed n t.edges t.nodes)
  unfolding graph_of
  as_seen = ap (λ (class : ℕ → ℕ). whole (classed_in n t.edges class)) (fun_ext (λ p. class_read p (decide (nat_lt p n))))

  edges-same : edges_hold n t.edges ≡ (simple (graph_of n t) && same_list t.edges (edges_of (graph_of n t)))
  unfolding graph_of
  edges-same = held_with n t.edges (λ p. node_number t.nodes p 3) (λ p. node_number t.nodes p 4)

  module _ (hn : nodes_hold n t.nodes ≡ true) (ht : twins_hold n t.edges t.nodes ≡ true) (hr : rows_hold n t.edges t.keys ≡ true) (hl : leaders_apart n t.edges t.nodes ≡ true) where
    edges-right : (simple (graph_of n t) && same_list t.edges (edges_of (graph_of n t))) ≡ true
    edges-right = sym edges-same ∙ edges_pass n t.edges t.keys small size size-k words hr

    is_one : is_graph (graph_of n t) ≡ true
    unfolding is_graph graph_of
    is_one = and_true (and_fst (simple graph) _ edges-right) (all_intro (nodes n) _ (λ p m. let hp : p < n = nodes_out n p m in lt-ltb (graph.class p) max_classes (rw (lt-ltb p n hp) (classes_by_tests n t.nodes hn p hp))))

    proper : Proper (graph_of n t)
    unfolding graph_of
    proper = labels_proper n t.edges (λ p. node_number t.nodes p 3) (λ p. node_number t.nodes p 4) small is_one

    labelled : Labelled (graph_of n t) t.nodes
    unfolding graph_of
    labelled = record { marks = λ p l. mark_read n p (node_number t.nodes p 3) l (marks_by_tests n t.nodes hn p l); classes = λ p l. rw (lt-ltb p n l) }

    parts : Parts n (Of n (similar_in n t.edges t.nodes))
    parts = subst (λ v. Parts n (Of n (similar v))) as_seen (unfold graph_of in graph_parts graph proper)

    table : Table n (Of n (similar_in n t.edges t.nodes)) t.nodes
    table = certified parts t.nodes (led_by_tests n t.edges t.nodes t.keys (rows_ready n t.edges t.keys small size size-k words hr) ht hl) (rings_by_tests n t.nodes hn)

    same_nodes : t.nodes ≡ nodes_of (graph_of n t)
    same_nodes = unfold graph_of in is_nodes graph proper (subst (λ v. Table n (Of n (similar v)) t.nodes) (sym as_seen) table) size-n labelled

    passes : holds n t ≡ true
    unfolding holds tables_of
    passes = and_true is_one (and_true (and_snd (simple graph) _ edges-right) (and_true (same_of same_nodes) (same_of (rows_keys n t.edges t.keys small size size-k words hr ∙ keys_alike n t))))

  -- every part passes where tables hold a graph
  module _ (h : holds n t ≡ true) where
    held : Proper (graph_of n t)
    held = held_proper n t h small

    held-nodes : t.nodes ≡ nodes_of (graph_of n t)
    unfolding tables_of
    held-nodes = ap (λ (s : Tables). s.nodes) (held_tables n t h)

    held-edges : edges_hold n t.edges ≡ true
    unfolding tables_of
    held-edges = edges-same ∙ and_true (simple_test graph held) (same_of (ap (λ (s : Tables). s.edges) (held_tables n t h)))

    held-keys : t.keys ≡ keys_of (graph_in n t.edges)
    unfolding tables_of
    held-keys = ap (λ (s : Tables). s.keys) (held_tables n t h) ∙ sym (keys_alike n t)

    held_rows : rows_hold n t.edges t.keys ≡ true
    held_rows = rows_told n t.edges t.keys small size size-k words held-keys held-edges

    held-ready : Ready n t.edges t.keys
    held-ready = rows_ready n t.edges t.keys small size size-k words held_rows

    held-parts : Parts n (Of n (similar_in n t.edges t.nodes))
    held-parts = subst (λ v. Parts n (Of n (similar v))) as_seen (unfold graph_of in graph_parts graph held)

    held-table : Table n (Of n (similar_in n t.edges t.nodes)) t.nodes
    held-table = subst (λ v. Table n (Of n (similar v)) t.nodes) as_seen (subst (λ s. Table n (Of n (similar (whole (graph_of n t)))) s) (sym held-nodes) (unfold graph_of in of_nodes graph held))

    held-led : LedByClass n (Of n (similar_in n t.edges t.nodes)) t.nodes
    held-led = led held-parts t.nodes held-table

    held-simple : Simple (whole (graph_in n t.edges))
    unfolding graph_of
    held-simple = record { symmetric = λ p q m k. held.symmetric p q; irreflexive = λ p m. held.irreflexive p }

    held-marks : (p : ℕ) → p < n → node_number t.nodes p 3 < 2
    unfolding graph_of
    held-marks p hp = small-mark ((graph_of n t).hidden p) (ap (λ (s : List ℕ). node_number s p 3) held-nodes ∙ mark_at_lem (graph_of n t) p hp)
      where
        small-mark : (b : Bool) {m : ℕ} → m ≡ cond b 1 0 → m < 2
        small-mark true e = omega arith
        small-mark false e = omega arith

    held-classes : (p : ℕ) → p < n → node_number t.nodes p 4 < max_classes
    held-classes p hp = subst (λ x. x < max_classes) (class_read p (inl (lt-ltb p n hp))) (held.classed p)

    held-rings : nodes_hold n t.nodes ≡ true
    held-rings = nodes-told n t.nodes (ringed held-parts t.nodes held-table) held-marks held-classes

    held-twins : twins_hold n t.edges t.nodes ≡ true
    held-twins = twins_told n t.edges t.nodes t.keys held-ready held-simple held-led

    held-apart : leaders_apart n t.edges t.nodes ≡ true
    held-apart = apart-told n t.edges t.nodes t.keys held-ready held-simple held-led

  refused : {part : Bool} → (holds n t ≡ true → part ≡ true) → part ≡ false → false ≡ holds n t
  refused {part} f e = step (decide (holds n t))
    where
      step : (holds n t ≡ true) ⊎ (holds n t ≡ false) → false ≡ holds n t
      step (inl h) = differ (f h) e
      step (inr h) = sym h

  pub hold_nodes : nodes_hold n t.nodes ≡ false → false ≡ holds n t
  hold_nodes e = refused held-rings e

  pub hold_twins : twins_hold n t.edges t.nodes ≡ false → false ≡ holds n t
  hold_twins e = refused held-twins e

  pub hold_rows : rows_hold n t.edges t.keys ≡ false → false ≡ holds n t
  hold_rows e = refused held_rows e

  pub hold_leaders : (b : Bool) → nodes_hold n t.nodes ≡ true → twins_hold n t.edges t.nodes ≡ true → rows_hold n t.edges t.keys ≡ true → b ≡ leaders_apart n t.edges t.nodes → b ≡ holds n t
  hold_leaders b hn ht hr e = e ∙ iff_eq (leaders_apart n t.edges t.nodes) (holds n t) (passes hn ht hr) held-apart
