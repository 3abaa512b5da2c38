-- Where the least members, the classes and the edges are those of a graph's visible part, the file is its release.
use Rattle.std.specs.Prelude.{◌≡◌, Bool, ◌&&◌, cond, ◌⊎◌, ℕ, suc, ◌+◌, ◌<◌, drop}
use Rattle.std.proofs.Math.Path.{refl, sym, ap, ap₂}
use Rattle.std.proofs.Common.{◌∙◌, inl, inr, arith, add-one, drop_of_length-le, drop-cons}
use Rattle.std.proofs.Math.Bool.{true, false}
use mathlib.Core.List.Memᴰ
use mathlib.Core.List.{List, [], ◌∷◌, ◌++◌, map, append_assoc}
use Rattle.std.proofs.Math.Dec.{eqb, ltb}
use Rattle.std.proofs.Math.ListN.{length, get_or}
use borrow.Author.Tests.{eqb-true, eq-eqb, ne_eqb, lt-ltb, le-ltb}
use Rattle.model.specs.Lists.{◌∈◌, concat, head_or, nodes}
use Rattle.model.specs.Graph.{Graph}
use Rattle.model.specs.Grouping.{Kind, adjacent, algorithm1, clique, group, independent, is_clique, kind_of, leaders, least, similar, singleton}
use Rattle.model.specs.Tables.{edge_bit}
use Rattle.model.specs.Release.{encode, group_record, is_visible, kind_byte, release, superedge_count, superedge_record, superedges, superedges_from, visible, visible_class, visible_groups}
use Rattle.model.specs.Calls.{release_refused, released}
use Rattle.model.proofs.TestLaws.{decide, iff_eq}
use Rattle.model.proofs.ListLaws.{Ascending, filter_ascending, filter_cong, filter_elim, filter_intro, head_or_in, nodes_in_lem, nodes_out}
use Rattle.model.proofs.TwinLaws.{Simple, similar_refl, similar_sym, similar_trans}
use Rattle.model.proofs.ClassLaws.{Equivalence, group_in_lem, group_out, leader_out, leaders-apart, leaders_ascending, least_eq, least_in, least-le, least_rel, same_group}
use Rattle.model.proofs.SummaryLaws.{adjacent_law, algorithm1-classes, clique_law, equivalence, length_groups}
use Rattle.model.proofs.TableLaws.{map_cong}
use Rattle.model.proofs.ReleaseLaws.{length-concat_groups, length_superedge_records, visible_ascending, visible-simple}
use Rattle.model.proofs.ReadBackLaws.{visible_inside}
use Rattle.rows.specs.Rows.{leads}
use Rattle.buffers.specs.Scan.{flat, scan}
use Rattle.buffers.specs.ScanLaws.{filter_and, flat_end, flat_step, get_d_ascending, get_d_in, scan_end, scan_no, scan-nodes, scan_skip, scan_yes, upward}
use Rattle.layout.specs.File.{Partition, belongs, file_groups, file_length, file_nodes, file_of, file_superedges, first_two, group_bytes, groups_bytes, in_group, later, leaders_of, members_of, superedge_between, superedge_bytes, superedges_to, u16_bytes, visible_of, written_file}
use Rattle.layout.specs.WholeLaws.{groups_list, length_file, length-superedges}
use Rattle.layout.specs.Truth.{Truth}

kind_byte_lem : (k : Kind) → kind_byte k ≡ cond (is_clique k) 0x43 0x49
unfolding kind_byte is_clique
kind_byte_lem singleton = refl
kind_byte_lem independent = refl
kind_byte_lem clique = refl

-- superedges by position and by element
records_append : (a b : List (ℕ × ℕ)) → concat (map superedge_record (a ++ b)) ≡ concat (map superedge_record a) ++ concat (map superedge_record b)
unfolding concat
records_append [] b = refl
records_append (x ∷ xs) b =
    ap (λ (s : List ℕ). superedge_record x ++ s) (records_append xs b)
    ∙ sym (append_assoc (superedge_record x) (concat (map superedge_record xs)) (concat (map superedge_record b)))

module _ (e d : ℕ → ℕ → Bool) (G : ℕ → List ℕ) (ls : List ℕ) (law : (i j : ℕ) → i < j → j < length ls → adjacent e (G (get_or ls i 0)) (G (get_or ls j 0)) ≡ superedge_between d ls i j) where
  -- the records of the i-th group's superedges to those from the j-th on, and of all from the i-th on
  abbrev records_from : ℕ → ℕ → List ℕ
  records_from i j = concat (map superedge_record (superedges_from e i (G (get_or ls i 0)) j (map G (drop j ls))))

  abbrev records_on : ℕ → List ℕ
  records_on i = concat (map superedge_record (superedges e i (map G (drop i ls))))

  from_is : (i j : ℕ) → i < j → records_from i j ≡ superedges_to i (scan (superedge_between d ls i) (length ls) j)
  unfolding superedges_from superedges_to concat
  from_is i =
      upward (λ j. i < j → records_from i j ≡ superedges_to i (scan (superedge_between d ls i) (length ls) j)) (length ls)
      (λ j h k. rw (drop_of_length-le ls h, scan_end (superedge_between d ls i) (length ls) j h))
      (λ j h below k. rw (drop-cons ls j 0 h, law i j k h) (step j h (below (omega arith)) (decide (superedge_between d ls i j))))
    where
      step : (j : ℕ) → j < length ls → records_from i (j + 1) ≡ superedges_to i (scan (superedge_between d ls i) (length ls) (j + 1)) → (superedge_between d ls i j ≡ true) ⊎ (superedge_between d ls i j ≡ false)
          → concat (map superedge_record (cond (superedge_between d ls i j) ((i, j) ∷ superedges_from e i (G (get_or ls i 0)) (suc j) (map G (drop (suc j) ls))) (superedges_from e i (G (get_or ls i 0)) (suc j) (map G (drop (suc j) ls))))) ≡ superedges_to i (scan (superedge_between d ls i) (length ls) j)
      step j h below (inl b) = rw (b, scan_yes (superedge_between d ls i) (length ls) j h b) (ap (λ (x : List ℕ). superedge_record (i, j) ++ x) (ap (records_from i) (sym (add-one j)) ∙ below))
      step j h below (inr b) = rw (b, scan_no (superedge_between d ls i) (length ls) j h b) (ap (records_from i) (sym (add-one j)) ∙ below)

  on-is : (i : ℕ) → records_on i ≡ flat (λ i. superedges_to i (later d ls i)) (length ls) i
  unfolding superedges later concat
  on-is =
      upward (λ i. records_on i ≡ flat (λ i. superedges_to i (scan (superedge_between d ls i) (length ls) (i + 1))) (length ls) i) (length ls)
      (λ i h. rw (drop_of_length-le ls h, flat_end (λ i. superedges_to i (scan (superedge_between d ls i) (length ls) (i + 1))) (length ls) i h))
      step
    where
      step : (i : ℕ) → i < length ls → records_on (i + 1) ≡ flat (λ i. superedges_to i (scan (superedge_between d ls i) (length ls) (i + 1))) (length ls) (i + 1) → records_on i ≡ flat (λ i. superedges_to i (scan (superedge_between d ls i) (length ls) (i + 1))) (length ls) i
      step i h below =
          rw (drop-cons ls i 0 h)
          (ap (λ (x : ℕ). concat (map superedge_record (superedges_from e i (G (get_or ls i 0)) x (map G (drop x ls)) ++ superedges e x (map G (drop x ls))))) (sym (add-one i))
          ∙ records_append (superedges_from e i (G (get_or ls i 0)) (i + 1) (map G (drop (i + 1) ls))) (superedges e (i + 1) (map G (drop (i + 1) ls)))
          ∙ ap₂ (λ (x y : List ℕ). x ++ y) (from_is i (i + 1) (omega arith)) below
          ∙ sym (flat_step (λ i. superedges_to i (scan (superedge_between d ls i) (length ls) (i + 1))) (length ls) i h))

  superedges_are : superedge_bytes d ls ≡ concat (map superedge_record (superedges e 0 (map G ls)))
  unfolding superedge_bytes
  superedges_are = sym (on-is 0)

module _ (g : Graph) (lst classes edges : List ℕ) (t : Truth g lst classes edges) where
  abbrev n : ℕ
  n = g.node_count

  abbrev vs : List ℕ
  vs = (visible g).nodes

  abbrev r : ℕ → ℕ → Bool
  r = similar (visible g)

  graph : Simple (visible g)
  graph = visible-simple g t.proper

  asc : Ascending vs
  asc = visible_ascending g

  eq : Equivalence vs r
  eq = equivalence (visible g) graph asc

  in-vs : (p : ℕ) → is_visible g p ≡ true → p ∈ vs
  in-vs p h = filter_intro (is_visible g) (nodes n) p (nodes_in_lem n p (visible_inside g p h)) h

  out-vs : (p : ℕ) → p ∈ vs → is_visible g p ≡ true
  out-vs p m = (filter_elim (is_visible g) (nodes n) p m).1

  below-n : (p : ℕ) → p ∈ vs → p < n
  below-n p m = visible_inside g p (out-vs p m)

  pub visible_in : (p : ℕ) → p < n → in_group lst n p ≡ is_visible g p
  unfolding in_group
  visible_in p h = step (decide (is_visible g p))
    where
      step : (is_visible g p ≡ true) ⊎ (is_visible g p ≡ false) → ltb (get_or lst p 0) n ≡ is_visible g p
      step (inl k) = lt-ltb (get_or lst p 0) n (omega (arith, t.visible-least p k, below-n _ (least_in vs r eq asc p (in-vs p k)))) ∙ sym k
      step (inr k) = le-ltb (get_or lst p 0) n (t.hidden_least p h k) ∙ sym k

  visible_is : visible_of n lst ≡ vs
  unfolding visible_of
  visible_is = scan-nodes (in_group lst n) n ∙ filter_cong (in_group lst n) (is_visible g) (nodes n) (λ p m. visible_in p (nodes_out n p m))

  leaders-is : leaders_of n lst ≡ leaders vs r
  unfolding leaders_of leads leaders
  leaders-is = scan-nodes (λ p. eqb (get_or lst p 0) p) n ∙ filter_cong _ _ (nodes n) (λ p m. step p (nodes_out n p m) (decide (is_visible g p))) ∙ sym (filter_and (λ p. eqb (least vs r p) p) (is_visible g) (nodes n))
    where
      step : (p : ℕ) → p < n → (is_visible g p ≡ true) ⊎ (is_visible g p ≡ false) → eqb (get_or lst p 0) p ≡ (is_visible g p && eqb (least vs r p) p)
      step p h (inl k) = rw (k, t.visible-least p k)
      step p h (inr k) = ne_eqb (get_or lst p 0) p (λ z. omega (arith, t.hidden_least p h k)) ∙ sym (rw k)

  -- of a leader
  module _ (l : ℕ) (m : l ∈ leaders vs r) where
    l-in : l ∈ vs
    l-in = (leader_out vs r eq asc l m).0

    l-least : least vs r l ≡ l
    l-least = (leader_out vs r eq asc l m).1

    before-l : (q : ℕ) → q < l → belongs lst l q ≡ false
    unfolding belongs
    before-l q h = ne_eqb (get_or lst q 0) l (λ z. step z (decide (is_visible g q)))
      where
        step : get_or lst q 0 ≡ l → (is_visible g q ≡ true) ⊎ (is_visible g q ≡ false) → ⊥
        step z (inl k) = omega (arith, t.visible-least q k, least-le vs r eq asc q q (in-vs q k) (similar_refl (visible g) q))
        step z (inr k) = let hl = below-n l l-in in omega (arith, t.hidden_least q (omega arith) k)

    members-is : members_of n lst l ≡ group vs r l
    unfolding members_of group belongs
    members-is =
        let hl = below-n l l-in in
        sym (scan_skip (belongs lst l) n l (omega arith) 0 (λ q a b. before-l q b) (omega arith))
        ∙ scan-nodes (belongs lst l) n
        ∙ filter_cong _ _ (nodes n) (λ p k. step p (nodes_out n p k) (decide (is_visible g p)))
        ∙ sym (filter_and (r l) (is_visible g) (nodes n))
      where
        there : (p : ℕ) → is_visible g p ≡ true → belongs lst l p ≡ true → r l p ≡ true
        there p k z =
            let x : least vs r p ≡ l = sym (t.visible-least p k) ∙ eqb-true (get_or lst p 0) l z in
            similar_sym (visible g) p l (rw x at (least_rel vs r eq asc p (in-vs p k)))

        back : (p : ℕ) → is_visible g p ≡ true → r l p ≡ true → belongs lst l p ≡ true
        back p k z = eq-eqb (get_or lst p 0) l (t.visible-least p k ∙ sym (least_eq vs r eq asc l p l-in (in-vs p k) z) ∙ l-least)

        step : (p : ℕ) → p < n → (is_visible g p ≡ true) ⊎ (is_visible g p ≡ false) → belongs lst l p ≡ (is_visible g p && r l p)
        step p h (inl k) = rw k (iff_eq (belongs lst l p) (r l p) (there p k) (back p k))
        step p h (inr k) = let hl = below-n l l-in in ne_eqb (get_or lst p 0) l (λ z. omega (arith, t.hidden_least p h k)) ∙ sym (rw k)

  groups-is : map (members_of n lst) (leaders_of n lst) ≡ algorithm1 (visible g)
  groups-is = rw leaders-is (map_cong (members_of n lst) (group vs r) (leaders vs r) members-is ∙ sym (algorithm1-classes (visible g) graph asc))

  pub truth_partition : Partition n lst edges
  unfolding file_nodes
  truth_partition = record {
    small = t.proper.small;
    size = t.size;
    rows = t.rows;
    once = ap (λ (gs : List (List ℕ)). length (concat gs)) groups-is ∙ length-concat_groups (visible g) graph asc ∙ sym (ap length visible_is);
  }

  -- the first two members tell a clique
  module _ (l : ℕ) (m : l ∈ leaders vs r) where
    first_two_lem : (h : List ℕ) → group vs r l ≡ h → first_two (edge_bit edges) h ≡ is_clique (kind_of (visible g).edge h)
    unfolding first_two kind_of is_clique group
    first_two_lem [] q = refl
    first_two_lem (a ∷ []) q = refl
    first_two_lem (a ∷ b ∷ xs) q =
        t.edge_is a b (out-vs a ga.0) (out-vs b gb.0)
        ∙ sym (clique_law (visible g) graph asc a b ga.0 gb.0 (λ z. omega (arith, below)) rab)
        ∙ ap (λ (x : List ℕ). is_clique (kind_of (visible g).edge x)) (sym (same_group vs r eq asc l a (l-in l m) ga.0 ga.1) ∙ q)
      where
        ga : (a ∈ vs) × (r l a ≡ true)
        ga = group_out vs r l a (rw q (Memᴰ.head refl))

        gb : (b ∈ vs) × (r l b ≡ true)
        gb = group_out vs r l b (rw q (Memᴰ.tail (Memᴰ.head refl)))

        rab : r a b ≡ true
        rab = similar_trans (visible g) graph a l b ga.0 (l-in l m) gb.0 (similar_sym (visible g) l a ga.1) gb.1

        ascends : Ascending (group vs r l) → Ascending (a ∷ b ∷ xs)
        ascends h = rw q at h

        below : a < b
        below = (ascends (filter_ascending (r l) vs asc)).0 b (Memᴰ.head refl)

    class-of : (visible g).class (head_or 0 (group vs r l)) ≡ get_or classes (head_or 0 (group vs r l)) 0
    unfolding visible_class
    class-of = let o = out-vs _ (group_out vs r l _ (head_or_in 0 (group vs r l) l (group_in_lem vs r l l (l-in l m) (similar_refl (visible g) l)))).0 in rw o (sym (t.class_is _ o))

    record_is : group_bytes (edge_bit edges) classes (group vs r l) ≡ group_record (visible g) (group vs r l)
    unfolding group_bytes group_record u16_bytes
    record_is = rw (first_two_lem (group vs r l) refl, class-of, kind_byte_lem (kind_of (visible g).edge (group vs r l)))

  records-are : concat (map (group_bytes (edge_bit edges) classes) (algorithm1 (visible g))) ≡ concat (map (group_record (visible g)) (algorithm1 (visible g)))
  unfolding concat
  records-are = rw (algorithm1-classes (visible g) graph asc) (go (leaders vs r) (λ l m. m))
    where
      go : (ls : List ℕ) → ((l : ℕ) → l ∈ ls → l ∈ leaders vs r) → concat (map (group_bytes (edge_bit edges) classes) (map (group vs r) ls)) ≡ concat (map (group_record (visible g)) (map (group vs r) ls))
      go [] h = refl
      go (l ∷ ls) h = ap₂ (λ (a b : List ℕ). a ++ b) (record_is l (h l (Memᴰ.head refl))) (go ls (λ x m. h x (Memᴰ.tail m)))

  groups_are : groups_bytes (edge_bit edges) classes (members_of n lst) (leaders_of n lst) ≡ concat (map (group_record (visible g)) (visible_groups g))
  unfolding visible_groups
  groups_are = groups_list (edge_bit edges) classes (members_of n lst) (leaders_of n lst) ∙ ap (λ (gs : List (List ℕ)). concat (map (group_bytes (edge_bit edges) classes) gs)) groups-is ∙ records-are

  -- leaders with an edge have adjacent groups
  meets-law : (i j : ℕ) → i < j → j < length (leaders vs r) → adjacent (visible g).edge (group vs r (get_or (leaders vs r) i 0)) (group vs r (get_or (leaders vs r) j 0)) ≡ superedge_between (edge_bit edges) (leaders vs r) i j
  unfolding superedge_between
  meets-law i j h k =
      let p = get_or (leaders vs r) i 0 in
      let q = get_or (leaders vs r) j 0 in
      let lp = leader_out vs r eq asc p (get_d_in (leaders vs r) i (omega arith)) in
      let lq = leader_out vs r eq asc q (get_d_in (leaders vs r) j k) in
      adjacent_law (visible g) graph asc p q lp.0 lq.0 (apart p q lp.0 lq.0 lp.1 lq.1 (get_d_ascending (leaders vs r) (leaders_ascending vs r eq asc) i j h k)) ∙ sym (t.edge_is p q (out-vs p lp.0) (out-vs q lq.0))
    where
      apart : (x y : ℕ) → x ∈ vs → y ∈ vs → least vs r x ≡ x → least vs r y ≡ y → x < y → r x y ≡ false
      apart x y mx my lx ly l = step (decide (r x y))
        where
          step : (r x y ≡ true) ⊎ (r x y ≡ false) → r x y ≡ false
          step (inl z) = let w : x ≡ y = leaders-apart vs r eq asc x y mx my lx ly z in absurd (omega arith)
          step (inr z) = z

  superedge-records : superedge_bytes (edge_bit edges) (leaders_of n lst) ≡ concat (map superedge_record (superedges (visible g).edge 0 (visible_groups g)))
  unfolding visible_groups
  superedge-records = rw leaders-is (superedges_are (visible g).edge (edge_bit edges) (group vs r) (leaders vs r) meets-law ∙ ap (λ (gs : List (List ℕ)). concat (map superedge_record (superedges (visible g).edge 0 gs))) (sym (algorithm1-classes (visible g) graph asc)))

  -- m, g, s, the file and its length
  pub nodes_is : file_nodes n lst ≡ length (visible g).nodes
  unfolding file_nodes
  nodes_is = ap length visible_is

  pub group-count_is : file_groups n lst ≡ length (visible_groups g)
  unfolding file_groups visible_groups
  group-count_is = ap length leaders-is ∙ sym (length_groups (visible g) graph asc)

  pub superedge_count_is : file_superedges n lst edges ≡ superedge_count g
  unfolding file_superedges superedge_count
  superedge_count_is = omega (arith, length-superedges (edge_bit edges) (leaders_of n lst), ap length superedge-records, length_superedge_records (superedges (visible g).edge 0 (visible_groups g)))

  pub file_is : file_of n lst classes edges ≡ release g
  unfolding file_of release encode visible_groups
  file_is = rw (nodes_is, group-count_is, groups_are, superedge-records)

  pub length_file_is : file_length n lst edges ≡ length (release g)
  length_file_is = sym (length_file n lst classes edges truth_partition) ∙ ap length file_is

  -- all that writing gives is what model's call gives
  pub written_is : (out : List ℕ) → written_file n lst classes edges out ≡ cond (ltb (length out) (length (release g))) (release_refused out 18) (released g out)
  unfolding written_file released
  written_is out = rw (length_file_is, nodes_is, group-count_is, superedge_count_is, file_is)
