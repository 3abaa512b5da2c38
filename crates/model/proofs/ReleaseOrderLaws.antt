-- A release is a file by its groups and superedges, which stand in order.
use Rattle.std.specs.Prelude.{◌≡◌, Bool, ◌||◌, ◌⊎◌, ℕ, suc, ◌+◌, ◌*◌, ◌≤◌, ◌<◌, leb}
use Rattle.std.proofs.Math.Path.{refl, ap, ap₂}
use Rattle.std.proofs.Common.{sym, ◌∙◌, inl, inr, arith, lt-ltb, leb-false, le-leb}
use Rattle.std.proofs.Math.Bool.{true, false, cond}
use mathlib.Core.List.Memᴰ
use mathlib.Core.List.{List, [], ◌∷◌, ◌++◌, map}
use Rattle.std.proofs.Math.ListN.{length}
use Rattle.model.specs.Lists.{◌∈◌, concat, head_or, member, nodes}
use Rattle.model.specs.Graph.{Graph, Proper, View, max_classes, max_nodes}
use Rattle.model.specs.Grouping.{Kind, adjacent, algorithm1, clique, group, independent, is_clique, kind_of, leaders, least, similar, singleton}
use Rattle.model.specs.Release.{encode, end_record, group_record, head_record, is_visible, kind_byte, release, superedge_record, superedges, superedges_from, u16, visible}
use Rattle.model.specs.Reading.{Head, is_release, u16_at}
use Rattle.model.specs.InOrder.{file_by, follows, group_fits, groups_fit, in_order, marked_record, members_in, pair_key, superedges_fit, told_groups, told_superedges}
use Rattle.model.proofs.TestLaws.{and_true, decide}
use Rattle.model.proofs.ListLaws.{Ascending, filter_ascending, filter_elim, head_or-any, member_elim, nodes_out}
use Rattle.model.proofs.TwinLaws.{Simple, similar_refl}
use Rattle.model.proofs.ClassLaws.{Equivalence, group_in_lem, group_out, leader_out, leaders_ascending, least_eq, least-le}
use Rattle.model.proofs.SummaryLaws.{algorithm1-classes, equivalence}
use Rattle.model.proofs.ReleaseLaws.{length-concat_groups, visible_ascending, visible-classed, visible-simple}
use Rattle.model.proofs.ReadingLaws.{length_marked, marked, members_back}
use Rattle.model.proofs.ReadBackLaws.{only_releases}
use Rattle.model.proofs.InOrderLaws.{MembersFitting, file_count, file_told_groups, file_told_superedges, fitting_members, groups_few}

-- the superedges of groups stand in order
module _ (e : ℕ → ℕ → Bool) (most : ℕ) (bound : most ≤ 65536) where
  follows_by : (last i j : ℕ) → i < j → j < most → last < pair_key i j → follows most last i j ≡ true
  unfolding follows
  follows_by last i j a b l = and_true (lt-ltb i j a) (and_true (lt-ltb j most b) (lt-ltb last (pair_key i j) l))

  superedges-from : (i : ℕ) (g : List ℕ) (hs : List (List ℕ)) (j last : ℕ) (rest : List (ℕ × ℕ)) → i < j → j + length hs ≤ most → last < pair_key i j → ((x : ℕ) → x < suc i * 65536 → superedges_fit most x rest ≡ true) → superedges_fit most last (superedges_from e i g j hs ++ rest) ≡ true
  unfolding superedges_from
  superedges-from i g [] j last rest a b l f = f last (unfold pair_key in omega arith)
  superedges-from i g (h ∷ hs) j last rest a b l f = step (adjacent e g h) (λ x k. superedges-from i g hs (suc j) x rest (omega arith) (omega arith) k f)
    where
      step : (t : Bool) → ((x : ℕ) → x < pair_key i (suc j) → superedges_fit most x (superedges_from e i g (suc j) hs ++ rest) ≡ true) → superedges_fit most last (cond t ((i, j) ∷ superedges_from e i g (suc j) hs) (superedges_from e i g (suc j) hs) ++ rest) ≡ true
      step true more = unfold superedges_fit in and_true (follows_by last i j a (omega arith) l) (more (pair_key i j) (unfold pair_key in omega arith))
      step false more = more last (unfold pair_key in omega arith)

  pub superedges_fit_lem : (gs : List (List ℕ)) (i last : ℕ) → i + length gs ≤ most → last < pair_key i (suc i) → superedges_fit most last (superedges e i gs) ≡ true
  unfolding superedges
  superedges_fit_lem [] i last b l = unfold superedges_fit in refl
  superedges_fit_lem (g ∷ gs) i last b l = superedges-from i g gs (suc i) last (superedges e (suc i) gs) (omega arith) (omega arith) l (λ x k. superedges_fit_lem gs (suc i) x (omega arith) (unfold pair_key in omega arith))

-- Algorithm 1's groups by their marks
module _ (v : View) (g : Simple v) (asc : Ascending v.nodes) where
  abbrev r : ℕ → ℕ → Bool
  r = similar v

  abbrev vs : List ℕ
  vs = v.nodes

  eq : Equivalence v.nodes (similar v)
  eq = equivalence v g asc

  record-marked : (h : List ℕ) → group_record v h ≡ marked_record (marked v h)
  unfolding group_record marked_record
  record-marked h = ap (λ (k : ℕ). 0x47 ∷ k ∷ (u16 (length h) ++ (u16 (v.class (head_or 0 h)) ++ concat (map u16 h)))) (byte (kind_of v.edge h))
    where
      byte : (k : Kind) → kind_byte k ≡ cond (is_clique k) 0x43 0x49
      byte singleton = unfold kind_byte is_clique in refl
      byte independent = unfold kind_byte is_clique in refl
      byte clique = unfold kind_byte is_clique in refl

  records-marked : (hs : List (List ℕ)) → concat (map (group_record v) hs) ≡ concat (map marked_record (map (marked v) hs))
  unfolding concat
  records-marked [] = refl
  records-marked (h ∷ hs) = ap₂ ◌++◌ (record-marked h) (records-marked hs)

  pub encode_file : (n : ℕ) → encode n v (algorithm1 v) ≡ file_by n (map (marked v) (algorithm1 v)) (superedges v.edge 0 (algorithm1 v))
  unfolding encode file_by members_in
  encode_file n =
      ap₂ ◌++◌
      (ap₂ (head_record n) (sym (length-concat_groups v g asc) ∙ ap (λ (l : List (List ℕ)). length (concat l)) (sym (members_back v g asc (algorithm1 v)))) (sym (length_marked v g asc (algorithm1 v))))
      (ap (λ (l : List ℕ). l ++ (concat (map superedge_record (superedges v.edge 0 (algorithm1 v))) ++ end_record)) (records-marked (algorithm1 v)))

  -- a clique has two members
  marked-size : (h : List ℕ) → 1 ≤ length h → cond (is_clique (kind_of v.edge h)) 2 1 ≤ length h
  unfolding kind_of is_clique
  marked-size h l = step (decide (leb (length h) 1))
    where
      two : 2 ≤ length h → (b : Bool) → cond (is_clique (cond b clique independent)) 2 1 ≤ length h
      two k true = k
      two k false = l

      step : (leb (length h) 1 ≡ true) ⊎ (leb (length h) 1 ≡ false) → cond (is_clique (cond (leb (length h) 1) singleton (cond (adjacent v.edge h h) clique independent))) 2 1 ≤ length h
      step (inl t) = rw t l
      step (inr t) = rw t (two (leb-false (length h) 1 t) (adjacent v.edge h h))

  some : (h : List ℕ) (p : ℕ) → p ∈ h → 1 ≤ length h
  some [] p m = elim m [ ]
  some (x ∷ xs) p m = omega arith

  module _ (n : ℕ) (small : (p : ℕ) → p ∈ v.nodes → p < n) (bounded : (p : ℕ) → v.class p < max_classes) where
    classes-fit : (ls : List ℕ) (low : ℕ) (taken : ℕ → Bool) → ((x : ℕ) → x ∈ ls → (x ∈ vs) × (least vs r x ≡ x)) → Ascending ls → ((x : ℕ) → x ∈ ls → low ≤ x) → ((p : ℕ) → p ∈ vs → least vs r p ∈ ls → taken p ≡ false)
        → groups_fit n taken low (map (marked v) (map (group vs r) ls)) ≡ true
    unfolding groups_fit group_fits
    classes-fit [] low taken led a up free = refl
    classes-fit (x ∷ xs) low taken led a up free =
        and_true (and_true (lt-ltb _ max_classes (bounded (head_or 0 (group vs r x)))) (and_true (le-leb _ (length (group vs r x)) (marked-size (group vs r x) (some (group vs r x) x own))) (fitting_members n taken low (group vs r x) members)))
        (classes-fit xs (suc (head_or 0 (group vs r x))) (λ p. member p (group vs r x) || taken p) (λ y m. led y (Memᴰ.tail m)) a.1 above rest)
      where
        here : (x ∈ vs) × (least vs r x ≡ x)
        here = led x (Memᴰ.head refl)

        own : x ∈ group vs r x
        own = group_in_lem vs r x x here.0 (similar_refl v x)

        first : head_or 0 (group vs r x) ≡ x
        first = head_or-any 0 x (group vs r x) x own ∙ (unfold least in here.1)

        leads : (p : ℕ) → p ∈ group vs r x → least vs r p ≡ x
        leads p m = let o = group_out vs r x p m in sym (least_eq vs r eq asc x p here.0 o.0 o.1) ∙ here.1

        above : (y : ℕ) → y ∈ xs → suc (head_or 0 (group vs r x)) ≤ y
        above y m = omega (arith, first, a.0 y m)

        members : MembersFitting n taken low (group vs r x)
        members = record {
          ascends = unfold group in filter_ascending (r x) vs asc;
          from_low = λ p m. let o = group_out vs r x p m in omega (arith, up x (Memᴰ.head refl), here.1, least-le vs r eq asc x p o.0 o.1);
          below = λ p m. small p (group_out vs r x p m).0;
          free = λ p m. free p (group_out vs r x p m).0 (Memᴰ.head (leads p m));
        }

        rest : (p : ℕ) → p ∈ vs → least vs r p ∈ xs → (member p (group vs r x) || taken p) ≡ false
        rest p mp m = step (decide (member p (group vs r x)))
          where
            step : (member p (group vs r x) ≡ true) ⊎ (member p (group vs r x) ≡ false) → (member p (group vs r x) || taken p) ≡ false
            step (inl t) = absurd (omega (arith, leads p (member_elim p (group vs r x) t), a.0 (least vs r p) m))
            step (inr t) = rw t (free p mp (Memᴰ.tail m))

    pub algorithm1_fits : groups_fit n (λ p. false) 0 (map (marked v) (algorithm1 v)) ≡ true
    algorithm1_fits = rw (algorithm1-classes v g asc) (classes-fit (leaders vs r) 0 (λ p. false) (leader_out vs r eq asc) (leaders_ascending vs r eq asc) (λ x m. omega arith) (λ p mp m. refl))

    pub algorithm1_few : length (algorithm1 v) ≤ n
    algorithm1_few = omega (arith, length_marked v g asc (algorithm1 v), groups_few n (map (marked v) (algorithm1 v)) algorithm1_fits)

    pub algorithm1-in_order : n ≤ max_nodes → in_order n (map (marked v) (algorithm1 v)) (superedges v.edge 0 (algorithm1 v)) ≡ true
    unfolding in_order
    algorithm1-in_order l =
        and_true (le-leb n max_nodes l) (and_true algorithm1_fits
        (superedges_fit_lem v.edge (length (map (marked v) (algorithm1 v))) (omega (arith, length_marked v g asc (algorithm1 v), algorithm1_few)) (algorithm1 v) 0 0 (omega (arith, length_marked v g asc (algorithm1 v))) (unfold pair_key in omega arith)))

-- the release of a graph
module _ (b : Graph) (h : Proper b) where
  pub release_file : release b ≡ file_by b.node_count (map (marked (visible b)) (algorithm1 (visible b))) (superedges (visible b).edge 0 (algorithm1 (visible b)))
  unfolding release
  release_file = encode_file (visible b) (visible-simple b h) (visible_ascending b) b.node_count

  pub visible_node : (p : ℕ) → p ∈ (visible b).nodes → p < b.node_count
  visible_node p m = nodes_out b.node_count p (filter_elim (is_visible b) (nodes b.node_count) p m).0

  pub visible-in_order : in_order b.node_count (map (marked (visible b)) (algorithm1 (visible b))) (superedges (visible b).edge 0 (algorithm1 (visible b))) ≡ true
  visible-in_order = algorithm1-in_order (visible b) (visible-simple b h) (visible_ascending b) b.node_count visible_node (visible-classed b h) h.small

pub release-in_order : (s : List ℕ) → is_release s ≡ true → (in_order (u16_at s 2) (told_groups s) (told_superedges s) ≡ true) × (s ≡ file_by (u16_at s 2) (told_groups s) (told_superedges s))
release-in_order s t = let o = only_releases s t in by o.0 o.1 (o.2 ∙ release_file o.0 o.1)
  where
    by : (b : Graph) (h : Proper b) → s ≡ file_by b.node_count (map (marked (visible b)) (algorithm1 (visible b))) (superedges (visible b).edge 0 (algorithm1 (visible b)))
        → (in_order (u16_at s 2) (told_groups s) (told_superedges s) ≡ true) × (s ≡ file_by (u16_at s 2) (told_groups s) (told_superedges s))
    by b h e =
        let gs : List (Head × List ℕ) = map (marked (visible b)) (algorithm1 (visible b)) in
        let js : List (ℕ × ℕ) = superedges (visible b).edge 0 (algorithm1 (visible b)) in
        let n = b.node_count in
        rw (ap (λ (x : List ℕ). u16_at x 2) e ∙ file_count n gs js, ap told_groups e ∙ file_told_groups n gs js, ap told_superedges e ∙ file_told_superedges n gs js) (visible-in_order b h, e)
