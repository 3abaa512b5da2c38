-- Tables made of a graph are read as that graph.
use Rattle.std.specs.Prelude.{◌≡◌, refl, Bool, false, not, ◌&&◌, cond, List, [], ◌∷◌, ◌++◌, map, ◌⊎◌, ℕ, suc, zero, ◌+◌, ◌*◌, ◌/◌, ◌%◌, ◌^◌, ◌≤◌, ◌<◌, ltb, length, get_or}
use Rattle.std.proofs.Math.Path.{sym, ap, fun_ext}
use Rattle.std.proofs.Common.{ap₂, ◌∙◌, inl, inr, mul-zero, mul-suc, arith, length-append, get_or-append-add}
use Rattle.std.proofs.Math.Bool.{true}
use Rattle.std.specs.Bool.{beq}
use mathlib.Core.List.Memᴰ
use Rattle.std.proofs.Math.Nat.{pow-succ', div-div-eq-div-mul}
use Rattle.std.proofs.Math.Dec.{eqb}
use Rattle.std.proofs.Math.ListN.{get_or-append}
use borrow.Author.Tests.{eqb-true, eq-eqb, ne_eqb, ltb-true, ltb-false, lt-ltb, le-ltb, not-true}
use Rattle.model.specs.Lists.{◌∈◌, all, concat, filter, from, nodes, same_list}
use Rattle.model.specs.Graph.{Graph, Proper, View, max_classes, max_nodes, node_numbers, whole}
use Rattle.model.specs.Grouping.{algorithm1, closed_key, group, leaders, least, open_key, similar}
use Rattle.model.specs.Tables.{Tables, bit_at, edge_bit, edges_in, edges_of, graph_of, graph_with, group_in, groups_in, holds, is_graph, key_pair, keys_of, node_number, node_of, nodes_of, row_of, simple, tables_of, word}
use Rattle.model.proofs.TestLaws.{and_fst, and_snd, and_true, beq_eq, decide, eq_beq, iff_eq}
use Rattle.model.proofs.ListLaws.{Ascending, all_elim, all_intro, filter_cong, length_from, nodes_ascending, nodes_in_lem, nodes_out, same_eq, same_refl}
use Rattle.model.proofs.TwinLaws.{Simple}
use Rattle.model.proofs.ClassLaws.{Equivalence, leader_out, least_eq, least_rel}
use Rattle.model.proofs.SummaryLaws.{algorithm1-classes, equivalence}

double : (b : Bool) (k : ℕ) → cond b (2 ^ suc k) 0 ≡ 2 * cond b (2 ^ k) 0
double true k = pow-succ' 2 k
double false k = refl

pub word_step : (k : ℕ) (f : ℕ → Bool) → word (suc k) f ≡ cond (f 0) 1 0 + 2 * word k (λ i. f (suc i))
unfolding word
word_step zero f = omega arith
word_step (suc k) f = omega (arith, word_step k f, double (f (suc k)) k)

one_bit_lem : (b : Bool) (x y : ℕ) → x ≡ cond b 1 0 + 2 * y → eqb (x % 2) 1 ≡ b
one_bit_lem true x y h = eq-eqb (x % 2) 1 (omega arith)
one_bit_lem false x y h = ne_eqb (x % 2) 1 (omega arith)

one_half : (b : Bool) (x y : ℕ) → x ≡ cond b 1 0 + 2 * y → x / 2 ≡ y
one_half true x y h = omega arith
one_half false x y h = omega arith

pub bit_at-word : (k : ℕ) (f : ℕ → Bool) (i : ℕ) → i < k → bit_at (word k f) i ≡ f i
unfolding bit_at
bit_at-word zero f i h = absurd (omega arith)
bit_at-word (suc k) f zero h = ap (λ (x : ℕ). eqb (x % 2) 1) one ∙ one_bit_lem (f 0) (word (suc k) f) (word k (λ i. f (suc i))) (word_step k f)
  where
    one : word (suc k) f / 2 ^ 0 ≡ word (suc k) f
    one = omega arith
bit_at-word (suc k) f (suc i) h = ap (λ (x : ℕ). eqb (x % 2) 1) down ∙ bit_at-word k (λ i. f (suc i)) i (omega arith)
  where
    down : word (suc k) f / 2 ^ suc i ≡ word k (λ i. f (suc i)) / 2 ^ i
    down = rw (pow-succ' 2 i, ← div-div-eq-div-mul (word (suc k) f) 2 (2 ^ i), one_half (f 0) (word (suc k) f) (word k (λ i. f (suc i))) (word_step k f))

-- a table is a list of blocks of one length
pub length_blocks : (f : ℕ → List ℕ) (k : ℕ) → ((p : ℕ) → length (f p) ≡ k) → (l : List ℕ) → length (concat (map f l)) ≡ k * length l
unfolding concat
length_blocks f k h [] = sym (mul-zero k)
length_blocks f k h (x ∷ xs) = omega (arith, length-append (f x) (concat (map f xs)), h x, length_blocks f k h xs, mul-suc k (length xs))

pub get_d_blocks : (f : ℕ → List ℕ) (k : ℕ) → ((p : ℕ) → length (f p) ≡ k) → (l : List ℕ) (i w : ℕ) → i < length l → w < k → get_or (concat (map f l)) (k * i + w) 0 ≡ get_or (f (get_or l i 0)) w 0
unfolding concat
get_d_blocks f k h [] i w hi hw = absurd (omega arith)
get_d_blocks f k h (x ∷ xs) zero w hi hw = ap (λ (j : ℕ). get_or (f x ++ concat (map f xs)) j 0) at ∙ get_or-append (f x) (concat (map f xs)) 0 w (omega (arith, h x))
  where
    at : k * 0 + w ≡ w
    at = omega (arith, mul-zero k)
get_d_blocks f k h (x ∷ xs) (suc i) w hi hw = ap (λ (j : ℕ). get_or (f x ++ concat (map f xs)) j 0) at ∙ get_or-append-add (f x) (concat (map f xs)) (k * i + w) 0 ∙ get_d_blocks f k h xs i w (omega arith) hw
  where
    at : k * suc i + w ≡ length (f x) + (k * i + w)
    at = omega (arith, mul-suc k i, h x)

pub get_d_from : (a k i : ℕ) → i < k → get_or (from a k) i 0 ≡ a + i
unfolding from
get_d_from a zero i h = absurd (omega arith)
get_d_from a (suc k) zero h = omega arith
get_d_from a (suc k) (suc i) h = get_d_from (suc a) k i (omega arith) ∙ omega arith

pub get_d_nodes : (n i : ℕ) → i < n → get_or (nodes n) i 0 ≡ i
unfolding nodes
get_d_nodes n i h = get_d_from 0 n i h ∙ omega arith

pub length-nodes : (n : ℕ) → length (nodes n) ≡ n
unfolding nodes
length-nodes n = length_from 0 n

pub get_d_map_at : {A : Type 0} (f : ℕ → A) (d : A) (l : List ℕ) (i : ℕ) → i < length l → get_or (map f l) i d ≡ f (get_or l i 0)
get_d_map_at f d [] i h = absurd (omega arith)
get_d_map_at f d (x ∷ xs) zero h = refl
get_d_map_at f d (x ∷ xs) (suc i) h = get_d_map_at f d xs i (omega arith)

pub length-row : (b : Graph) (p : ℕ) → length (row_of b p) ≡ 8
unfolding row_of nodes from
length-row b p = refl

pub row_at : (b : Graph) (p w : ℕ) → w < 8 → get_or (row_of b p) w 0 ≡ word 64 (λ i. b.edge p (64 * w + i))
unfolding row_of
row_at b p w h = get_d_map_at (λ w. word 64 (λ i. b.edge p (64 * w + i))) 0 (nodes 8) w (rw length-nodes h) ∙ ap (λ (w : ℕ). word 64 (λ i. b.edge p (64 * w + i))) (get_d_nodes 8 w h)

pub edge_bit_lem : (b : Graph) (p q : ℕ) → p < b.node_count → q < 512 → edge_bit (edges_of b) p q ≡ b.edge p q
unfolding edge_bit edges_of
edge_bit_lem b p q hp hq =
    rw (get_d_blocks (row_of b) 8 (length-row b) (nodes b.node_count) p (q / 64) (rw length-nodes hp) (omega arith), get_d_nodes b.node_count p hp, row_at b p (q / 64) (omega arith))
    (bit_at-word 64 (λ i. b.edge p (64 * (q / 64) + i)) (q % 64) (omega arith) ∙ ap (b.edge p) (omega arith))

length_node : (b : Graph) (p : ℕ) → length (node_of b p) ≡ node_numbers
unfolding node_of
length_node b p = refl

-- the numbers of a node
pub number_at : (b : Graph) (p k : ℕ) → p < b.node_count → k < node_numbers → node_number (nodes_of b) p k ≡ get_or (node_of b p) k 0
unfolding node_number nodes_of
number_at b p k hp hk = rw (get_d_blocks (node_of b) node_numbers (length_node b) (nodes b.node_count) p k (rw length-nodes hp) hk, get_d_nodes b.node_count p hp)

pub mark_at_lem : (b : Graph) (p : ℕ) → p < b.node_count → node_number (nodes_of b) p 3 ≡ cond (b.hidden p) 1 0
mark_at_lem b p hp = number_at b p 3 hp (omega arith) ∙ (unfold node_of in refl)

pub class_at_lem : (b : Graph) (p : ℕ) → p < b.node_count → node_number (nodes_of b) p 4 ≡ b.class p
class_at_lem b p hp = number_at b p 4 hp (omega arith) ∙ (unfold node_of in refl)

mark_test : (t : Bool) → eqb (cond t 1 0) 1 ≡ t
mark_test true = refl
mark_test false = refl

-- reading back what a graph wrote
-- the other end of an edge is a node
pub edge_below : (g : Graph) → Proper g → (p q : ℕ) → g.edge p q ≡ true → q < g.node_count
edge_below g h p q t = h.inside q p (h.symmetric q p ∙ t)

module _ (b : Graph) (h : Proper b) where
  back-edge : (p q : ℕ) → (ltb p b.node_count && (ltb q b.node_count && edge_bit (edges_of b) p q)) ≡ b.edge p q
  back-edge p q = step (decide (ltb p b.node_count)) (decide (ltb q b.node_count))
    where
      outside : (b.edge p q ≡ true → ⊥) → false ≡ b.edge p q
      outside no_edge = turn (decide (b.edge p q))
        where
          turn : (b.edge p q ≡ true) ⊎ (b.edge p q ≡ false) → false ≡ b.edge p q
          turn (inl t) = absurd (no_edge t)
          turn (inr t) = sym t

      step : (ltb p b.node_count ≡ true) ⊎ (ltb p b.node_count ≡ false) → (ltb q b.node_count ≡ true) ⊎ (ltb q b.node_count ≡ false)
          → (ltb p b.node_count && (ltb q b.node_count && edge_bit (edges_of b) p q)) ≡ b.edge p q
      step (inl x) (inl y) = rw (x, y) (edge_bit_lem b p q (ltb-true p b.node_count x) (omega (arith, ltb-true q b.node_count y, h.small)))
      step (inl x) (inr y) = rw (x, y) (outside (λ t. omega (arith, edge_below b h p q t, ltb-false q b.node_count y)))
      step (inr x) y = rw x (outside (λ t. omega (arith, h.inside p q t, ltb-false p b.node_count x)))

  back-hidden : (mark : ℕ → ℕ) → ((p : ℕ) → p < b.node_count → mark p ≡ cond (b.hidden p) 1 0) → (p : ℕ) → (ltb p b.node_count && eqb (mark p) 1) ≡ b.hidden p
  back-hidden mark told p = step (decide (ltb p b.node_count)) (decide (b.hidden p))
    where
      step : (ltb p b.node_count ≡ true) ⊎ (ltb p b.node_count ≡ false) → (b.hidden p ≡ true) ⊎ (b.hidden p ≡ false) → (ltb p b.node_count && eqb (mark p) 1) ≡ b.hidden p
      step (inl x) y = rw (x, told p (ltb-true p b.node_count x)) (mark_test (b.hidden p))
      step (inr x) (inl y) = absurd (omega (arith, h.held p y, ltb-false p b.node_count x))
      step (inr x) (inr y) = rw (x, y)

  pub edges_in_lem : edges_in b.node_count (edges_of b) ≡ b.edge
  unfolding edges_in
  edges_in_lem = fun_ext (λ p. fun_ext (back-edge p))

  back-class : (class : ℕ → ℕ) → ((p : ℕ) → p < b.node_count → class p ≡ b.class p) → (p : ℕ) → cond (ltb p b.node_count) (class p) 0 ≡ b.class p
  back-class class told p = step (decide (ltb p b.node_count))
    where
      step : (ltb p b.node_count ≡ true) ⊎ (ltb p b.node_count ≡ false) → cond (ltb p b.node_count) (class p) 0 ≡ b.class p
      step (inl x) = rw x (told p (ltb-true p b.node_count x))
      step (inr x) = rw x (sym (h.unclassed p (ltb-false p b.node_count x)))

  -- by its edges, marks and classes
  pub labels_back : (mark class : ℕ → ℕ) → ((p : ℕ) → p < b.node_count → mark p ≡ cond (b.hidden p) 1 0) → ((p : ℕ) → p < b.node_count → class p ≡ b.class p) → graph_with b.node_count (edges_of b) mark class ≡ b
  labels_back mark class marks classes = λ i. record { node_count = b.node_count; edge = edges_in_lem i; hidden = fun_ext (back-hidden mark marks) i; class = fun_ext (back-class class classes) i }

  pub read_back : graph_of b.node_count (tables_of b) ≡ b
  unfolding graph_of tables_of
  read_back = labels_back (λ p. node_number (nodes_of b) p 3) (λ p. node_number (nodes_of b) p 4) (mark_at_lem b) (class_at_lem b)

pub length_edges : (b : Graph) → length (edges_of b) ≡ 8 * b.node_count
unfolding edges_of
length_edges b = omega (arith, length_blocks (row_of b) 8 (length-row b) (nodes b.node_count), length-nodes b.node_count)

pub length-nodes_of : (b : Graph) → length (nodes_of b) ≡ node_numbers * b.node_count
unfolding nodes_of
length-nodes_of b = omega (arith, length_blocks (node_of b) node_numbers (length_node b) (nodes b.node_count), length-nodes b.node_count)

pub length_keys : (b : Graph) → length (keys_of b) ≡ 2 * b.node_count
unfolding keys_of key_pair
length_keys b = omega (arith, length_blocks (key_pair b) 2 (λ p. refl) (nodes b.node_count), length-nodes b.node_count)

-- the test of a simple graph
pub simple_test : (g : Graph) → Proper g → simple g ≡ true
unfolding simple
simple_test g h = all_intro (nodes g.node_count) _ (λ p m. and_true (ap not (h.irreflexive p)) (all_intro (nodes g.node_count) _ (λ q k. eq_beq (g.edge p q) (g.edge q p) (h.symmetric p q))))

pub graph_test : (g : Graph) → Proper g → is_graph g ≡ true
unfolding is_graph
graph_test g h = and_true (simple_test g h) (all_intro (nodes g.node_count) _ (λ p m. lt-ltb (g.class p) max_classes (h.classed p)))

module _ (g : Graph) (h : is_graph g ≡ true) where
  pub graph-simple : simple g ≡ true
  unfolding is_graph
  graph-simple = and_fst (simple g) _ h

  pub graph_class : (p : ℕ) → p < g.node_count → g.class p < max_classes
  unfolding is_graph
  graph_class p l = ltb-true (g.class p) max_classes (all_elim (nodes g.node_count) _ (and_snd (simple g) _ h) p (nodes_in_lem g.node_count p l))

module _ (g : Graph) (h : simple g ≡ true) where
  simple-row : (p : ℕ) → p < g.node_count → (not (g.edge p p) && all (nodes g.node_count) (λ q. beq (g.edge p q) (g.edge q p))) ≡ true
  unfolding simple
  simple-row p l = all_elim (nodes g.node_count) _ h p (nodes_in_lem g.node_count p l)

  pub simple_loop : (p : ℕ) → p < g.node_count → g.edge p p ≡ false
  simple_loop p l = not-true (g.edge p p) (and_fst (not (g.edge p p)) _ (simple-row p l))

  pub simple_edge : (p q : ℕ) → p < g.node_count → q < g.node_count → g.edge p q ≡ g.edge q p
  simple_edge p q l m = beq_eq (g.edge p q) (g.edge q p) (all_elim (nodes g.node_count) (λ q. beq (g.edge p q) (g.edge q p)) (and_snd (not (g.edge p p)) _ (simple-row p l)) q (nodes_in_lem g.node_count q m))

-- the same of one by its edges, marks and classes, which lie inside
module _ (n : ℕ) (edges : List ℕ) (mark class : ℕ → ℕ) (small : n ≤ max_nodes) (h : is_graph (graph_with n edges mark class) ≡ true) where
  abbrev G : Graph
  G = graph_with n edges mark class

  pub labels_proper : Proper (graph_with n edges mark class)
  unfolding edges_in
  labels_proper = record {
    small = small;
    symmetric = λ p q. iff_eq (G.edge p q) (G.edge q p) (turn p q) (turn q p);
    irreflexive = λ p. self p (decide (G.edge p p));
    inside = λ p q e. (ends p q e).0;
    held = λ p e. ltb-true p n (and_fst (ltb p n) _ e);
    classed = λ p. below p (decide (ltb p n));
    unclassed = λ p l. rw (le-ltb p n l);
  }
    where
      ends : (p q : ℕ) → G.edge p q ≡ true → (p < n) × (q < n)
      ends p q e = (ltb-true p n (and_fst (ltb p n) _ e), ltb-true q n (and_fst (ltb q n) _ (and_snd (ltb p n) _ e)))

      turn : (p q : ℕ) → G.edge p q ≡ true → G.edge q p ≡ true
      turn p q e = let i = ends p q e in sym (simple_edge G (graph-simple G h) p q i.0 i.1) ∙ e

      self : (p : ℕ) → (G.edge p p ≡ true) ⊎ (G.edge p p ≡ false) → G.edge p p ≡ false
      self p (inl e) = simple_loop G (graph-simple G h) p (ends p p e).0
      self p (inr e) = e

      below : (p : ℕ) → (ltb p n ≡ true) ⊎ (ltb p n ≡ false) → cond (ltb p n) (class p) 0 < max_classes
      below p (inl x) = graph_class G h p (ltb-true p n x)
      below p (inr x) = rw x (omega arith)

-- tables of a proper graph hold it
pub proper_holds : (g : Graph) → Proper g → holds g.node_count (tables_of g) ≡ true
unfolding holds
proper_holds g h = rw (read_back g h) (and_true (graph_test g h) (and_true (same_refl (tables_of g).edges) (and_true (same_refl (tables_of g).nodes) (same_refl (tables_of g).keys))))

-- tables that hold a graph are that graph's, and it is proper
module _ (n : ℕ) (t : Tables) (h : holds n t ≡ true) where
  pub held_tables : t ≡ tables_of (graph_of n t)
  unfolding holds
  held_tables =
      let a = and_snd (is_graph (graph_of n t)) _ h in
      let b = and_snd (same_list t.edges (tables_of (graph_of n t)).edges) _ a in
      let e = same_eq t.edges (tables_of (graph_of n t)).edges (and_fst (same_list t.edges (tables_of (graph_of n t)).edges) _ a) in
      let d = same_eq t.nodes (tables_of (graph_of n t)).nodes (and_fst (same_list t.nodes (tables_of (graph_of n t)).nodes) _ b) in
      let k = same_eq t.keys (tables_of (graph_of n t)).keys (and_snd (same_list t.nodes (tables_of (graph_of n t)).nodes) _ b) in
      λ i. record { edges = e i; nodes = d i; keys = k i }

  pub held_proper : n ≤ max_nodes → Proper (graph_of n t)
  unfolding holds graph_of
  held_proper small = labels_proper n t.edges (λ p. node_number t.nodes p 3) (λ p. node_number t.nodes p 4) small (and_fst (is_graph (graph_of n t)) _ h)

pub proper_simple : (g : Graph) → Proper g → Simple (whole g)
proper_simple g h = record { symmetric = λ p q m k. h.symmetric p q; irreflexive = λ p m. h.irreflexive p }

-- the groups that the node table of a graph tells are Algorithm 1's
pub least_at : (g : Graph) (p : ℕ) → p < g.node_count → node_number (nodes_of g) p 0 ≡ least (whole g).nodes (similar (whole g)) p
least_at g p h = number_at g p 0 h (omega arith) ∙ (unfold node_of group_in least in refl)

pub map_cong : (f h : ℕ → List ℕ) (l : List ℕ) → ((p : ℕ) → p ∈ l → f p ≡ h p) → map f l ≡ map h l
map_cong f h [] s = refl
map_cong f h (x ∷ xs) s = ap₂ ◌∷◌ (s x (Memᴰ.head refl)) (map_cong f h xs (λ p m. s p (Memᴰ.tail m)))

module _ (g : Graph) (h : Proper g) where
  abbrev vs : List ℕ
  vs = (whole g).nodes

  abbrev r : ℕ → ℕ → Bool
  r = similar (whole g)

  abbrev eq : Equivalence vs r
  eq = equivalence (whole g) (proper_simple g h) (nodes_ascending g.node_count)

  pub least-told : (p : ℕ) → p ∈ vs → node_number (nodes_of g) p 0 ≡ least vs r p
  least-told p m = least_at g p (nodes_out g.node_count p m)

  pub group-told : (l : ℕ) → l ∈ leaders vs r → filter (λ p. eqb (node_number (nodes_of g) p 0) l) vs ≡ group vs r l
  unfolding group
  group-told l m = filter_cong _ (r l) vs (λ p k. ap (λ (x : ℕ). eqb x l) (least-told p k) ∙ iff_eq (eqb (least vs r p) l) (r l p) (there p k) (back p k))
    where
      asc : Ascending vs
      asc = nodes_ascending g.node_count

      leads : (l ∈ vs) × (least vs r l ≡ l)
      leads = leader_out vs r eq asc l m

      there : (p : ℕ) → p ∈ vs → eqb (least vs r p) l ≡ true → r l p ≡ true
      there p k t = eq.symmetric p l (rw (eqb-true (least vs r p) l t) at (least_rel vs r eq asc p k))

      back : (p : ℕ) → p ∈ vs → r l p ≡ true → eqb (least vs r p) l ≡ true
      back p k t = eq-eqb (least vs r p) l (sym (least_eq vs r eq asc l p leads.0 k t) ∙ leads.1)

  pub groups_told : groups_in g.node_count (nodes_of g) ≡ algorithm1 (whole g)
  unfolding groups_in leaders
  groups_told =
      ap (map _) (filter_cong _ (λ p. eqb (least vs r p) p) vs (λ p m. ap (λ (x : ℕ). eqb x p) (least-told p m)))
      ∙ map_cong _ (group vs r) (leaders vs r) group-told
      ∙ sym (algorithm1-classes (whole g) (proper_simple g h) (nodes_ascending g.node_count))

-- keys have 32 bits
pub key_fits : (v : View) (p : ℕ) → (open_key v p < 2 ^ 32) × (closed_key v p < 2 ^ 32)
unfolding open_key closed_key
key_fits v p = (omega arith, omega arith)
