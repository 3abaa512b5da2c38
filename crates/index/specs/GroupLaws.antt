-- What queries read off the tables is what the model says of the graph.
use Rattle.std.specs.Prelude.{◌≡◌, refl, Bool, true, false, ◌≢◌, ◌⊎◌, ℕ, ◌≤◌, ◌<◌, length}
use Rattle.std.proofs.Math.Path.{sym, ap, ap₂}
use Rattle.std.proofs.Common.{subst, ◌∙◌, inl, inr, arith}
use Rattle.std.proofs.Math.Bool.{cond}
use mathlib.Core.List.Memᴰ
use mathlib.Core.List.{List, [], ◌∷◌}
use Rattle.std.proofs.Math.Dec.{eqb}
use borrow.Author.Tests.{eqb-true, eqb-false, lt-ltb, le-leb, lt-leb}
use Rattle.model.specs.Lists.{◌∈◌, filter, nodes}
use Rattle.model.specs.Graph.{Graph, whole}
use Rattle.model.specs.Grouping.{similar, group, least, adjacent, kind_of, is_clique, clique, independent}
use Rattle.model.specs.Tables.{Tables, edge_bit, edges_in, node_number, graph_of, group_in, nodes_of, tables_of}
use Rattle.model.specs.Queries.{leader_in, kind_number}
use Rattle.model.proofs.TestLaws.{decide}
use Rattle.model.proofs.ListLaws.{Ascending, filter_ascending, nodes_in_lem, nodes_out, nodes_ascending}
use Rattle.model.proofs.TwinLaws.{Simple}
use Rattle.model.proofs.ClassLaws.{Equivalence, group_in_lem, group_out, least_in, least_rel, least-leads, same_group}
use Rattle.model.proofs.SummaryLaws.{equivalence, clique_law}
use Rattle.model.proofs.TableLaws.{proper_simple, least_at, group-told}
use Rattle.buffers.specs.ScanLaws.{scan-nodes}
use Rattle.rings.specs.Ring.{up, Best, Table, Of}
use Rattle.rings.specs.RingLaws.{up_circle}
use Rattle.rings.specs.NodesLaws.{of_nodes}
use Rattle.buffers.specs.Scan.{scan}
use Rattle.tables.specs.Lent.{Held}
use Rattle.queries.specs.Query.{led_by, kind_by}

-- an ascending list with one member, or with two different ones
one_member : (l : ℕ) (s : List ℕ) → Ascending s → ((q : ℕ) → q ∈ s → q ≡ l) → length s ≤ 1
one_member l [] a same = omega arith
one_member l (x ∷ []) a same = omega arith
one_member l (x ∷ (y ∷ s)) a same = absurd (omega (arith, a.0 y (Memᴰ.head refl), same x (Memᴰ.head refl), same y (Memᴰ.tail (Memᴰ.head refl))))

two_members : (l q : ℕ) (s : List ℕ) → l ∈ s → q ∈ s → q ≢ l → 1 < length s
two_members l q [] a b d = absurd (Memᴰ.not-nil a)
two_members l q (x ∷ []) a b d = absurd (d (Memᴰ.eq_of_singleton b ∙ sym (Memᴰ.eq_of_singleton a)))
two_members l q (x ∷ (y ∷ s)) a b d = omega arith

-- the number of a kind, by the size and whether it is a clique
kind_small : (e : ℕ → ℕ → Bool) (s : List ℕ) → length s ≤ 1 → kind_number (kind_of e s) ≡ 0
unfolding kind_number kind_of
kind_small e s h = rw (le-leb (length s) 1 h)

kind_large : (e : ℕ → ℕ → Bool) (s : List ℕ) → 1 < length s → kind_number (kind_of e s) ≡ cond (is_clique (kind_of e s)) 2 1
unfolding kind_number kind_of is_clique
kind_large e s h = rw (lt-leb (length s) 1 h) (step (adjacent e s s))
  where
    step : (b : Bool) → kind_number (cond b clique independent) ≡ cond (is_clique (cond b clique independent)) 2 1
    step true = refl
    step false = refl

-- the group of p, by the table of a graph
module _ (n : ℕ) (t : Tables) (h : Held n t) (p : ℕ) (hp : p < n) where
  abbrev g : Graph
  g = graph_of n t

  abbrev vs : List ℕ
  vs = nodes n

  abbrev r : ℕ → ℕ → Bool
  r = similar (whole (graph_of n t))

  simple : Simple (whole (graph_of n t))
  unfolding graph_of
  simple = proper_simple (graph_of n t) h.proper

  asc : Ascending (nodes n)
  asc = nodes_ascending n

  eq : Equivalence (nodes n) (similar (whole (graph_of n t)))
  unfolding graph_of
  eq = equivalence (whole (graph_of n t)) simple asc

  same_nodes : t.nodes ≡ nodes_of (graph_of n t)
  unfolding tables_of
  same_nodes = ap (λ (x : Tables). x.nodes) h.same

  abbrev l : ℕ
  l = least (nodes n) (similar (whole (graph_of n t))) p

  p-in : p ∈ nodes n
  p-in = nodes_in_lem n p hp

  l-in : l ∈ nodes n
  l-in = least_in vs r eq asc p p-in

  pub l_below : l < n
  l_below = nodes_out n l l-in

  pub least_is : node_number t.nodes p 0 ≡ l
  unfolding graph_of
  least_is = ap (λ (x : List ℕ). node_number x p 0) same_nodes ∙ least_at g p hp

  pub leader_told : node_number t.nodes p 0 ≡ leader_in (whole (graph_of n t)) p
  unfolding graph_of leader_in
  leader_told = least_is

  group-l : group vs r l ≡ group_in g p
  unfolding group_in graph_of
  group-l = sym (same_group vs r eq asc p l p-in l-in (least_rel vs r eq asc p p-in))

  pub led_group : scan (led_by t.nodes (node_number t.nodes p 0)) n 0 ≡ group_in (graph_of n t) p
  unfolding led_by graph_of
  led_group =
      scan-nodes (led_by t.nodes (node_number t.nodes p 0)) n
      ∙ ap₂ (λ (x : List ℕ) (m : ℕ). filter (λ q. eqb (node_number x q 0) m) vs) same_nodes least_is
      ∙ group-told g h.proper l (least-leads vs r eq asc p p-in)
      ∙ group-l

  -- the member that follows the least one
  abbrev m : ℕ
  m = node_number t.nodes l 1

  table : Table n (Of n (similar (whole (graph_of n t)))) (nodes_of (graph_of n t))
  unfolding graph_of
  table = of_nodes g h.proper

  follows : Best (Of n (similar (whole (graph_of n t))) l) (λ q. up n l q) m
  follows = subst (λ (x : List ℕ). Best (Of n (similar (whole (graph_of n t))) l) (λ q. up n l q) (node_number x l 1)) (sym same_nodes) (table.next l l_below)

  pub m_below : m < n
  m_below = follows.mem.1

  m-in : m ∈ group_in g p
  m-in = rw (← group-l) (group_in_lem vs r l m (nodes_in_lem n m m_below) follows.mem.2)

  l-own : l ∈ group_in g p
  l-own = rw (← group-l) (group_in_lem vs r l l l-in (eq.reflexive l))

  alone : m ≡ l → (q : ℕ) → q ∈ group_in g p → q ≡ l
  alone e q k =
      let x = group_out vs r l q (rw (← group-l) at k) in
      let hq = nodes_out n q x.0 in
      let near = follows.near q (l_below, hq, x.1) in
      sym ((up_circle n).full l_below hq (omega (arith, near, (up_circle n).self l_below, (up_circle n).cap l_below hq, ap (λ (y : ℕ). up n l y) e)))

  pub kind_told : kind_by t.edges t.nodes (node_number t.nodes p 0) ≡ kind_number (kind_of (graph_of n t).edge (group_in (graph_of n t) p))
  kind_told = ap (kind_by t.edges t.nodes) least_is ∙ step (decide (eqb m l))
    where
      ordered : Ascending (group_in g p)
      ordered = unfold group_in group graph_of in filter_ascending _ vs asc

      bit : (graph_of n t).edge l m ≡ edge_bit t.edges l m
      bit = unfold graph_of edges_in in rw (lt-ltb l n l_below, lt-ltb m n m_below)

      small : eqb m l ≡ true → kind_by t.edges t.nodes l ≡ 0
      small x = unfold kind_by in rw x

      large : eqb m l ≡ false → kind_by t.edges t.nodes l ≡ cond (edge_bit t.edges l m) 2 1
      large x = unfold kind_by in rw x

      step : (eqb m l ≡ true) ⊎ (eqb m l ≡ false) → kind_by t.edges t.nodes l ≡ kind_number (kind_of (graph_of n t).edge (group_in g p))
      step (inl x) = small x ∙ sym (kind_small (graph_of n t).edge (group_in g p) (one_member l (group_in g p) ordered (alone (eqb-true m l x))))
      step (inr x) =
          let d = eqb-false m l x in
          let law : is_clique (kind_of (graph_of n t).edge (group vs r l)) ≡ (graph_of n t).edge l m = unfold graph_of in clique_law (whole (graph_of n t)) simple asc l m l-in (nodes_in_lem n m m_below) (λ z. d (sym z)) follows.mem.2 in
          let q : is_clique (kind_of (graph_of n t).edge (group_in g p)) ≡ edge_bit t.edges l m = ap (λ (s : List ℕ). is_clique (kind_of (graph_of n t).edge s)) (sym group-l) ∙ law ∙ bit in
          large x ∙ sym (kind_large (graph_of n t).edge (group_in g p) (two_members l m (group_in g p) l-own m-in d) ∙ ap (λ (b : Bool). cond b 2 1) q)
