-- What each step of an update does to the node table, column by column.
use Rattle.std.specs.Prelude.{◌≡◌, ◌≢◌, ◌⊎◌, Bool, true, cond, List, ℕ, ◌+◌, ◌*◌, ◌≤◌, ◌<◌, min, ltb, length, get_or, set}
use Rattle.model.specs.Graph.{Graph, Proper, max_nodes, node_numbers, whole}
use Rattle.model.specs.Grouping.{least, similar}
use Rattle.model.specs.Tables.{node_number, nodes_of}

-- what the steps ask of a table
pub record Sound (n : ℕ) (t : List ℕ) : Type 0 where
  pub small : n ≤ max_nodes
  pub size : length t ≡ node_numbers * n
  pub next : (p : ℕ) → p < n → node_number t p 1 < n
  pub prev : (p : ℕ) → p < n → node_number t p 2 < n
  pub under : (p : ℕ) → p < n → node_number t p 0 ≤ p
  pub same_least : (p : ℕ) → p < n → node_number t (node_number t p 1) 0 ≡ node_number t p 0
  pub skips : (p r : ℕ) → p < n → r < n → node_number t r 0 ≡ node_number t p 0 → p < r → (p < node_number t p 1) × (node_number t p 1 ≤ r)
  pub behind : (p : ℕ) → p < n → node_number t (node_number t p 2) 0 ≡ node_number t p 0
  pub last : (g r : ℕ) → g < n → r < n → node_number t g 0 ≡ g → node_number t r 0 ≡ node_number t g 0 → r ≤ node_number t g 2

-- the next greater member of p's group, n if there is none
unfoldable pub rising : ℕ → List ℕ → ℕ → ℕ
rising n t p = cond (ltb p (node_number t p 1)) (node_number t p 1) n

-- b follows a
pub record Linked (a b : ℕ) (t t' : List ℕ) : Type 0 where
  pub next_at : node_number t' a 1 ≡ b
  pub next_off : (p : ℕ) → p ≢ a → node_number t' p 1 ≡ node_number t p 1
  pub prev_at : node_number t' b 2 ≡ a
  pub prev_off : (p : ℕ) → p ≢ b → node_number t' p 2 ≡ node_number t p 2
  pub least : (p : ℕ) → node_number t' p 0 ≡ node_number t p 0
  pub rest : (p k : ℕ) → 3 ≤ k → k < node_numbers → node_number t' p k ≡ node_number t p k
  pub size : length t' ≡ length t

-- of the nodes below n, those whose least member was x now have y
pub record Renamed (n x y : ℕ) (t t' : List ℕ) : Type 0 where
  pub hit : (p : ℕ) → p < n → node_number t p 0 ≡ x → node_number t' p 0 ≡ y
  pub off : (p : ℕ) → p < n → node_number t p 0 ≢ x → node_number t' p 0 ≡ node_number t p 0
  pub rest : (p k : ℕ) → 1 ≤ k → k < node_numbers → node_number t' p k ≡ node_number t p k
  pub size : length t' ≡ length t

-- v is stored as node q's jth number
pub record Stored (q j v : ℕ) (t t' : List ℕ) : Type 0 where
  pub is : t' ≡ set t (node_numbers * q + j) v

-- u is taken out
pub record Taken (n u : ℕ) (t t' : List ℕ) : Type 0 where
  pub least_u : node_number t' u 0 ≡ u
  pub least_hit : (p : ℕ) → p < n → p ≢ u → node_number t u 0 ≡ u → node_number t p 0 ≡ u → node_number t' p 0 ≡ node_number t u 1
  pub least_off : (p : ℕ) → p < n → p ≢ u → node_number t p 0 ≢ u → node_number t' p 0 ≡ node_number t p 0
  pub next_u : node_number t' u 1 ≡ u
  pub next_hit : (p : ℕ) → p < n → p ≢ u → p ≡ node_number t u 2 → node_number t' p 1 ≡ node_number t u 1
  pub next_off : (p : ℕ) → p < n → p ≢ u → p ≢ node_number t u 2 → node_number t' p 1 ≡ node_number t p 1
  pub prev_u : node_number t' u 2 ≡ u
  pub prev_hit : (p : ℕ) → p < n → p ≢ u → p ≡ node_number t u 1 → node_number t' p 2 ≡ node_number t u 2
  pub prev_off : (p : ℕ) → p < n → p ≢ u → p ≢ node_number t u 1 → node_number t' p 2 ≡ node_number t p 2
  pub rest : (p k : ℕ) → p < n → 3 ≤ k → k < node_numbers → node_number t' p k ≡ node_number t p k
  pub size : length t' ≡ length t

-- whom the other members of u's group have for their least one once u is gone: b, if u was it
pub data NewLeast (l u b y : ℕ) : Type 0 where
  passes : l ≡ u → y ≡ b → NewLeast l u b y
  none : l ≢ u → y ≡ u → NewLeast l u b y

-- r is 1 if u leaves others behind, b being the next of them, else 0
pub data OthersLeft (b u r : ℕ) : Type 0 where
  stayed : b ≡ u → r ≡ 0 → OthersLeft b u r
  left : b ≢ u → r ≡ 1 → OthersLeft b u r

-- u is put into the group whose least member is g, after a; h is the lesser of u and g
pub record Put (n u g a h : ℕ) (t t' : List ℕ) : Type 0 where
  pub least_u : node_number t' u 0 ≡ h
  pub least_hit : (p : ℕ) → p < n → p ≢ u → node_number t p 0 ≡ g → node_number t' p 0 ≡ h
  pub least_off : (p : ℕ) → p < n → p ≢ u → node_number t p 0 ≢ g → node_number t' p 0 ≡ node_number t p 0
  pub next_u : node_number t' u 1 ≡ node_number t a 1
  pub next_hit : a ≢ u → node_number t' a 1 ≡ u
  pub next_off : (p : ℕ) → p < n → p ≢ u → p ≢ a → node_number t' p 1 ≡ node_number t p 1
  pub prev_u : node_number t a 1 ≢ u → node_number t' u 2 ≡ a
  pub prev_hit : node_number t' (node_number t a 1) 2 ≡ u
  pub prev_off : (p : ℕ) → p < n → p ≢ u → p ≢ node_number t a 1 → node_number t' p 2 ≡ node_number t p 2
  pub rest : (p k : ℕ) → p < n → 3 ≤ k → k < node_numbers → node_number t' p k ≡ node_number t p k
  pub size : length t' ≡ length t

-- a is the last member before u of the group whose least member is g: the greatest below u, else the greatest of all
pub data Before (u g a : ℕ) (t : List ℕ) : Type 0 where
  lower : a < u → node_number t a 0 ≡ g → ((r : ℕ) → a < r → r < u → node_number t r 0 ≢ g) → Before u g a t
  wrapped : a ≡ node_number t g 2 → ((r : ℕ) → r < u → node_number t r 0 ≢ g) → Before u g a t

pub record Placed (n u g : ℕ) (t t' : List ℕ) : Type 0 where
  pub a : ℕ
  pub h : ℕ
  pub place : Before u g a t
  pub lesser : h ≡ min u g
  pub put : Put n u g a h t t'

-- p is the least member of a group that u can join; w is passed over
pub record Fit (u w : ℕ) (S : ℕ → Bool) (t : List ℕ) (p : ℕ) : Type 0 where
  pub not_u : p ≢ u
  pub not_w : p ≢ w
  pub leads : node_number t p 0 ≡ p
  pub alike : S p ≡ true

-- u is put back: into the group of a least member that the test S holds of, or nowhere if there is none
pub data Back (n u w z : ℕ) (S : ℕ → Bool) (t t' : List ℕ) : Type 0 where
  joined : (g : ℕ) → g < n → Fit u w S t g → Placed n u g t t' → z ≡ 1 → Back n u w z S t t'
  alone : ((p : ℕ) → p < n → ¬ Fit u w S t p) → t' ≡ t → z ≡ 0 → Back n u w z S t t'

-- lst tells for each of n nodes one that is not above it, and that leads itself
pub record Leading (n : ℕ) (lst : List ℕ) : Type 0 where
  pub size : n ≤ length lst
  pub low : (p : ℕ) → p < n → get_or lst p 0 ≤ p
  pub leads : (p : ℕ) → p < n → get_or lst (get_or lst p 0) 0 ≡ get_or lst p 0

-- t has the labels of a graph's nodes: marks and classes
pub record Labelled (g : Graph) (t : List ℕ) : Type 0 where
  pub marks : (p : ℕ) → p < g.node_count → node_number t p 3 ≡ cond (g.hidden p) 1 0
  pub classes : (p : ℕ) → p < g.node_count → node_number t p 4 ≡ g.class p

-- lst has the least member of each node's group, and t the labels
pub record LeastAndLabels (g : Graph) (lst t : List ℕ) : Type 0 where
  pub proper : Proper g
  pub least : (p : ℕ) → p < g.node_count → get_or lst p 0 ≡ least (whole g).nodes (similar (whole g)) p
  pub size : length t ≡ node_numbers * g.node_count
  pub labels : Labelled g t

-- t' is the node table of the graph whose least members and labels they are
pub record Built (n : ℕ) (lst t t' : List ℕ) : Type 0 where
  pub nodes : (g : Graph) → g.node_count ≡ n → LeastAndLabels g lst t → t' ≡ nodes_of g

-- p's previous member has the same least member, is followed by p, and is below p unless p is the least
pub record Follows (n : ℕ) (t : List ℕ) (p : ℕ) : Type 0 where
  pub below : node_number t p 2 < n
  pub same_least : node_number t (node_number t p 2) 0 ≡ node_number t p 0
  pub next : node_number t (node_number t p 2) 1 ≡ p
  pub order : (node_number t p 0 ≡ p) ⊎ (node_number t p 2 < p)

-- the first i nodes have the least members that lst tells, and stand in rings
pub record Rings (i : ℕ) (lst t : List ℕ) : Type 0 where
  pub least : (p : ℕ) → p < i → node_number t p 0 ≡ get_or lst p 0
  pub follows : (p : ℕ) → p < i → Follows i t p

-- the first i nodes have the marks and the classes that are told
pub record LabelsPut (mark class : ℕ → ℕ) (i : ℕ) (t t' : List ℕ) : Type 0 where
  pub size : length t' ≡ length t
  pub marks : (p : ℕ) → p < i → node_number t' p 3 ≡ mark p
  pub classes : (p : ℕ) → p < i → node_number t' p 4 ≡ class p

-- the labels stay
pub record LabelsKept (t t' : List ℕ) : Type 0 where
  pub labels : (p k : ℕ) → 3 ≤ k → k < node_numbers → node_number t' p k ≡ node_number t p k
  pub size : length t' ≡ length t
