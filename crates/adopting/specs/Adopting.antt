-- The groups of visible nodes, where hidden ones have no edges.
use Rattle.std.specs.Prelude.{◌≡◌, Bool, true, false, ◌&&◌, cond, List, ℕ, ◌≤◌, ◌<◌, eqb, ltb, length, get_or, Option, MatchOption}
use Rattle.model.specs.Lists.{all}
use Rattle.model.specs.Graph.{Graph, Proper, max_classes}
use Rattle.model.specs.Grouping.{least, similar}
use Rattle.model.specs.Release.{is_visible, visible}
use Rattle.model.specs.Tables.{edges_in, graph_in}
use Rattle.search.specs.Search.{Within, row_in}
use Rattle.rows.specs.Rows.{leads, no_node}
use Rattle.compressed.specs.Compressed.{class_in}

-- the graph of an edge table, in which nodes without a first member are hidden; classes are told at first members
unfoldable pub hiding : ℕ → List ℕ → List ℕ → List ℕ → Graph
hiding n edges first classes = record { node_count = n; edge = edges_in n edges; hidden = λ p. ltb p n && eqb (get_or first p 0) no_node; class = class_in n first classes }

-- the first members are those of the groups of the visible nodes, and hidden nodes have no edges
pub record VisibleTold (n : ℕ) (edges first classes : List ℕ) : Type 0 where
  pub within : Within n edges
  pub proper : Proper (graph_in n edges)
  pub classed : (p : ℕ) → class_in n first classes p < max_classes
  pub size : n ≤ length first
  pub labelled : n ≤ length classes
  pub told : (p : ℕ) → is_visible (hiding n edges first classes) p ≡ true → get_or first p 0 ≡ least (visible (hiding n edges first classes)).nodes (similar (visible (hiding n edges first classes))) p
  pub none : (p q : ℕ) → p < n → get_or first p 0 ≡ no_node → edges_in n edges p q ≡ false

-- all words of p's row are 0
unfoldable pub empty_row : List ℕ → ℕ → Bool
empty_row edges p = all (row_in edges p) (λ x. ltb x 1)

-- p is told to be of class 0, and its row is empty
unfoldable pub is_bare : List ℕ → List ℕ → ℕ → Bool
is_bare edges classes p = eqb (get_or classes p 0) 0 && empty_row edges p

-- p has no first member; p is a first member of class 0 without edges
unfoldable pub is_hidden : List ℕ → ℕ → Bool
is_hidden first p = eqb (get_or first p 0) no_node

unfoldable pub is_isolated : List ℕ → List ℕ → List ℕ → ℕ → Bool
is_isolated edges classes first p = leads first p && is_bare edges classes p

-- the first of the numbers below n that pass; none passes if there is none
abbrev pub First : (ℕ → Bool) → ℕ → Option ℕ → Type 0
First P n r = MatchOption r ((p : ℕ) → p < n → P p ≡ false) (λ x. (x < n) × (P x ≡ true) × ((p : ℕ) → p < x → P p ≡ false))

-- of the first n numbers, those that were x are y
pub record NumbersRenamed (n x y : ℕ) (t after : List ℕ) : Type 0 where
  pub size : length after ≡ length t
  pub names : (p : ℕ) → p < n → get_or after p 0 ≡ cond (eqb (get_or t p 0) x) y (get_or t p 0)
