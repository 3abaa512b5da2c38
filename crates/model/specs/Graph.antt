-- Document 01, "What the index does": a graph (a bundle there) and its limits.
use Rattle.std.specs.Prelude.{◌≡◌, Bool, true, false, List, ℕ, ◌≤◌, ◌<◌}
use Rattle.model.specs.Lists.{nodes}

-- the limits: persons, changes in a sheet, words in a row, numbers for a person, classes
abbrev pub max_nodes : ℕ
max_nodes = 512

abbrev pub max_updates : ℕ
max_updates = 4096

abbrev pub row_words : ℕ
row_words = 8

abbrev pub node_numbers : ℕ
node_numbers = 5

abbrev pub max_classes : ℕ
max_classes = 256

-- nodes (persons) 0 to node_count - 1, the edges (ties) between them, which are hidden (withheld), and the class of each
pub record Graph : Type 0 where
  pub node_count : ℕ
  pub edge : ℕ → ℕ → Bool
  pub hidden : ℕ → Bool
  pub class : ℕ → ℕ

-- nodes in ascending order, the edges between them and their classes, as seen: the whole graph's, or those of its visible part
pub record View : Type 0 where
  pub nodes : List ℕ
  pub edge : ℕ → ℕ → Bool
  pub class : ℕ → ℕ

-- nodes 0 to node_count - 1 with all edges and classes
abbrev pub whole : Graph → View
whole g = record { nodes = nodes g.node_count; edge = g.edge; class = g.class }

-- a new bundle: every class is 0
unfoldable pub empty_graph : ℕ → Graph
empty_graph n = record { node_count = n; edge = λ p q. false; hidden = λ p. false; class = λ p. 0 }

-- what a bundle is: at most 512 nodes, edges without direction, none from a node to itself, classes
-- below 256, nothing outside 0 to node_count - 1
pub record Proper (g : Graph) : Type 0 where
  pub small : g.node_count ≤ max_nodes
  pub symmetric : (p q : ℕ) → g.edge p q ≡ g.edge q p
  pub irreflexive : (p : ℕ) → g.edge p p ≡ false
  pub inside : (p q : ℕ) → g.edge p q ≡ true → p < g.node_count
  pub held : (p : ℕ) → g.hidden p ≡ true → p < g.node_count
  pub classed : (p : ℕ) → g.class p < max_classes
  pub unclassed : (p : ℕ) → g.node_count ≤ p → g.class p ≡ 0
