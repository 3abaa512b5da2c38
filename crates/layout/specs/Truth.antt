-- When lent least members, classes and edges tell the visible part of a graph.
use Rattle.std.specs.Prelude.{◌≡◌, true, false, List, ℕ, ◌*◌, ◌≤◌, ◌<◌, length, get_or}
use Rattle.model.specs.Graph.{Graph, Proper, row_words}
use Rattle.model.specs.Grouping.{least, similar}
use Rattle.model.specs.Tables.{edge_bit}
use Rattle.model.specs.Release.{is_visible, visible}

-- lst has the least member of each visible node's group, worked out on the visible part, and a number n or above for a hidden node;
-- of the classes and the edges only those of visible nodes are read, so the whole graph's will do
pub record Truth (g : Graph) (lst classes edges : List ℕ) : Type 0 where
  pub proper : Proper g
  pub size : g.node_count ≤ length lst
  pub labelled : g.node_count ≤ length classes
  pub rows : row_words * g.node_count ≤ length edges
  pub visible-least : (p : ℕ) → is_visible g p ≡ true → get_or lst p 0 ≡ least (visible g).nodes (similar (visible g)) p
  pub hidden_least : (p : ℕ) → p < g.node_count → is_visible g p ≡ false → g.node_count ≤ get_or lst p 0
  pub class_is : (p : ℕ) → is_visible g p ≡ true → get_or classes p 0 ≡ g.class p
  pub edge_is : (p q : ℕ) → is_visible g p ≡ true → is_visible g q ≡ true → edge_bit edges p q ≡ (visible g).edge p q
