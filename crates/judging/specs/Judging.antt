-- A file judged: its number, and the graph of a release by its groups.
use Rattle.std.specs.Prelude.{◌≡◌, true, not, List, [], ◌∷◌, ℕ, eqb, length, get_or, Option, Some}
use Rattle.model.specs.Graph.{Graph, Proper, max_nodes}
use Rattle.model.specs.Grouping.{least, similar}
use Rattle.model.specs.Refusals.{first_of}
use Rattle.model.specs.Release.{is_visible, visible}
use Rattle.model.specs.Reading.{decode, is_release}
use Rattle.compressed.specs.Compressed.{Compressed, class_in, unfolded, with_classes}
use Rattle.sums.specs.Sums.{Cubed}
use Rattle.sums.specs.Joined.{JoinedSummed}
use Rattle.reader.specs.Decoding.{is_few}
use Rattle.judging.specs.Numbers.{asked_number, read_number}

-- the graph that arrays hold, with its classes
abbrev pub held : ℕ → List ℕ → List ℕ → List ℕ → List ℕ → Graph
held n first kinds classes joined = with_classes (unfolded n first kinds joined) (class_in n first classes)

-- arrays that hold a graph by the groups of its visible part, each by its least member
pub record Exact (n : ℕ) (first kinds classes joined : List ℕ) : Type 0 where
  pub compressed : Compressed n first kinds joined
  pub labels : length classes ≡ max_nodes
  pub proper : Proper (held n first kinds classes joined)
  pub told :
      (p : ℕ) → is_visible (held n first kinds classes joined) p ≡ true
      → get_or first p 0 ≡ least (visible (held n first kinds classes joined)).nodes (similar (visible (held n first kinds classes joined))) p

-- the answer has the number of the model's reasons, the graph of a release stands in the arrays, and where superedges are few its sums too
pub record Judged (s first kinds classes joined sums : List ℕ) (r : Option ℕ) : Type 0 where
  pub asked : asked_number r ≡ first_of ((not (is_release s), 19) ∷ [])
  pub read : (n : ℕ) → read_number n r ≡ first_of ((not (is_release s), 19) ∷ (not (eqb (decode s).node_count n), 20) ∷ [])
  pub graph : (n : ℕ) → r ≡ Some n → held n first kinds classes joined ≡ decode s
  pub exact : (n : ℕ) → r ≡ Some n → Exact n first kinds classes joined
  pub cubed : (n : ℕ) → r ≡ Some n → is_few (length s) n ≡ true → Cubed n first sums
  pub summed : (n : ℕ) → r ≡ Some n → is_few (length s) n ≡ true → JoinedSummed joined sums
