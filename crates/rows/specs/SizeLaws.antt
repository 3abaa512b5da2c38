-- The lengths of the lent tables, tested one after the other.
use Rattle.std.specs.Prelude.{◌≡◌, ℕ, ◌*◌, ◌<◌, ◌≤◌, false, not, List, length, ◌==◌, ◌≢◌}
use Rattle.std.proofs.Common.{sym}
use Rattle.std.proofs.Math.Bool.{not-not}
use borrow.Author.Tests.{eq-eqb, ne_eqb, lt-ltb, le-ltb}
use Rattle.model.specs.Graph.{max_nodes, node_numbers, row_words}
use Rattle.model.specs.Refusals.{lengths, wrong_size}
use Rattle.rows.specs.Rows.{lent}

module _ (n : ℕ) (edges nodes keys : List ℕ) where
  pub wrong_count : max_nodes < n → false ≡ not (wrong_size n (lengths (lent edges nodes keys)))
  unfolding wrong_size lengths
  wrong_count h = rw (lt-ltb max_nodes n h)

  pub wrong_edges : n ≤ max_nodes → (length edges ≢ row_words * n) → false ≡ not (wrong_size n (lengths (lent edges nodes keys)))
  unfolding wrong_size lengths
  wrong_edges a h = rw (le-ltb max_nodes n a, ne_eqb (length edges) (row_words * n) h)

  pub wrong_nodes : n ≤ max_nodes → length edges ≡ row_words * n → (length nodes ≢ node_numbers * n) → false ≡ not (wrong_size n (lengths (lent edges nodes keys)))
  unfolding wrong_size lengths
  wrong_nodes a b h = rw (le-ltb max_nodes n a, eq-eqb (length edges) (row_words * n) b, ne_eqb (length nodes) (node_numbers * n) h)

  pub size_by_keys : n ≤ max_nodes → length edges ≡ row_words * n → length nodes ≡ node_numbers * n → (length keys == 2 * n) ≡ not (wrong_size n (lengths (lent edges nodes keys)))
  unfolding wrong_size lengths
  size_by_keys a b d = rw (le-ltb max_nodes n a, eq-eqb (length edges) (row_words * n) b, eq-eqb (length nodes) (node_numbers * n) d) (sym (not-not (length keys == 2 * n)))
