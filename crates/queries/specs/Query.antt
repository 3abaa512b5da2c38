-- What queries read off a row and off the tables.
use Rattle.std.specs.Prelude.{Bool, cond, List, ℕ, ◌*◌, ◌<◌, eqb, ltb, length, get_or}
use Rattle.model.specs.Lists.{◌∈◌}
use Rattle.model.specs.Graph.{max_nodes}
use Rattle.model.specs.Tables.{edge_bit, node_number}
use Rattle.model.specs.Calls.{Listed, list_refused, listing}
use Rattle.buffers.specs.Scan.{scan}

-- a list told, as the model's record of it
abbrev pub listed : ℕ → ℕ → List ℕ → Listed
listed r k out = record { result = r; count = k; out = out }

-- the nodes of a row, ascending
abbrev pub row_nodes : List ℕ → List ℕ
row_nodes row = scan (edge_bit row 0) max_nodes 0

-- the least member of q's group, in a list with `stride` numbers for each node, of which it is the first
abbrev pub leader_at : List ℕ → ℕ → ℕ → ℕ
leader_at least stride q = get_or least (stride * q) 0

-- such a list has the numbers of these nodes
pub record Reaches (least : List ℕ) (stride : ℕ) (qs : List ℕ) : Type 0 where
  pub inside : (q : ℕ) → q ∈ qs → stride * q < length least

-- the nodes of a row listed with the least members of their groups, or 18
unfoldable pub row_told : List ℕ → List ℕ → ℕ → List ℕ → Listed
row_told row least stride out =
    cond (ltb (length out) (2 * length (row_nodes row))) (list_refused out 18) (listing (leader_at least stride) (row_nodes row) out)

-- q is in the group that l leads
unfoldable pub led_by : List ℕ → ℕ → ℕ → Bool
led_by t l q = eqb (node_number t q 0) l

-- the kind of the group that l leads, by the member that follows l
unfoldable pub kind_by : List ℕ → List ℕ → ℕ → ℕ
kind_by es ns l = cond (eqb (node_number ns l 1) l) 0 (cond (edge_bit es l (node_number ns l 1)) 2 1)
