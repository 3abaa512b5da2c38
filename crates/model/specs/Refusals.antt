-- Document 01, "Numbers for a refused call or change": a call or update lists its reasons, each a test with its number, in
-- the order in which they are tested. The first reason whose test holds is given; 0 means done.
use Rattle.std.specs.Prelude.{Bool, ◌||◌, cond, not, List, [], ◌∷◌, ℕ, ◌*◌, eqb, ltb, length}
use Rattle.model.specs.Graph.{max_nodes, row_words, node_numbers}
use Rattle.model.specs.Tables.{Tables}

abbrev pub Reasons : Type 0
Reasons = List (Bool × ℕ)

unfoldable pub first_of : Reasons → ℕ
first_of [] = 0
first_of (t ∷ ts) = cond t.0 t.1 (first_of ts)

-- refused by the first reason that holds, else done
abbrev pub judged : {A : Type 0} → Reasons → (ℕ → A) → A → A
judged rs refused done = cond (eqb (first_of rs) 0) done (refused (first_of rs))

-- two nodes among n: 14 where one is none of them, 15 where it is one node twice
unfoldable pub pair_reasons : ℕ → ℕ → ℕ → Reasons
pair_reasons n p q = (not (ltb p n) || not (ltb q n), 14) ∷ (eqb p q, 15) ∷ []

-- tables by their lengths alone
pub record Lengths : Type 0 where
  pub edges : ℕ
  pub nodes : ℕ
  pub keys : ℕ

unfoldable pub lengths : Tables → Lengths
lengths t = record { edges = length t.edges; nodes = length t.nodes; keys = length t.keys }

-- 11: n over 512, or a table of the wrong length
unfoldable pub wrong_size : ℕ → Lengths → Bool
wrong_size n l = ltb max_nodes n || (not (eqb l.edges (row_words * n)) || (not (eqb l.nodes (node_numbers * n)) || not (eqb l.keys (2 * n))))
