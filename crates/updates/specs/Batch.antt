-- An update of a batch, and a batch under way: what is still to come.
use Rattle.std.specs.Prelude.{◌≡◌, Bool, cond, List, [], ◌∷◌, ◌++◌, ℕ, ◌+◌, ◌*◌, eqb, ℤ, length, take, drop}
use Rattle.model.specs.Tables.{Tables, tables_of, graph_of, node_number}
use Rattle.model.specs.Updates.{Update, answer, answers, batch_graph, update, update_numbers, updates_in}
use Rattle.model.specs.Refusals.{Reasons}
use Rattle.model.specs.Calls.{onto}
use Rattle.tables.specs.Lent.{Held}

-- the last reason: what is wanted holds already
unfoldable pub held_reasons : ℕ → Bool → Reasons
held_reasons wanted there = (eqb (cond there 1 0) wanted, 16) ∷ []

-- u is hidden by a node table
abbrev pub is_marked : List ℕ → ℕ → Bool
is_marked nodes u = eqb (node_number nodes u 3) 1

-- an update made t into after, and was answered r
pub record Updated (n : ℕ) (c : Update) (t after : Tables) (r : ℤ) : Type 0 where
  pub tables : after ≡ tables_of (update (graph_of n t) c).after
  pub answered : r ≡ answer (graph_of n t) c

-- the updates from the i-th on
abbrev pub rest : List ℕ → ℕ → List Update
rest xs i = updates_in (drop (update_numbers * i) xs)

-- a buffer with ys written from place i on
abbrev pub written : List ℤ → ℕ → List ℤ → List ℤ
written out i ys = take i out ++ (ys ++ drop (i + length ys) out)

-- i updates of the batch xs are done: from t₀ and out₀ to t and out
pub record Underway (n : ℕ) (xs : List ℕ) (t₀ : Tables) (out₀ : List ℤ) (i : ℕ) (t : Tables) (out : List ℤ) : Type 0 where
  pub held : Held n t
  pub graph : batch_graph (graph_of n t) (rest xs i) ≡ batch_graph (graph_of n t₀) (updates_in xs)
  pub told : written out i (answers (graph_of n t) (rest xs i)) ≡ onto (answers (graph_of n t₀) (updates_in xs)) out₀
  pub size : length out ≡ length out₀

-- the batch xs made t and out into after and told
pub record BatchApplied (n : ℕ) (xs : List ℕ) (t : Tables) (out : List ℤ) (after : Tables) (told : List ℤ) : Type 0 where
  pub tables : after ≡ tables_of (batch_graph (graph_of n t) (updates_in xs))
  pub answered : told ≡ onto (answers (graph_of n t) (updates_in xs)) out
