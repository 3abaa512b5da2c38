-- What a call on a store returned and left, as the model's record of it, and why such calls are refused before their own reasons.
use Rattle.std.specs.Prelude.{◌≡◌, true, not, ◌||◌, List, [], ◌∷◌, ◌++◌, ℕ, ◌≤◌, length}
use Rattle.model.specs.Graph.{max_nodes}
use Rattle.model.specs.Tables.{Tables, edges_of, graph_of, holds}
use Rattle.model.specs.Store.{is_name, is_store, node_words, store_words, wrong_name}
use Rattle.model.specs.Refusals.{Reasons, lengths, wrong_size}
use Rattle.model.specs.Calls.{Stored}
use Rattle.rows.specs.Rows.{lent}
use Rattle.places.specs.declared.Name.{Name}
use Rattle.places.specs.declared.Store.{Store}
use Rattle.places.specs.Places.{Named, put_at}
use Rattle.tables.specs.Lent.{Held, lent_reasons}

abbrev pub stored : ℕ → List ℕ → Stored
stored r s = record { result = r; store = s }

-- 11 of a store and a name, 11 and 12 of them, of tables with them, and of tables that are judged too
abbrev pub name_reasons : ℕ → List ℕ → List ℕ → Reasons
name_reasons n s name = (wrong_name n (length s) name, 11) ∷ []

abbrev pub store_reasons : ℕ → List ℕ → List ℕ → Reasons → Reasons
store_reasons n s name rs = lent_reasons (wrong_name n (length s) name) (not (is_store n s)) rs

abbrev pub fill_reasons : ℕ → Tables → List ℕ → List ℕ → Reasons → Reasons
fill_reasons n t s name rs = lent_reasons (wrong_size n (lengths t) || wrong_name n (length s) name) (not (is_store n s)) rs

abbrev pub kept_reasons : ℕ → Tables → List ℕ → List ℕ → Reasons → Reasons
kept_reasons n t s name rs = lent_reasons (wrong_size n (lengths t) || wrong_name n (length s) name) (not (holds n t) || not (is_store n s)) rs

-- what a call has read of the store s and the name that it is lent
pub record Read (n : ℕ) (s name : List ℕ) (store : Store) (pair : Name) : Type 0 where
  pub count : store.n ≡ n
  pub words : store.words.now ≡ s
  pub named : Named name pair

-- what a call that is not refused by 11 or 12 has of its store and name
pub record Judged (n : ℕ) (s name : List ℕ) : Type 0 where
  pub small : n ≤ max_nodes
  pub size : length s ≡ store_words n
  pub named : is_name name ≡ true
  pub store : is_store n s ≡ true

-- the words are a used place with the name a, b, the edges and the words of the nodes of the graph that tables hold
pub record Written (n : ℕ) (edges nodes : List ℕ) (a b : ℕ) (place : List ℕ) : Type 0 where
  pub words : (keys : List ℕ) → Held n (lent edges nodes keys)
      → place ≡ 1 ∷ (a ∷ (b ∷ (edges_of (graph_of n (lent edges nodes keys)) ++ node_words (graph_of n (lent edges nodes keys)))))

-- they are written over place i of the store s
pub record Put (n : ℕ) (edges nodes : List ℕ) (a b i : ℕ) (s after : List ℕ) : Type 0 where
  pub place : List ℕ
  pub written : Written n edges nodes a b place
  pub words : after ≡ put_at n s i place
