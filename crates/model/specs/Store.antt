-- Document 02, order 3: graphs kept under names, and the words of the lent store that holds them (docs/STORE.md).
use Rattle.std.specs.Prelude.{Bool, true, false, not, ◌&&◌, ◌||◌, cond, List, [], ◌∷◌, ◌++◌, map, ℕ, suc, zero, ◌+◌, ◌*◌, ◌/◌, ◌%◌, eqb, ltb, length, get_or, take, drop, replicate}
use Rattle.model.specs.Lists.{all, concat, nodes, same_list}
use Rattle.model.specs.Graph.{Graph, empty_graph, max_nodes, row_words}
use Rattle.model.specs.Tables.{edges_of, graph_with, is_graph}

-- the limits: states in a store, bytes in a name
abbrev pub max_states : ℕ
max_states = 8

abbrev pub name_bytes : ℕ
name_bytes = 16

-- a name is sixteen bytes
unfoldable pub is_name : List ℕ → Bool
is_name s = eqb (length s) name_bytes && all s (λ b. ltb b 256)

-- a place of a store: free, or a state, the graph kept under a name
pub data Place : Type 0 where
  free : Place
  kept : List ℕ → Graph → Place

unfoldable pub is_free : Place → Bool
is_free free = true
is_free (kept s g) = false

unfoldable pub is_under : List ℕ → Place → Bool
is_under name free = false
is_under name (kept s g) = same_list s name

unfoldable pub graph_at : Place → Graph
graph_at free = empty_graph 0
graph_at (kept s g) = g

-- some place has the name
unfoldable pub is_kept : List ℕ → List Place → Bool
is_kept name [] = false
is_kept name (x ∷ xs) = is_under name x || is_kept name xs

-- the graph kept under it
unfoldable pub kept_graph : List ℕ → List Place → Graph
kept_graph name [] = empty_graph 0
kept_graph name (x ∷ xs) = cond (is_under name x) (graph_at x) (kept_graph name xs)

-- no place is free
unfoldable pub is_full : List Place → Bool
is_full [] = true
is_full (x ∷ xs) = not (is_free x) && is_full xs

-- a graph is kept in the lowest free place
unfoldable pub keeping : List ℕ → Graph → List Place → List Place
keeping name g [] = []
keeping name g (x ∷ xs) = cond (is_free x) (kept name g ∷ xs) (x ∷ keeping name g xs)

-- the place of a name is free again
unfoldable pub dropping : List ℕ → List Place → List Place
dropping name [] = []
dropping name (x ∷ xs) = cond (is_under name x) free x ∷ dropping name xs

-- what an opening leaves
abbrev pub no_states : List Place
no_states = replicate max_states free

-- no name is kept twice, and every state is a graph
unfoldable pub is_new : Place → List Place → Bool
is_new free xs = true
is_new (kept s g) xs = not (is_kept s xs)

unfoldable pub are_apart : List Place → Bool
are_apart [] = true
are_apart (x ∷ xs) = is_new x xs && are_apart xs

unfoldable pub is_state : Place → Bool
is_state free = true
is_state (kept s g) = is_graph g

unfoldable pub are_states : List Place → Bool
are_states [] = true
are_states (x ∷ xs) = is_state x && are_states xs

-- words in a place and in a store for n nodes
abbrev pub place_words : ℕ → ℕ
place_words n = 3 + 9 * n

abbrev pub store_words : ℕ → ℕ
store_words n = 1 + max_states * place_words n

-- 11: n over 512, a store of another length (k), no name
unfoldable pub wrong_store : ℕ → ℕ → Bool
wrong_store n k = ltb max_nodes n || not (eqb k (store_words n))

unfoldable pub wrong_name : ℕ → ℕ → List ℕ → Bool
wrong_name n k name = wrong_store n k || not (is_name name)

-- bytes as a number, the low byte first, and the k low bytes of a number
unfoldable pub number : List ℕ → ℕ
number [] = 0
number (b ∷ bs) = b + 256 * number bs

unfoldable pub bytes_of : ℕ → ℕ → List ℕ
bytes_of zero w = []
bytes_of (suc k) w = w % 256 ∷ bytes_of k (w / 256)

-- one word for each node: its mark (1: hidden) and twice its class
unfoldable pub node_word : Graph → ℕ → ℕ
node_word g p = cond (g.hidden p) 1 0 + 2 * g.class p

unfoldable pub node_words : Graph → List ℕ
node_words g = map (node_word g) (nodes g.node_count)

-- the graph of n nodes that edges and such words tell
unfoldable pub state_graph : ℕ → List ℕ → List ℕ → Graph
state_graph n edges words = graph_with n edges (λ p. get_or words p 0 % 2) (λ p. get_or words p 0 / 2)

-- a place: 0 or 1, the name in two words, the edges, the words of the nodes; a free one is all zeros
unfoldable pub place_of : ℕ → Place → List ℕ
place_of n free = replicate (place_words n) 0
place_of n (kept s g) = 1 ∷ (number (take 8 s) ∷ (number (drop 8 s) ∷ (edges_of g ++ node_words g)))

-- the place that words are read as
unfoldable pub place_in : ℕ → List ℕ → Place
place_in n w =
    cond (eqb (get_or w 0 0) 0) free
    (kept (bytes_of 8 (get_or w 1 0) ++ bytes_of 8 (get_or w 2 0)) (state_graph n (take (row_words * n) (drop 3 w)) (drop (3 + row_words * n) w)))

-- a store for n nodes: n + 1, then its places
unfoldable pub store_of : ℕ → List Place → List ℕ
store_of n xs = suc n ∷ concat (map (place_of n) xs)

-- the words of place i, and all places as they are read
unfoldable pub words_at : ℕ → List ℕ → ℕ → List ℕ
words_at n s i = take (place_words n) (drop (1 + place_words n * i) s)

unfoldable pub places_in : ℕ → List ℕ → List Place
places_in n s = map (λ i. place_in n (words_at n s i)) (nodes max_states)

-- the words are a store for n nodes: read and written again they are the same, names differ, and every state is a graph
unfoldable pub is_store : ℕ → List ℕ → Bool
is_store n s = same_list s (store_of n (places_in n s)) && (are_apart (places_in n s) && are_states (places_in n s))
