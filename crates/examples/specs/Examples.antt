-- Document 01's examples with a star, the examples of its table of refusals and the one of the program, and document 02's distances,
-- neighbours with their groups, named states, frozen ties and classes, with what these leave open, as one list of equations: on the left
-- what the definitions of `model` give, on the right what the documents say.
use Rattle.std.specs.Prelude.{◌≡◌, Bool, false, ◌&&◌, List, [], ◌∷◌, ◌++◌, map, ℕ, ◌+◌, ◌*◌, eqb, ℤ, pos, negsuc, length, get_or, replicate}
use Rattle.model.specs.Lists.{nodes}
use Rattle.model.specs.Graph.{Graph, empty_graph, node_numbers, row_words, whole}
use Rattle.model.specs.Grouping.{Kind, singleton, independent, clique, kind_of, similar}
use Rattle.model.specs.Tables.{Tables, edges_of, tables_of, keys_of, nodes_of, groups_in}
use Rattle.model.specs.Store.{kept, max_states, name_bytes, store_of, store_words}
use Rattle.model.specs.Updates.{Update, batch_graph, update_count}
use Rattle.model.specs.Release.{visible_edge, visible_groups, superedge_count, release}
use Rattle.model.specs.Calls.{Applied, open_call, keep_call, restore_call, drop_call, apply_call, neighbours_call, tied_call, group_call, release_call, read_call, file_distance_call, file_neighbours_call}
use Rattle.model.specs.Program.{text, program}

-- an equation between two of the things that the documents speak of: numbers of a file, a text or a buffer, a
-- number, groups, kinds of groups, answers, a yes or no
pub data Claim : Type 0 where
  list : List ℕ → List ℕ → Claim
  number : ℕ → ℕ → Claim
  groups : List (List ℕ) → List (List ℕ) → Claim
  kinds : List Kind → List Kind → Claim
  answers : List ℤ → List ℤ → Claim
  test : Bool → Bool → Claim

abbrev pub Holds : Claim → Type 0
Holds (list a b) = a ≡ b
Holds (number a b) = a ≡ b
Holds (groups a b) = a ≡ b
Holds (kinds a b) = a ≡ b
Holds (answers a b) = a ≡ b
Holds (test a b) = a ≡ b

abbrev pub AllHold : List Claim → Type 0
AllHold [] = Unit {0}
AllHold (c ∷ cs) = Holds c × AllHold cs

-- updates: tie, untie, withhold and give a class
abbrev insert : ℕ → ℕ → Update
insert u v = record { kind = 1; u = u; v = v; wanted = 1 }

abbrev delete : ℕ → ℕ → Update
delete u v = record { kind = 1; u = u; v = v; wanted = 0 }

abbrev hide : ℕ → Update
hide u = record { kind = 2; u = u; v = 0; wanted = 1 }

abbrev classify : ℕ → ℕ → Update
classify u c = record { kind = 3; u = u; v = c; wanted = 0 }

-- the graph of n nodes that updates lead to
abbrev graph : ℕ → List Update → Graph
graph n cs = batch_graph (empty_graph n) cs

unfoldable pub one_edge : Graph
one_edge = graph 2 (insert 0 1 ∷ [])

unfoldable pub path3 : Graph
path3 = graph 3 (insert 0 1 ∷ insert 1 2 ∷ [])

unfoldable pub triangle : Graph
triangle = graph 3 (insert 0 1 ∷ insert 1 2 ∷ insert 0 2 ∷ [])

unfoldable pub path4 : Graph
path4 = graph 4 (insert 0 1 ∷ insert 1 2 ∷ insert 2 3 ∷ [])

-- each of 0, 1, 2 tied to each of 3, 4, 5
unfoldable pub three_by_three : Graph
three_by_three =
    graph 6
    (insert 0 3 ∷ insert 0 4 ∷ insert 0 5 ∷ insert 1 3 ∷ insert 1 4 ∷ insert 1 5 ∷ insert 2 3 ∷ insert 2 4 ∷ insert 2 5 ∷ [])

unfoldable pub deleted03 : Graph
deleted03 = batch_graph three_by_three (delete 0 3 ∷ [])

unfoldable pub hidden3 : Graph
hidden3 = batch_graph three_by_three (hide 3 ∷ [])

unfoldable pub hidden3deleted03 : Graph
hidden3deleted03 = batch_graph hidden3 (delete 0 3 ∷ [])

unfoldable pub deleted03hidden3 : Graph
deleted03hidden3 = batch_graph deleted03 (hide 3 ∷ [])

-- graphs alike in what is visible, by twos: with edges or a class of a hidden node, and with fewer or none of them
unfoldable pub hidden1of2 : Graph
hidden1of2 = graph 2 (hide 1 ∷ [])

unfoldable pub tied1of2 : Graph
tied1of2 = graph 2 (insert 0 1 ∷ hide 1 ∷ [])

unfoldable pub classed1of2 : Graph
classed1of2 = graph 2 (classify 1 1 ∷ hide 1 ∷ [])

unfoldable pub hidden0of1 : Graph
hidden0of1 = graph 1 (hide 0 ∷ [])

unfoldable pub classed0of1 : Graph
classed0of1 = graph 1 (classify 0 1 ∷ hide 0 ∷ [])

unfoldable pub hidden2of3 : Graph
hidden2of3 = graph 3 (hide 2 ∷ [])

unfoldable pub tied2of3 : Graph
tied2of3 = graph 3 (insert 0 2 ∷ hide 2 ∷ [])

unfoldable pub hidden3of4 : Graph
hidden3of4 = graph 4 (insert 1 2 ∷ insert 0 3 ∷ hide 3 ∷ [])

unfoldable pub tied3of4 : Graph
tied3of4 = graph 4 (insert 1 2 ∷ insert 0 3 ∷ insert 2 3 ∷ hide 3 ∷ [])

unfoldable pub equal_keys : Graph
equal_keys = graph 22 (insert 20 0 ∷ insert 20 11 ∷ insert 21 8 ∷ insert 21 9 ∷ [])

-- three nodes of classes 0, 1, 0: without edges, and each tied to each
unfoldable pub classes010 : Graph
classes010 = graph 3 (classify 1 1 ∷ [])

unfoldable pub triangle010 : Graph
triangle010 = batch_graph triangle (classify 1 1 ∷ [])

-- 1 of the greatest class, tied to 0, 2 and 3; 3, of class 9, is hidden
unfoldable pub hidden_class : Graph
hidden_class = graph 4 (insert 0 1 ∷ insert 1 2 ∷ insert 1 3 ∷ classify 1 255 ∷ classify 3 9 ∷ hide 3 ∷ [])

-- the bytes of a release, and the kinds of its groups
abbrev size : Graph → ℕ
size g = length (release g)

abbrev kinds_of : Graph → List Kind
kinds_of g = map (kind_of (visible_edge g)) (visible_groups g)

-- the groups in the office's node table, and the keys of node p in its key table
abbrev office_groups : Graph → List (List ℕ)
office_groups g = groups_in g.node_count (nodes_of g)

abbrev open_key_in : Graph → ℕ → ℕ
open_key_in g p = get_or (keys_of g) (2 * p) 0

abbrev closed_key_in : Graph → ℕ → ℕ
closed_key_in g p = get_or (keys_of g) (2 * p + 1) 0

-- tables and a store as they may be lent for n nodes, and those of a new bundle
abbrev lent : ℕ → Tables
lent n = record { edges = replicate (row_words * n) 7; nodes = replicate (node_numbers * n) 7; keys = replicate (2 * n) 7 }

abbrev lent_store : ℕ → List ℕ
lent_store n = replicate (store_words n) 7

abbrev opened : ℕ → Tables
opened n = (open_call n (lent n) (lent_store n)).tables

abbrev opened_store : ℕ → List ℕ
opened_store n = (open_call n (lent n) (lent_store n)).store

-- a name of like bytes, and the store of one kept state and of eight
abbrev name : ℕ → List ℕ
name b = replicate name_bytes b

unfoldable pub one_kept : List ℕ
one_kept = (keep_call 2 (tables_of one_edge) (opened_store 2) (name 255)).store

unfoldable pub eight_kept : List ℕ
eight_kept = store_of 1 (map (λ b. kept (name b) (empty_graph 1)) (nodes max_states))

-- a sheet applied, with a buffer for its answers: these, the node table it leaves, and the release of m bytes after it
abbrev applied : ℕ → Tables → List ℕ → Applied
applied n t xs = apply_call n t xs (replicate (update_count xs) (pos 7))

abbrev answers_on : ℕ → Tables → List ℕ → List ℤ
answers_on n t xs = (applied n t xs).answers

abbrev nodes_after : ℕ → Tables → List ℕ → List ℕ
nodes_after n t xs = (applied n t xs).tables.nodes

abbrev release_after : ℕ → ℕ → Tables → List ℕ → List ℕ
release_after m n t xs = (release_call n (applied n t xs).tables (replicate m 0)).out

-- the distance of p and q, asked of a release
abbrev distance_in : Graph → ℕ → ℕ → ℕ
distance_in g p q = (file_distance_call (release g) p q).distance

-- the tables of node 0 tied to itself
unfoldable pub self_tied : Tables
self_tied = tables_of (record { node_count = 1; edge = λ p q. eqb p 0 && eqb q 0; hidden = λ p. false; class = λ p. 0 })

-- a row with one word of edges, and the tables of one node with a class
abbrev row : ℕ → List ℕ
row w = w ∷ replicate 7 0

abbrev one_node : ℕ → Tables
one_node class = record { edges = row 0; nodes = 0 ∷ 0 ∷ 0 ∷ 0 ∷ class ∷ []; keys = 0 ∷ 1 ∷ [] }

-- the store for one node with one state, under a name of zeros, that has this word for the node
abbrev one_state : ℕ → List ℕ
one_state w = 2 ∷ 1 ∷ 0 ∷ 0 ∷ (row 0 ++ (w ∷ replicate 84 0))

-- the files of `classes010` and of `hidden_class`, with any class for 1, by its two bytes
abbrev file010 : ℕ → ℕ → List ℕ
file010 low high = 0x48 ∷ 0x44 ∷ 0x03 ∷ 0x00 ∷ 0x03 ∷ 0x00 ∷ 0x02 ∷ 0x00 ∷ 0x47 ∷ 0x49 ∷ 0x02 ∷ 0x00 ∷ 0x00 ∷ 0x00 ∷ 0x00 ∷ 0x00 ∷ 0x02 ∷ 0x00 ∷ 0x47 ∷ 0x49 ∷ 0x01 ∷ 0x00 ∷ low ∷ high ∷ 0x01 ∷ 0x00 ∷ 0x45 ∷ 0x4E ∷ []

abbrev hidden_file : ℕ → ℕ → List ℕ
hidden_file low high = 0x48 ∷ 0x44 ∷ 0x04 ∷ 0x00 ∷ 0x03 ∷ 0x00 ∷ 0x02 ∷ 0x00 ∷ 0x47 ∷ 0x49 ∷ 0x02 ∷ 0x00 ∷ 0x00 ∷ 0x00 ∷ 0x00 ∷ 0x00 ∷ 0x02 ∷ 0x00 ∷ 0x47 ∷ 0x49 ∷ 0x01 ∷ 0x00 ∷ low ∷ high ∷ 0x01 ∷ 0x00 ∷ 0x53 ∷ 0x45 ∷ 0x00 ∷ 0x00 ∷ 0x01 ∷ 0x00 ∷ 0x45 ∷ 0x4E ∷ []

unfoldable pub examples : List Claim
examples =
    -- 1. n 0
    list (release (empty_graph 0)) (0x48 ∷ 0x44 ∷ 0x00 ∷ 0x00 ∷ 0x00 ∷ 0x00 ∷ 0x00 ∷ 0x00 ∷ 0x45 ∷ 0x4E ∷ [])
    -- 2. n 1
    ∷ groups (visible_groups (empty_graph 1)) ((0 ∷ []) ∷ [])
    ∷ kinds (kinds_of (empty_graph 1)) (singleton ∷ [])
    ∷ number (size (empty_graph 1)) 18
    -- 2. n 512 without ties
    ∷ groups (visible_groups (empty_graph 512)) (nodes 512 ∷ [])
    ∷ number (size (empty_graph 512)) 1040
    -- 3. n 2, tied
    ∷ groups (visible_groups one_edge) ((0 ∷ 1 ∷ []) ∷ [])
    ∷ kinds (kinds_of one_edge) (clique ∷ [])
    ∷ number (size one_edge) 20
    -- 3. n 2, untied
    ∷ groups (visible_groups (empty_graph 2)) ((0 ∷ 1 ∷ []) ∷ [])
    ∷ kinds (kinds_of (empty_graph 2)) (independent ∷ [])
    ∷ number (size (empty_graph 2)) 20
    -- 4. path 0-1-2, and the keys of 1
    ∷ groups (visible_groups path3) ((0 ∷ 2 ∷ []) ∷ (1 ∷ []) ∷ [])
    ∷ groups (office_groups path3) ((0 ∷ 2 ∷ []) ∷ (1 ∷ []) ∷ [])
    ∷ number (superedge_count path3) 1
    ∷ number (size path3) 34
    ∷ number (open_key_in path3 1) 28
    ∷ number (closed_key_in path3 1) 36
    -- 5. triangle
    ∷ groups (visible_groups triangle) ((0 ∷ 1 ∷ 2 ∷ []) ∷ [])
    ∷ kinds (kinds_of triangle) (clique ∷ [])
    ∷ number (size triangle) 22
    -- 6. path 0-1-2-3
    ∷ groups (visible_groups path4) ((0 ∷ []) ∷ (1 ∷ []) ∷ (2 ∷ []) ∷ (3 ∷ []) ∷ [])
    ∷ kinds (kinds_of path4) (singleton ∷ singleton ∷ singleton ∷ singleton ∷ [])
    ∷ number (size path4) 60
    -- 7. each of 0, 1, 2 tied to each of 3, 4, 5
    ∷ list (release three_by_three) (0x48 ∷ 0x44 ∷ 0x06 ∷ 0x00 ∷ 0x06 ∷ 0x00 ∷ 0x02 ∷ 0x00 ∷ 0x47 ∷ 0x49 ∷ 0x03 ∷ 0x00 ∷ 0x00 ∷ 0x00 ∷ 0x00 ∷ 0x00 ∷ 0x01 ∷ 0x00 ∷ 0x02 ∷ 0x00 ∷ 0x47 ∷ 0x49 ∷ 0x03 ∷ 0x00 ∷ 0x00 ∷ 0x00 ∷ 0x03 ∷ 0x00 ∷ 0x04 ∷ 0x00 ∷ 0x05 ∷ 0x00 ∷ 0x53 ∷ 0x45 ∷ 0x00 ∷ 0x00 ∷ 0x01 ∷ 0x00 ∷ 0x45 ∷ 0x4E ∷ [])
    -- 8. from 7, untie 0 3, then tie 0 3 again
    ∷ answers (answers_on 6 (tables_of three_by_three) (1 ∷ 0 ∷ 3 ∷ 0 ∷ 1 ∷ 0 ∷ 3 ∷ 1 ∷ [])) (pos 2 ∷ negsuc 1 ∷ [])
    ∷ groups (visible_groups deleted03) ((0 ∷ []) ∷ (1 ∷ 2 ∷ []) ∷ (3 ∷ []) ∷ (4 ∷ 5 ∷ []) ∷ [])
    ∷ groups (office_groups deleted03) ((0 ∷ []) ∷ (1 ∷ 2 ∷ []) ∷ (3 ∷ []) ∷ (4 ∷ 5 ∷ []) ∷ [])
    ∷ number (superedge_count deleted03) 3
    ∷ number (size deleted03) 64
    -- 9. from 7, withhold 3, then untie 0 3, which is refused; untied before 3 was withheld, it is the same release
    ∷ number (size hidden3) 38
    ∷ answers (answers_on 6 (tables_of hidden3) (1 ∷ 0 ∷ 3 ∷ 0 ∷ [])) (pos 24 ∷ [])
    ∷ number (size hidden3deleted03) 38
    ∷ groups (visible_groups hidden3deleted03) ((0 ∷ 1 ∷ 2 ∷ []) ∷ (4 ∷ 5 ∷ []) ∷ [])
    ∷ groups (office_groups hidden3deleted03) ((0 ∷ 1 ∷ 2 ∷ []) ∷ (3 ∷ 4 ∷ 5 ∷ []) ∷ [])
    ∷ list (release deleted03hidden3) (release hidden3)
    ∷ groups (office_groups deleted03hidden3) ((0 ∷ []) ∷ (1 ∷ 2 ∷ []) ∷ (3 ∷ []) ∷ (4 ∷ 5 ∷ []) ∷ [])
    -- 10. ties 20-0, 20-11, 21-8, 21-9
    ∷ number (open_key_in equal_keys 20) 1729
    ∷ number (open_key_in equal_keys 21) 1729
    ∷ test (similar (whole equal_keys) 20 21) false
    ∷ groups (office_groups equal_keys) ((0 ∷ 11 ∷ []) ∷ (1 ∷ 2 ∷ 3 ∷ 4 ∷ 5 ∷ 6 ∷ 7 ∷ 10 ∷ 12 ∷ 13 ∷ 14 ∷ 15 ∷ 16 ∷ 17 ∷ 18 ∷ 19 ∷ []) ∷ (8 ∷ 9 ∷ []) ∷ (20 ∷ []) ∷ (21 ∷ []) ∷ [])
    ∷ number (length (visible_groups equal_keys)) 5
    ∷ number (size equal_keys) 96
    -- number 11: n 513
    ∷ number (open_call 513 (lent 513) (lent_store 513)).result 11
    -- number 12: n 1, person 0 tied to 0
    ∷ number (apply_call 1 self_tied [] []).result 12
    ∷ number (neighbours_call 1 self_tied 0 (0 ∷ [])).result 12
    ∷ number (tied_call 1 self_tied 0 0).result 12
    ∷ number (group_call 1 self_tied 0).result 12
    ∷ number (release_call 1 self_tied (replicate 18 0)).result 12
    -- number 12: n 1, a class above 255
    ∷ number (release_call 1 (one_node 256) (replicate 18 0)).result 12
    ∷ list (release_call 1 (one_node 255) (replicate 18 0)).out (0x48 ∷ 0x44 ∷ 0x01 ∷ 0x00 ∷ 0x01 ∷ 0x00 ∷ 0x01 ∷ 0x00 ∷ 0x47 ∷ 0x49 ∷ 0x01 ∷ 0x00 ∷ 0xFF ∷ 0x00 ∷ 0x00 ∷ 0x00 ∷ 0x45 ∷ 0x4E ∷ [])
    -- number 11: three numbers
    ∷ number (apply_call 3 (opened 3) (1 ∷ 0 ∷ 1 ∷ []) (pos 0 ∷ [])).result 11
    -- number 13: 5 0 1 1, and 4 0 0 1
    ∷ answers (answers_on 3 (opened 3) (5 ∷ 0 ∷ 1 ∷ 1 ∷ 4 ∷ 0 ∷ 0 ∷ 1 ∷ [])) (pos 13 ∷ pos 13 ∷ [])
    -- number 14: n 3: 1 0 3 1, 1 3 0 1, 2 3 0 1 and 3 3 0 0
    ∷ answers (answers_on 3 (opened 3) (1 ∷ 0 ∷ 3 ∷ 1 ∷ 1 ∷ 3 ∷ 0 ∷ 1 ∷ 2 ∷ 3 ∷ 0 ∷ 1 ∷ 3 ∷ 3 ∷ 0 ∷ 0 ∷ [])) (pos 14 ∷ pos 14 ∷ pos 14 ∷ pos 14 ∷ [])
    -- number 15: 1 2 2 1, 1 0 1 2, 2 0 3 1 and 2 0 0 2; 3 0 256 0 and 3 0 1 1
    ∷ answers (answers_on 3 (opened 3) (1 ∷ 2 ∷ 2 ∷ 1 ∷ 1 ∷ 0 ∷ 1 ∷ 2 ∷ 2 ∷ 0 ∷ 3 ∷ 1 ∷ 2 ∷ 0 ∷ 0 ∷ 2 ∷ [])) (pos 15 ∷ pos 15 ∷ pos 15 ∷ pos 15 ∷ [])
    ∷ answers (answers_on 3 (opened 3) (3 ∷ 0 ∷ 256 ∷ 0 ∷ 3 ∷ 0 ∷ 1 ∷ 1 ∷ [])) (pos 15 ∷ pos 15 ∷ [])
    -- number 16: 1 0 1 1 twice; 1 0 1 0, 2 0 0 0 and 3 0 0 0 in a new bundle; 3 0 255 0 twice
    ∷ answers (answers_on 3 (opened 3) (1 ∷ 0 ∷ 1 ∷ 1 ∷ 1 ∷ 0 ∷ 1 ∷ 1 ∷ [])) (pos 1 ∷ pos 16 ∷ [])
    ∷ answers (answers_on 3 (opened 3) (1 ∷ 0 ∷ 1 ∷ 0 ∷ 2 ∷ 0 ∷ 0 ∷ 0 ∷ 3 ∷ 0 ∷ 0 ∷ 0 ∷ [])) (pos 16 ∷ pos 16 ∷ pos 16 ∷ [])
    ∷ answers (answers_on 3 (opened 3) (3 ∷ 0 ∷ 255 ∷ 0 ∷ 3 ∷ 0 ∷ 255 ∷ 0 ∷ [])) (pos 1 ∷ pos 16 ∷ [])
    -- number 24: 1 withheld: 1 0 1 1 and 1 1 0 0; before it 1 1 3 1, 1 1 1 1 and 1 0 1 2; 2 1 0 1 and 2 1 0 0 as ever
    ∷ answers (answers_on 3 (opened 3) (2 ∷ 1 ∷ 0 ∷ 1 ∷ 1 ∷ 0 ∷ 1 ∷ 1 ∷ 1 ∷ 1 ∷ 0 ∷ 0 ∷ [])) (pos 0 ∷ pos 24 ∷ pos 24 ∷ [])
    ∷ answers (answers_on 3 (opened 3) (2 ∷ 1 ∷ 0 ∷ 1 ∷ 1 ∷ 1 ∷ 3 ∷ 1 ∷ 1 ∷ 1 ∷ 1 ∷ 1 ∷ 1 ∷ 0 ∷ 1 ∷ 2 ∷ [])) (pos 0 ∷ pos 14 ∷ pos 15 ∷ pos 15 ∷ [])
    ∷ answers (answers_on 3 (opened 3) (2 ∷ 1 ∷ 0 ∷ 1 ∷ 2 ∷ 1 ∷ 0 ∷ 1 ∷ 2 ∷ 1 ∷ 0 ∷ 0 ∷ 1 ∷ 0 ∷ 1 ∷ 0 ∷ [])) (pos 0 ∷ pos 16 ∷ pos 0 ∷ pos 16 ∷ [])
    -- who is revealed is told: 1 reopened, then 1 0 1 1
    ∷ list (release tied1of2) (release hidden1of2)
    ∷ answers (answers_on 2 (tables_of hidden1of2) (2 ∷ 1 ∷ 0 ∷ 0 ∷ 1 ∷ 0 ∷ 1 ∷ 1 ∷ [])) (pos 0 ∷ pos 0 ∷ [])
    ∷ answers (answers_on 2 (tables_of tied1of2) (2 ∷ 1 ∷ 0 ∷ 0 ∷ 1 ∷ 0 ∷ 1 ∷ 1 ∷ [])) (pos 0 ∷ pos 16 ∷ [])
    -- 16 tells the class of a withheld person: 3 0 1 0
    ∷ list (release classed0of1) (release hidden0of1)
    ∷ answers (answers_on 1 (tables_of hidden0of1) (3 ∷ 0 ∷ 1 ∷ 0 ∷ [])) (pos 0 ∷ [])
    ∷ answers (answers_on 1 (tables_of classed0of1) (3 ∷ 0 ∷ 1 ∷ 0 ∷ [])) (pos 16 ∷ [])
    -- accepted answers count groups of the whole bundle: 1 0 1 1 by itself, 3 0 1 0 by itself
    ∷ list (release tied2of3) (release hidden2of3)
    ∷ answers (answers_on 3 (tables_of hidden2of3) (1 ∷ 0 ∷ 1 ∷ 1 ∷ [])) (pos 1 ∷ [])
    ∷ answers (answers_on 3 (tables_of tied2of3) (1 ∷ 0 ∷ 1 ∷ 1 ∷ [])) (pos 0 ∷ [])
    ∷ list (release tied3of4) (release hidden3of4)
    ∷ answers (answers_on 4 (tables_of hidden3of4) (1 ∷ 0 ∷ 1 ∷ 1 ∷ [])) (pos 2 ∷ [])
    ∷ answers (answers_on 4 (tables_of tied3of4) (1 ∷ 0 ∷ 1 ∷ 1 ∷ [])) (negsuc 1 ∷ [])
    ∷ list (release classed1of2) (release hidden1of2)
    ∷ answers (answers_on 2 (tables_of hidden1of2) (3 ∷ 0 ∷ 1 ∷ 0 ∷ [])) (pos 1 ∷ [])
    ∷ answers (answers_on 2 (tables_of classed1of2) (3 ∷ 0 ∷ 1 ∷ 0 ∷ [])) (negsuc 0 ∷ [])
    -- number 18: release of n 0 into 9 bytes
    ∷ number (release_call 0 (opened 0) (replicate 9 0)).result 18
    -- number 19: empty file
    ∷ number (read_call 0 (lent 0) []).result 19
    ∷ number (file_neighbours_call [] 0 []).result 19
    -- number 20: n 0 file, tables for n 1
    ∷ number (read_call 1 (lent 1) (release (empty_graph 0))).result 20
    -- distances: in 9, members of one group, of two, and 3, which is withheld; paths; a clique; no ties; no file
    ∷ number (distance_in hidden3 0 2) 2
    ∷ number (distance_in hidden3 0 4) 1
    ∷ number (file_distance_call (release hidden3) 3 3).result 14
    ∷ number (file_distance_call (release hidden3) 0 3).result 14
    ∷ number (distance_in path4 3 0) 3
    ∷ number (distance_in path4 2 2) 0
    ∷ number (distance_in triangle 0 2) 1
    ∷ number (distance_in (empty_graph 2) 0 1) 65535
    ∷ number (file_distance_call [] 0 0).result 19
    -- neighbours with the least members of their groups: in 9, that of 4 and 5 is 3 for the office, and 4 in the file
    ∷ list (neighbours_call 6 (tables_of hidden3) 0 (replicate 7 9)).out (3 ∷ 3 ∷ 4 ∷ 3 ∷ 5 ∷ 3 ∷ 9 ∷ [])
    ∷ number (neighbours_call 6 (tables_of hidden3) 0 (replicate 6 9)).count 3
    ∷ number (neighbours_call 6 (tables_of hidden3) 0 (replicate 5 9)).result 18
    ∷ list (file_neighbours_call (release hidden3) 0 (replicate 5 9)).out (4 ∷ 4 ∷ 5 ∷ 4 ∷ 9 ∷ [])
    ∷ number (file_neighbours_call (release hidden3) 0 (replicate 4 9)).count 2
    ∷ number (file_neighbours_call (release hidden3) 0 (replicate 3 9)).result 18
    -- named states: a state is kept, comes back and is dropped
    ∷ number (keep_call 2 (tables_of one_edge) (opened_store 2) (name 255)).result 0
    ∷ list (restore_call 2 (opened 2) one_kept (name 255)).tables.edges (edges_of one_edge)
    ∷ list (restore_call 2 (opened 2) one_kept (name 255)).tables.nodes (nodes_of one_edge)
    ∷ list (drop_call 2 one_kept (name 255)).store (opened_store 2)
    -- number 11: a name of 15 bytes; number 12: a store filled with 7
    ∷ number (keep_call 1 (opened 1) (opened_store 1) (replicate 15 0)).result 11
    ∷ number (keep_call 1 (opened 1) (lent_store 1) (name 0)).result 12
    ∷ number (restore_call 1 (opened 1) (lent_store 1) (name 0)).result 12
    ∷ number (drop_call 1 (lent_store 1) (name 0)).result 12
    -- number 21: name not kept; number 22: already kept; number 23: eight names kept
    ∷ number (restore_call 2 (opened 2) one_kept (name 0)).result 21
    ∷ number (drop_call 2 one_kept (name 0)).result 21
    ∷ number (keep_call 2 (opened 2) one_kept (name 255)).result 22
    ∷ number (keep_call 1 (opened 1) eight_kept (name 7)).result 22
    ∷ number (keep_call 1 (opened 1) eight_kept (name 8)).result 23
    -- classes: three nodes without edges are one group, and two where 1 is of class 1; the file with class 0 for 1 could have fewer
    ∷ groups (visible_groups (empty_graph 3)) ((0 ∷ 1 ∷ 2 ∷ []) ∷ [])
    ∷ groups (visible_groups classes010) ((0 ∷ 2 ∷ []) ∷ (1 ∷ []) ∷ [])
    ∷ groups (office_groups classes010) ((0 ∷ 2 ∷ []) ∷ (1 ∷ []) ∷ [])
    ∷ list (release classes010) (file010 0x01 0x00)
    ∷ number (read_call 3 (lent 3) (file010 0x01 0x00)).result 0
    ∷ number (read_call 3 (lent 3) (file010 0x00 0x00)).result 19
    -- a triangle: a clique and a lone group, joined
    ∷ list (release triangle010) (0x48 ∷ 0x44 ∷ 0x03 ∷ 0x00 ∷ 0x03 ∷ 0x00 ∷ 0x02 ∷ 0x00 ∷ 0x47 ∷ 0x43 ∷ 0x02 ∷ 0x00 ∷ 0x00 ∷ 0x00 ∷ 0x00 ∷ 0x00 ∷ 0x02 ∷ 0x00 ∷ 0x47 ∷ 0x49 ∷ 0x01 ∷ 0x00 ∷ 0x01 ∷ 0x00 ∷ 0x01 ∷ 0x00 ∷ 0x53 ∷ 0x45 ∷ 0x00 ∷ 0x00 ∷ 0x01 ∷ 0x00 ∷ 0x45 ∷ 0x4E ∷ [])
    -- from a new bundle, 3 1 1 0, 3 0 1 0, 3 2 1 0 and again 3 2 1 0: answers, the node table after one, two and three, the other tables
    ∷ answers (answers_on 3 (opened 3) (3 ∷ 1 ∷ 1 ∷ 0 ∷ 3 ∷ 0 ∷ 1 ∷ 0 ∷ 3 ∷ 2 ∷ 1 ∷ 0 ∷ 3 ∷ 2 ∷ 1 ∷ 0 ∷ [])) (pos 1 ∷ pos 0 ∷ negsuc 0 ∷ pos 16 ∷ [])
    ∷ list (nodes_after 3 (opened 3) (3 ∷ 1 ∷ 1 ∷ 0 ∷ [])) (0 ∷ 2 ∷ 2 ∷ 0 ∷ 0 ∷ 1 ∷ 1 ∷ 1 ∷ 0 ∷ 1 ∷ 0 ∷ 0 ∷ 0 ∷ 0 ∷ 0 ∷ [])
    ∷ list (nodes_after 3 (opened 3) (3 ∷ 1 ∷ 1 ∷ 0 ∷ 3 ∷ 0 ∷ 1 ∷ 0 ∷ [])) (0 ∷ 1 ∷ 1 ∷ 0 ∷ 1 ∷ 0 ∷ 0 ∷ 0 ∷ 0 ∷ 1 ∷ 2 ∷ 2 ∷ 2 ∷ 0 ∷ 0 ∷ [])
    ∷ list (nodes_after 3 (opened 3) (3 ∷ 1 ∷ 1 ∷ 0 ∷ 3 ∷ 0 ∷ 1 ∷ 0 ∷ 3 ∷ 2 ∷ 1 ∷ 0 ∷ [])) (0 ∷ 1 ∷ 2 ∷ 0 ∷ 1 ∷ 0 ∷ 2 ∷ 0 ∷ 0 ∷ 1 ∷ 0 ∷ 0 ∷ 1 ∷ 0 ∷ 1 ∷ [])
    ∷ list (applied 3 (opened 3) (3 ∷ 1 ∷ 1 ∷ 0 ∷ 3 ∷ 0 ∷ 1 ∷ 0 ∷ 3 ∷ 2 ∷ 1 ∷ 0 ∷ 3 ∷ 2 ∷ 1 ∷ 0 ∷ [])).tables.edges (row 0 ++ (row 0 ++ row 0))
    ∷ list (applied 3 (opened 3) (3 ∷ 1 ∷ 1 ∷ 0 ∷ 3 ∷ 0 ∷ 1 ∷ 0 ∷ 3 ∷ 2 ∷ 1 ∷ 0 ∷ 3 ∷ 2 ∷ 1 ∷ 0 ∷ [])).tables.keys (0 ∷ 1 ∷ 0 ∷ 8 ∷ 0 ∷ 27 ∷ [])
    -- 2 withheld, 3 2 1 0, 3 2 2 0 and 3 2 0 0: groups change, the release stays
    ∷ answers (answers_on 3 (tables_of hidden2of3) (3 ∷ 2 ∷ 1 ∷ 0 ∷ 3 ∷ 2 ∷ 2 ∷ 0 ∷ 3 ∷ 2 ∷ 0 ∷ 0 ∷ [])) (pos 1 ∷ pos 0 ∷ negsuc 0 ∷ [])
    ∷ list (nodes_after 3 (tables_of hidden2of3) (3 ∷ 2 ∷ 1 ∷ 0 ∷ 3 ∷ 2 ∷ 2 ∷ 0 ∷ [])) (0 ∷ 1 ∷ 1 ∷ 0 ∷ 0 ∷ 0 ∷ 0 ∷ 0 ∷ 0 ∷ 0 ∷ 2 ∷ 2 ∷ 2 ∷ 1 ∷ 2 ∷ [])
    ∷ list (release hidden2of3) (0x48 ∷ 0x44 ∷ 0x03 ∷ 0x00 ∷ 0x02 ∷ 0x00 ∷ 0x01 ∷ 0x00 ∷ 0x47 ∷ 0x49 ∷ 0x02 ∷ 0x00 ∷ 0x00 ∷ 0x00 ∷ 0x00 ∷ 0x00 ∷ 0x01 ∷ 0x00 ∷ 0x45 ∷ 0x4E ∷ [])
    ∷ list (release_after 20 3 (tables_of hidden2of3) (3 ∷ 2 ∷ 1 ∷ 0 ∷ [])) (release hidden2of3)
    ∷ list (release_after 20 3 (tables_of hidden2of3) (3 ∷ 2 ∷ 1 ∷ 0 ∷ 3 ∷ 2 ∷ 2 ∷ 0 ∷ [])) (release hidden2of3)
    ∷ list (release_after 20 3 (tables_of hidden2of3) (3 ∷ 2 ∷ 1 ∷ 0 ∷ 3 ∷ 2 ∷ 2 ∷ 0 ∷ 3 ∷ 2 ∷ 0 ∷ 0 ∷ [])) (release hidden2of3)
    -- a release read back: 3, which is missing, is withheld, without ties and of class 0
    ∷ list (release hidden_class) (hidden_file 0xFF 0x00)
    ∷ list (read_call 4 (lent 4) (hidden_file 0xFF 0x00)).tables.edges (row 2 ++ (row 5 ++ (row 2 ++ row 0)))
    ∷ list (read_call 4 (lent 4) (hidden_file 0xFF 0x00)).tables.nodes (0 ∷ 2 ∷ 2 ∷ 0 ∷ 0 ∷ 1 ∷ 1 ∷ 1 ∷ 0 ∷ 255 ∷ 0 ∷ 0 ∷ 0 ∷ 0 ∷ 0 ∷ 3 ∷ 3 ∷ 3 ∷ 1 ∷ 0 ∷ [])
    ∷ list (read_call 4 (lent 4) (hidden_file 0xFF 0x00)).tables.keys (8 ∷ 9 ∷ 28 ∷ 36 ∷ 8 ∷ 35 ∷ 0 ∷ 64 ∷ [])
    -- the same bytes with class 256 are no release
    ∷ number (read_call 4 (lent 4) (hidden_file 0x00 0x01)).result 19
    ∷ number (file_neighbours_call (hidden_file 0x00 0x01) 0 []).result 19
    ∷ number (file_distance_call (hidden_file 0x00 0x01) 0 1).result 19
    -- a state keeps classes: a word below 2 is of class 0, one above 511 of no state
    ∷ list (keep_call 1 (one_node 255) (opened_store 1) (name 0)).store (one_state 510)
    ∷ list (restore_call 1 (opened 1) (one_state 511) (name 0)).tables.nodes (0 ∷ 0 ∷ 0 ∷ 1 ∷ 255 ∷ [])
    ∷ list (restore_call 1 (opened 1) (one_state 1) (name 0)).tables.nodes (0 ∷ 0 ∷ 0 ∷ 1 ∷ 0 ∷ [])
    ∷ number (keep_call 1 (opened 1) (one_state 512) (name 1)).result 12
    ∷ number (restore_call 1 (opened 1) (one_state 512) (name 0)).result 12
    ∷ number (drop_call 1 (one_state 512) (name 0)).result 12
    -- the program
    ∷ list (program (text "3\nt 0 1\nt 1 2\nw 0\n")) (text "change 1: 1\nchange 2: 0\nchange 3: 0\nopen 2 groups 1 joins 0\nC 1 2\n")
    ∷ list (program (text "2\nt 0 1\nu 0 1\nw 0\no 0\no 0\n")) (text "change 1: 0\nchange 2: 0\nchange 3: 0\nchange 4: 0\nchange 5: 16\nopen 2 groups 1 joins 0\nI 0 1\n")
    ∷ []
