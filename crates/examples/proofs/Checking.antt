-- The claims of Examples computed: a test for each that the checker runs, and the law that a passed test is the equation.
use Rattle.std.specs.Prelude.{◌≡◌, refl, Bool, true, false, ◌&&◌, List, [], ◌∷◌, eqb, ℤ, pos, negsuc}
use Rattle.std.proofs.Common.{ap, ap₂, eqb-true}
use Rattle.std.specs.Bool.{beq}
use Rattle.model.specs.Lists.{all, any, filter, member, concat, same_list, from, nodes}
use Rattle.model.specs.Graph.{empty_graph}
use Rattle.model.specs.Grouping.{Kind, singleton, independent, clique, closed, false_twins, true_twins, similar, greedy, algorithm1, group, least, adjacent, kind_of, sum_cubes, open_key, closed_key}
use Rattle.model.specs.Summary.{reconstruct, position}
use Rattle.model.specs.Tables.{word, bit_at, row_of, edges_of, group_in, next_in, prev_in, node_of, nodes_of, key_pair, keys_of, tables_of, edge_bit, node_number, edges_in, graph_of, simple, is_graph, holds, groups_in}
use Rattle.model.specs.Store.{is_name, is_free, is_under, graph_at, is_kept, kept_graph, is_full, keeping, dropping, is_new, are_apart, is_state, are_states, wrong_store, wrong_name, number as word_of, bytes_of, node_word, node_words, state_graph, place_of, place_in, store_of, words_at, places_in, is_store}
use Rattle.model.specs.Refusals.{first_of, lengths, pair_reasons, wrong_size}
use Rattle.model.specs.Updates.{update_reasons, refusal, updated, group_count, update, batch_graph, answers as batch_answers, update_count, updates_in, wrong_batch}
use Rattle.model.specs.Steps.{run}
use Rattle.model.specs.Queries.{neighbours, leader_in, pairs, kind_number}
use Rattle.model.specs.Distance.{walk, distance}
use Rattle.model.specs.Release.{is_visible, visible_edge, visible_class, visible_groups, u16, head_record, kind_byte, group_record, superedge_record, end_record, superedges_from, superedges, superedge_count, encode, release}
use Rattle.model.specs.Reading.{u16_at, u16s, groups_at, after_groups, is_mark, superedges_at, has_pair, summary_by, summary_in, graph_by, decode, is_release}
use Rattle.model.specs.Calls.{open_reasons, open_call, keep_reasons, keep_call, restore_reasons, restore_call, drop_reasons, drop_call, apply_reasons, apply_call, listing, neighbours_reasons, neighbours_call, tied_reasons, tied_call, group_reasons, group_call, release_reasons, released, release_call, read_reasons, read_call, file_distance_reasons, file_distance_call, file_neighbours_reasons, file_neighbours_call}
use Rattle.model.specs.Program.{text, before, pieces, is_none, value_of, is_number, edge_line, mark_line, line_of, with_update, with_line, lines_from, is_count, first_line, input_of, digits, decimal, signed, change_line, change_lines, open_line, spaced, group_line, superedge_line, release_lines, printed, program}
use Rattle.model.proofs.TestLaws.{differ, and_fst, and_snd, beq_eq}
use Rattle.model.proofs.ListLaws.{same_eq}
use Rattle.examples.specs.Examples.{Claim, list, number, groups, kinds, answers, test, Holds, AllHold, one_edge, path3, triangle, path4, three_by_three, deleted03, hidden3, hidden3deleted03, deleted03hidden3, hidden1of2, tied1of2, classed1of2, hidden0of1, classed0of1, hidden2of3, tied2of3, hidden3of4, tied3of4, equal_keys, classes010, triangle010, hidden_class, one_kept, eight_kept, self_tied, examples}

-- lists that are equal by a test of their members
same_by : {A : Type 0} → (A → A → Bool) → List A → List A → Bool
same_by f [] [] = true
same_by f [] (y ∷ ys) = false
same_by f (x ∷ xs) [] = false
same_by f (x ∷ xs) (y ∷ ys) = f x y && same_by f xs ys

same_by_eq : {A : Type 0} (f : A → A → Bool) → ((x y : A) → f x y ≡ true → x ≡ y) → (a b : List A) → same_by f a b ≡ true → a ≡ b
unfolding same_by
same_by_eq f told [] [] h = refl
same_by_eq f told [] (y ∷ ys) h = differ h refl
same_by_eq f told (x ∷ xs) [] h = differ h refl
same_by_eq f told (x ∷ xs) (y ∷ ys) h = ap₂ ◌∷◌ (told x y (and_fst (f x y) (same_by f xs ys) h)) (same_by_eq f told xs ys (and_snd (f x y) (same_by f xs ys) h))

same_kind : Kind → Kind → Bool
same_kind a b = eqb (kind_number a) (kind_number b)

same_kind_eq : (a b : Kind) → same_kind a b ≡ true → a ≡ b
unfolding same_kind kind_number
same_kind_eq singleton singleton h = refl
same_kind_eq singleton independent h = differ h refl
same_kind_eq singleton clique h = differ h refl
same_kind_eq independent singleton h = differ h refl
same_kind_eq independent independent h = refl
same_kind_eq independent clique h = differ h refl
same_kind_eq clique singleton h = differ h refl
same_kind_eq clique independent h = differ h refl
same_kind_eq clique clique h = refl

same_answer : ℤ → ℤ → Bool
same_answer (pos a) (pos b) = eqb a b
same_answer (pos a) (negsuc b) = false
same_answer (negsuc a) (pos b) = false
same_answer (negsuc a) (negsuc b) = eqb a b

same_answer_eq : (a b : ℤ) → same_answer a b ≡ true → a ≡ b
unfolding same_answer
same_answer_eq (pos a) (pos b) h = ap pos (eqb-true a b h)
same_answer_eq (pos a) (negsuc b) h = differ h refl
same_answer_eq (negsuc a) (pos b) h = differ h refl
same_answer_eq (negsuc a) (negsuc b) h = ap negsuc (eqb-true a b h)

passes : Claim → Bool
passes (list a b) = same_list a b
passes (number a b) = eqb a b
passes (groups a b) = same_by same_list a b
passes (kinds a b) = same_by same_kind a b
passes (answers a b) = same_by same_answer a b
passes (test a b) = beq a b

passes_holds : (c : Claim) → passes c ≡ true → Holds c
unfolding passes
passes_holds (list a b) h = same_eq a b h
passes_holds (number a b) h = eqb-true a b h
passes_holds (groups a b) h = same_by_eq same_list same_eq a b h
passes_holds (kinds a b) h = same_by_eq same_kind same_kind_eq a b h
passes_holds (answers a b) h = same_by_eq same_answer same_answer_eq a b h
passes_holds (test a b) h = beq_eq a b h

all_pass : List Claim → Bool
all_pass [] = true
all_pass (c ∷ cs) = passes c && all_pass cs

all_pass_hold : (cs : List Claim) → all_pass cs ≡ true → AllHold cs
unfolding all_pass
all_pass_hold [] h = tt
all_pass_hold (c ∷ cs) h = (passes_holds c (and_fst (passes c) (all_pass cs) h), all_pass_hold cs (and_snd (passes c) (all_pass cs) h))

computed : all_pass examples ≡ true
unfolding same_by same_kind same_answer passes all_pass one_edge path3 triangle path4 three_by_three deleted03 hidden3 hidden3deleted03 deleted03hidden3 hidden1of2 tied1of2 classed1of2 hidden0of1 classed0of1 hidden2of3 tied2of3 hidden3of4 tied3of4 equal_keys classes010 triangle010 hidden_class one_kept eight_kept self_tied text examples all any filter member concat same_list from nodes empty_graph closed false_twins true_twins similar greedy algorithm1 group least adjacent kind_of sum_cubes open_key closed_key reconstruct position word bit_at row_of edges_of group_in next_in prev_in node_of nodes_of key_pair keys_of tables_of edge_bit node_number edges_in graph_of simple is_graph holds groups_in is_name is_free is_under graph_at is_kept kept_graph is_full keeping dropping is_new are_apart is_state are_states wrong_store wrong_name word_of bytes_of node_word node_words state_graph place_of place_in store_of words_at places_in is_store first_of lengths wrong_size update_reasons refusal updated group_count update run batch_graph batch_answers update_count updates_in wrong_batch neighbours leader_in pairs kind_number walk distance is_visible visible_edge visible_class visible_groups u16 head_record kind_byte group_record superedge_record end_record superedges_from superedges superedge_count encode release u16_at u16s groups_at after_groups is_mark superedges_at has_pair summary_by summary_in graph_by decode is_release open_reasons open_call keep_reasons keep_call restore_reasons restore_call drop_reasons drop_call apply_reasons apply_call listing neighbours_reasons neighbours_call tied_reasons pair_reasons tied_call group_reasons group_call release_reasons released release_call read_reasons read_call file_distance_reasons file_distance_call file_neighbours_reasons file_neighbours_call before pieces is_none value_of is_number edge_line mark_line line_of with_update with_line lines_from is_count first_line input_of digits decimal signed change_line change_lines open_line spaced group_line superedge_line release_lines printed program
computed = refl

-- every example is what the document says
pub examples_hold : AllHold examples
examples_hold = all_pass_hold examples computed
