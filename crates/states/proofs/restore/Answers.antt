-- `states::restore` meets its contract.
use Rattle.std.proofs.Common.{ap, ◌∙◌, List, ℕ, arith}
use Rattle.model.specs.Tables.{tables_of}
use Rattle.model.specs.Store.{state_graph}
use Rattle.buffers.specs.FilledLaws.{filled-all}
use Rattle.rings.specs.LabelLaws.{put_all}
use Rattle.states.specs.StateLaws.{copied_edges, copied_state, empty_restored, restored, state_edges, state_keys, state_leading, state_within, words_fit}
use Rattle.states.proofs.restore.Goals as goal

pub returns-then-n-eq0 : goal.returns-then-n-eq0
returns-then-n-eq0 c = empty_restored _ _ c.if-n-eq0.true c.requires.0

pub copy_words-requires : goal.copy_words-requires
copy_words-requires c = let pre = c.requires in omega (arith, state_edges pre.1, pre.0.edges)

pub put_labels-requires : goal.put_labels-requires
put_labels-requires c =
    let pre = c.requires in
    (omega (arith, pre.0.small, pre.1.size), omega (arith, pre.0.nodes, pre.1.size), words_fit pre.1)

pub sum_rows-requires : goal.sum_rows-requires
sum_rows-requires c =
    let pre = c.requires in
    let s = copied_state pre.1 pre.0.edges c.copy_words.ensures in
    (state_within s, pre.0.keys)

pub list_classes-requires : goal.list_classes-requires
list_classes-requires c =
    let pre = c.requires in
    (omega (arith, pre.0.small, pre.1.size), words_fit pre.1)

pub find_groups-requires : goal.find_groups-requires
find_groups-requires c =
    let pre = c.requires in
    let s = copied_state pre.1 pre.0.edges c.copy_words.ensures in
    let classes = filled-all c.list_classes.ensures (omega (arith, pre.1.size)) in
    (state_keys s pre.0.small classes c.sum_rows.ensures, pre.0.small)

pub build-requires : goal.build-requires
build-requires c =
    let pre = c.requires in
    let s = copied_state pre.1 pre.0.edges c.copy_words.ensures in
    let classes = filled-all c.list_classes.ensures (omega (arith, pre.1.size)) in
    let labels = put_all c.put_labels.ensures (omega (arith, pre.1.size)) in
    (pre.0.small, labels.size ∙ pre.0.nodes, state_leading s pre.0.small classes c.find_groups.ensures pre.0.nodes labels)

pub returns : goal.returns
returns c =
    let pre = c.requires in
    let s = copied_state pre.1 pre.0.edges c.copy_words.ensures in
    let classes = filled-all c.list_classes.ensures (omega (arith, pre.1.size)) in
    let labels = put_all c.put_labels.ensures (omega (arith, pre.1.size)) in
    restored s pre.0.small classes c.find_groups.ensures pre.0.nodes labels c.sum_rows.ensures c.build.ensures
    ∙ ap (λ (x : List ℕ). tables_of (state_graph c.args.n x c.args.words.now)) (copied_edges pre.1 pre.0.edges c.copy_words.ensures)
