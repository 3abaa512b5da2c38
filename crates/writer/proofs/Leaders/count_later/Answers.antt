-- The word of the next node, then the words after it.
use native.Mathlib.Omega.{arith}
use Rattle.layout.specs.FileLaws.{later_small}
use Rattle.writer.specs.CountLaws.{none_later, words_later}
use Rattle.writer.proofs.Leaders.count_later.Goals as goal

pub returns-then-p-eq-LAST : goal.returns-then-p-eq-LAST
returns-then-p-eq-LAST c =
    none_later _ _ _ c.args.self.marked _ _ c.requires c.wide-p.ensures c.if-p-eq-LAST.true

pub overflow_add-p : goal.overflow_add-p
overflow_add-p c =
    let below = c.args.self.rowed.below c.args.i c.requires in
    let rows = c.args.self.rowed.rows c.args.i c.requires in
    omega (arith, c.wide-p.ensures, below)

pub later_word-requires : goal.later_word-requires
later_word-requires c =
    let below = c.args.self.rowed.below c.args.i c.requires in
    let rows = c.args.self.rowed.rows c.args.i c.requires in
    let d = c.if-p-eq-LAST.false in
    (omega (arith, c.wide-p.ensures, below), omega (arith, c.wide-p.ensures, below, d), omega (arith, c.wide-p.ensures, rows))

pub overflow_add-p-2 : goal.overflow_add-p-2
overflow_add-p-2 c =
    let below = c.args.self.rowed.below c.args.i c.requires in
    let rows = c.args.self.rowed.rows c.args.i c.requires in
    omega (arith, c.wide-p.ensures, below)

pub count_words-requires : goal.count_words-requires
count_words-requires c =
    let below = c.args.self.rowed.below c.args.i c.requires in
    let rows = c.args.self.rowed.rows c.args.i c.requires in
    let d = c.if-p-eq-LAST.false in
    (omega (arith, c.wide-p.ensures, below), omega (arith, c.wide-p.ensures, below, d, c.word_of.ensures), omega (arith, c.wide-p.ensures, rows), c.args.self.marked.words)

pub overflow_add-result : goal.overflow_add-result
overflow_add-result c =
    let below = c.args.self.rowed.below c.args.i c.requires in
    let rows = c.args.self.rowed.rows c.args.i c.requires in
    let d = c.if-p-eq-LAST.false in
    let small = later_small _ _ _ c.args.self.rowed.few (words_later _ _ _ c.args.self.marked _ _ c.requires c.wide-p.ensures (omega (arith, c.wide-p.ensures, below, d)) c.word_of.ensures c.later_word.ensures c.add_ones-first.ensures c.count_words.ensures) in
    omega (arith, small)

pub returns : goal.returns
returns c =
    let below = c.args.self.rowed.below c.args.i c.requires in
    let rows = c.args.self.rowed.rows c.args.i c.requires in
    let d = c.if-p-eq-LAST.false in
    words_later _ _ _ c.args.self.marked _ _ c.requires c.wide-p.ensures (omega (arith, c.wide-p.ensures, below, d)) c.word_of.ensures c.later_word.ensures c.add_ones-first.ensures c.count_words.ensures
