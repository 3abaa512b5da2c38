-- `unfolding::filling::draw_joined` meets its contract.
use Rattle.std.proofs.Common.{◌≡◌, ℕ, ◌<◌, ◌+◌, ◌-◌, ◌*◌, List, get_or, take, drop, arith}
use Rattle.search.specs.SearchLaws.{row_part_lem, row_word_lem}
use Rattle.unfolding.specs.FillingLaws.{joined_done, joined_step, keyed_start, word_room}
use Rattle.unfolding.proofs.filling.draw_joined.Goals as goal

-- a word of the row
word : (joined : List ℕ) (l w : ℕ) → w < 8 → get_or (take (8 * l + 8 - 8 * l) (drop (8 * l) joined)) w 0 ≡ get_or joined (8 * l + w) 0
word joined l w h = rw (row_part_lem joined l) (row_word_lem joined l w h)

pub loop-w-init : goal.loop-w-init
loop-w-init c = keyed_start _ _ _

pub draw_each-requires : goal.draw_each-requires
draw_each-requires c =
    let h : c.loop-w.w < 8 = omega arith in
    (h, rw c.loop-w.invariant.size (word_room _ _ _ _ (word _ _ _ h) h c.requires.2), c.requires.3)

pub loop-w-preserved : goal.loop-w-preserved
loop-w-preserved c = let h : c.loop-w.w < 8 = omega arith in joined_step _ _ _ _ _ (word _ _ _ h) h c.loop-w.invariant c.draw_each.ensures

pub returns : goal.returns
returns c = joined_done _ _ _ _ (omega arith) c.loop-w.invariant
