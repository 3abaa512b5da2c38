-- `distances::reach` meets its contract.
use Rattle.std.proofs.Common.{◌<◌, refl, arith}
use Rattle.distances.specs.SetLaws.{reached_done, reached_more, reached_none, set_room}
use Rattle.distances.proofs.reach.Goals as goal

pub loop-w-init : goal.loop-w-init
loop-w-init c = reached_none _ _ _

pub reach_word-requires : goal.reach_word-requires
reach_word-requires c =
    let l : c.loop-w.w < 8 = omega arith in
    (l, set_room _ _ l c.requires.1, c.loop-w.invariant.size)

pub loop-w-preserved : goal.loop-w-preserved
loop-w-preserved c = reached_more _ _ _ c.loop-w.invariant c.reach_word.ensures

pub returns : goal.returns
returns c = reached_done _ _ _ (omega arith) refl refl c.loop-w.invariant
