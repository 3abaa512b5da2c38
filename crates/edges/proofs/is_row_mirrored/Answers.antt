-- `edges::is_row_mirrored` meets its contract.
use Rattle.std.proofs.Common.{refl, arith, inl, subst, rules}
use Rattle.bits.specs.BitsLaws.{all_cleared, cleared}
use Rattle.buffers.specs.WordBitsLaws.{lowest_small}
use Rattle.edges.specs.EdgesLaws.{Walking, judge_on, judged_ill, judged_well, walk-mirrored, walk_next, walk_start}
use Rattle.edges.proofs.is_row_mirrored.Goals as goal

pub loop-w-init : goal.loop-w-init
loop-w-init c = (0, walk_start (omega arith) c.args.edges.bits)

pub loop-k-init : goal.loop-k-init
loop-k-init c = inl (refl, (_, subst (λ x. Walking c.args.edges.n c.args.edges.words.now c.args.p c.loop-w.w x c.loop-w.invariant.0) (cc) c.loop-w.invariant.1))

pub overflow_add-w : goal.overflow_add-w
overflow_add-w c =
    let cut = cleared _ _ _ (omega arith) (omega arith) c.in-Some.ensures.steps in
    omega (arith, lowest_small c.loop-k.k-iterator.word (omega arith) cut.some, cut.lowest)

pub loop-k-preserved : goal.loop-k-preserved
loop-k-preserved c =
    let cut = cleared _ _ _ (omega arith) (omega arith) c.in-Some.ensures.steps in
    judge_on c.loop-k.invariant cut (omega arith) _ c.is_mirrored-held.ensures

pub loop-w-preserved : goal.loop-w-preserved
loop-w-preserved c =
    let h = judged_well c.loop-k.invariant (search rules) in
    (_, walk_next h.1 (all_cleared _ (omega arith) c.in-None.ensures.steps.0) c.args.edges.bits)

pub returns-then-not-held : goal.returns-then-not-held
returns-then-not-held c = judged_ill c.loop-k.invariant (search rules)

pub returns : goal.returns
returns c = walk-mirrored c.loop-w.invariant.1 (omega arith)
