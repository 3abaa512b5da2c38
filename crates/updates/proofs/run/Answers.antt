-- `run` meets its contract.
use Rattle.std.proofs.Common.{◌∙◌, arith, to_z-of_z, w16}
use Rattle.updates.specs.BatchLaws.{chunks-whole, chunks_fit, underway_chunk, underway_done, underway_start}
use Rattle.updates.proofs.run.Goals as goal

pub loop-i-init : goal.loop-i-init
loop-i-init c =
    (underway_start c.requires.held, omega arith, chunks-whole _ _ c.as_chunks.ensures.front_len c.requires.update_numbers_len.0, chunks_fit _ _ c.as_chunks.ensures.front_len c.requires.update_numbers_len.1)

pub loop-i-preserved : goal.loop-i-preserved
loop-i-preserved c =
    let w = c.loop-i.invariant in
    (underway_chunk w.0 _ c.as_chunks.ensures.front c.as_chunks.ensures.front_len w.2 c.loop-i-test.true (omega (arith, w.3, c.loop-i-test.true)) c.apply.ensures (to_z-of_z {w = w16} (record { sfits = c.answer.type_inv }) ∙ c.answer.ensures), omega (arith, c.loop-i-test.true), w.2, w.3)

pub returns : goal.returns
returns c = let w = underway_done c.loop-i.invariant.0 (omega (arith, c.loop-i.invariant.2, c.loop-i-test.false)) in record { tables = w.0; answered = w.1 }
