-- `store::soundness::places_hold` meets its contract.
use Rattle.std.proofs.Common.{ap, not, ◌∙◌}
use Rattle.buffers.specs.AllLaws.{all_fail, failed}
use Rattle.store.specs.Judging.{place_holds}
use Rattle.store.proofs.soundness.places_hold.Goals as goal

pub returns-then-not-place_holds : goal.returns-then-not-place_holds
returns-then-not-place_holds c =
    all_fail _ _ _ c.loop-i-test.true (failed (c.place_holds.ensures ∙ ap (place_holds c.args.store.now.n) c.place.ensures) (ap not c.if-not-place_holds.true))
