-- `Store::are_apart` meets its contract.
use Rattle.std.proofs.Common.{ap, not}
use Rattle.buffers.specs.AllLaws.{all_fail, failed}
use Rattle.places.proofs.Store.are_apart.Goals as goal

pub returns-then-not-is_new : goal.returns-then-not-is_new
returns-then-not-is_new c = all_fail _ _ _ c.loop-i-test.true (failed c.is_new.ensures (ap not c.if-not-is_new.true))
