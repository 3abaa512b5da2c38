-- The open key is the first of a node's two, the closed one the second.
use Rattle.std.proofs.Common.{ℕ, ◌+◌, ◌*◌, ap, ◌∙◌, slice_index}
use Rattle.rows.specs.BitLaws.{bool_number}
use Rattle.grouping.specs.Chains.{slot_in}
use Rattle.grouping.specs.Keyed.{key_slot}
use Rattle.grouping.specs.KeyedLaws.{slot_small}
use Rattle.grouping.proofs.keyed.KeysSlots.slot.Goals as goal

pub returns-clause-told : goal.returns-clause-told
unfolding key_slot
returns-clause-told c = c.slot_in.ensures ∙ ap (λ (k : ℕ). slot_in (slice_index c.args.self.now.keys.now (2 * c.args.u + k))) (bool_number c.args.closed)

pub returns-clause-small : goal.returns-clause-small
returns-clause-small c = slot_small _ c.slot_in.ensures
