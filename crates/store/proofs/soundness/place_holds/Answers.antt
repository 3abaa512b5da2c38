-- `store::soundness::place_holds` meets its contract.
use Rattle.std.proofs.Common.{◌∙◌, arith}
use Rattle.buffers.specs.UnionLaws.{is_none}
use Rattle.store.proofs.JudgeLaws.{free_holds, used_parts}
use Rattle.store.proofs.soundness.place_holds.Goals as goal

pub returns-in-0 : goal.returns-in-0
returns-in-0 c = is_none c.union_of.result ∙ c.union_of.ensures 0 ∙ free_holds _ _ c.requires.1 c.in-0.is

pub returns-in-1 : goal.returns-in-1
returns-in-1 c =
    used_parts _ _ c.requires.1 c.split_at.ensures.front c.split_at.ensures.back (λ i. omega (arith, c.type_inv.place i)) c.in-1.is c.state_holds.ensures
